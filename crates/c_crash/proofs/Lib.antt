-- What the calls answer is small.
pub mod CrashCallLaws
