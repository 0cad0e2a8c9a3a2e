-- What the contracts cite.
pub mod CrashCalls
pub mod InnerReport
