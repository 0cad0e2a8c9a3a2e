-- Definitions, a file for each subject: what the contracts cite, and the theorem.
pub mod CrashImages
pub mod EachOnce
pub mod Answered
pub mod InnerSteps
