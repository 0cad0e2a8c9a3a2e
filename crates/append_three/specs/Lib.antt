-- Definitions, a file for each subject.
pub mod AppendThree
pub mod AppendReadable
