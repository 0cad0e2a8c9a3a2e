-- Laws, a file for each subject.
pub mod AppendScratchTheorem
pub mod Witness
