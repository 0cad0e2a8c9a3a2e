-- Laws, a file for each subject.
pub mod NarrowLaws
pub mod KnownCalls
pub mod OneModule
pub mod AppendStep
pub mod AppendThreeTheorem
pub mod Witness
