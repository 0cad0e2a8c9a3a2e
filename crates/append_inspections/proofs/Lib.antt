-- Laws, a file for each subject.
pub mod AppendPairTheorem
pub mod InspectedLaws
pub mod AppendOrphanTheorem
pub mod Witness
