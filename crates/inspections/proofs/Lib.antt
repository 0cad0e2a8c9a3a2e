-- Laws, a file for each subject.
pub mod FedLaws
pub mod HeldLaws
pub mod PairTheorem
pub mod FirmLaws
pub mod OrphanLaws
pub mod OrphanTheorem
