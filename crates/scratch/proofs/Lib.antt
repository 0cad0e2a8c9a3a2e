-- Laws, a file for each subject; the proofs of functions cite them.
pub mod FreeLaws
pub mod ExactLaws
pub mod AllowedLaws
pub mod ScratchTheorem
pub mod HarmlessTheorem
pub mod DistanceLaws
pub mod Witness
