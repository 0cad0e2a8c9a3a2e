-- Laws, a file for each subject.
pub mod RefusedLaws
pub mod StepLaws
pub mod CRunTheorem
