-- Laws, a file for each subject, and the theorem.
pub mod MissingLaws
pub mod CallSteps
pub mod LossTheorem
pub mod Reached
