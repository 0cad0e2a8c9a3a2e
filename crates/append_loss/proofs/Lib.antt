-- Laws, a file for each subject.
pub mod NewestLaws
pub mod TurnLaws
pub mod AppenderLaws
pub mod AppendLossTheorem
pub mod AppendReached
