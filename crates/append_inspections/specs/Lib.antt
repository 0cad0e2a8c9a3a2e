-- Definitions, a file for each subject.
pub mod AppendPairStays
pub mod AppendOrphansBegun
