-- Definitions, a file for each subject.
pub mod PairStays
pub mod OrphansBegun
