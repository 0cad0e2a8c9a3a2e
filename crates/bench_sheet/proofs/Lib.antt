-- What evaluation shows: the rows of the bench sheet, recoveries of three, and a history of each crash theorem.
pub mod BenchRows
pub mod Witness
pub mod ThreeExamples
pub mod ThreeWitness
