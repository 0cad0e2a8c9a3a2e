-- Definitions, a file for each subject: what the contracts cite.
pub mod Vet
pub mod VetExact
pub mod ScratchSafe
pub mod ScratchRuns
