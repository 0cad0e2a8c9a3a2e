-- Definitions: passed ops of somebody else, with append among the calls.
pub mod AppendScratch
