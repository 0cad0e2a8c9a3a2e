-- Definitions: how many completed records a power failure can lose, with append among the calls.
pub mod AppendLoss
