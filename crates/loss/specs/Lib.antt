-- Definitions: how many completed records a power failure can lose.
pub mod LossBound
