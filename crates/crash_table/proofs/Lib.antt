-- Turns of the loops over a table.
pub mod TableTurns
