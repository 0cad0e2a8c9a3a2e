-- The bench sheet: a row for each, computed from the definitions.
pub mod BenchSheet
