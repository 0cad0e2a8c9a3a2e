-- Definitions: what the theorems state.
pub mod CellText
