-- The theorems of specs/CellText.antt.
pub mod TextTheorem
