-- `Rows`: the table is what the definition says.
pub mod Rows
