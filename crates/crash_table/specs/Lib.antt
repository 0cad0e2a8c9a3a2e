-- What the contracts cite.
pub mod InnerTable
