-- The laws of the calls: the search for a bad op, the sum over the points, and the image put.
pub mod OpLaws
pub mod SumLaws
pub mod PutLaws
pub mod CallLaws
