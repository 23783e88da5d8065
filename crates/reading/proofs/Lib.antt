-- Laws of what a file holds.
pub mod LinkLaws
pub mod SortLaws
pub mod GraphLaws
pub mod ThreadLaws
pub mod EightRows
