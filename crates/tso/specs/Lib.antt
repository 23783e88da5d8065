-- The definitions that the contracts of `tso` cite.
pub mod Judged
