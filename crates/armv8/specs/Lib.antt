-- The definitions that the contracts of `armv8` cite.
pub mod Judged
