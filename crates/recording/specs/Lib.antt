-- The definitions that the contracts of `recording` cite.
pub mod Causes
pub mod Load
pub mod Input
