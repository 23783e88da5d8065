-- The definitions that the contracts of `clause` cite.
pub mod Steps
