-- The definitions that the contracts of `layout` cite.
pub mod Layout
pub mod Chains
pub mod Decode
