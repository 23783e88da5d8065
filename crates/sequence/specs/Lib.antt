-- The definitions that the contracts of `sequence` cite.
pub mod Items
