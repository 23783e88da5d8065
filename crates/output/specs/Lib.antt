-- The definitions that the contracts of `output` cite.
pub mod Output
