-- The definitions that the contracts of `verdicts` cite.
pub mod ByModel
