-- The definitions that the contracts of `judgement` cite.
pub mod Judgement
