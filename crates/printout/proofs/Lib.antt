-- The laws and proofs of `printout`.
pub mod BlockLaws
pub mod TableLaws
pub mod PageLaws
pub mod PageCall
pub mod Examples
