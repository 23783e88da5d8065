-- The laws and proofs of `judgement`.
pub mod FitLaws
pub mod ChipLaws
pub mod PrintLaws
pub mod PageLaws
