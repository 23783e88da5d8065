-- Laws that the proofs of `explanation` share.
pub mod NameLaws
pub mod WhyLaws
