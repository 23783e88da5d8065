-- Laws that the proofs of `probe` share.
pub mod ProbeLaws
pub mod WhyLaws
