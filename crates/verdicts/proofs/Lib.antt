-- Laws that the proofs of `verdicts` share.
pub mod ByModelLaws
pub mod StepLaws
