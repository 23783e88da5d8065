-- Laws that the proofs of `sequence` share.
pub mod SequenceLaws
