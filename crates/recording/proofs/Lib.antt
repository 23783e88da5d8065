-- Laws that the proofs of `recording` share, and its theorems.
pub mod AllLaws
pub mod IntoLaws
pub mod LegalLaws
pub mod CauseLaws
pub mod CoherenceLaws
pub mod Accepted
pub mod Loaded
pub mod Longest
