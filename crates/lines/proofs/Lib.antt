-- Laws that the proofs of `lines` share.
pub mod LineLaws
pub mod Examples
