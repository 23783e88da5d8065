-- Laws that the proofs of `clause` and of the models share.
pub mod StepLaws
pub mod StepMeaning
