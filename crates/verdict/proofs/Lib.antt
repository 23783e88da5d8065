-- Laws that the proofs of `verdict` and of the models share.
pub mod TermLaws
pub mod PairLaws
pub mod ShownLaws
pub mod ShownMeaning
pub mod FewestSteps
