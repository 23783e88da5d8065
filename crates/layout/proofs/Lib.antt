-- Laws of the layout.
pub mod FieldLaws
pub mod ChainLaws
pub mod ChainFacts
