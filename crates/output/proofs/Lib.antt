-- Laws of writing into an output and of filling it.
pub mod OutputLaws
pub mod FillLaws
