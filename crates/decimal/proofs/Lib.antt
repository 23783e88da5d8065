-- Laws of numbers in decimal.
pub mod DecimalLaws
pub mod Examples
