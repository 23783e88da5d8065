-- The definitions that the contracts of `decimal` cite, and those of other crates for numbers in decimal.
pub mod Decimal
