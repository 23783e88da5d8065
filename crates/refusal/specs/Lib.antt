-- The definitions that the contracts of `refusal` cite.
pub mod Refusal
