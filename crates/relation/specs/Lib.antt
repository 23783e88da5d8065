-- The definitions that the contracts of `relation` cite.
pub mod Rel
pub mod Bits
pub mod Ring
pub mod Order
