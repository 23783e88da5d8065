-- The definitions that the contracts of `imm` cite.
pub mod Judged
