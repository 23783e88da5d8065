-- The memory models: recordings, execution graphs, relational terms, IMM, ARMv8, x86-TSO and their rules.
pub mod Recording
pub mod Steps
pub mod Graph
pub mod Term
pub mod Clause
pub mod Imm
pub mod Armv8
pub mod Tso
pub mod Rules
pub mod Why
pub mod Loads
pub mod Translated
