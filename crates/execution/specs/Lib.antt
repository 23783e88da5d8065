-- The definitions that the contracts of `execution` cite.
pub mod Arrays
pub mod OnFile
