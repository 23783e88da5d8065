-- The definitions that the contracts of `reading` cite.
pub mod Sets
pub mod Readable
