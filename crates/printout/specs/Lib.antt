-- The definitions that the contracts of `printout` cite.
pub mod Page
pub mod Table
