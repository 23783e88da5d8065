-- The definitions that the contracts of `verdict` cite.
pub mod Verdict
pub mod Base
pub mod Shown
pub mod PerLocation
