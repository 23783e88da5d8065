-- Theorems of `execution`.
pub mod BaseOf
pub mod AllShown
pub mod PerLocationShown
pub mod PerLocationExplains
