-- The theorems of `armv8`.
pub mod Armv8ShowsAll
pub mod Armv8ShowsFewest
pub mod Armv8Explains
