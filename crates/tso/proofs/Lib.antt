-- The theorems of `tso`.
pub mod TsoShowsAll
pub mod TsoShowsFewest
pub mod TsoExplains
