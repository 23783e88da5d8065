-- The definitions that the contracts of `translation` cite.
pub mod Contents
pub mod Translate
pub mod Encode
pub mod Translation
pub mod Parts
pub mod Threads
