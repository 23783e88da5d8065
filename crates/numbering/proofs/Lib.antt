-- Slip 7, proved.
pub mod Renumberings
pub mod Recordings
pub mod Decoded
pub mod Answers
pub mod Equivalence
pub mod Translations
pub mod Files
pub mod Printed
pub mod Examples
pub mod Proved
