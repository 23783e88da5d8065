-- The statement that verdicts do not go by the numbers of events and threads.
pub mod Numbering
pub mod Answers
