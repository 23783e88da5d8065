-- The litmus table, proved.
pub mod Recorded
pub mod EvaluatedLoading
pub mod TableProved
