-- The definitions that the contracts of `explanation` cite.
pub mod StepLine
pub mod Why
