-- The statement of demand 3.
pub mod Soundness
