-- The litmus table and the statement about it.
pub mod Table
