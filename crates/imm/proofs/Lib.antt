-- Laws that the proofs of `imm` cite, and its theorems.
pub mod Around
pub mod ImmShowsAll
pub mod ImmShowsFewest
pub mod ImmExplains
