-- Laws of refusals that the crates above share.
pub mod RefusalLaws
