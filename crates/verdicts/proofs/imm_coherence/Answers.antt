-- `imm_coherence` meets its contract: the clauses are those of the relation.
use Rattle.verdicts.proofs.imm_coherence.Goals as goal

pub returns : goal.returns
returns c = c.explained.ensures _ _ c.coherence.ensures
