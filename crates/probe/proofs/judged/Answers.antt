-- `judged` meets its contract.
use Rattle.probe.proofs.judged.Goals as goal

pub returns : goal.returns
returns c = record { verdict = _; on_file = c.verdict.ensures; reported = c.reported.ensures }
