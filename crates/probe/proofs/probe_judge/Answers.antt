-- `probe_judge` meets its contract: the lines are stored, or nothing is.
use mathlib.Core.Path.{sym, subst}
use native.Mathlib.Omega.{arith}
use Rattle.judgement.specs.Judgement.{Prints}
use Rattle.probe.proofs.ProbeLaws.{few}
use Rattle.probe.proofs.probe_judge.Goals as goal

pub answered-requires : goal.answered-requires
answered-requires c = few 1458 c.fill.ensures (λ z. omega (arith, c.as_slice.ensures.fits))

pub returns : goal.returns
returns c =
    record {
      text = _;
      prints = subst (Prints c.args.file.now) (sym c.as_slice.ensures.value) c.printed-lines.ensures;
      stored = c.answered.ensures _ _ _ _ c.fill.ensures;
    }
