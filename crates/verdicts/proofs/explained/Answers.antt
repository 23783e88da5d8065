-- `explained` meets its contract: the clauses of the broken rule explain the steps, over the base of the recording, and in its execution graph.
use mathlib.Core.Path.{sym, ap, ◌∙◌}
use Rattle.std.proofs.Common.{rules, tests}
use Rattle.std.proofs.lemmas.List.{nil_from_length}
use Rattle.verdict.specs.Verdict.{number, rule_of}
use Rattle.clause.specs.Steps.{ring}
use Rattle.clause.proofs.StepLaws.{no_ring_shown}
use Rattle.verdicts.proofs.StepLaws.{none_explained, coherence_explained, order_explained}
use Rattle.verdicts.proofs.explained.Goals as goal

pub returns-then-is_empty : goal.returns-then-is_empty
returns-then-is_empty c =
    none_explained c.args.model _ _ c.requires.0 _ c.requires.1 _ c.new.ensures (sym c.ring_of.ensures.ring ∙ nil_from_length c.ring_of.result.now (search (rules, tests)))

pub returns-in-Ok : goal.returns-in-Ok
unfolding ring
returns-in-Ok c = none_explained c.args.model _ _ c.requires.0 _ c.requires.1 _ c.new-in-Ok.ensures (ap ring c.in-Ok.is)

pub returns-in-Coherence : goal.returns-in-Coherence
returns-in-Coherence c =
    coherence_explained c.args.model _ _ c.requires.0 _ c.requires.1 _ c.base-base.ensures.sets c.base-base.ensures.relations _
    (ap rule_of c.in-Err.is ∙ ap number c.in-Coherence.is) c.coherence_steps.ensures

pub returns-in-Acyclicity : goal.returns-in-Acyclicity
returns-in-Acyclicity c =
    order_explained c.args.model _ _ c.requires.0 _ c.requires.1 _ c.base-base.ensures.sets c.base-base.ensures.relations _
    (ap rule_of c.in-Err.is ∙ ap number c.in-Acyclicity.is) c.order_steps.ensures

pub returns-in-Reads : goal.returns-in-Reads
returns-in-Reads c =
    none_explained c.args.model _ _ c.requires.0 _ c.requires.1 _ c.new-in-Reads.ensures
    (ap ring c.in-Err.is ∙ no_ring_shown c.in-Err.broken c.in-Reads.is)
