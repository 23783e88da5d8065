-- `legal::from_read` meets its contract.
use mathlib.Core.Path.{sym, ◌∙◌}
use Rattle.recording.specs.Causes.{from_read}
use Rattle.layout.proofs.FieldLaws.{and_yes, and_no, class_small}
use Rattle.recording.proofs.legal.from_read.Goals as goal

pub returns-then-of_class : goal.returns-then-of_class
unfolding from_read
returns-then-of_class c =
    let pre = c.requires in
    let read = c.of_class.ensures in
    and_yes _ _ _ _ read c.if-of_class.true (pre.1 (class_small _ _ _ pre.0 (sym read ∙ c.if-of_class.true)))

pub returns-else-of_class : goal.returns-else-of_class
unfolding from_read
returns-else-of_class c = and_no _ _ _ c.of_class.ensures c.if-of_class.false
