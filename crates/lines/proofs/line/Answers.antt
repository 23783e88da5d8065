-- `line`: the parts that are put make the line.
use mathlib.Core.List.{append_assoc}
use Rattle.lines.specs.Lines.{model_word}
use Rattle.lines.proofs.LineLaws.{allowed_parts, broken_parts}
use Rattle.lines.proofs.line.Goals as goal
use Rattle.lines.proofs.line.Goals.{in-Some, in_default}

pub returns-clause-line : goal.returns-clause-line
returns-clause-line c =
    elim c.match-broken.branch [
      | in-Some w ↦ rw (w.in-Some.is, broken_parts (model_word c.args.model) w.in-Some.rule c.args.events.now)
          (simp (
            c.push.ensures.items,
            c.put_numbers.ensures.put,
            w.text-is,
            w.put_number.ensures.put,
            w.put_word-in-Some.ensures,
            c.put_word.ensures,
            c.word.ensures,
            c.new-text.ensures,
            append_assoc,
          ))
      | in_default w ↦ rw (w.in_default.is, allowed_parts (model_word c.args.model) c.args.events.now)
          (simp (
            c.push.ensures.items,
            c.put_numbers.ensures.put,
            w.text-is,
            w.put_word-in_default.ensures,
            c.put_word.ensures,
            c.word.ensures,
            c.new-text.ensures,
            append_assoc,
          ))
    ]
