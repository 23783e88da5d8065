-- `refused`: the word and the number make the line.
use mathlib.Core.List.{append_assoc}
use Rattle.lines.specs.Lines.{refusal_line}
use Rattle.lines.proofs.refused.Goals as goal

pub returns : goal.returns
unfolding refusal_line
returns c =
    simp (c.push.ensures.items, c.put_number.ensures.put, c.put_word.ensures, c.new-line.ensures, append_assoc)
