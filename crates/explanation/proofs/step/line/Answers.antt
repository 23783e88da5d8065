-- `step::line`: the parts that are put make the line.
use Rattle.lines.specs.Lines.{model_word}
use Rattle.explanation.proofs.NameLaws.{line_put}
use Rattle.explanation.proofs.step.line.Goals as goal

pub returns-clause-line : goal.returns-clause-line
returns-clause-line c =
    line_put (model_word c.args.model) _ c.args.step c.new-text.ensures c.word.ensures c.put_word.ensures c.put_number.ensures.put
    c.put_number-2.ensures.put c.put_word-2.ensures c.name.ensures.name c.put_word-3.ensures c.push.ensures.items
