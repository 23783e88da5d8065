-- `of_input` meets its contract: what is read of an input gets what the input gets.
use Rattle.output.proofs.OutputLaws.{first_size}
use Rattle.judgement.proofs.PrintLaws.{input_text}
use borrow.Author.Rules.{rules}
use Rattle.explanation.proofs.of_input.Goals as goal

pub returns : goal.returns
returns c = input_text _ _ c.args.start _ c.args.n (search rules) c.printed.ensures

pub slice_bounds-printed-end : goal.slice_bounds-printed-end
slice_bounds-printed-end c = first_size _ c.requires (search rules)
