-- `chain::all_marked` meets its contract: what `all` answers of the marks of 1 to limit.
use mathlib.Core.Path.{ap, ◌∙◌}
use mathlib.Core.Bool.{Bool}
use native.Mathlib.Omega.{arith}
use Rattle.std.proofs.Common.{rules, tests}
use Rattle.std.specs.List.{list_all}
use Rattle.std.proofs.lemmas.Iterator.{YieldsList-from_slice}
use Rattle.std.proofs.lemmas.Iterator.Search.{all_from_yields_List}
use Rattle.layout.proofs.ChainLaws.{marked_each}
use Rattle.layout.proofs.chain.all_marked.Goals as goal

pub returns : goal.returns
returns c =
    λ l w.
    let h = all_from_yields_List (λ b. b) _ _ c.all.result c.all.ensures.ran (YieldsList-from_slice c.iter.result.rest.now cc) (λ x b q k. search (rules, tests)) in
    h ∙ ap (list_all (λ (b : Bool). b)) c.iter.ensures.rest ∙ marked_each l c.args.marks.now c.args.limit _ c.requires w (omega arith)
