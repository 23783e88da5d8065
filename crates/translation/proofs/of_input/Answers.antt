-- `of_input` meets its contract: what is read of an input is answered as the input is.
use mathlib.Core.Path.{◌≡◌, sym}
use native.Mathlib.Omega.{arith}
use lib.ListN.{length}
use lib.Seq.{length-take-le}
use Rattle.recording.proofs.Longest.{read_longest}
use Rattle.translation.proofs.TranslationCall.{fills_input}
use borrow.Author.Rules.{rules}
use Rattle.translation.proofs.of_input.Goals as goal

pub slice_bounds-translate-end : goal.slice_bounds-translate-end
slice_bounds-translate-end c =
    let long : length c.args.start ≡ 1413 = search rules in
    sym (length-take-le _ _ (omega (arith, long, c.requires)))

pub returns : goal.returns
returns c =
    let long : length c.args.start ≡ 1413 = search rules in
    λ input read. fills_input _ _ (read_longest input c.args.start c.args.n long read) _ _ _ c.translate.ensures
