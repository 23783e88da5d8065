-- `loaded` meets its contract: judged over the base of its execution graph.
use Rattle.execution.proofs.BaseOf.{on_recording}
use Rattle.verdicts.specs.ByModel.{JudgedFor}
use Rattle.verdicts.proofs.ByModelLaws.{judged_rule}
use Rattle.verdicts.proofs.loaded.Goals as goal

pub returns : goal.returns
returns c =
    let model = c.args.model in
    on_recording _ (JudgedFor model) _ _ c.requires.loads (judged_rule model _) _ c.base.ensures.sets c.base.ensures.relations c.judge.ensures
