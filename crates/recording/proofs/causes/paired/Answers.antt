-- `causes::paired` meets its contract: every event passes the test.
use Rattle.std.proofs.Common.{rules, tests}
use Rattle.recording.specs.Causes.{paired_at}
use Rattle.recording.proofs.AllLaws.{all_numbers}
use Rattle.recording.proofs.causes.paired.Goals as goal

pub returns : goal.returns
returns c =
    all_numbers (paired_at c.args.file.now) (λ x b q k. search (rules, tests)) c.all.ensures.ran c.new.ensures.start c.new.ensures.end c.new.ensures.exhausted c.events-n.ensures.0
