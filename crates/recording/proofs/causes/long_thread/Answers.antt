-- `causes::long_thread` meets its contract: some thread passes the test.
use Rattle.std.proofs.Common.{rules, tests}
use Rattle.recording.specs.Causes.{too_long, long_thread}
use Rattle.recording.proofs.AllLaws.{any_number}
use Rattle.recording.proofs.causes.long_thread.Goals as goal

pub returns : goal.returns
unfolding long_thread
returns c = any_number (too_long c.args.file.now) (λ x b q k. search (rules, tests)) 4 c.any.ensures.ran
