-- `line` meets its contract: by the number of the broken rule, where one is.
use Rattle.judgement.proofs.PrintLaws.{allowed_line, broken_line}
use Rattle.judgement.proofs.line.Goals as goal

pub returns-in-Ok : goal.returns-in-Ok
returns-in-Ok c = allowed_line _ c.in-Ok.is c.as_slice.ensures.value c.line.ensures.line

pub returns-in-Err : goal.returns-in-Err
returns-in-Err c = broken_line _ c.in-Err.is c.number.ensures c.as_slice-in-Err.ensures.value c.line-in-Err.ensures.line
