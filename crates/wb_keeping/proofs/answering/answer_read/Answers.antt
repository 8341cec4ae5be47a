use Rattle.std.proofs.Common.{rules}
use Rattle.wb_keeping.specs.Granting.Granting.{IsOther}
use Rattle.wb_keeping.proofs.Added.{is_other}
use Rattle.wb_keeping.proofs.answering.answer_read.Goals as goal

pub answer_other-requires : goal.answer_other-requires
answer_other-requires g c =
    let other : IsOther c.args.request = is_other c.args.request c.in_default.not-Change in
    search rules
