use Rattle.std.proofs.Common.{◌≤◌, length, arith}
use Rattle.wb_edit.specs.Edits.{placed}
use Rattle.wb_edit.proofs.planning.plan_transaction.Goals as goal

pub placed-requires : goal.placed-requires
placed-requires c =
    let or_refused = rw c.in-Err-Refused.field-0-is at c.in-Err-Refused.ensures in
    let low = or_refused.0 in
    let few : length c.commands.result.now ≤ 4096 = rw c.commands.ensures.same c.commands.ensures.several.1 in
    omega (arith, low, few)

pub returns-in-Ok : goal.returns-in-Ok
returns-in-Ok c = rw (← c.commands.ensures.same) (c.in-Ok.ensures placed)

pub returns-in-Err-Refused : goal.returns-in-Err-Refused
returns-in-Err-Refused c =
    let or_refused = rw c.in-Err-Refused.field-0-is at c.in-Err-Refused.ensures in
    rw (← c.commands.ensures.same, c.placed.ensures) (or_refused.1 placed)
