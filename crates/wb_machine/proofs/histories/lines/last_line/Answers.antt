use Rattle.std.proofs.Common.{subst, sym, Some, None, take}
use Rattle.wb_machine.specs.Histories.Lines.{IsLastLine}
use Rattle.wb_machine.proofs.HistoryTexts.LastLine.{last_found}
use Rattle.wb_machine.proofs.histories.lines.last_line.Goals as goal

pub returns-in-Some : goal.returns-in-Some
returns-in-Some c =
    let n = c.in-Some.at in
    subst (λ line. IsLastLine c.args.bytes.now (Some (take n c.args.bytes.now, line))) (sym c.after_place.ensures)
    (last_found c.args.bytes.now (Some n) c.in-Some.ensures)

pub returns-in-None : goal.returns-in-None
returns-in-None c = last_found c.args.bytes.now None c.in-None.ensures
