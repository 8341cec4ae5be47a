use Rattle.std.proofs.Common.{◌≡◌, ◌||◌, Bool, true, false, get_or, sym, ap, ◌∙◌, arith}
use Rattle.std.specs.List.{list_any}
use Rattle.std.proofs.lemmas.List.{take_all}
use Rattle.std.proofs.lemmas.List.Folds.{list_any_more, list_any_at}
use Rattle.selective_undo.specs.Edit.{covers}
use Rattle.wb_cells.specs.declared.reads.ReadRun.{ReadRun}
use Rattle.wb_cells.specs.Reads.{read_in}
use Rattle.wb_cells.specs.Schema.{workbook}
use Rattle.wb_log.proofs.Covered.{any_covers}
use Rattle.wb_log.proofs.blockers.is_covered_by.Goals as goal

pub returns-then-is_covered_in : goal.returns-then-is_covered_in
returns-then-is_covered_in c =
    let rs = c.args.runs.now in
    let i = c.loop-run.run-index in
    let r = c.run-item.result in
    let names : ReadRun → Bool = λ x. covers workbook (read_in x) c.args.cell.now in
    let here : names (get_or rs i r) ≡ true = ap names (sym c.run-item.is) ∙ sym c.is_covered_in.ensures ∙ c.if-is_covered_in.true in
    sym (sym (any_covers rs c.args.cell.now) ∙ list_any_at names rs i r (omega arith) here)

pub loop-run-preserved : goal.loop-run-preserved
loop-run-preserved c =
    let rs = c.args.runs.now in
    let i = c.loop-run.run-index in
    let r = c.run-item.result in
    let names : ReadRun → Bool = λ x. covers workbook (read_in x) c.args.cell.now in
    let not_here : names (get_or rs i r) ≡ false = ap names (sym c.run-item.is) ∙ sym c.is_covered_in.ensures ∙ c.if-is_covered_in.false in
    list_any_more names rs i r (omega arith) ∙ ap (λ b. b || names (get_or rs i r)) c.loop-run.invariant ∙ not_here

pub returns : goal.returns
returns c =
    let rs = c.args.runs.now in
    let names : ReadRun → Bool = λ x. covers workbook (read_in x) c.args.cell.now in
    sym (sym (any_covers rs c.args.cell.now) ∙ ap (list_any names) (sym (take_all c.loop-run.run-index rs (omega arith))) ∙ c.loop-run.invariant)
