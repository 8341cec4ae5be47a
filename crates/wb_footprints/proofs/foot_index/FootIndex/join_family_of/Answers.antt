use Rattle.std.proofs.Common.{◌≡◌, ◌<◌, None, length, ap, arith}
use Rattle.std.proofs.lemmas.List.{nil_from_length}
use Rattle.std.proofs.lemmas.Result.{on_ok_weaker}
use Rattle.std.specs.List.{list_any}
use Rattle.selective_undo.specs.declared.Change.{Change}
use Rattle.wb_cells.specs.declared.cells.cell.Cell.{Cell}
use Rattle.wb_cells.specs.declared.cells.value.Value.{Value}
use Rattle.wb_cells.specs.Runs.{changes_in}
use Rattle.wb_footprints.specs.Footprints.{marked_family}
use Rattle.wb_footprints.proofs.OneFamily.{of_one_family}
use Rattle.wb_footprints.proofs.Joining.{none_joined, joined_like}
use Rattle.wb_footprints.proofs.foot_index.FootIndex.join_family_of.Goals as goal

pub returns-then-len-eq0-clause-joined : goal.returns-then-len-eq0-clause-joined
returns-then-len-eq0-clause-joined c =
    let m = c.args.self.now in
    let xs = changes_in c.args.cells.now.form in
    let none : length xs ≡ 0 = omega (arith, c.if-len-eq0.true, c.len.ensures) in
    none_joined c.args.waiting.now (λ n. list_any (λ x. marked_family m x.cell n) xs) c.args.after
    (λ n up. ap (list_any (λ x. marked_family m x.cell n)) (nil_from_length xs none))

pub returns-clause-joined : goal.returns-clause-joined
returns-clause-joined c =
    let m = c.args.self.now in
    let form = c.args.cells.now.form in
    let some : 0 < length (changes_in form) = omega (arith, c.if-len-eq0.false, c.len.ensures) in
    let d : Change Cell Value = record { cell = c.cell.result; value = None } in
    on_ok_weaker c.join_family_once.result
    (λ h. joined_like c.args.waiting.now c.join_family_once.new.waiting (marked_family m c.cell.result)
    (λ n. list_any (λ x. marked_family m x.cell n) (changes_in form)) c.args.after (λ n. of_one_family m n form d c.cell.result some (c.cell.ensures d)) h)
    c.join_family_once.ensures.joined
