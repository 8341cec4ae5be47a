use Rattle.std.proofs.Common.{sym, ◌∙◌, ap, refl, option_map}
use Rattle.std.specs.Option.{option_and_then}
use Rattle.std.specs.Map.Iter.{deref_pair}
use Rattle.std.proofs.lemmas.Iterator.Consumers.{nth_from_yields_List, YieldsList-from_rest}
use Rattle.wb_cells.specs.declared.cells.cell.Cell.{Cell}
use Rattle.wb_cells.specs.declared.cells.value.Value.{Value}
use Rattle.wb_cells.specs.Cells.{Name}
use Rattle.wb_cells.specs.Readers.{user_of}
use Rattle.wb_cells.proofs.Users.{user_found}
use Rattle.wb_cells.proofs.book.readers.nth_user.Goals as goal

pub returns-in_err-cell : goal.returns-in_err-cell
returns-in_err-cell c =
    let m = c.args.cells.now in
    let d : Name = c.args.domain in
    let found = nth_from_yields_List c.nth.result _ c.args.p c.nth.ensures.ran (YieldsList-from_rest c.range.result refl) in
    c.from_residual.ensures ∙ sym (ap (λ o. option_and_then (λ (e : Cell × Value). user_of d e.0) (option_map deref_pair o)) c.in_err-cell.was)
    ∙ user_found m d c.first.result c.args.p c.range.result _ c.requires c.range.ensures.ordered c.first.ensures (c.range.ensures.between tt) found

pub returns : goal.returns
returns c =
    let m = c.args.cells.now in
    let d : Name = c.args.domain in
    let found = nth_from_yields_List c.nth.result _ c.args.p c.nth.ensures.ran (YieldsList-from_rest c.range.result refl) in
    c.user_of.ensures ∙ sym (ap (λ o. option_and_then (λ (e : Cell × Value). user_of d e.0) (option_map deref_pair o)) c.in_ok-cell.was)
    ∙ user_found m d c.first.result c.args.p c.range.result _ c.requires c.range.ensures.ordered c.first.ensures (c.range.ensures.between tt) found
