use Rattle.std.proofs.Common.{sym, ◌∙◌, ap, option_map}
use Rattle.std.specs.Option.{option_and_then}
use Rattle.std.specs.BTreeMap.{keys}
use Rattle.std.specs.Map.Iter.{deref}
use Rattle.std.proofs.lemmas.Iterator.Consumers.{nth_from_yields_List, YieldsList-from_rest}
use Rattle.wb_cells.specs.Readers.{object_of}
use Rattle.wb_cells.proofs.Objects.{object_found}
use Rattle.wb_cells.proofs.book.readers.nth_object.Goals as goal

pub returns-in_err-nth : goal.returns-in_err-nth
returns-in_err-nth c =
    let m = c.args.cells.now in
    let found = nth_from_yields_List c.nth.result _ c.args.p c.nth.ensures.ran (YieldsList-from_rest (keys m) c.keys.ensures.rest) in
    c.from_residual.ensures ∙ sym (ap (λ o. option_and_then object_of (option_map deref o)) c.in_err-nth.was) ∙
    object_found m c.args.p _ c.keys.ensures.ordered found

pub returns : goal.returns
returns c =
    let m = c.args.cells.now in
    let found = nth_from_yields_List c.nth.result _ c.args.p c.nth.ensures.ran (YieldsList-from_rest (keys m) c.keys.ensures.rest) in
    c.object_of.ensures ∙ sym (ap (λ o. option_and_then object_of (option_map deref o)) c.in_ok-nth.was) ∙
    object_found m c.args.p _ c.keys.ensures.ordered found
