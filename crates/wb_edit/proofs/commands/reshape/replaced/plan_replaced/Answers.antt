use Rattle.std.proofs.Common.{◌≡◌, List, Ok, Err, sym, ap, subst, ◌∙◌}
use Rattle.std.proofs.lemmas.Result.{err_from_is_err_and}
use Rattle.selective_undo.specs.Edit.{write}
use Rattle.wb_range.specs.Domain.{IsListedOnce}
use Rattle.wb_cells.specs.declared.cells.value.Binding.{Binding}
use Rattle.wb_cells.specs.declared.cells.value.Binding.TheVariants.{Array, Sparse}
use Rattle.wb_cells.specs.declared.values.index.Index.{Index}
use Rattle.wb_cells.specs.Cells.{Name}
use Rattle.wb_cells.specs.Shapes.{Range}
use Rattle.wb_reshape.proofs.Fills.{arrays}
use Rattle.wb_reshape.proofs.Users.{bound_once}
use Rattle.wb_edit.specs.Trees.{Tree}
use Rattle.wb_edit.specs.Plans.{Looks, Makes}
use Rattle.wb_edit.specs.Reshaping.{none_there, reshaped_cells}
use Rattle.wb_edit.specs.Users.{bound, uses}
use Rattle.wb_edit.proofs.Attempts.{goes_on, stops, ends}
use Rattle.wb_edit.proofs.commands.reshape.replaced.plan_replaced.Goals as goal

-- what is written once it is seen that no index that leaves is in the way
abbrev last : Name → List Range → (leaving coming : List Index) → List (Name × Binding) → Tree
last d new ls cs users = write (reshaped_cells d new (bound Array users) ls cs)

-- what follows once it is seen what is bound to the domain
abbrev rest : Name → List Range → (leaving coming : List Index) → List (Name × Binding) → Tree
rest d new ls cs users = none_there (bound Sparse users) ls (λ x. last d new ls cs users)

pub returns-in_err-users : goal.returns-in_err-users
returns-in_err-users c =
    let p = err_from_is_err_and c.from_residual.result c.from_residual.ensures.1 in
    rw (p.1, p.2) (stops (uses c.args.domain) c.args.book.now.cells c.args.footprint.now c.uses.new.footprint
    (rest c.args.domain c.args.new.now c.args.leaving.now c.args.coming.now) c.in_err-users.field-0.0 c.in_err-users.ensures.looks)

pub returns-in_err-none_there : goal.returns-in_err-none_there
returns-in_err-none_there c =
    let p = err_from_is_err_and c.from_residual-in_err-none_there.result c.from_residual-in_err-none_there.ensures.1 in
    let s = c.args.book.now.cells in
    let d : Name = c.args.domain in
    let new : List Range = c.args.new.now in
    let ls : List Index = c.args.leaving.now in
    let cs : List Index = c.args.coming.now in
    let users : List (Name × Binding) = c.in_ok-users.users.items in
    let why = c.in_err-none_there.field-0.0 in
    let ss = c.uses.new.footprint in
    let us = c.none_there.new.footprint in
    let inner : c.deref-2.result.now ≡ bound Sparse users = c.deref-2.ensures.value ∙ c.in_ok-inner.ensures.same ∙ ap (bound Sparse) c.deref.ensures.value in
    rw (p.1, p.2) (goes_on (uses d) s c.args.footprint.now ss (rest d new ls cs) users (Err why) us c.in_ok-users.ensures.looks (
    stops (none_there (bound Sparse users) ls) s ss us (λ x. last d new ls cs users) why (
    subst (λ (ns : List Name). Looks (none_there ns ls) s ss (Err why) us) inner c.in_err-none_there.ensures)))

pub replace_changes-requires-clause-once : goal.replace_changes-requires-clause-once
replace_changes-requires-clause-once c =
    let s = c.args.book.now.cells in
    let d : Name = c.args.domain in
    let shown : c.deref-4.result.now ≡ arrays s d = c.deref-4.ensures.value ∙ c.in_ok-names.ensures.same ∙
    ap (bound Array) (c.deref-3.ensures.value ∙ c.in_ok-users.ensures.seen) in
    subst (λ (ns : List Name). IsListedOnce ns) (sym shown) (bound_once s d Array)

pub returns : goal.returns
returns c =
    let s = c.args.book.now.cells in
    let d : Name = c.args.domain in
    let new : List Range = c.args.new.now in
    let ls : List Index = c.args.leaving.now in
    let cs : List Index = c.args.coming.now in
    let users : List (Name × Binding) = c.in_ok-users.users.items in
    let ss = c.uses.new.footprint in
    let us = c.none_there.new.footprint in
    let r = c.replace_changes.result in
    let inner : c.deref-2.result.now ≡ bound Sparse users = c.deref-2.ensures.value ∙ c.in_ok-inner.ensures.same ∙ ap (bound Sparse) c.deref.ensures.value in
    let shown : c.deref-4.result.now ≡ bound Array users = c.deref-4.ensures.value ∙ c.in_ok-names.ensures.same ∙ ap (bound Array) c.deref-3.ensures.value in
    goes_on (uses d) s c.args.footprint.now ss (rest d new ls cs) users r us c.in_ok-users.ensures.looks (
    goes_on (none_there (bound Sparse users) ls) s ss us (λ x. last d new ls cs users) tt r us
    (subst (λ (ns : List Name). Looks (none_there ns ls) s ss (Ok tt) us) inner c.in_ok-none_there.ensures) (
    ends (reshaped_cells d new (bound Array users) ls cs) s us r
    (subst (λ (ns : List Name). Makes (reshaped_cells d new ns ls cs) r) shown c.replace_changes.ensures)))
