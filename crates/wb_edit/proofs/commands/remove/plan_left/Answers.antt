use Rattle.std.proofs.Common.{◌≡◌, ℤ, List, [], ◌∷◌, sym, ap, subst, ◌∙◌}
use Rattle.std.proofs.lemmas.Result.{err_from_is_err_and}
use Rattle.std.specs.Map.{keys_of}
use Rattle.selective_undo.specs.Edit.{write}
use Rattle.wb_range.specs.Domain.{IsListedOnce}
use Rattle.wb_cells.specs.declared.cells.kind.DomainKind.{DomainKind}
use Rattle.wb_cells.specs.declared.cells.value.Binding.{Binding}
use Rattle.wb_cells.specs.declared.cells.value.Binding.TheVariants.{Array}
use Rattle.wb_cells.specs.declared.values.index.Index.{Index}
use Rattle.wb_cells.specs.Cells.{Name}
use Rattle.wb_cells.specs.Kinds.{kind_of}
use Rattle.wb_reshape.specs.Resized.{resized_cells}
use Rattle.wb_reshape.proofs.Fills.{arrays, zeros_once}
use Rattle.wb_edit.specs.Trees.{Tree}
use Rattle.wb_edit.specs.Plans.{Makes}
use Rattle.wb_edit.specs.Resizing.{zeros}
use Rattle.wb_edit.specs.Users.{bound, uses}
use Rattle.wb_edit.proofs.Attempts.{goes_on, stops, ends}
use Rattle.wb_edit.proofs.commands.remove.plan_left.Goals as goal

pub returns-in_err-users : goal.returns-in_err-users
returns-in_err-users c =
    let p = err_from_is_err_and c.from_residual.result c.from_residual.ensures.1 in
    let d : Name = c.args.domain in
    let i : Index = c.args.index in
    let last : List (Name × Binding) → Tree = λ users. write (resized_cells (kind_of c.args.kind.now) d (zeros (bound Array users)) (i ∷ []) []) in
    rw (p.1, p.2) (stops (uses d) c.args.book.now.cells c.args.footprint.now c.uses.new.footprint last c.in_err-users.field-0.0 c.in_err-users.ensures.looks)

pub resize_changes-requires-clause-once : goal.resize_changes-requires-clause-once
resize_changes-requires-clause-once c =
    let s = c.args.book.now.cells in
    let d : Name = c.args.domain in
    let ns : List Name = arrays s d in
    let shown : c.deref-2.result.now ≡ ns = c.deref-2.ensures.value ∙ c.in_ok-names.ensures.same ∙
    ap (bound Array) (c.deref.ensures.value ∙ c.in_ok-users.ensures.seen) in
    let cleared : c.deref-3.result.now ≡ zeros ns = c.deref-3.ensures.value ∙ c.in_ok-cleared.ensures.same ∙ ap zeros shown in
    subst (λ (fs : List (Name × ℤ)). IsListedOnce (keys_of fs)) (sym cleared) (zeros_once s d)

pub returns : goal.returns
returns c =
    let s = c.args.book.now.cells in
    let d : Name = c.args.domain in
    let i : Index = c.args.index in
    let kind : DomainKind = c.args.kind.now in
    let last : List (Name × Binding) → Tree = λ users. write (resized_cells (kind_of kind) d (zeros (bound Array users)) (i ∷ []) []) in
    let users : List (Name × Binding) = c.in_ok-users.users.items in
    let us = c.uses.new.footprint in
    let r = c.resize_changes.result in
    let cleared : c.deref-3.result.now ≡ zeros (bound Array users) = c.deref-3.ensures.value ∙ c.in_ok-cleared.ensures.same ∙
    ap zeros (c.deref-2.ensures.value ∙ c.in_ok-names.ensures.same ∙ ap (bound Array) c.deref.ensures.value) in
    goes_on (uses d) s c.args.footprint.now us last users r us c.in_ok-users.ensures.looks (
    ends (resized_cells (kind_of kind) d (zeros (bound Array users)) (i ∷ []) []) s us r
    (subst (λ (fs : List (Name × ℤ)). Makes (resized_cells (kind_of kind) d fs (i ∷ []) []) r) cleared c.resize_changes.ensures))
