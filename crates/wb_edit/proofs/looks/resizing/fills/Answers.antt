use Rattle.std.proofs.Common.{◌≡◌, List, sym, ap, subst, ◌∙◌}
use Rattle.std.proofs.lemmas.Result.{err_from_is_err_and}
use Rattle.wb_range.specs.Domain.{IsListedOnce}
use Rattle.wb_cells.specs.declared.cells.kind.DomainKind.{DomainKind}
use Rattle.wb_cells.specs.declared.cells.value.Binding.{Binding}
use Rattle.wb_cells.specs.declared.cells.value.Binding.TheVariants.{Array}
use Rattle.wb_cells.specs.Cells.{Name}
use Rattle.wb_reshape.proofs.Fills.{arrays}
use Rattle.wb_reshape.proofs.Users.{bound_once}
use Rattle.wb_edit.specs.Changed.{items_of}
use Rattle.wb_edit.specs.Plans.{Looks}
use Rattle.wb_edit.specs.Resizing.{defaults}
use Rattle.wb_edit.specs.Users.{bound, uses}
use Rattle.wb_edit.proofs.Fills.{once_by_keys}
use Rattle.wb_edit.proofs.Trees.{halts, then_looks}
use Rattle.wb_edit.proofs.looks.resizing.fills.Goals as goal

pub returns-in_err-users-clause-looks : goal.returns-in_err-users-clause-looks
returns-in_err-users-clause-looks c =
    let p = err_from_is_err_and c.from_residual.result c.from_residual.ensures.1 in
    let kind : DomainKind = c.args.kind.now in
    rw (p.1, p.2) (halts (uses c.args.domain) c.args.book.now.cells c.args.footprint.now c.uses.new.footprint (λ users. defaults kind (bound Array users))
    c.in_err-users.field-0.0 c.in_err-users.ensures.looks)

pub returns-clause-looks : goal.returns-clause-looks
returns-clause-looks c =
    let s = c.args.book.now.cells in
    let d : Name = c.args.domain in
    let kind : DomainKind = c.args.kind.now in
    let users : List (Name × Binding) = c.in_ok-users.users.items in
    let ss = c.uses.new.footprint in
    let us = c.defaults.new.footprint in
    let arrays : c.deref-2.result.now ≡ bound Array users = c.deref-2.ensures.value ∙ c.in_ok-names.ensures.same ∙ ap (bound Array) c.deref.ensures.value in
    then_looks (uses d) s c.args.footprint.now ss (λ users. defaults kind (bound Array users)) users (items_of c.defaults.result) us
    c.in_ok-users.ensures.looks (
    subst (λ (ns : List Name). Looks (defaults kind ns) s ss (items_of c.defaults.result) us) arrays c.defaults.ensures.looks)

pub returns-clause-once : goal.returns-clause-once
returns-clause-once c =
    let s = c.args.book.now.cells in
    let d : Name = c.args.domain in
    let ns : List Name = arrays s d in
    let arrays : c.deref-2.result.now ≡ ns = c.deref-2.ensures.value ∙ c.in_ok-names.ensures.same ∙
    ap (bound Array) (c.deref.ensures.value ∙ c.in_ok-users.ensures.seen) in
    once_by_keys c.defaults.result c.deref-2.result.now c.defaults.ensures.keys
    (subst (λ (ks : List Name). IsListedOnce ks) (sym arrays) (bound_once s d Array))
