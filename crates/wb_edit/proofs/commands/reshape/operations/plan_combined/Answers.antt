use Rattle.std.proofs.Common.{◌≡◌, List, [], Some, slice_get, sym, subst, ◌∙◌}
use Rattle.wb_sets.proofs.Ascending.{IsListedOnce-sorted}
use Rattle.selective_undo.specs.Edit.{write}
use Rattle.wb_cells.specs.declared.cells.kind.DomainKind.{DomainKind}
use Rattle.wb_cells.specs.declared.cells.kind.DomainKind.TheVariants.{Associative}
use Rattle.wb_cells.specs.declared.values.index.Index.{Index}
use Rattle.wb_cells.specs.Cells.{Name, index_cmp, index_cmp-IsAntisymmetric}
use Rattle.wb_cells.specs.Kinds.{kind_of}
use Rattle.wb_cells.specs.Readers.{members}
use Rattle.wb_range.specs.Domain.{IsListedOnce}
use Rattle.wb_reshape.specs.Resized.{without, resized_cells}
use Rattle.wb_reshape.specs.Sources.{combined}
use Rattle.wb_reshape.proofs.Members.{index_total}
use Rattle.wb_reshape.proofs.Sources.{IsListedOnce-combined}
use Rattle.wb_reshape.proofs.Without.{IsListedOnce-without}
use Rattle.wb_edit.specs.Plans.{Attempts}
use Rattle.wb_edit.specs.Resizing.{fills}
use Rattle.wb_edit.specs.Trees.{Tree}
use Rattle.wb_edit.proofs.Emptied.{emptied}
use Rattle.wb_edit.proofs.Exchanges.{apart_without}
use Rattle.wb_edit.proofs.Members.{members_once}
use Rattle.wb_edit.proofs.commands.reshape.operations.plan_combined.Goals as goal

pub plan_exchanged-requires-clause-leaving : goal.plan_exchanged-requires-clause-leaving
plan_exchanged-requires-clause-leaving c =
    let s = c.args.book.now.cells in
    let old : List Index = members s c.args.domain in
    let new : List Index = combined c.args.how c.args.given.now old in
    let leaving : c.deref.result.now ≡ without new old = c.deref.ensures.value ∙ c.in-Ok.ensures.leaving in
    subst (λ (is : List Index). IsListedOnce is) (sym leaving) (IsListedOnce-without new old (members_once s c.args.domain))

pub plan_exchanged-requires-clause-coming : goal.plan_exchanged-requires-clause-coming
plan_exchanged-requires-clause-coming c =
    let s = c.args.book.now.cells in
    let given : List Index = c.args.given.now in
    let old : List Index = members s c.args.domain in
    let new : List Index = combined c.args.how given old in
    let coming : c.deref-2.result.now ≡ without old new = c.deref-2.ensures.value ∙ c.in-Ok.ensures.coming in
    let once : IsListedOnce given = IsListedOnce-sorted index_cmp index_total index_cmp-IsAntisymmetric given c.requires in
    subst (λ (is : List Index). IsListedOnce is) (sym coming)
    (IsListedOnce-without old new (IsListedOnce-combined c.args.how given old once (members_once s c.args.domain)))

pub plan_exchanged-requires-clause-apart : goal.plan_exchanged-requires-clause-apart
plan_exchanged-requires-clause-apart c = λ p q x e f.
    let old : List Index = members c.args.book.now.cells c.args.domain in
    let new : List Index = combined c.args.how c.args.given.now old in
    let leaving : c.deref.result.now ≡ without new old = c.deref.ensures.value ∙ c.in-Ok.ensures.leaving in
    let coming : c.deref-2.result.now ≡ without old new = c.deref-2.ensures.value ∙ c.in-Ok.ensures.coming in
    apart_without old new p q x (subst (λ (is : List Index). slice_get is p ≡ Some x) leaving e) (subst (λ (is : List Index). slice_get is q ≡ Some x) coming f)

pub returns-then-leaves_nothing : goal.returns-then-leaves_nothing
returns-then-leaves_nothing c =
    let s = c.args.book.now.cells in
    let d : Name = c.args.domain in
    let old : List Index = members s d in
    let rs = c.args.footprint.now in
    let us = c.plan_emptied.new.footprint in
    let r = c.plan_emptied.result in
    let kind : DomainKind = Associative c.args.key in
    subst (λ (t : Tree). Attempts t s rs r us)
    (sym (emptied d kind old (combined c.args.how c.args.given.now old) (c.leaves_nothing.ensures c.if-leaves_nothing.true old)))
    (subst (λ (k : DomainKind). Attempts (fills d k (λ brought. write (resized_cells (kind_of k) d brought old []))) s rs r us)
    c.new-kind.ensures c.plan_emptied.ensures)
