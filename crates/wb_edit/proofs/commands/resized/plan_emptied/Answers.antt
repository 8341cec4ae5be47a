use Rattle.std.proofs.Common.{ℤ, List, [], subst}
use Rattle.selective_undo.specs.Edit.{write}
use Rattle.wb_cells.specs.declared.cells.kind.DomainKind.{DomainKind}
use Rattle.wb_cells.specs.declared.values.index.Index.{Index}
use Rattle.wb_cells.specs.Cells.{Name}
use Rattle.wb_cells.specs.Kinds.{kind_of}
use Rattle.wb_cells.specs.Readers.{members}
use Rattle.wb_reshape.specs.Resized.{resized_cells}
use Rattle.wb_edit.specs.Trees.{Tree}
use Rattle.wb_edit.specs.Plans.{Makes}
use Rattle.wb_edit.specs.Resizing.{fills}
use Rattle.wb_edit.proofs.Attempts.{goes_on, ends}
use Rattle.wb_edit.proofs.commands.resized.plan_emptied.Goals as goal

pub returns : goal.returns
returns c =
    let s = c.args.book.now.cells in
    let d : Name = c.args.domain in
    let kind : DomainKind = c.args.kind.now in
    let ls : List Index = members s d in
    let last : List (Name × ℤ) → Tree = λ fs. write (resized_cells (kind_of kind) d fs ls []) in
    let brought : List (Name × ℤ) = c.in_ok-brought.brought.items in
    let us = c.fills.new.footprint in
    let r = c.empty_changes.result in
    goes_on (fills d kind) s c.args.footprint.now us last brought r us c.in_ok-brought.ensures.looks (
    ends (resized_cells (kind_of kind) d brought ls []) s us r (subst (λ (fs : List (Name × ℤ)). Makes (resized_cells (kind_of kind) d fs ls []) r)
    c.deref.ensures.value c.empty_changes.ensures))
