use Rattle.std.proofs.Common.{ℤ, List}
use Rattle.selective_undo.specs.Edit.{write}
use Rattle.wb_cells.specs.declared.cells.kind.DomainKind.{DomainKind}
use Rattle.wb_cells.specs.declared.values.index.Index.{Index}
use Rattle.wb_cells.specs.Cells.{Name}
use Rattle.wb_cells.specs.Kinds.{kind_of}
use Rattle.wb_reshape.specs.Resized.{resized_cells}
use Rattle.wb_edit.specs.Trees.{Tree}
use Rattle.wb_edit.specs.Resizing.{all_in_parent, fills}
use Rattle.wb_edit.proofs.Attempts.{goes_on}
use Rattle.wb_edit.proofs.commands.resized.plan_resized.Goals as goal

pub returns : goal.returns
returns c =
    let s = c.args.book.now.cells in
    let d : Name = c.args.domain in
    let kind : DomainKind = c.args.kind.now in
    let ls : List Index = c.args.leaving.now in
    let cs : List Index = c.args.coming.now in
    let last : List (Name × ℤ) → Tree = λ fs. write (resized_cells (kind_of kind) d fs ls cs) in
    let ss = c.all_in_parent.new.footprint in
    let us = c.plan_exchanged.new.footprint in
    let r = c.plan_exchanged.result in
    goes_on (all_in_parent kind c.args.new.now) s c.args.footprint.now ss (λ x. fills d kind last) tt r us c.in_ok-all_in_parent.ensures
    c.plan_exchanged.ensures
