use Rattle.std.proofs.Common.{List, ◌++◌, map}
use Rattle.selective_undo.specs.Edit.{write}
use Rattle.wb_cells.specs.declared.cells.cell.Cell.TheVariants.{Member}
use Rattle.wb_cells.specs.declared.cells.kind.DomainKind.{DomainKind}
use Rattle.wb_cells.specs.declared.values.index.Index.{Index}
use Rattle.wb_cells.specs.Cells.{Name, Changes}
use Rattle.wb_cells.specs.Readers as readers
use Rattle.wb_reshape.specs.Writes.{clear_all}
use Rattle.wb_edit.specs.Commands.{cells_beside_indices}
use Rattle.wb_edit.specs.Looks.{members}
use Rattle.wb_edit.proofs.Attempts.{goes_on, ends}
use Rattle.wb_edit.proofs.Emptied.{seen_members}
use Rattle.wb_edit.proofs.commands.drop_domain.plan_drop_members.Goals as goal

pub returns : goal.returns
returns c =
    let s = c.args.book.now.cells in
    let d : Name = c.args.domain in
    let kind : DomainKind = c.args.kind.now in
    let xs : List Index → Changes = λ is. clear_all (cells_beside_indices d kind) ++ clear_all (map (Member d) is) in
    let us = c.look_at_members.new.footprint in
    let r = c.drop_members.result in
    goes_on (members d) s c.args.footprint.now us (λ is. write (xs is)) (readers.members s d) r us
    (seen_members s d c.args.footprint.now us c.in_ok-look_at_members.ensures.read)
    (ends (xs (readers.members s d)) s us r c.drop_members.ensures)
