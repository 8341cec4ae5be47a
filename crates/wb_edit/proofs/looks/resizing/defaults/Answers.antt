use Rattle.std.proofs.Common.{◌≡◌, pos, List, sym, subst, ◌∙◌}
use Rattle.std.specs.FinMap.{get}
use Rattle.wb_cells.specs.declared.cells.cell.Cell.TheVariants.{Implicit}
use Rattle.wb_cells.specs.declared.cells.kind.DomainKind.{DomainKind}
use Rattle.wb_cells.specs.declared.cells.kind.DomainKind.TheVariants.{Sparse}
use Rattle.wb_cells.specs.Cells.{Name}
use Rattle.wb_reshape.proofs.Fills.{keys-numbered}
use Rattle.wb_edit.specs.Changed.{items_of}
use Rattle.wb_edit.specs.Plans.{Looks}
use Rattle.wb_edit.specs.Resizing.{defaults, number_or_zero, zeros}
use Rattle.wb_edit.proofs.Fills.{keys_by_items, found_implicits}
use Rattle.wb_edit.proofs.looks.resizing.defaults.Goals as goal

pub returns-in-Rectangular-clause-keys : goal.returns-in-Rectangular-clause-keys
returns-in-Rectangular-clause-keys c =
    let ns : List Name = c.args.arrays.now in
    keys_by_items c.zeros.result (zeros ns) ns c.zeros.ensures.same (keys-numbered (λ a. pos 0) ns)

pub returns-in-Sparse-clause-looks : goal.returns-in-Sparse-clause-looks
returns-in-Sparse-clause-looks c =
    let s = c.args.book.now.cells in
    let ns : List Name = c.args.arrays.now in
    let r = c.with_implicits.result in
    let us = c.with_implicits.new.footprint in
    let kind : Sparse c.in-Sparse.field-0 c.in-Sparse.field-1 ≡ c.args.kind.now = sym c.in-Sparse.is ∙ c.domain_kind.ensures in
    subst (λ (k : DomainKind). Looks (defaults k ns) s c.args.footprint.now (items_of r) us) kind (
    found_implicits s ns c.args.footprint.now us r c.with_implicits.ensures.read c.with_implicits.ensures.values c.with_implicits.ensures.only)

pub returns-in-Sparse-clause-keys : goal.returns-in-Sparse-clause-keys
returns-in-Sparse-clause-keys c =
    let s = c.args.book.now.cells in
    let ns : List Name = c.args.arrays.now in
    keys_by_items c.with_implicits.result _ ns c.with_implicits.ensures.values (keys-numbered (λ a. number_or_zero (get s (Implicit a))) ns)

pub returns-in-Associative-clause-keys : goal.returns-in-Associative-clause-keys
returns-in-Associative-clause-keys c =
    let ns : List Name = c.args.arrays.now in
    keys_by_items c.zeros-in-Associative.result (zeros ns) ns c.zeros-in-Associative.ensures.same (keys-numbered (λ a. pos 0) ns)
