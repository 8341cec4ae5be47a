use Rattle.std.proofs.Common.{List, Some, sym, ap, ◌∙◌}
use Rattle.std.specs.FinMap.{from_entries}
use Rattle.std.proofs.lemmas.Result.{on_err_weaker}
use Rattle.wb_cells.specs.declared.cells.cell.Cell.{Cell}
use Rattle.wb_cells.specs.declared.cells.value.Value.{Value}
use Rattle.wb_cells.specs.Cells.{cell_cmp}
use Rattle.wb_cells.specs.Stored.{whole}
use Rattle.wb_cells.proofs.Parts.{told_high, low-either, high-either, low-state, high-state, low-absent, high-absent}
use Rattle.wb_cells.proofs.book.stored.StoredCells.insert_other.Goals as goal

-- ---- before the members

pub returns-then-is_low-clause-ok : goal.returns-then-is_low-clause-ok
returns-then-is_low-clause-ok c = rw (← c.self.view_is) (
    low-state c.self.inside.low c.self.inside.members c.self.inside.high c.self.invariant c.put.result c.put.new.cells c.args.cell c.args.value
    (sym c.is_low.ensures ∙ c.if-is_low.true) c.put.ensures.ok c.put.ensures.ordered)

pub returns-then-is_low-clause-absent : goal.returns-then-is_low-clause-absent
returns-then-is_low-clause-absent c = rw (← c.self.view_is) (
    low-absent c.self.inside.low c.self.inside.members c.self.inside.high c.self.invariant c.put.result c.args.cell c.args.value
    (sym c.is_low.ensures ∙ c.if-is_low.true) c.put.ensures.absent)

pub returns-then-is_low-clause-err : goal.returns-then-is_low-clause-err
returns-then-is_low-clause-err c = rw (← c.self.view_is) (
    on_err_weaker c.put.result
    (λ same. ap (λ (es : List (Cell × Value)). from_entries {R = cell_cmp} (whole es c.self.inside.members.entries c.self.inside.high.entries)) same)
    c.put.ensures.err)

pub invariant_of-self : goal.invariant_of-self
invariant_of-self c =
    low-either c.self.inside.low c.self.inside.members c.self.inside.high c.self.invariant c.put.result c.put.new.cells c.args.cell (Some c.args.value)
    (sym c.is_low.ensures ∙ c.if-is_low.true) c.put.ensures.ok c.put.ensures.err c.put.ensures.ordered

-- ---- behind them

pub returns-clause-ok : goal.returns-clause-ok
returns-clause-ok c = rw (← c.self.view_is) (
    high-state c.self.inside.low c.self.inside.members c.self.inside.high c.self.invariant c.put-2.result c.put-2.new.cells c.args.cell c.args.value
    (told_high c.args.cell c.requires (sym c.is_low.ensures ∙ c.if-is_low.false)) c.put-2.ensures.ok c.put-2.ensures.ordered)

pub returns-clause-absent : goal.returns-clause-absent
returns-clause-absent c = rw (← c.self.view_is) (
    high-absent c.self.inside.low c.self.inside.members c.self.inside.high c.self.invariant c.put-2.result c.args.cell c.args.value
    (told_high c.args.cell c.requires (sym c.is_low.ensures ∙ c.if-is_low.false)) c.put-2.ensures.absent)

pub returns-clause-err : goal.returns-clause-err
returns-clause-err c = rw (← c.self.view_is) (
    on_err_weaker c.put-2.result
    (λ same. ap (λ (es : List (Cell × Value)). from_entries {R = cell_cmp} (whole c.self.inside.low.entries c.self.inside.members.entries es)) same)
    c.put-2.ensures.err)

pub invariant_of-self-2 : goal.invariant_of-self-2
invariant_of-self-2 c =
    high-either c.self.inside.low c.self.inside.members c.self.inside.high c.self.invariant c.put-2.result c.put-2.new.cells c.args.cell (Some c.args.value)
    (told_high c.args.cell c.requires (sym c.is_low.ensures ∙ c.if-is_low.false))
    c.put-2.ensures.ok c.put-2.ensures.err c.put-2.ensures.ordered
