use Rattle.std.proofs.Common.{sym, subst}
use Rattle.selective_undo.specs.Changes.{apply}
use Rattle.wb_cells.specs.Cells.{Cells}
use Rattle.wb_cells.specs.WellFormed.{IsWellFormed}
use Rattle.wb_book.proofs.ElementsSet.{set_whole}
use Rattle.wb_book.proofs.Replaced.{same_shelf}
use Rattle.wb_book.proofs.change.change_all.Goals as goal

pub returns-then-set_lone-clause-ok : goal.returns-then-set_lone-clause-ok
returns-then-set_lone-clause-ok g c =
    (set_whole c.args.cells.now c.args.arrays.now c.set_lone.new.arrays c.args.list.now c.requires.shelf c.requires.formed
    (c.set_lone.ensures.set c.if-set_lone.true) c.set_lone.ensures.names c.set_lone.ensures.lie (c.set_lone.ensures.agree c.if-set_lone.true)).0

pub returns-then-set_lone-clause-shelf : goal.returns-then-set_lone-clause-shelf
returns-then-set_lone-clause-shelf g c =
    (set_whole c.args.cells.now c.args.arrays.now c.set_lone.new.arrays c.args.list.now c.requires.shelf c.requires.formed
    (c.set_lone.ensures.set c.if-set_lone.true) c.set_lone.ensures.names c.set_lone.ensures.lie (c.set_lone.ensures.agree c.if-set_lone.true)).1

pub change_any-requires-clause-shelf : goal.change_any-requires-clause-shelf
change_any-requires-clause-shelf g c = λ _ _.
    (same_shelf c.args.cells.now c.args.arrays.now c.set_lone.new.arrays c.requires.shelf (c.set_lone.ensures.left c.if-set_lone.false)).1

pub change_any-requires-clause-formed : goal.change_any-requires-clause-formed
change_any-requires-clause-formed g c = λ _ _.
    let same = (same_shelf c.args.cells.now c.args.arrays.now c.set_lone.new.arrays c.requires.shelf (c.set_lone.ensures.left c.if-set_lone.false)).0 in
    subst (λ (s : Cells). IsWellFormed (apply c.args.list.now s)) (sym same) c.requires.formed

pub returns-clause-ok : goal.returns-clause-ok
returns-clause-ok g c =
    let same = (same_shelf c.args.cells.now c.args.arrays.now c.set_lone.new.arrays c.requires.shelf (c.set_lone.ensures.left c.if-set_lone.false)).0 in
    rw (← same) c.change_any.ensures.ok

pub returns-clause-err : goal.returns-clause-err
returns-clause-err g c =
    let same = (same_shelf c.args.cells.now c.args.arrays.now c.set_lone.new.arrays c.requires.shelf (c.set_lone.ensures.left c.if-set_lone.false)).0 in
    rw (← same) c.change_any.ensures.err
