use Rattle.std.proofs.Common.{ℤ, List}
use Rattle.wb_cells.specs.declared.values.index.Index.{Index}
use Rattle.wb_cells.specs.Cells.{Name}
use Rattle.wb_cells.specs.Readers as readers
use Rattle.selective_undo.specs.Edit.{write}
use Rattle.wb_edit.specs.declared.operation.Operation.{Operation}
use Rattle.wb_edit.specs.Commands.{number_cells}
use Rattle.wb_edit.specs.Elements.{elements, results, results_within, all_within}
use Rattle.wb_edit.specs.Trees.{Tree}
use Rattle.wb_edit.proofs.Attempts.{goes_on}
use Rattle.wb_edit.proofs.Elements.{gives_elements}
use Rattle.wb_edit.proofs.Numbered.{concludes}
use Rattle.wb_edit.proofs.commands.all.plan_all_results.Goals as goal

pub returns : goal.returns
returns c =
    let s = c.args.book.now.cells in
    let a : Name = c.args.array in
    let b : Name = c.args.other in
    let how : Operation = c.args.how.now in
    let xs : List (Index × ℤ) = readers.elements s a in
    let ys : List (Index × ℤ) = readers.elements s b in
    let rest : List (Index × ℤ) → List (Index × ℤ) → Tree = λ xs ys. results_within how xs ys (λ zs. write (number_cells a zs)) in
    let rs = c.args.footprint.now in
    let ss = c.look_at_elements.new.footprint in
    let us = c.look_at_elements-2.new.footprint in
    let r = c.all_changes.result in
    goes_on (elements a) s rs ss (λ xs. elements b (rest xs)) xs r us (gives_elements s a rs ss c.in_ok-look_at_elements.ensures.read) (
    goes_on (elements b) s ss us (rest xs) ys r us (gives_elements s b ss us c.in_ok-look_at_elements-2.ensures.read) (
    concludes s us a (all_within (results how xs ys)) r c.all_changes.ensures))
