use Rattle.std.proofs.Common.{◌≡◌, ℕ, Bool, true, Option, Some, sym, ap, ◌∙◌}
use Rattle.std.proofs.lemmas.Result.{on_ok_weaker, on_err_weaker}
use Rattle.selective_undo.specs.declared.Change.{Change}
use Rattle.wb_cells.specs.declared.cells.cell.Cell.{Cell}
use Rattle.wb_cells.specs.declared.cells.value.Value.{Value}
use Rattle.wb_cells.specs.Runs.{in_first}
use Rattle.wb_footprints.specs.declared.places.marking.Marking.{Marking}
use Rattle.wb_footprints.specs.declared.places.place.Place.{Place}
use Rattle.wb_footprints.specs.Relation.{Stays}
use Rattle.wb_footprints.specs.Places.{place_marked}
use Rattle.wb_footprints.specs.Footprints.{at_cell, marked_at}
use Rattle.wb_footprints.proofs.ReadPlaces.{or_false}
use Rattle.wb_footprints.proofs.Setting.{like, sets_none}
use Rattle.wb_footprints.proofs.marks.cell_lists.mark_first.Goals as goal

-- the places of one cell are those of the list of it alone
alone : (by : Marking) (first : Option (Change Cell Value)) (x : Change Cell Value) (d : Cell) → first ≡ Some x → d ≡ x.cell → (q : Place) →
    at_cell by d q ≡ marked_at by (in_first first) q
alone by first x d is at q = ap (λ (e : Cell). at_cell by e q) at ∙ rw is (sym (or_false (at_cell by x.cell q)))

stays_like : (o n : Place → ℕ → Bool) (h g : Place → Bool) (number : ℕ) → ((q : Place) → h q ≡ g q) → Stays o n h number → Stays o n g number
stays_like o n h g number e p = record { at = λ q k out. p.at q k (rw (e q) out) }

pub returns-in-None-clause-ok : goal.returns-in-None-clause-ok
returns-in-None-clause-ok c = rw c.in-None.is (sets_none (place_marked c.args.marks.now) c.args.number true)

pub returns-in-Some-clause-ok : goal.returns-in-Some-clause-ok
returns-in-Some-clause-ok c =
    let by = c.args.marking in
    on_ok_weaker c.mark.result (λ h. like (place_marked c.args.marks.now) (place_marked c.mark.new.marks) (at_cell by c.as_cell.result.now)
    (marked_at by (in_first c.args.first.now)) c.args.number true
    (alone by c.args.first.now c.in-Some.x c.as_cell.result.now c.in-Some.is c.as_cell.ensures) h) c.mark.ensures.ok

pub returns-in-Some-clause-err : goal.returns-in-Some-clause-err
returns-in-Some-clause-err c =
    let by = c.args.marking in
    on_err_weaker c.mark.result (λ h. stays_like (place_marked c.args.marks.now) (place_marked c.mark.new.marks) (at_cell by c.as_cell.result.now)
    (marked_at by (in_first c.args.first.now)) c.args.number
    (alone by c.args.first.now c.in-Some.x c.as_cell.result.now c.in-Some.is c.as_cell.ensures) h) c.mark.ensures.err
