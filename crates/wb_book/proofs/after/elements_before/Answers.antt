use Rattle.std.proofs.Common.{◌≡◌, Some, None, Option, sym, ap, ◌∙◌}
use Rattle.std.specs.Option.{option_and_then}
use Rattle.wb_cells.specs.declared.changes.rectangle.RectangleChanges.{RectangleChanges}
use Rattle.wb_cells.specs.Runs.{packed_changes, rectangle_entries}
use Rattle.wb_elements.specs.Entries.{element_at}
use Rattle.wb_book.specs.Joined.{element_in}
use Rattle.wb_book.specs.Kept.{Pieced, array_in}
use Rattle.wb_book.proofs.Told.{absent_told, known_told}
use Rattle.wb_book.proofs.after.elements_before.Goals as goal

pub returns-in-Some : goal.returns-in-Some
returns-in-Some c =
    let es = c.args.arrays.now.entries in
    let a = c.args.array.now in
    let p : Pieced = c.in-Some.elements.now in
    let found : array_in es a ≡ Some p = sym c.in-Some.ensures.value in
    known_told c.known_before.result (element_in es) a c.args.ranges.now p.0
    (λ i. ap (λ (o : Option Pieced). option_and_then (λ q. element_at q.0 i) o) found) c.known_before.ensures

pub returns-in-None : goal.returns-in-None
returns-in-None c = λ stored n.
    let es = c.args.arrays.now.entries in
    let a = c.args.array.now in
    let gone : array_in es a ≡ None = sym c.in-None.ensures.value in
    ap (λ (r : RectangleChanges). packed_changes r.row (rectangle_entries r.ranges r.number)) c.new.ensures
    ∙ absent_told stored (element_in es) c.args.ranges.now n a (λ i. ap (λ (o : Option Pieced). option_and_then (λ q. element_at q.0 i) o) gone)
