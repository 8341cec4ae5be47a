use Rattle.std.proofs.Common.{◌≡◌, ◌&&◌, List, map, refl, sym, ap, ◌∙◌, subst, Option, Some, is_some}
use Rattle.std.specs.FinMap.{empty}
use Rattle.std.specs.List.{list_all}
use Rattle.std.specs.Prelude.{IfSome}
use Rattle.wb_cells.specs.Cells.{Stored, state_of, Contents}
use Rattle.wb_text.specs.Said.{Line, line_of}
use Rattle.wb_text.specs.FromLines.Told.{is_sound, cells_put, stored_put}
use Rattle.wb_text.proofs.FromLines.ComingBack.{not_unsound, not_twice, comes_back}
use Rattle.wb_reading.proofs.Agreeing.{made_parts}
use Rattle.wb_reading.proofs.workbook.rebuilding.rebuild.Goals as goal

pub returns-in_default-clause-back : goal.returns-in_default-clause-back
returns-in_default-clause-back c = λ w well e. not_twice (map line_of c.args.lines.now) w e (sym c.in_ok-places.ensures.distinct ∙ ap is_some c.in_default.is)

pub returns-in_default-clause-sound : goal.returns-in_default-clause-sound
returns-in_default-clause-sound c =
    let ls : List Line = map line_of c.args.lines.now in
    sym (ap (λ b. b && list_all (is_sound ls) ls) (sym c.in_ok-places.ensures.distinct ∙ ap is_some c.in_default.is))

pub returns-in_default-2-clause-back : goal.returns-in_default-2-clause-back
returns-in_default-2-clause-back c = λ w well e. not_unsound (map line_of c.args.lines.now) w well e
    (sym c.in_ok-cells.ensures.sound ∙ ap is_some c.in_default-2.is)

pub returns-in_default-2-clause-sound : goal.returns-in_default-2-clause-sound
returns-in_default-2-clause-sound c =
    let ls : List Line = map line_of c.args.lines.now in
    sym (ap (λ b. b && list_all (is_sound ls) ls) (sym c.in_ok-places.ensures.distinct ∙ ap is_some c.in-Some.is) ∙
    (sym c.in_ok-cells.ensures.sound ∙ ap is_some c.in_default-2.is))

pub arrays_told-requires-clause-sound : goal.arrays_told-requires-clause-sound
arrays_told-requires-clause-sound c = sym c.in_ok-cells.ensures.sound ∙ ap is_some c.in-Some-2.is

pub of_parts-requires : goal.of_parts-requires
of_parts-requires c =
    let ls = map line_of c.args.lines.now in (
      cells_put ls ls empty,
      made_parts ls (sym c.in_ok-cells.ensures.sound ∙ ap is_some c.in-Some-2.is) c.lines_validity.ensures
          (sym c.in_ok-places.ensures.distinct ∙ ap is_some c.in-Some.is) c.in-Some-2.cells c.in_ok-arrays.arrays
          (subst (λ (r : Option Stored). IfSome r (λ m. state_of m ≡ stored_put ls ls empty)) c.in-Some-2.is c.in_ok-cells.ensures.cells)
          c.in_ok-arrays.ensures,
    )

pub returns-clause-back : goal.returns-clause-back
returns-clause-back c = λ w well e.
    let ls = map line_of c.args.lines.now in
    let distinct = sym c.in_ok-places.ensures.distinct ∙ ap is_some c.in-Some.is in
    let parts = made_parts ls (sym c.in_ok-cells.ensures.sound ∙ ap is_some c.in-Some-2.is) c.lines_validity.ensures distinct c.in-Some-2.cells
    c.in_ok-arrays.arrays
    (subst (λ (r : Option Stored). IfSome r (λ m. state_of m ≡ stored_put ls ls empty)) c.in-Some-2.is c.in_ok-cells.ensures.cells)
    c.in_ok-arrays.ensures in
    ap (λ (b : Contents). Some b.cells) (c.of_parts.ensures (cells_put ls ls empty) parts)
    ∙ ap (λ s. Some s) (comes_back ls (cells_put ls ls empty) w distinct refl well e)

pub returns-clause-sound : goal.returns-clause-sound
returns-clause-sound c =
    let ls : List Line = map line_of c.args.lines.now in
    sym (ap (λ b. b && list_all (is_sound ls) ls) (sym c.in_ok-places.ensures.distinct ∙ ap is_some c.in-Some.is) ∙
    (sym c.in_ok-cells.ensures.sound ∙ ap is_some c.in-Some-2.is))

pub returns-clause-cells : goal.returns-clause-cells
returns-clause-cells c =
    let ls = map line_of c.args.lines.now in
    let parts = made_parts ls (sym c.in_ok-cells.ensures.sound ∙ ap is_some c.in-Some-2.is) c.lines_validity.ensures
    (sym c.in_ok-places.ensures.distinct ∙ ap is_some c.in-Some.is) c.in-Some-2.cells c.in_ok-arrays.arrays
    (subst (λ (r : Option Stored). IfSome r (λ m. state_of m ≡ stored_put ls ls empty)) c.in-Some-2.is c.in_ok-cells.ensures.cells)
    c.in_ok-arrays.ensures in
    ap (λ (b : Contents). b.cells) (c.of_parts.ensures (cells_put ls ls empty) parts)
