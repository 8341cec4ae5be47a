use Rattle.std.proofs.Common.{ℕ, Bool}
use Rattle.std.specs.List.{list_any}
use Rattle.selective_undo.specs.declared.Change.{Change}
use Rattle.wb_cells.specs.declared.cells.cell.Cell.{Cell}
use Rattle.wb_cells.specs.declared.cells.pattern.Pattern.TheVariants.{One}
use Rattle.wb_cells.specs.declared.cells.value.Value.{Value}
use Rattle.wb_cells.specs.Reads.{patterns_of}
use Rattle.wb_footprints.specs.Places.{own, place_of}
use Rattle.wb_footprints.specs.Footprints.{touched_by, touched_under}
use Rattle.wb_footprints.proofs.AtPoints.{joined_least}
use Rattle.wb_footprints.proofs.Meeting.{any_map, least_like}
use Rattle.wb_footprints.proofs.foot_index.FootIndex.first_to_touch_cells.Goals as goal

pub returns : goal.returns
returns c = λ footprints h.
    let xs = c.args.cells.now in
    let met : Change Cell Value → ℕ → Bool = λ x n. touched_by (footprints n) (own x.cell) in
    least_like (λ n. list_any (λ x. met x n) xs) (λ n. touched_under (footprints n) (patterns_of xs)) c.args.after c.earlier.result
    (λ n. any_map (λ p. touched_by (footprints n) (place_of p)) (λ x. One x.cell) xs)
    (joined_least met _ _ xs c.parts-first.ensures c.args.after c.earlier.result
    (c.earlier.ensures.least _ _ c.args.after (c.touched_first.ensures footprints h) (c.touched_in_runs.ensures footprints h)))
