use Rattle.std.proofs.Common.{map, sym, ap, ◌∙◌}
use Rattle.wb_cells.specs.declared.values.index.Index.TheVariants.{Point, Text}
use Rattle.wb_cells.specs.Runs.{changes_in, packed_changes, labelled_changes, rectangle_entries, numbered_entries}
use Rattle.wb_footprints.specs.Footprints.{cells_of}
use Rattle.wb_footprints.proofs.Rows.{packed_cells, labelled_cells}
use Rattle.wb_footprints.proofs.places.runs.row_of.Goals as goal

pub returns-in-Rank1 : goal.returns-in-Rank1
returns-in-Rank1 c =
    let p = c.in-Rank1.line in
    let es = p.changes.items in (
      map Point (map (λ e. e.0) es),
      ap (λ f. cells_of (changes_in f)) c.in-Rank1.is ∙ ap (λ x. cells_of (packed_changes x es)) (sym c.row.ensures) ∙ packed_cells c.row.result.now es,
    )

pub returns-in-Rank2 : goal.returns-in-Rank2
returns-in-Rank2 c =
    let p = c.in-Rank2.plane in
    let es = p.changes.items in (
      map Point (map (λ e. e.0) es),
      ap (λ f. cells_of (changes_in f)) c.in-Rank2.is ∙ ap (λ x. cells_of (packed_changes x es)) (sym c.row-in-Rank2.ensures) ∙ packed_cells c.row-in-Rank2.result.now es,
    )

pub returns-in-Rank3 : goal.returns-in-Rank3
returns-in-Rank3 c =
    let p = c.in-Rank3.solid in
    let es = p.changes.items in (
      map Point (map (λ e. e.0) es),
      ap (λ f. cells_of (changes_in f)) c.in-Rank3.is ∙ ap (λ x. cells_of (packed_changes x es)) (sym c.row-in-Rank3.ensures) ∙ packed_cells c.row-in-Rank3.result.now es,
    )

pub returns-in-Rectangle : goal.returns-in-Rectangle
returns-in-Rectangle c =
    let r = c.in-Rectangle.rectangle in
    let es = rectangle_entries r.ranges r.number in (
      map Point (map (λ e. e.0) es),
      ap (λ f. cells_of (changes_in f)) c.in-Rectangle.is ∙ ap (λ x. cells_of (packed_changes x es)) (sym c.row-in-Rectangle.ensures) ∙ packed_cells c.row-in-Rectangle.result.now es,
    )

pub returns-in-Numbers : goal.returns-in-Numbers
returns-in-Numbers c =
    let r = c.in-Numbers.rectangle in
    let es = numbered_entries r.ranges r.numbers.items in (
      map Point (map (λ e. e.0) es),
      ap (λ f. cells_of (changes_in f)) c.in-Numbers.is ∙ ap (λ x. cells_of (packed_changes x es)) (sym c.row-in-Numbers.ensures) ∙ packed_cells c.row-in-Numbers.result.now es,
    )

pub returns-in-Labels : goal.returns-in-Labels
returns-in-Labels c =
    let l = c.in-Labels.labels in
    let es = l.1 in (
      map Text (map (λ e. e.0) es),
      ap (λ f. cells_of (changes_in f)) c.in-Labels.is ∙ ap (λ x. cells_of (labelled_changes x es)) (sym c.row-in-Labels.ensures) ∙ labelled_cells c.row-in-Labels.result.now es,
    )
