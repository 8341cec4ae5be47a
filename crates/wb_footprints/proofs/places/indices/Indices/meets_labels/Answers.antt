use Rattle.std.proofs.Common.{map, sym, ap, ◌∙◌}
use Rattle.std.specs.List.{list_any}
use Rattle.wb_cells.specs.declared.values.index.Index.TheVariants.{Text}
use Rattle.wb_footprints.specs.HeldIndices.{indices_of}
use Rattle.wb_footprints.specs.Indices.{in_indices}
use Rattle.wb_footprints.proofs.InIndices.{texts_meet, texts_apart}
use Rattle.wb_footprints.proofs.places.indices.Indices.meets_labels.Goals as goal

pub returns-in-Labels : goal.returns-in-Labels
returns-in-Labels c = c.meets.ensures ∙ texts_meet c.in-Labels.own c.args.labels.now
    ∙ ap (λ xs. list_any (in_indices xs) (map Text c.args.labels.now)) (sym (ap indices_of c.in-Labels.is) ∙ c.self.view_is)

pub returns-in-Points : goal.returns-in-Points
returns-in-Points c = texts_apart c.in-Points.field-0 c.args.labels.now
    ∙ ap (λ xs. list_any (in_indices xs) (map Text c.args.labels.now)) (sym (ap indices_of c.in-Points.is) ∙ c.self.view_is)
