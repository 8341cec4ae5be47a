use Rattle.std.proofs.Common.{map, sym, ap, ◌∙◌}
use Rattle.wb_cells.specs.declared.values.index.Index.TheVariants.{Text}
use Rattle.wb_footprints.specs.HeldIndices.{indices_of}
use Rattle.wb_footprints.proofs.places.indices.Indices.are_labels.Goals as goal

pub returns-in-Labels : goal.returns-in-Labels
returns-in-Labels c = λ yes. ap (map Text) (c.is_same.ensures yes) ∙ sym (ap indices_of c.in-Labels.is) ∙ c.self.view_is
