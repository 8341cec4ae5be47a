use Rattle.std.proofs.Common.{length, sym, ap, ◌∙◌}
use Rattle.wb_cells.specs.declared.values.index.Index.TheVariants.{Point, Text}
use Rattle.wb_footprints.specs.HeldIndices.{indices_of}
use Rattle.std.proofs.lemmas.List.{length-map}
use Rattle.wb_footprints.proofs.places.indices.Indices.len.Goals as goal

pub returns-in-Points : goal.returns-in-Points
returns-in-Points c = c.len.ensures.value ∙ sym (length-map c.in-Points.points Point) ∙ ap length (sym (ap indices_of c.in-Points.is) ∙ c.self.view_is)

pub returns-in-Labels : goal.returns-in-Labels
returns-in-Labels c = c.len-in-Labels.ensures.value ∙ sym (length-map c.in-Labels.labels Text) ∙ ap length (sym (ap indices_of c.in-Labels.is) ∙ c.self.view_is)
