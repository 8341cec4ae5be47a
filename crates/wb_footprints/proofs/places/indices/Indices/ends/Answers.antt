use Rattle.std.proofs.Common.{◌≡◌, ◌≤◌, true, ℕ, List, ◌<◌, length, sym, ap, subst, ◌∙◌}
use Rattle.std.proofs.lemmas.List.{length-map}
use Rattle.wb_cells.specs.declared.values.index.Index.{Index}
use Rattle.wb_cells.specs.declared.values.index.Index.TheVariants.{Point, Text}
use Rattle.wb_footprints.specs.HeldIndices.{indices_of}
use Rattle.wb_footprints.specs.Indices.{in_indices}
use Rattle.wb_footprints.specs.Keys.{index_key}
use Rattle.wb_footprints.proofs.InIndices.{points_end, texts_end}
use Rattle.wb_footprints.proofs.places.indices.Indices.ends.Goals as goal

pub ends-requires : goal.ends-requires
ends-requires c = subst (λ (n : ℕ). 0 < n) (length-map c.in-Points.points Point)
    (subst (λ (xs : List Index). 0 < length xs) (sym c.self.view_is ∙ ap indices_of c.in-Points.is) c.requires)

pub ends-requires-in-Labels : goal.ends-requires-in-Labels
ends-requires-in-Labels c = subst (λ (n : ℕ). 0 < n) (length-map c.in-Labels.labels Text)
    (subst (λ (xs : List Index). 0 < length xs) (sym c.self.view_is ∙ ap indices_of c.in-Labels.is) c.requires)

pub returns-in-Points-clause-within : goal.returns-in-Points-clause-within
returns-in-Points-clause-within c = subst (λ (xs : List Index). (i : Index) → in_indices xs i ≡ true → (c.ends.result.0 ≤ index_key i) × (index_key i ≤ c.ends.result.1))
    (sym (ap indices_of c.in-Points.is) ∙ c.self.view_is)
    (points_end c.in-Points.points c.ends.result.0 c.ends.result.1 c.ends.ensures.within)

pub returns-in-Labels-clause-within : goal.returns-in-Labels-clause-within
returns-in-Labels-clause-within c = subst (λ (xs : List Index). (i : Index) → in_indices xs i ≡ true →
    (c.ends-in-Labels.result.0 ≤ index_key i) × (index_key i ≤ c.ends-in-Labels.result.1))
    (sym (ap indices_of c.in-Labels.is) ∙ c.self.view_is)
    (texts_end c.in-Labels.labels c.ends-in-Labels.result.0 c.ends-in-Labels.result.1 c.ends-in-Labels.ensures.within)
