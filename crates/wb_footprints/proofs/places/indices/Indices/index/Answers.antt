use Rattle.std.proofs.Common.{ℕ, List, Some, ◌<◌, length, option_map, sym, ap, subst, ◌∙◌}
use Rattle.std.specs.List.{slice_get}
use Rattle.std.proofs.lemmas.List.{length-map}
use Rattle.std.proofs.lemmas.Option.{slice_get-map}
use Rattle.wb_cells.specs.declared.values.index.Index.{Index}
use Rattle.wb_cells.specs.declared.values.index.Index.TheVariants.{Point, Text}
use Rattle.wb_footprints.specs.HeldIndices.{indices_of}
use Rattle.wb_footprints.proofs.places.indices.Indices.index.Goals as goal

pub point-requires : goal.point-requires
point-requires c = subst (λ (n : ℕ). c.args.at < n) (length-map c.in-Points.points Point)
    (subst (λ (xs : List Index). c.args.at < length xs) (sym c.self.view_is ∙ ap indices_of c.in-Points.is) c.requires)

pub label-requires : goal.label-requires
label-requires c = subst (λ (n : ℕ). c.args.at < n) (length-map c.in-Labels.labels Text)
    (subst (λ (xs : List Index). c.args.at < length xs) (sym c.self.view_is ∙ ap indices_of c.in-Labels.is) c.requires)

pub returns-in-Points : goal.returns-in-Points
returns-in-Points c =
    ap (λ xs. slice_get xs c.args.at) (sym c.self.view_is ∙ ap indices_of c.in-Points.is)
    ∙ slice_get-map Point c.in-Points.points c.args.at
    ∙ ap (option_map Point) c.point.ensures
    ∙ ap Some (sym c.new.ensures)

pub returns-in-Labels : goal.returns-in-Labels
returns-in-Labels c =
    ap (λ xs. slice_get xs c.args.at) (sym c.self.view_is ∙ ap indices_of c.in-Labels.is)
    ∙ slice_get-map Text c.in-Labels.labels c.args.at
    ∙ ap (option_map Text) c.label.ensures
    ∙ ap Some (sym c.new-in-Labels.ensures)
