use Rattle.std.proofs.Common.{ℕ, Bool, Some, ◌||◌, refl, sym, ap, ◌∙◌}
use Rattle.std.specs.List.{list_any}
use Rattle.wb_cells.specs.declared.values.index.Index.{Index}
use Rattle.wb_cells.specs.Runs.{cell_of}
use Rattle.wb_footprints.specs.Places.{own, place_marked}
use Rattle.wb_footprints.specs.Footprints.{met_by}
use Rattle.wb_footprints.proofs.Meeting.{any_like, any_or, least_like, met_marked, met_alone}
use Rattle.wb_footprints.proofs.RunPlaces.{always}
use Rattle.wb_footprints.proofs.foot_index.FootIndex.met_together.Goals as goal

pub returns-in-Some-clause-least : goal.returns-in-Some-clause-least
returns-in-Some-clause-least c = λ footprints h.
    let m = c.args.self.now in
    let row = c.args.run.now.row in
    let ps = c.args.run.now.indices in
    let t : Index → ℕ → Bool = λ p n. place_marked m.touched (own (cell_of row p)) n in
    let r : Index → ℕ → Bool = λ p n. place_marked m.read (own (cell_of row p)) n in
    let f : ℕ → Bool = place_marked m.read c.in-Some.family in
    least_like (λ n. (list_any (λ p. t p n) ps || list_any (λ p. r p n) ps) || f n) (λ n. list_any (λ p. met_by (footprints n) (cell_of row p)) ps)
    c.args.after c.earlier.result
    (λ n. any_like (λ p. met_by (footprints n) (cell_of row p)) (λ p. (t p n || r p n) || f n) ps
    (λ p. met_marked m footprints h n (cell_of row p) (own (cell_of row p)) (Some c.in-Some.family) refl (sym c.in-Some.is ∙ c.family_of.ensures p))
    ∙ any_or (λ p. t p n || r p n) (λ p. f n) ps
    ∙ ap (λ b. b || list_any (λ p. f n) ps) (any_or (λ p. t p n) (λ p. r p n) ps)
    ∙ ap (λ b. (list_any (λ p. t p n) ps || list_any (λ p. r p n) ps) || b) (always (f n) ps c.requires))
    (c.earlier.ensures.least (λ n. list_any (λ p. t p n) ps || list_any (λ p. r p n) ps) f c.args.after
    (c.earlier-first.ensures.least (λ n. list_any (λ p. t p n) ps) (λ n. list_any (λ p. r p n) ps) c.args.after c.least_in-touched.ensures c.least_in.ensures)
    c.least_after.ensures)

pub returns-in-None-clause-least : goal.returns-in-None-clause-least
returns-in-None-clause-least c = λ footprints h.
    let m = c.args.self.now in
    let row = c.args.run.now.row in
    let ps = c.args.run.now.indices in
    let t : Index → ℕ → Bool = λ p n. place_marked m.touched (own (cell_of row p)) n in
    let r : Index → ℕ → Bool = λ p n. place_marked m.read (own (cell_of row p)) n in
    least_like (λ n. list_any (λ p. t p n) ps || list_any (λ p. r p n) ps) (λ n. list_any (λ p. met_by (footprints n) (cell_of row p)) ps)
    c.args.after c.earlier-first.result
    (λ n. any_like (λ p. met_by (footprints n) (cell_of row p)) (λ p. t p n || r p n) ps
    (λ p. met_alone m footprints h n (cell_of row p) (own (cell_of row p)) refl (sym c.in-None.is ∙ c.family_of.ensures p))
    ∙ any_or (λ p. t p n) (λ p. r p n) ps)
    (c.earlier-first.ensures.least (λ n. list_any (λ p. t p n) ps) (λ n. list_any (λ p. r p n) ps) c.args.after c.least_in-touched.ensures c.least_in.ensures)
