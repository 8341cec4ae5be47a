use Rattle.std.proofs.Common.{◌≡◌, ◌||◌, true, false, get_or, sym, ap, ◌∙◌, arith}
use Rattle.std.proofs.lemmas.List.Folds.{list_any_more, list_any_at}
use Rattle.wb_footprints.specs.Points.{in_points}
use Rattle.wb_footprints.proofs.places.points.Points.has_one.Goals as goal

pub returns-then-contains : goal.returns-then-contains
returns-then-contains c =
    let ps = c.args.self.now in
    let os = c.args.others.now in
    let i = c.loop-point.point-index in
    let p = c.point-item.result in
    let here : in_points ps (get_or os i p) ≡ true = ap (in_points ps) (sym c.point-item.is) ∙ sym c.contains.ensures ∙ c.if-contains.true in
    sym (list_any_at (in_points ps) os i p (omega arith) here)

pub loop-point-preserved : goal.loop-point-preserved
loop-point-preserved c =
    let ps = c.args.self.now in
    let os = c.args.others.now in
    let i = c.loop-point.point-index in
    let p = c.point-item.result in
    let not_here : in_points ps (get_or os i p) ≡ false = ap (in_points ps) (sym c.point-item.is) ∙ sym c.contains.ensures ∙ c.if-contains.false in
    list_any_more (in_points ps) os i p (omega arith) ∙ ap (λ b. b || in_points ps (get_or os i p)) c.loop-point.invariant ∙ not_here
