use Rattle.std.proofs.Common.{◌≡◌, ◌≤◌, ◌-◌, true, length, get_or, sym, ap, ◌∙◌, arith}
use Rattle.std.specs.List.{slice_get}
use Rattle.std.proofs.lemmas.Option.{get_or_from_slice_get}
use Rattle.wb_footprints.specs.Keys.{key_of}
use Rattle.wb_footprints.specs.Points.{point_cmp, in_points}
use Rattle.wb_footprints.proofs.InBlocks.{points_total, points_exact}
use Rattle.wb_footprints.proofs.InKeys.{first_key, last_key, key_rises, key_some, among}
use Rattle.wb_footprints.proofs.places.points.Points.ends.Goals as goal

pub returns-clause-within : goal.returns-clause-within
returns-clause-within c = λ p there.
    let ps = c.args.self.now in
    let a = c.point-first.result in
    let b = c.point-last.result in
    let low : get_or ps 0 a ≡ a = get_or_from_slice_get ps 0 a a c.point-first.ensures in
    let count = c.len.ensures.value in
    let high : get_or ps (length ps - 1) b ≡ b = get_or_from_slice_get ps (length ps - 1) b b (ap (λ n. slice_get ps (n - 1)) (sym count) ∙ c.point-last.ensures) in
    let from : key_of (get_or ps 0 a) ≤ key_of p = first_key point_cmp points_total points_exact key_of ps p a c.len.ensures.ascending (λ x y at. key_rises x y) there in
    let to : key_of p ≤ key_of (get_or ps (length ps - 1) b) = last_key point_cmp points_total points_exact key_of ps p b (length ps - 1) c.len.ensures.ascending
    (λ x y at. key_rises x y) (omega (arith, c.requires)) there in
    (omega (arith, from, ap key_of low, c.key_of.ensures), omega (arith, to, ap key_of high, c.key_of-2.ensures))

pub returns-clause-order : goal.returns-clause-order
returns-clause-order c =
    let ps = c.args.self.now in
    let a = c.point-first.result in
    let b = c.point-last.result in
    let low : get_or ps 0 a ≡ a = get_or_from_slice_get ps 0 a a c.point-first.ensures in
    let count = c.len.ensures.value in
    let high : get_or ps (length ps - 1) b ≡ b = get_or_from_slice_get ps (length ps - 1) b b (ap (λ n. slice_get ps (n - 1)) (sym count) ∙ c.point-last.ensures) in
    let there : in_points ps b ≡ true = among point_cmp points_total points_exact key_of ps (length ps - 1) b (omega (arith, c.requires)) high in
    let from : key_of (get_or ps 0 a) ≤ key_of b = first_key point_cmp points_total points_exact key_of ps b a c.len.ensures.ascending (λ x y at. key_rises x y) there in
    omega (arith, from, ap key_of low, c.key_of.ensures, c.key_of-2.ensures)

pub returns-clause-first : goal.returns-clause-first
returns-clause-first c = let some = key_some c.point-first.result in omega (arith, some, c.key_of.ensures)
