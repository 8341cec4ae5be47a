use Rattle.std.proofs.Common.{sym, ℕ, Bool, ◌≤◌, length, arith}
use Rattle.std.proofs.lemmas.Option.{get_or_from_slice_get}
use Rattle.wb_footprints.specs.Marks.{marked}
use Rattle.wb_footprints.specs.Points.{Coordinates, point_cmp}
use Rattle.wb_footprints.proofs.InBlocks.{points_total, points_exact}
use Rattle.wb_footprints.proofs.Joining.{none_between, none_after}
use Rattle.wb_footprints.proofs.marks.point_marks.next_other.Goals as goal

pub returns-in-None-clause-none : goal.returns-in-None-clause-none
returns-in-None-clause-none c =
    let f : Coordinates → ℕ → Bool = λ q n. marked point_cmp c.args.marks.now q n in
    let ps = c.args.points.now in
    let is = sym (get_or_from_slice_get c.args.points.now c.args.at c.point-point.result c.point-point.result c.point-point.ensures) in
    let high : c.len-count.result ≤ length ps = omega (arith, c.len-count.ensures.value) in
    none_after point_cmp points_total points_exact f c.args.after ps c.args.at c.len-count.result c.point-point.result c.len-count.ensures.ascending c.requires is high
    c.in-None.ensures.none

pub returns-in-Some-clause-none : goal.returns-in-Some-clause-none
returns-in-Some-clause-none c =
    let f : Coordinates → ℕ → Bool = λ q n. marked point_cmp c.args.marks.now q n in
    let mark = c.in-Some.mark in
    let is = sym (get_or_from_slice_get c.args.points.now c.args.at c.point-point.result c.point-point.result c.point-point.ensures) in
    none_between point_cmp points_total points_exact f c.args.after c.args.points.now c.args.at c.place_from.result c.point-point.result mark.0 mark.1 c.len-count.ensures.ascending
    c.requires is c.place_from.ensures.within c.in-Some.ensures.first c.place_from.ensures.below
