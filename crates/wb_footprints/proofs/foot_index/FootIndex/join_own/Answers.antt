use Rattle.std.proofs.Common.{◌||◌, sym, ap}
use Rattle.std.proofs.lemmas.Result.{on_ok_weaker}
use Rattle.wb_footprints.specs.Places.{place_marked}
use Rattle.wb_footprints.specs.Footprints.{marked_own}
use Rattle.wb_footprints.proofs.Joining.{then_joined, joined_like}
use Rattle.wb_footprints.proofs.foot_index.FootIndex.join_own.Goals as goal

pub returns : goal.returns
returns c =
    let m = c.args.self.now in
    let q = c.own-place.result in
    on_ok_weaker c.join_after-2.result
    (λ h. joined_like c.args.waiting.now c.join_after-2.new.waiting (λ n. place_marked m.touched q n || place_marked m.read q n)
    (marked_own m c.args.cell.now) c.args.after (λ n. ap (λ p. place_marked m.touched p n || place_marked m.read p n) (sym c.own-place.ensures))
    (then_joined c.args.waiting.now c.join_after.new.waiting c.join_after-2.new.waiting (place_marked m.touched q) (place_marked m.read q) c.args.after
    c.in_ok-join_after.ensures h))
    c.join_after-2.ensures
