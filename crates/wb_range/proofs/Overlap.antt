-- what two ranges of stride 1 have in common
use Rattle.std.proofs.Common.{◌≡◌, ◌↔◌, ℕ, ◌-◌, ◌<◌, ◌≤◌, min, ℤ, pos, ◌+ℤ◌, ◌-ℤ◌, ◌<ℤ◌, ◌≤ℤ◌, unsigned_abs, List, sym, subst, arith}
use Rattle.std.proofs.lemmas.Int.{ints}
use Rattle.std.specs.List.{Contains}
use Rattle.wb_range.specs.Steps.{steps}
use Rattle.wb_range.specs.Intersection.{AreCommonPlaces}
use Rattle.wb_range.proofs.Closed.{Contains-steps}
use Rattle.wb_range.proofs.Meet.{index_is}

-- The integers from b on are reached at place f of those from a on, and passed at place e.
pub overlap_places : (a b : ℤ) (n m f e : ℕ) (xs ys : List ℤ) → steps a (pos 1) n ≡ xs → steps b (pos 1) m ≡ ys →
    ((q : ℕ) → (b ≤ℤ (a +ℤ pos q)) ↔ (f ≤ q)) → ((q : ℕ) → ((a +ℤ pos q) <ℤ (b +ℤ pos m)) ↔ (q < e)) →
    AreCommonPlaces xs ys f 1 (min e n - f) n
overlap_places a b n m f e xs ys ex ey reached before = record {
  places = λ q i h g.
      let at = index_is a (pos 1) i n q xs ex g in (
        λ there.
            let k = (Contains-steps b (pos 1) i m).0 (subst (λ (zs : List ℤ). Contains zs i) (sym ey) there) in
            let low : f ≤ q = (reached q).0 (omega (arith, ints, at.1, k.2)) in
            let high : q < e = (before q).0 (omega (arith, ints, at.1, k.2, k.1)) in
            (q - f, omega (arith, low, high, h), omega (arith, low)),
        λ k.
            let low : b ≤ℤ (a +ℤ pos q) = (reached q).1 (omega (arith, k.2)) in
            let high : (a +ℤ pos q) <ℤ (b +ℤ pos m) = (before q).1 (omega (arith, k.2, k.1)) in
            let j : ℕ = unsigned_abs ((a +ℤ pos q) -ℤ b) in
            subst (λ (zs : List ℤ). Contains zs i) ey
            ((Contains-steps b (pos 1) i m).1 (j, omega (arith, ints, low, high), omega (arith, ints, low, at.1))),
      );
  apart = omega arith;
  last = λ h. omega (arith, h);
}
