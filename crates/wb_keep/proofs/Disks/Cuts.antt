-- A cut is noted.
use Rattle.std.proofs.Common.{◌≡◌, inl, inr, ℕ, ◌≤◌, Bool, true, false, List, ◌∷◌, length, take, refl, sym, ◌∙◌, ap, arith}
use Rattle.std.proofs.lemmas.List.{take_all, length-take-le}
use Rattle.wb_keep.specs.Disk.Device.{Cut}
use Rattle.wb_keep.specs.Disk.Calls.{Call, cut_to, seen_after, MayLeave}

-- what a crash leaves after it, it left before or a cut makes of that
pub cut_follows : (len : ℕ) (done : Bool) (calls : List Call) → len ≤ length (seen_after calls) → (c : List ℕ) → MayLeave (cut_to len done ∷ calls) c → (d : List ℕ) × MayLeave calls d × Cut len d c
cut_follows len true calls le c (inl now) =
    let old = seen_after calls in
    let size : length c ≡ len = ap length now ∙ length-take-le len old le in
    (old, inl refl, record { no_shorter = omega (arith, size); front = ap (λ (n : ℕ). take n old) size ∙ sym now })
cut_follows len false calls le c (inl now) =
    let size : length c ≡ length (seen_after calls) = ap length now in
    (seen_after calls, inl refl, record { no_shorter = omega (arith, size, le); front = ap (λ (n : ℕ). take n (seen_after calls)) size ∙ take_all _ _ (omega arith) ∙ sym now })
cut_follows len true calls le c (inr (d, reached, cut)) = (d, inr reached, cut)
cut_follows len false calls le c (inr (d, reached, cut)) = (d, inr reached, cut)
