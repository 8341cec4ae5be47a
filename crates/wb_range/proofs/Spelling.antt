-- a range is spelled by its least index, its greatest index and its stride
use Rattle.std.proofs.Common.{◌≡◌, ◌≢◌, ℕ, zero, suc, ◌+◌, ◌-◌, ◌*◌, ◌%◌, ◌<◌, ◌≤◌, ℤ, pos, negsuc, [], ◌+ℤ◌, ◌-ℤ◌, ◌*ℤ◌, ◌≤ℤ◌, ◌<ℤ◌, List, None, length, refl}
use Rattle.std.proofs.Common.{sym, ap, ap₂, ◌∙◌, subst, arith}
use Rattle.std.proofs.lemmas.Int.{ints, int_min_is, int_max_is}
use Rattle.std.proofs.Math.Nat.{mul-mod_left}
use Rattle.std.specs.List.{fold}
use Rattle.std.specs.Int.{int_min, int_max}
use Rattle.wb_range.specs.Canonical.{bounds_of, IsRange}
use Rattle.wb_range.specs.Fields.{IsCanonical}
use Rattle.wb_range.specs.Sequence.{or_zero, sequence, IsBound, IsWithinLimits}
use Rattle.wb_range.specs.Steps.{steps, stride_of}
use Rattle.wb_range.specs.declared.range.Range.TheInside.{Inside}
use Rattle.wb_range.proofs.Offset.{no_offset}
use Rattle.wb_range.proofs.Steps.{length-steps, stride_of-steps}
use Rattle.wb_range.proofs.Walk.{sequence-is}

least_up : (m a : ℤ) (t n : ℕ) → m ≤ℤ a → fold int_min m (steps a (pos t) n) ≡ m
least_up m a t zero h = refl
least_up m a t (suc n) h =
    let e : int_min m a ≡ m = omega (arith, ints, int_min_is m a) in
    ap (λ (z : ℤ). fold int_min z (steps (a +ℤ pos t) (pos t) n)) e ∙ least_up m (a +ℤ pos t) t n (omega (arith, ints))

greatest_up : (m : ℤ) (t n : ℕ) → fold int_max m (steps (m +ℤ pos t) (pos t) n) ≡ m +ℤ pos n *ℤ pos t
greatest_up m t zero = omega (arith, ints)
greatest_up m t (suc n) =
    let e : int_max m (m +ℤ pos t) ≡ m +ℤ pos t = omega (arith, ints, int_max_is m (m +ℤ pos t)) in
    let f : (m +ℤ pos t) +ℤ pos n *ℤ pos t ≡ m +ℤ pos (suc n) *ℤ pos t = omega (arith, ints) in
    ap (λ (z : ℤ). fold int_max z (steps ((m +ℤ pos t) +ℤ pos t) (pos t) n)) e ∙ greatest_up (m +ℤ pos t) t n ∙ f

greatest_down : (m a : ℤ) (t n : ℕ) → a ≤ℤ m → fold int_max m (steps a (negsuc t) n) ≡ m
greatest_down m a t zero h = refl
greatest_down m a t (suc n) h =
    let e : int_max m a ≡ m = omega (arith, ints, int_max_is m a) in
    ap (λ (z : ℤ). fold int_max z (steps (a +ℤ negsuc t) (negsuc t) n)) e ∙ greatest_down m (a +ℤ negsuc t) t n (omega (arith, ints))

least_down : (m : ℤ) (t n : ℕ) → fold int_min m (steps (m +ℤ negsuc t) (negsuc t) n) ≡ m +ℤ pos n *ℤ negsuc t
least_down m t zero = omega (arith, ints)
least_down m t (suc n) =
    let e : int_min m (m +ℤ negsuc t) ≡ m +ℤ negsuc t = omega (arith, ints, int_min_is m (m +ℤ negsuc t)) in
    let f : (m +ℤ negsuc t) +ℤ pos n *ℤ negsuc t ≡ m +ℤ pos (suc n) *ℤ negsuc t = omega (arith, ints) in
    ap (λ (z : ℤ). fold int_min z (steps ((m +ℤ negsuc t) +ℤ negsuc t) (negsuc t) n)) e ∙ least_down (m +ℤ negsuc t) t n ∙ f

no_rest : (t : ℕ) → 0 % suc t ≡ 0
no_rest t = let e : 0 * suc t ≡ 0 = omega arith in subst (λ (n : ℕ). n % suc t ≡ 0) e (mul-mod_left 0 (suc t))

sequence_up : (a : ℤ) (t n : ℕ) → sequence a (a +ℤ pos n *ℤ pos (suc t)) (pos (suc t)) None ≡ steps a (pos (suc t)) (suc n)
sequence_up a t n =
    let e : (a +ℤ pos n *ℤ pos (suc t)) -ℤ a +ℤ pos 1 ≡ pos (n * suc t + 1) = omega (arith, ints) in
    let k : or_zero ((a +ℤ pos n *ℤ pos (suc t)) -ℤ a +ℤ pos 1) ≡ n * suc t + 1 = ap or_zero e in
    sequence-is a (a +ℤ pos n *ℤ pos (suc t)) (pos (suc t)) None a a (n * suc t + 1) 0 (suc n) (suc t) (λ z. omega (arith, ints)) refl refl (sym k) refl
    (omega arith)
    (no_offset a (pos (suc t)) a 0 (suc t) refl (omega (arith, ints)) (no_rest t)) (omega arith) (omega arith)
    ∙ ap (λ (x : ℤ). steps x (pos (suc t)) (suc n)) (omega (arith, ints))

sequence_down : (a : ℤ) (t n : ℕ) → sequence (a +ℤ pos n *ℤ negsuc t) a (negsuc t) None ≡ steps a (negsuc t) (suc n)
sequence_down a t n =
    let e : a -ℤ (a +ℤ pos n *ℤ negsuc t) +ℤ pos 1 ≡ pos (n * suc t + 1) = omega (arith, ints) in
    let k : or_zero (a -ℤ (a +ℤ pos n *ℤ negsuc t) +ℤ pos 1) ≡ n * suc t + 1 = ap or_zero e in
    sequence-is (a +ℤ pos n *ℤ negsuc t) a (negsuc t) None a a (n * suc t + 1) 0 (suc n) (suc t) (λ z. omega (arith, ints)) refl refl (sym k) refl (omega arith)
    (no_offset a (negsuc t) a 0 (suc t) refl (omega (arith, ints)) (no_rest t)) (omega arith) (omega arith)
    ∙ ap (λ (x : ℤ). steps x (negsuc t) (suc n)) (omega (arith, ints))

-- what `bounds` answers
pub record AreBoundsOf (xs : List ℤ) (low high : ℤ) : Type 0 where
  pub value : (low, high) ≡ bounds_of xs
  pub spelled : sequence low high (stride_of xs) None ≡ xs
  pub within : IsWithinLimits low high (stride_of xs) None

spelled_by : (low high s : ℤ) (xs ys : List ℤ) → sequence low high s None ≡ ys → ys ≡ xs → s ≡ stride_of xs → (low, high) ≡ bounds_of ys → IsBound low →
    IsBound high → length ys ≤ 65536 → AreBoundsOf xs low high
spelled_by low high s xs ys e f g h l m few =
    let i : sequence low high (stride_of xs) None ≡ xs = ap (λ (z : ℤ). sequence low high z None) (sym g) ∙ e ∙ f in
    record {
      value = h ∙ ap bounds_of f;
      spelled = i;
      within = record { low_bound = l; high_bound = m; count = subst (λ (zs : List ℤ). length zs ≤ 65536) (f ∙ sym i) few };
    }

spelled_up : (a : ℤ) (t n : ℕ) (xs : List ℤ) → IsBound a → IsBound (a +ℤ pos n *ℤ pos (suc t)) → suc n ≤ 65536 → (suc n < 2 → pos (suc t) ≡ pos 1) →
    steps a (pos (suc t)) (suc n) ≡ xs → AreBoundsOf xs a (a +ℤ pos n *ℤ pos (suc t))
spelled_up a t n xs l h few short e =
    let v : (a, a +ℤ pos n *ℤ pos (suc t)) ≡ bounds_of (steps a (pos (suc t)) (suc n)) =
    ap₂ (λ (x y : ℤ). (x, y)) (sym (least_up a (a +ℤ pos (suc t)) (suc t) n (omega (arith, ints)))) (sym (greatest_up a (suc t) n)) in
    spelled_by a (a +ℤ pos n *ℤ pos (suc t)) (pos (suc t)) xs (steps a (pos (suc t)) (suc n)) (sequence_up a t n) e
    (stride_of-steps a (pos (suc t)) (suc n) short ∙ ap stride_of e) v l h (omega (arith, length-steps a (pos (suc t)) (suc n)))

spelled_down : (a : ℤ) (t n : ℕ) (xs : List ℤ) → IsBound a → IsBound (a +ℤ pos n *ℤ negsuc t) → suc n ≤ 65536 → (suc n < 2 → negsuc t ≡ pos 1) →
    steps a (negsuc t) (suc n) ≡ xs → AreBoundsOf xs (a +ℤ pos n *ℤ negsuc t) a
spelled_down a t n xs h l few short e =
    let v : (a +ℤ pos n *ℤ negsuc t, a) ≡ bounds_of (steps a (negsuc t) (suc n)) =
    ap₂ (λ (x y : ℤ). (x, y)) (sym (least_down a t n)) (sym (greatest_down a (a +ℤ negsuc t) t n (omega (arith, ints)))) in
    spelled_by (a +ℤ pos n *ℤ negsuc t) a (negsuc t) xs (steps a (negsuc t) (suc n)) (sequence_down a t n) e
    (stride_of-steps a (negsuc t) (suc n) short ∙ ap stride_of e) v l h (omega (arith, length-steps a (negsuc t) (suc n)))

up_by : (a s : ℤ) (n : ℕ) (xs : List ℤ) → s ≢ pos 0 → pos 0 ≤ℤ s → n ≢ 0 → IsBound a → IsBound (a +ℤ pos (n - 1) *ℤ s) → n ≤ 65536 → (n < 2 → s ≡ pos 1) →
    steps a s n ≡ xs → AreBoundsOf xs a (a +ℤ pos (n - 1) *ℤ s)
up_by a (pos zero) n xs nz up some l h few short e = absurd (nz refl)
up_by a (negsuc t) n xs nz up some l h few short e = absurd (omega (arith, ints))
up_by a (pos (suc t)) zero xs nz up some l h few short e = absurd (some refl)
up_by a (pos (suc t)) (suc n) xs nz up some l h few short e =
    let d : suc n - 1 ≡ n = omega arith in
    rw d (spelled_up a t n xs l (rw d at h) few short e)

down_by : (a s : ℤ) (n : ℕ) (xs : List ℤ) → s <ℤ pos 0 → n ≢ 0 → IsBound a → IsBound (a +ℤ pos (n - 1) *ℤ s) → n ≤ 65536 → (n < 2 → s ≡ pos 1) →
    steps a s n ≡ xs → AreBoundsOf xs (a +ℤ pos (n - 1) *ℤ s) a
down_by a (pos t) n xs down some h l few short e = absurd (omega (arith, ints))
down_by a (negsuc t) zero xs down some h l few short e = absurd (some refl)
down_by a (negsuc t) (suc n) xs down some h l few short e =
    let d : suc n - 1 ≡ n = omega arith in
    rw d (spelled_down a t n xs h (rw d at l) few short e)

pub bounds_up : (r : Inside) (xs : List ℤ) (last : ℤ) → IsCanonical r → steps r.first r.stride r.count ≡ xs → pos 0 ≤ℤ r.stride → r.count ≢ 0 →
    last ≡ r.first +ℤ pos (r.count - 1) *ℤ r.stride → AreBoundsOf xs r.first last
bounds_up r xs last h e up some f =
    rw f (up_by r.first r.stride r.count xs h.nonzero up some (record { low = h.first_low; high = h.first_high })
    (record { low = h.last_low; high = h.last_high }) h.few h.short e)

pub bounds_down : (r : Inside) (xs : List ℤ) (last : ℤ) → IsCanonical r → steps r.first r.stride r.count ≡ xs → r.stride <ℤ pos 0 → r.count ≢ 0 →
    last ≡ r.first +ℤ pos (r.count - 1) *ℤ r.stride → AreBoundsOf xs last r.first
bounds_down r xs last h e down some f =
    rw f (down_by r.first r.stride r.count xs down some (record { low = h.first_low; high = h.first_high }) (record { low = h.last_low; high = h.last_high })
    h.few h.short e)

empty_range : (xs : List ℤ) → [] ≡ xs → IsRange xs
empty_range xs e =
    record {
      low = pos 1;
      high = pos 0;
      stride = pos 1;
      nonzero = λ z. omega (arith, ints);
      is = sym e;
      limits = record {
        low_bound = record { low = omega (arith, ints); high = omega (arith, ints) };
        high_bound = record { low = omega (arith, ints); high = omega (arith, ints) };
        count = omega arith;
      };
    }

range_by_bounds : (low high : ℤ) (xs : List ℤ) → stride_of xs ≢ pos 0 → AreBoundsOf xs low high → IsRange xs
range_by_bounds low high xs nz b = record { low = low; high = high; stride = stride_of xs; nonzero = nz; is = sym b.spelled; limits = b.within }

range_of_steps : (a s : ℤ) (n : ℕ) (xs : List ℤ) → s ≢ pos 0 → IsBound a → IsBound (a +ℤ pos (n - 1) *ℤ s) → n ≤ 65536 → (n < 2 → s ≡ pos 1) →
    steps a s n ≡ xs → IsRange xs
range_of_steps a s zero xs nz l h few short e = empty_range xs e
range_of_steps a (pos t) (suc n) xs nz l h few short e =
    range_by_bounds _ _ xs (λ z. nz (stride_of-steps a (pos t) (suc n) short ∙ ap stride_of e ∙ z))
    (up_by a (pos t) (suc n) xs nz (omega (arith, ints)) (λ z. omega arith) l h few short e)
range_of_steps a (negsuc t) (suc n) xs nz l h few short e =
    range_by_bounds _ _ xs (λ z. nz (stride_of-steps a (negsuc t) (suc n) short ∙ ap stride_of e ∙ z))
    (down_by a (negsuc t) (suc n) xs (omega (arith, ints)) (λ z. omega arith) l h few short e)

-- what is kept is a range
pub is_range : (r : Inside) (xs : List ℤ) → IsCanonical r → steps r.first r.stride r.count ≡ xs → IsRange xs
is_range r xs h e =
    range_of_steps r.first r.stride r.count xs h.nonzero (record { low = h.first_low; high = h.first_high }) (record { low = h.last_low; high = h.last_high })
    h.few h.short e
