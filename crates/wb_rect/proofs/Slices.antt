-- what two ranges have in common is one list, and a range
use Rattle.std.proofs.Common.{◌≡◌, ◌≢◌, ◌↔◌, ◌⊎◌, inl, inr, ⊎_elim, ℕ, zero, suc, ◌+◌, ◌-◌, ◌*◌, ◌<◌, ◌≤◌, ℤ, pos, negsuc, ◌+ℤ◌, ◌*ℤ◌, ◌<ℤ◌, Bool, true, false}
use Rattle.std.proofs.Common.{List, [], ◌∷◌, Some, reverse, length, get_or, slice_get, unsigned_abs, IsTrue, refl, sym, ap, subst, ◌∙◌, arith, mul-le-mul_right}
use Rattle.std.specs.List.{Contains, AllPairs, list_any}
use Rattle.std.specs.Ordering.{int_eq}
use Rattle.std.specs.Cmp.{int_eq_equiv}
use Rattle.std.proofs.lemmas.Bool.Decides.{Decides-int_eq}
use Rattle.std.proofs.lemmas.Int.{ints}
use Rattle.std.proofs.lemmas.List.{get_or-reverse, length-reverse}
use Rattle.std.proofs.lemmas.List.Kept.{AllPairs-filter}
use Rattle.std.proofs.lemmas.List.Sums.{length-filter, count_by-le-length}
use Rattle.std.proofs.lemmas.Map.Views.{list_any-from_Contains, Contains-from_any}
use Rattle.std.proofs.lemmas.Option.{slice_get-get_or, get_or_from_slice_get}
use Rattle.wb_range.specs.Canonical.{IsRange}
use Rattle.wb_range.specs.Fields.{IsCanonical}
use Rattle.wb_range.specs.Intersection.{AreCommonPlaces}
use Rattle.wb_range.specs.Steps.{steps, stride_of}
use Rattle.wb_range.specs.declared.range.Range.TheInside.{Inside}
use Rattle.wb_range.proofs.Bounds.{canonical_one}
use Rattle.wb_range.proofs.Closed.{IsClosed, IsClosed-steps, no_common_places, step_first, step_second, step_further, step_passed}
use Rattle.wb_range.proofs.Meet.{IsLowest, ascending-steps, common_members, meet_canonical, bound_at, stride_positive}
use Rattle.wb_range.proofs.Members.{Contains-filter}
use Rattle.wb_range.proofs.Spelling.{is_range}
use Rattle.wb_range.proofs.Steps.{get-steps, length-steps, stride_of-steps}
use Rattle.wb_rect.specs.Slices.{IsCommon, turned, upward, common}
use Rattle.wb_rect.proofs.Kept.{IsKept, canonical_none, kept}

-- ---- a set of integers has one ascending list

abbrev Ascends : List ℤ → Type 0
Ascends xs = AllPairs (λ i j. i <ℤ j) xs

ascends_tail : (x : ℤ) (xs : List ℤ) → Ascends (x ∷ xs) → Ascends xs
ascends_tail x xs h i j d l m = h (suc i) (suc j) d (omega arith) (omega arith)

first_below : (x i : ℤ) (xs : List ℤ) → Ascends (x ∷ xs) → Contains xs i → x <ℤ i
first_below x i xs h m =
    let e : get_or xs m.0 i ≡ i = m.2 in
    let l : x <ℤ get_or xs m.0 i = h 0 (suc m.0) i (omega arith) (omega (arith, m.1)) in
    rw e at l

first_or_later : (x i : ℤ) (xs : List ℤ) → Contains (x ∷ xs) i → (x ≡ i) ⊎ Contains xs i
first_or_later x i xs (zero, l, e) = inl e
first_or_later x i xs (suc k, l, e) = inr (k, omega arith, e)

later : (x i : ℤ) (xs : List ℤ) → Contains xs i → Contains (x ∷ xs) i
later x i xs m = (suc m.0, omega (arith, m.1), m.2)

first_is_in : (x : ℤ) (xs : List ℤ) → Contains (x ∷ xs) x
first_is_in x xs = (0, omega arith, refl)

rest_in : (x y i : ℤ) (xs ys : List ℤ) → x ≡ y → Ascends (x ∷ xs) → (Contains (x ∷ xs) i → Contains (y ∷ ys) i) → Contains xs i → Contains ys i
rest_in x y i xs ys e h f m =
    ⊎_elim (λ (g : y ≡ i). absurd (let l = first_below x i xs h m in omega (arith, ints))) (λ (n : Contains ys i). n)
    (first_or_later y i ys (f (later x i xs m)))

same_first : (x y : ℤ) (xs ys : List ℤ) → Ascends (x ∷ xs) → Ascends (y ∷ ys) → Contains (y ∷ ys) x → Contains (x ∷ xs) y → x ≡ y
same_first x y xs ys h g m n =
    ⊎_elim (λ (e : y ≡ x). sym e)
    (λ (a : Contains ys x).
    ⊎_elim (λ (e : x ≡ y). e) (λ (b : Contains xs y). absurd (let p = first_below y x ys g a in let q = first_below x y xs h b in omega (arith, ints)))
    (first_or_later x y xs n))
    (first_or_later y x ys m)

pub same_ascending : (xs ys : List ℤ) → Ascends xs → Ascends ys → ((i : ℤ) → Contains xs i ↔ Contains ys i) → xs ≡ ys
same_ascending [] [] h g m = refl
same_ascending [] (y ∷ ys) h g m = let n = (m y).1 (first_is_in y ys) in absurd (omega (arith, n.1))
same_ascending (x ∷ xs) [] h g m = let n = (m x).0 (first_is_in x xs) in absurd (omega (arith, n.1))
same_ascending (x ∷ xs) (y ∷ ys) h g m =
    let e : x ≡ y = same_first x y xs ys h g ((m x).0 (first_is_in x xs)) ((m y).1 (first_is_in y ys)) in
    let r : xs ≡ ys = same_ascending xs ys (ascends_tail x xs h) (ascends_tail y ys g)
    (λ i. (rest_in x y i xs ys e h (m i).0, rest_in y x i ys xs (sym e) g (m i).1)) in
    cc

-- two ranges have one list in common
pub same_common : (xs ys zs ws : List ℤ) → IsCommon xs ys zs → IsCommon xs ys ws → zs ≡ ws
same_common xs ys zs ws h g = same_ascending zs ws h.upward g.upward (λ i. (λ m. (g.members i).1 ((h.members i).0 m), λ m. (h.members i).1 ((g.members i).0 m)))

-- ---- turned round

AllPairs-reverse : (R : ℤ → ℤ → Type 0) (xs : List ℤ) → AllPairs R xs → AllPairs (λ i j. R j i) (reverse xs)
AllPairs-reverse R xs h i j d l m =
    let n : j < length xs = omega (arith, length-reverse xs) in
    let e : get_or (reverse xs) i d ≡ get_or xs (length xs - 1 - i) d = get_or-reverse xs i d (omega arith) in
    let f : get_or (reverse xs) j d ≡ get_or xs (length xs - 1 - j) d = get_or-reverse xs j d n in
    rw (e, f) (h (length xs - 1 - j) (length xs - 1 - i) d (omega arith) (omega arith))

into_reverse : (xs : List ℤ) (i : ℤ) → Contains xs i → Contains (reverse xs) i
into_reverse xs i m =
    let l : length xs - 1 - m.0 < length xs = omega (arith, m.1) in
    let b : length xs - 1 - (length xs - 1 - m.0) ≡ m.0 = omega (arith, m.1) in
    (length xs - 1 - m.0, omega (arith, length-reverse xs), get_or-reverse xs (length xs - 1 - m.0) i l ∙ ap (λ (k : ℕ). get_or xs k i) b ∙ m.2)

out_of_reverse : (xs : List ℤ) (i : ℤ) → Contains (reverse xs) i → Contains xs i
out_of_reverse xs i m =
    let l : m.0 < length xs = omega (arith, m.1, length-reverse xs) in
    (length xs - 1 - m.0, omega arith, sym (get_or-reverse xs m.0 i l) ∙ m.2)

turned_members : (s : ℤ) (xs : List ℤ) (i : ℤ) → Contains (turned s xs) i ↔ Contains xs i
turned_members (pos n) xs i = (λ m. m, λ m. m)
turned_members (negsuc n) xs i = (out_of_reverse xs i, into_reverse xs i)

length-turned : (s : ℤ) (xs : List ℤ) → length (turned s xs) ≡ length xs
length-turned (pos n) xs = refl
length-turned (negsuc n) xs = length-reverse xs

descending-steps : (x : ℤ) (t c : ℕ) → AllPairs (λ i j. j <ℤ i) (steps x (negsuc t) c)
descending-steps x t c h i d l m =
    let n : i < c = subst (λ (k : ℕ). i < k) (length-steps x (negsuc t) c) m in
    let e : get_or (steps x (negsuc t) c) h d ≡ x +ℤ pos h *ℤ negsuc t = get_or_from_slice_get _ h _ d (get-steps x (negsuc t) c h (omega arith)) in
    let f : get_or (steps x (negsuc t) c) i d ≡ x +ℤ pos i *ℤ negsuc t = get_or_from_slice_get _ i _ d (get-steps x (negsuc t) c i n) in
    let g : suc h * suc t ≤ i * suc t = mul-le-mul_right (suc t) l in
    rw (e, f) (omega (arith, ints))

turned_up : (x s : ℤ) (c : ℕ) → s ≢ pos 0 → Ascends (turned s (steps x s c))
turned_up x (pos zero) c nz = absurd (nz refl)
turned_up x (pos (suc t)) c nz = ascending-steps x (suc t) c (omega arith)
turned_up x (negsuc t) c nz = AllPairs-reverse (λ i j. j <ℤ i) (steps x (negsuc t) c) (descending-steps x t c)

upward_up : (xs : List ℤ) → IsKept xs → Ascends (upward xs)
upward_up xs k =
    let e : k.fields.stride ≡ stride_of xs = stride_of-steps k.fields.first k.fields.stride k.fields.count k.canonical.short ∙ ap stride_of k.is in
    let u : Ascends (turned k.fields.stride (steps k.fields.first k.fields.stride k.fields.count)) =
    turned_up k.fields.first k.fields.stride k.fields.count k.canonical.nonzero in
    let v : Ascends (turned k.fields.stride xs) = subst (λ (zs : List ℤ). Ascends (turned k.fields.stride zs)) k.is u in
    subst (λ (s : ℤ). Ascends (turned s xs)) e v

-- ---- what is defined as common is common

among : (ys : List ℤ) (i : ℤ) → IsTrue (list_any (int_eq i) ys) ↔ Contains ys i
among ys i = (Contains-from_any (λ x y. (Decides-int_eq x y).0) i ys, list_any-from_Contains int_eq_equiv i ys)

pub common_is : (xs ys : List ℤ) → IsRange xs → IsCommon xs ys (common xs ys)
common_is xs ys h =
    record {
      members = λ i.
          let f = Contains-filter (λ (j : ℤ). list_any (int_eq j) ys) (upward xs) i in
          let t = turned_members (stride_of xs) xs i in
          let a = among ys i in
          (λ m. let n = f.0 m in (t.0 n.0, a.0 n.1), λ m. f.1 (t.1 m.0, a.1 m.1));
      upward = AllPairs-filter (λ i j. i <ℤ j) (λ i. list_any (int_eq i) ys) (upward xs) (upward_up xs (kept xs h));
    }

pub length-common : (xs ys : List ℤ) → length (common xs ys) ≤ length xs
length-common xs ys =
    omega (
      arith,
      length-filter (λ (i : ℤ). list_any (int_eq i) ys) (upward xs),
      count_by-le-length (λ (i : ℤ). list_any (int_eq i) ys) (upward xs),
      length-turned (stride_of xs) xs,
    )

-- ---- it is at equal distances

-- the common places below a bound
record HasPlaces (xs ys : List ℤ) (bound : ℕ) : Type 0 where
  first : ℕ
  gap : ℕ
  count : ℕ
  places : AreCommonPlaces xs ys first gap count bound

module _ (a s : ℤ) (n : ℕ) (ys : List ℤ) (closed : IsClosed ys) where
  more_places : (p : ℕ) (i : ℤ) (b : Bool) → list_any (int_eq i) ys ≡ b → slice_get (steps a s n) p ≡ Some i → HasPlaces (steps a s n) ys p →
      HasPlaces (steps a s n) ys (p + 1)
  more_places p i false e at h =
      record {
        first = h.first;
        gap = h.gap;
        count = h.count;
        places = step_passed (steps a s n) ys h.first h.gap h.count p i h.places (sym at) (λ m. let t = (among ys i).1 m in cc);
      }
  more_places p i true e at h = by h.count h.places
    where
      m : Contains ys i
      m = (among ys i).0 e

      by : (c : ℕ) → AreCommonPlaces (steps a s n) ys h.first h.gap c p → HasPlaces (steps a s n) ys (p + 1)
      by zero k = record { first = p; gap = h.gap; count = 0 + 1; places = step_first (steps a s n) ys h.first h.gap 0 p i refl k (sym at) m }
      by (suc zero) k = record {
        first = h.first;
        gap = p - h.first;
        count = 1 + 1;
        places =
            step_second (steps a s n) ys h.first h.gap 1 p i refl k (sym at) m;
      }
      by (suc (suc c)) k =
          record {
            first = h.first;
            gap = h.gap;
            count = suc (suc c) + 1;
            places = step_further a s n (steps a s n) ys h.first h.gap (suc (suc c)) p i refl closed (λ z. omega arith) (λ z. omega arith) k (sym at) m;
          }

  all_places : (p : ℕ) → p ≤ n → HasPlaces (steps a s n) ys p
  all_places zero l = record { first = 0; gap = 1; count = 0; places = no_common_places (steps a s n) ys }
  all_places (suc p) l =
      let e : p + 1 ≡ suc p = omega arith in
      subst (λ (q : ℕ). HasPlaces (steps a s n) ys q) e (more_places p (a +ℤ pos p *ℤ s) (list_any (int_eq (a +ℤ pos p *ℤ s)) ys) refl
      (get-steps a s n p (omega arith)) (all_places p (omega arith)))

-- ---- so it is a range

-- a range that both have in common
pub record HasMeeting (xs ys : List ℤ) : Type 0 where
  pub list : List ℤ
  pub common : IsCommon xs ys list
  pub range : IsRange list

module _ (r : Inside) (canonical : IsCanonical r) (xs ys : List ℤ) (is : steps r.first r.stride r.count ≡ xs) (f g : ℕ) where
  nothing : AreCommonPlaces xs ys f g 0 r.count → HasMeeting xs ys
  nothing h =
      record {
        list = [];
        common = record {
          members = λ i. (
            λ m. absurd (omega (arith, m.1)),
            λ m.
                let o : slice_get xs m.0.0 ≡ Some i = slice_get-get_or xs m.0.0 i m.0.1 ∙ ap (λ z. Some z) m.0.2 in
                let l : m.0.0 < r.count = omega (arith, m.0.1, ap (λ (zs : List ℤ). length zs) is, length-steps r.first r.stride r.count) in
                let k = (h.places m.0.0 i l o).0 m.1 in
                absurd (omega (arith, k.1)),
          );
          upward = λ i j d l m. absurd (omega arith);
        };
        range = is_range (record { first = pos 1; count = 0; stride = pos 1 }) [] canonical_none refl;
      }

  from_lowest : (c l : ℕ) → AreCommonPlaces xs ys f g (suc c) r.count → IsLowest r.stride f g (suc c) l → l < r.count → HasMeeting xs ys
  from_lowest c l h w b =
      record {
        list = steps x (pos t) (suc c);
        common = record {
          members = common_members r.first r.stride x r.count f g c l t xs ys canonical.nonzero is h w refl refl;
          upward = ascending-steps x t (suc c) (stride_positive g r.stride h.apart canonical.nonzero);
        };
        range = by c h w;
      }
    where
      x : ℤ
      x = r.first +ℤ pos l *ℤ r.stride

      t : ℕ
      t = g * unsigned_abs r.stride

      by : (k : ℕ) → AreCommonPlaces xs ys f g (suc k) r.count → IsLowest r.stride f g (suc k) l →
          IsRange (steps (r.first +ℤ pos l *ℤ r.stride) (pos (g * unsigned_abs r.stride)) (suc k))
      by zero k v = is_range (record { first = r.first +ℤ pos l *ℤ r.stride; count = 1; stride = pos 1 }) _
          (canonical_one (r.first +ℤ pos l *ℤ r.stride) (bound_at r canonical l b)) refl
      by (suc j) k v =
          is_range (record { first = r.first +ℤ pos l *ℤ r.stride; count = suc (suc j); stride = pos (g * unsigned_abs r.stride) }) _
          (meet_canonical r canonical (r.first +ℤ pos l *ℤ r.stride) f g (suc (suc j)) l (g * unsigned_abs r.stride) xs ys is k v b refl refl
          (λ z. omega arith) (λ z. omega arith)) refl

  lowest : (s : ℤ) (c : ℕ) → s ≡ r.stride → AreCommonPlaces xs ys f g (suc c) r.count → HasMeeting xs ys
  lowest (pos n) c e h =
      from_lowest c f h (record { up = λ p. refl; down = λ p. absurd (omega (arith, ints)) }) (omega (arith, h.last (omega arith)))
  lowest (negsuc n) c e h =
      let d : suc c - 1 ≡ c = omega arith in
      let b : f + c * g < r.count = rw d at (h.last (omega arith)) in
      from_lowest c (f + c * g) h (record { up = λ p. absurd (omega (arith, ints)); down = λ p. rw d refl }) b

  meeting_at : (c : ℕ) → AreCommonPlaces xs ys f g c r.count → HasMeeting xs ys
  meeting_at zero h = nothing h
  meeting_at (suc c) h = lowest r.stride c refl h

meeting : (xs ys : List ℤ) → IsKept xs → IsKept ys → HasMeeting xs ys
meeting xs ys k j =
    let cl : IsClosed ys = subst IsClosed j.is (IsClosed-steps j.fields.first j.fields.stride j.fields.count j.canonical.nonzero) in
    let h = all_places k.fields.first k.fields.stride k.fields.count ys cl k.fields.count (omega arith) in
    let p : AreCommonPlaces xs ys h.first h.gap h.count k.fields.count =
    subst (λ (zs : List ℤ). AreCommonPlaces zs ys h.first h.gap h.count k.fields.count) k.is h.places in
    meeting_at k.fields k.canonical xs ys k.is h.first h.gap h.count p

-- what two ranges have in common is a range
pub IsRange-common : (xs ys : List ℤ) → IsRange xs → IsRange ys → IsRange (common xs ys)
IsRange-common xs ys h g =
    let m = meeting xs ys (kept xs h) (kept ys g) in
    subst IsRange (same_common xs ys m.list (common xs ys) m.common (common_is xs ys h)) m.range
