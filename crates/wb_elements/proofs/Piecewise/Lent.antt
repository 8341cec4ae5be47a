-- Pieces of elements whose keys stand for indices.
use Rattle.std.proofs.Common.{◌≡◌, ℕ, ◌<◌, ◌≤◌, ℤ, ◌==◌, Bool, true, false, cond, List, [], ◌∷◌, length, filter, Option, Some, None, refl, sym, ap, subst, ◌∙◌}
use Rattle.std.proofs.Common.{eqb-true, arith, Bor}
use Rattle.std.specs.Option.{unwrap_or, option_map, MatchOption, IfSome}
use Rattle.std.proofs.lemmas.Bool.{eq-eqb, lt-ltb, le-ltb}
use Rattle.wb_cells.specs.declared.values.index.Index.{Index}
use Rattle.wb_cells.specs.declared.values.index.Index.TheVariants.{Point}
use Rattle.wb_cells.specs.Kinds.{is_point}
use Rattle.wb_cells.specs.Layouts.{is_of_rank, locale_in}
use Rattle.wb_dist.specs.Maps.{LayoutMap, locale_of, locale_count_of}
use Rattle.wb_elements.specs.Piecewise.Indexed.{indexed, AllOf}
use Rattle.wb_elements.specs.Piecewise.Lent.{lies_on, piece_in}
use Rattle.wb_arrays.specs.Pieces.{piece_of, LieBelow}

pub point_locale : (m : LayoutMap) (r : ℕ) (is : List ℤ) → is_of_rank r m ≡ true → is_point r (Point is) ≡ true →
    unwrap_or (locale_in m (Point is)) 0 ≡ locale_of m is
point_locale m r is rank point =
    let long : length is ≡ r = eqb-true (length is) r point in
    let fits : is_of_rank (length is) m ≡ true = ap (λ (k : ℕ). is_of_rank k m) long ∙ rank in
    ap (λ (t : Bool). unwrap_or (cond t (Some (locale_of m is)) None) 0) fits

module _ {I : Type 0} (f : I → Index) (is_of : Index → Bool) (locale : I → ℕ) (m : LayoutMap)
    (same : (i : I) → is_of (f i) ≡ true → unwrap_or (locale_in m (f i)) 0 ≡ locale i) where
  indexed-piece : (es : List (I × ℤ)) (l : ℕ) → AllOf f is_of es → indexed f (piece_of locale es l) ≡ filter (lies_on m l) (indexed f es)
  indexed-piece [] l all = refl
  indexed-piece (e ∷ es) l all =
      let rest : indexed f (piece_of locale es l) ≡ filter (lies_on m l) (indexed f es) = indexed-piece es l all.1 in
      by (locale e.0 == l) rest
      ∙ ap (λ (t : Bool). cond t ((f e.0, e.1) ∷ filter (lies_on m l) (indexed f es)) (filter (lies_on m l) (indexed f es)))
      (sym (ap (λ (k : ℕ). k == l) (same e.0 all.0)))
    where
      by : (t : Bool) → indexed f (piece_of locale es l) ≡ filter (lies_on m l) (indexed f es) →
          indexed f (cond t (e ∷ piece_of locale es l) (piece_of locale es l)) ≡ cond t ((f e.0, e.1) ∷ filter (lies_on m l) (indexed f es))
          (filter (lies_on m l) (indexed f es))
      by true h = ap (λ xs. (f e.0, e.1) ∷ xs) h
      by false h = h

  piece_there : (es xs : List (I × ℤ)) (l : ℕ) → AllOf f is_of es → l < locale_count_of m → xs ≡ piece_of locale es l →
      Some (indexed f xs) ≡ piece_in m (indexed f es) l
  piece_there es xs l all low is =
      ap (λ ys. Some (indexed f ys)) is ∙ ap (λ ys. Some ys) (indexed-piece es l all)
      ∙ sym (ap (λ (t : Bool). cond t (Some (filter (lies_on m l) (indexed f es))) None) (lt-ltb l (locale_count_of m) low))

  no_piece : (es : List (I × ℤ)) (l : ℕ) → locale_count_of m ≤ l → None ≡ piece_in m (indexed f es) l
  no_piece es l high = sym (ap (λ (t : Bool). cond t (Some (filter (lies_on m l) (indexed f es))) None) (le-ltb l (locale_count_of m) high))

  pub piece_is : (r : Option (Bor (List (I × ℤ)))) (es : List (I × ℤ)) (l : ℕ) → AllOf f is_of es →
      MatchOption r (locale_count_of m ≤ l) (λ s. (l < locale_count_of m) × (s.now ≡ piece_of locale es l)) →
      option_map (λ s. indexed f s.now) r ≡ piece_in m (indexed f es) l
  piece_is None es l all cases = no_piece es l cases
  piece_is (Some s) es l all cases = piece_there es s.now l all cases.0 cases.1

-- ---- all on one locale

below_one : (n : ℕ) → n < 1 → n == 0 ≡ true
below_one n low = eq-eqb n 0 (omega (arith, low))

all_on_one : {I : Type 0} (locale : I → ℕ) (es : List (I × ℤ)) → LieBelow locale 1 es → piece_of locale es 0 ≡ es
all_on_one locale [] low = refl
all_on_one locale (e ∷ es) low = rw (below_one (locale e.0) low.0) (ap (λ xs. e ∷ xs) (all_on_one locale es low.1))

only_one : {I : Type 0} (locale : I → ℕ) (n : ℕ) (es xs : List (I × ℤ)) → n ≡ 1 → LieBelow locale n es → xs ≡ piece_of locale es 0 → xs ≡ es
only_one locale n es xs one low is = is ∙ all_on_one locale es (subst (λ (k : ℕ). LieBelow locale k es) one low)

pub only_piece_is : {I : Type 0} (locale : I → ℕ) (n : ℕ) (es : List (I × ℤ)) (r : Option (Bor (List (I × ℤ)))) → n ≡ 1 → LieBelow locale n es →
    MatchOption r (n ≤ 0) (λ s. (0 < n) × (s.now ≡ piece_of locale es 0)) → IfSome r (λ s. s.now ≡ es)
only_piece_is locale n es None one low cases = tt
only_piece_is locale n es (Some s) one low cases = only_one locale n es s.now one low cases.1
