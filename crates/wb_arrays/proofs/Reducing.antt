-- What is made of the pieces, joined, is what is made of the whole; and no sum wraps.
use Rattle.std.proofs.Common.{◌≡◌, ℕ, zero, suc, ◌+◌, ◌*◌, ◌<◌, ◌≤◌, ℤ, pos, ◌+ℤ◌, ◌≤ℤ◌, Bool, true, false, cond, eqb, List, [], ◌∷◌, ◌++◌, map, length, take}
use Rattle.std.proofs.Common.{get_or, Option, Some, None, fold, refl, sym, ap, subst, ◌∙◌, ⊎_elim, eq-eqb, eqb-true, arith}
use Rattle.std.specs.Prelude.{FitsSigned, Result, Err, IfNone, IfSome, IfErr, OkIff}
use Rattle.std.specs.List.{reduce, All, AllZip}
use Rattle.std.specs.Option.{option_map}
use Rattle.std.specs.Int.{w64, w128, int_wrap, int_min, int_max}
use Rattle.std.proofs.lemmas.Bool.{cases_lt, eqb-false}
use Rattle.std.proofs.lemmas.Int.{ints, clamps, int_wrap-add_left, int_wrap-add_right, int_wrap_fits}
use Rattle.std.proofs.lemmas.Grind.{fold-append}
use Rattle.std.proofs.lemmas.List.{map-append, take_more}
use Rattle.std.proofs.lemmas.List.Elements.{All-nil, All-cons}
use Rattle.rayon.specs.Lists.{ReducesWith, ActsAsSemigroup}
use Rattle.rayon.proofs.Reducing.{ReducesWith-reduce}
use Rattle.wb_arrays.specs.Pieces.{piece_of, LieBelow}
use Rattle.wb_arrays.specs.declared.reduction.Op.{Op}
use Rattle.wb_arrays.specs.declared.reduction.Op.TheVariants.{Sum, Min, Max}
use Rattle.wb_arrays.specs.declared.reduction.ReduceErr.{ReduceErr}
use Rattle.wb_arrays.specs.declared.reduction.ReduceErr.TheVariants.{Overflow}
use Rattle.wb_arrays.specs.Reductions.{elements_of, op_of, reduction, of_nothing, op_in_128, joined_in_128, of_locales_in_128, AreSmall, IsReduced}

pub op-associative : (op : Op) (a b c : ℤ) → op_in_128 op (op_in_128 op a b) c ≡ op_in_128 op a (op_in_128 op b c)
op-associative Sum a b c = int_wrap-add_left w128 (a +ℤ b) c ∙ ap (int_wrap w128) (omega (arith, ints)) ∙ sym (int_wrap-add_right w128 a (b +ℤ c))
op-associative Min a b c = omega (arith, ints, clamps)
op-associative Max a b c = omega (arith, ints, clamps)

op-commutative : (op : Op) (a b : ℤ) → op_in_128 op a b ≡ op_in_128 op b a
op-commutative Sum a b = ap (int_wrap w128) (omega (arith, ints))
op-commutative Min a b = omega (arith, ints, clamps)
op-commutative Max a b = omega (arith, ints, clamps)

module _ (op : Op) where
  joined-associative : (a b c : Option ℤ) → joined_in_128 op (joined_in_128 op a b) c ≡ joined_in_128 op a (joined_in_128 op b c)
  joined-associative None b c = refl
  joined-associative (Some a) None c = refl
  joined-associative (Some a) (Some b) None = refl
  joined-associative (Some a) (Some b) (Some c) = ap Some (op-associative op a b c)

  joined-commutative : (a b : Option ℤ) → joined_in_128 op a b ≡ joined_in_128 op b a
  joined-commutative None None = refl
  joined-commutative None (Some b) = refl
  joined-commutative (Some a) None = refl
  joined-commutative (Some a) (Some b) = ap Some (op-commutative op a b)

  joined-swap : (a b c : Option ℤ) → joined_in_128 op a (joined_in_128 op b c) ≡ joined_in_128 op b (joined_in_128 op a c)
  joined-swap a b c =
      sym (joined-associative a b c) ∙ ap (λ x. joined_in_128 op x c) (joined-commutative a b) ∙ joined-associative b a c

  fold-front : (a b : ℤ) (xs : List ℤ) → op_in_128 op a (fold (op_in_128 op) b xs) ≡ fold (op_in_128 op) (op_in_128 op a b) xs
  fold-front a b [] = refl
  fold-front a b (x ∷ xs) = fold-front a (op_in_128 op b x) xs ∙ ap (λ y. fold (op_in_128 op) y xs) (sym (op-associative op a b x))

  reduce-cons : (a : ℤ) (xs : List ℤ) → reduce (op_in_128 op) (a ∷ xs) ≡ joined_in_128 op (Some a) (reduce (op_in_128 op) xs)
  reduce-cons a [] = refl
  reduce-cons a (x ∷ xs) = ap Some (sym (fold-front a x xs))

  module _ {I : Type 0} (locale : I → ℕ) where
    abbrev of_first : List (I × ℤ) → ℕ → Option ℤ
    of_first es n = of_locales_in_128 op locale es n

    abbrev of_piece : List (I × ℤ) → Option ℤ
    of_piece es = reduce (op_in_128 op) (elements_of es)

    none : (n : ℕ) → of_first [] n ≡ None
    none zero = refl
    none (suc n) = ap (λ x. joined_in_128 op x None) (none n)

    outside : (e : I × ℤ) (es : List (I × ℤ)) (n : ℕ) → n ≤ locale e.0 → of_first (e ∷ es) n ≡ of_first es n
    outside e es zero h = refl
    outside e es (suc n) h = by (eqb (locale e.0) n) refl (outside e es n (omega arith))
      where
        by : (b : Bool) → eqb (locale e.0) n ≡ b → of_first (e ∷ es) n ≡ of_first es n →
            joined_in_128 op (of_first (e ∷ es) n) (of_piece (cond b (e ∷ piece_of locale es n) (piece_of locale es n))) ≡ joined_in_128 op (of_first es n)
            (of_piece (piece_of locale es n))
        by true is again = let same = eqb-true (locale e.0) n is in absurd (omega (arith, same))
        by false is again = ap (λ x. joined_in_128 op x (of_piece (piece_of locale es n))) again

    inside : (e : I × ℤ) (es : List (I × ℤ)) (n : ℕ) → locale e.0 < n → of_first (e ∷ es) n ≡ joined_in_128 op (Some e.1) (of_first es n)
    inside e es zero h = absurd (omega arith)
    inside e es (suc n) h = by (eqb (locale e.0) n) refl (outside e es n) (inside e es n)
      where
        by : (b : Bool) → eqb (locale e.0) n ≡ b → (n ≤ locale e.0 → of_first (e ∷ es) n ≡ of_first es n) →
            (locale e.0 < n → of_first (e ∷ es) n ≡ joined_in_128 op (Some e.1) (of_first es n)) →
            joined_in_128 op (of_first (e ∷ es) n) (of_piece (cond b (e ∷ piece_of locale es n) (piece_of locale es n))) ≡ joined_in_128 op (Some e.1)
            (joined_in_128 op (of_first es n) (of_piece (piece_of locale es n)))
        by true is out again =
            let same = eqb-true (locale e.0) n is in
            let l : n ≤ locale e.0 = omega (arith, same) in
            rw (out l, reduce-cons e.1 (elements_of (piece_of locale es n))) (joined-swap (of_first es n) (Some e.1) (of_piece (piece_of locale es n)))
        by false is out again =
            let other = eqb-false (locale e.0) n is in
            let l : locale e.0 < n = ⊎_elim (λ k. k) (λ k. absurd (other (omega arith))) (cases_lt (locale e.0) n) in
            rw (again l) (joined-associative (Some e.1) (of_first es n) (of_piece (piece_of locale es n)))

    -- the pieces of all locales make what the whole makes
    pub whole : (n : ℕ) (es : List (I × ℤ)) → LieBelow locale n es → of_first es n ≡ of_piece es
    whole n [] h = none n
    whole n (e ∷ es) h =
        inside e es n h.0 ∙ ap (joined_in_128 op (Some e.1)) (whole n es h.1) ∙ sym (reduce-cons e.1 (elements_of es))

-- the pieces of the first locales, with one more
module _ {I : Type 0} (locale : I → ℕ) (es : List (I × ℤ)) (k : ℕ) where
  pub one_more : (op : Op) (before here r : Option ℤ) (ps : List (I × ℤ)) → before ≡ of_locales_in_128 op locale es k → ps ≡ piece_of locale es k →
      here ≡ reduce (op_in_128 op) (elements_of ps) → r ≡ joined_in_128 op before here → r ≡ of_locales_in_128 op locale es (k + 1)
  one_more op before here r ps d p o e = let next : k + 1 ≡ suc k = omega arith in rw (next, e, d, o, p) refl

  pub one_more_small : ((l : ℕ) → l < k → AreSmall (piece_of locale es l)) → AreSmall (piece_of locale es k) → (l : ℕ) → l < k + 1 →
      AreSmall (piece_of locale es l)
  one_more_small before here l h = ⊎_elim (before l) (λ g. let same : l ≡ k = omega arith in
      subst (λ (m : ℕ). AreSmall (piece_of locale es m)) (sym same) here) (cases_lt l k)

-- the elements are small where those of each piece are
module _ {I : Type 0} (locale : I → ℕ) where
  pub small : (n : ℕ) (es : List (I × ℤ)) → LieBelow locale n es → ((l : ℕ) → l < n → AreSmall (piece_of locale es l)) → AreSmall es
  small n [] below h = tt
  small n (e ∷ es) below h = (
    first (eqb (locale e.0) (locale e.0)) (eq-eqb (locale e.0) (locale e.0) refl) (h (locale e.0) below.0),
    small n es below.1 (λ l k. rest (eqb (locale e.0) l) (piece_of locale es l) (h l k)),
  )
    where
      first : (b : Bool) → b ≡ true → AreSmall (cond b (e ∷ piece_of locale es (locale e.0)) (piece_of locale es (locale e.0))) → FitsSigned w64 e.1
      first true is g = g.0
      first false is g = absurd (cc)

      rest : (b : Bool) (ps : List (I × ℤ)) → AreSmall (cond b (e ∷ ps) ps) → AreSmall ps
      rest true ps g = g.1
      rest false ps g = g

fold-from : (a : ℤ) (xs : List ℤ) → fold ◌+ℤ◌ a xs ≡ a +ℤ fold ◌+ℤ◌ (pos 0) xs
fold-from a [] = omega (arith, ints)
fold-from a (x ∷ xs) = omega (arith, ints, fold-from (a +ℤ x) xs, fold-from (pos 0 +ℤ x) xs)

module _ {I : Type 0} where
  abbrev sum_of : List (I × ℤ) → ℤ
  sum_of es = fold ◌+ℤ◌ (pos 0) (elements_of es)

  bound : (es : List (I × ℤ)) → AreSmall es → (pos 0 ≤ℤ (sum_of es +ℤ pos (length es * 9223372036854775808))) ×
      (sum_of es ≤ℤ pos (length es * 9223372036854775808))
  bound [] h = (omega (arith, ints), omega (arith, ints))
  bound (e ∷ es) h =
      let again = bound es h.1 in
      let low = again.0 in
      let high = again.1 in
      let fits = h.0 in
      (omega (arith, ints, fold-from (pos 0 +ℤ e.1) (elements_of es)), omega (arith, ints, fold-from (pos 0 +ℤ e.1) (elements_of es)))

  sum-fits : (es : List (I × ℤ)) → AreSmall es → length es < 18446744073709551616 → FitsSigned w128 (sum_of es)
  sum-fits es h l = let low = (bound es h).0 in let high = (bound es h).1 in omega (arith, ints)

wrapped : (a b : ℤ) (xs : List ℤ) → a ≡ int_wrap w128 b → fold (op_in_128 Sum) a xs ≡ int_wrap w128 (fold ◌+ℤ◌ b xs)
wrapped a b [] h = h
wrapped a b (x ∷ xs) h = wrapped (int_wrap w128 (a +ℤ x)) (b +ℤ x) xs (ap (λ z. int_wrap w128 (z +ℤ x)) h ∙ int_wrap-add_left w128 b x)

-- no sum wraps
pub plain : {I : Type 0} (op : Op) (es : List (I × ℤ)) → AreSmall es → length es < 18446744073709551616 →
    reduce (op_in_128 op) (elements_of es) ≡ reduce (op_of op) (elements_of es)
plain Min es h l = refl
plain Max es h l = refl
plain Sum [] h l = refl
plain Sum (e ∷ es) h l =
    let first : e.1 ≡ pos 0 +ℤ e.1 = omega (arith, ints) in
    let fits : FitsSigned w128 e.1 = let f = h.0 in omega (arith, ints) in
    let start : e.1 ≡ int_wrap w128 (pos 0 +ℤ e.1) = sym (int_wrap_fits w128 e.1 fits) ∙ ap (int_wrap w128) first in
    ap Some (wrapped e.1 (pos 0 +ℤ e.1) (elements_of es) start ∙ int_wrap_fits w128 _ (sum-fits (e ∷ es) h l) ∙
    ap (λ z. fold ◌+ℤ◌ z (elements_of es)) (sym first))

-- the elements of lent pairs, each an i64
pub lent_elements : {I : Type 0} (es : List (I × ℤ)) (ys : List ℤ) → AllZip (λ e y. (y ≡ e.1) × FitsSigned w64 e.1) es ys → (ys ≡ elements_of es) × AreSmall es
lent_elements [] [] h = (refl, tt)
lent_elements [] (y ∷ ys) h = absurd h
lent_elements (e ∷ es) [] h = absurd h
lent_elements (e ∷ es) (y ∷ ys) h = let again = lent_elements es ys h.1 in ((λ i. h.0.0 i ∷ again.0 i), (h.0.1, again.1))

same_list : (xs : List ℤ) → map (λ x. x) xs ≡ xs
same_list [] = refl
same_list (x ∷ xs) = ap (λ ys. x ∷ ys) (same_list xs)

same_option : (o : Option ℤ) → option_map (λ x. x) o ≡ o
same_option None = refl
same_option (Some x) = refl

all_of_any : (xs : List ℤ) → All (λ x. Unit {0}) xs
all_of_any [] = All-nil (λ x. Unit {0})
all_of_any (x ∷ xs) = All-cons (λ x. Unit {0}) x xs tt (all_of_any xs)

-- one element more
pub reduce-more : (op : Op) (xs : List ℤ) (x : ℤ) → reduce (op_in_128 op) (xs ++ x ∷ []) ≡ joined_in_128 op (reduce (op_in_128 op) xs) (Some x)
reduce-more op [] x = refl
reduce-more op (a ∷ xs) x = ap Some (fold-append (op_in_128 op) a xs (x ∷ []))

module _ {I : Type 0} (es : List (I × ℤ)) (k : ℕ) (x : I × ℤ) (low : k < length es) (is : x ≡ get_or es k x) where
  taken : take (k + 1) es ≡ take k es ++ x ∷ []
  taken = take_more es k x low ∙ ap (λ (y : I × ℤ). take k es ++ y ∷ []) (sym is)

  pub reduced_more : (op : Op) (before : Option ℤ) → before ≡ reduce (op_in_128 op) (elements_of (take k es)) →
      joined_in_128 op before (Some x.1) ≡ reduce (op_in_128 op) (elements_of (take (k + 1) es))
  reduced_more op before h =
      ap (λ o. joined_in_128 op o (Some x.1)) h
      ∙ sym (reduce-more op (elements_of (take k es)) x.1)
      ∙ ap (reduce (op_in_128 op)) (sym (map-append (λ (e : I × ℤ). e.1) (take k es) (x ∷ [])))
      ∙ ap (λ (ys : List (I × ℤ)). reduce (op_in_128 op) (elements_of ys)) (sym taken)

  small-last : (ys : List (I × ℤ)) → AreSmall ys → FitsSigned w64 x.1 → AreSmall (ys ++ x ∷ [])
  small-last [] all fits = (fits, tt)
  small-last (y ∷ ys) all fits = (all.0, small-last ys all.1 fits)

  pub small_more : AreSmall (take k es) → FitsSigned w64 x.1 → AreSmall (take (k + 1) es)
  small_more all fits = subst (λ (ys : List (I × ℤ)). AreSmall ys) (sym taken) (small-last (take k es) all fits)

-- what several threads make of the elements is what one makes of them in their order
pub reduced : (op : Op) (xs : List ℤ) (r : Option ℤ) → ReducesWith (λ a b c. c ≡ op_in_128 op a b) xs r → r ≡ reduce (op_in_128 op) xs
reduced op xs r h =
    let group : ActsAsSemigroup (λ a b c. c ≡ op_in_128 op a b) (λ x. x) (λ x. Unit {0}) (op_in_128 op) =
    record { computes = λ a b c p q e. e; closed = λ a b p q. tt; associative = λ a b c p q s. op-associative op a b c } in
    sym (same_option r) ∙ ReducesWith-reduce (λ a b c. c ≡ op_in_128 op a b) (λ x. x) (λ x. Unit {0}) (op_in_128 op) group xs r (all_of_any _) h ∙
    ap (reduce (op_in_128 op)) (same_list xs)

module _ {I : Type 0} where
  reduction-some : (op : Op) (es : List (I × ℤ)) (s : ℤ) → Some s ≡ reduce (op_of op) (elements_of es) → reduction op es ≡ Some s
  reduction-some Min es s h = sym h
  reduction-some Max es s h = sym h
  reduction-some Sum [] s h = absurd (cc)
  reduction-some Sum (e ∷ es) s h = let first : pos 0 +ℤ e.1 ≡ e.1 = omega (arith, ints) in ap (λ z. Some (fold ◌+ℤ◌ z (elements_of es))) first ∙ sym h

  -- the answer is that of the reduction
  pub answered : (op : Op) (es : List (I × ℤ)) (w : Option ℤ) (r : Result ℤ ReduceErr) → w ≡ reduce (op_of op) (elements_of es) →
      IfNone w (r ≡ of_nothing op) → IfSome w (λ s. OkIff r (FitsSigned w64 s) s) → IfSome w (λ s. IfErr r (λ e. e ≡ Overflow)) → IsReduced op es r
  answered op es (Some s) r h n v o = rw (reduction-some op es s h) (v, o)
  answered Min [] None r h n v o = n
  answered Max [] None r h n v o = n
  answered Sum [] None r h n v o = rw n ((omega (arith, ints), refl), tt)
  answered op (e ∷ es) None r h n v o = absurd (cc)

  least-fits : (a : ℤ) (es : List (I × ℤ)) → FitsSigned w64 a → AreSmall es → FitsSigned w64 (fold int_min a (elements_of es))
  least-fits a [] f h = f
  least-fits a (e ∷ es) f h = least-fits (int_min a e.1) es (let g = h.0 in omega (arith, ints, clamps)) h.1

  greatest-fits : (a : ℤ) (es : List (I × ℤ)) → FitsSigned w64 a → AreSmall es → FitsSigned w64 (fold int_max a (elements_of es))
  greatest-fits a [] f h = f
  greatest-fits a (e ∷ es) f h = greatest-fits (int_max a e.1) es (let g = h.0 in omega (arith, ints, clamps)) h.1

  -- only a sum overflows: the least and the greatest are elements
  pub only_sums_overflow : (op : Op) (es : List (I × ℤ)) (r : Result ℤ ReduceErr) → AreSmall es → IsReduced op es r → r ≡ Err Overflow → op ≡ Sum
  only_sums_overflow Sum es r h m e = refl
  only_sums_overflow Min [] r h m e = absurd (cc)
  only_sums_overflow Max [] r h m e = absurd (cc)
  only_sums_overflow Min (x ∷ es) r h m e = absurd (subst (λ (q : Result ℤ ReduceErr). OkIff q (FitsSigned w64 (fold int_min x.1 (elements_of es)))
      (fold int_min x.1 (elements_of es))) e m.0 (least-fits x.1 es h.0 h.1))
  only_sums_overflow Max (x ∷ es) r h m e = absurd (subst (λ (q : Result ℤ ReduceErr). OkIff q (FitsSigned w64 (fold int_max x.1 (elements_of es)))
      (fold int_max x.1 (elements_of es))) e m.0 (greatest-fits x.1 es h.0 h.1))
