-- What the changes of a store leave at an index.
use Rattle.std.proofs.Common.{◌≡◌, ℤ, Bool, true, false, cond, ◌&&◌, not, is_some, List, [], ◌∷◌, Option, Some, None, refl, sym, ap, ◌∙◌, arith}
use Rattle.std.specs.declared.cmp.Ordering.{Ordering}
use Rattle.std.specs.declared.cmp.Ordering.TheVariants.{Equal}
use Rattle.std.specs.Ordering.{is_eq}
use Rattle.std.specs.FinMap.{IsAntisymmetric}
use Rattle.std.specs.Map.{lookup, set_value}
use Rattle.std.proofs.lemmas.Bool.{true≢false}
use Rattle.wb_range.specs.Lookup.{has}
use Rattle.wb_arrays.specs.Elements.{value_at, left_out, restored, HoldsExactly, HoldsDropped, AgreeOnCommon}

-- a write at an index that isn't there
pub set_value-none : {I : Type 0} (test : I → Bool) (es : List (I × ℤ)) (v : ℤ) → lookup test es ≡ None → set_value test es v ≡ es
set_value-none test [] v h = refl
set_value-none test (e ∷ es) v h = by (test e.0) h (λ g. set_value-none test es v g)
  where
    by : (b : Bool) → cond b (Some e.1) (lookup test es) ≡ None → (lookup test es ≡ None → set_value test es v ≡ es) →
        cond b ((e.0, v) ∷ es) (e ∷ set_value test es v) ≡ e ∷ es
    by true g again = absurd (cc)
    by false g again = ap (λ l. e ∷ l) (again g)

module _ {I : Type 0} (cmp : I → I → Ordering) (exact : IsAntisymmetric cmp) where
  is_equal : (o : Ordering) → is_eq o ≡ true → o ≡ Equal
  is_equal o h = grind arith

  -- a look-up among the pairs left out
  pub value_at-left_out : (es : List (I × ℤ)) (xs : List I) (q : I) → value_at cmp (left_out cmp es xs) q ≡ cond (has cmp xs q) None (value_at cmp es q)
  value_at-left_out [] xs q = either (has cmp xs q) None
    where
      either : (b : Bool) (x : Option ℤ) → x ≡ cond b x x
      either true x = refl
      either false x = refl
  value_at-left_out (e ∷ es) xs q =
      inside (has cmp xs e.0) ∙ by (has cmp xs e.0) (has cmp xs q) (is_eq (cmp q e.0)) (value_at cmp (left_out cmp es xs) q) (value_at cmp es q)
      (λ h. ap (has cmp xs) (sym (exact q e.0 (is_equal _ h)))) (value_at-left_out es xs q)
    where
      inside : (b : Bool) → value_at cmp (cond (not b) (e ∷ left_out cmp es xs) (left_out cmp es xs)) q ≡ cond (not b)
          (cond (is_eq (cmp q e.0)) (Some e.1) (value_at cmp (left_out cmp es xs) q)) (value_at cmp (left_out cmp es xs) q)
      inside true = refl
      inside false = refl

      by : (b h c : Bool) (l v : Option ℤ) → (c ≡ true → b ≡ h) → l ≡ cond h None v → cond (not b) (cond c (Some e.1) l) l ≡ cond h None (cond c (Some e.1) v)
      by true true c l v same again = again
      by true false true l v same again = absurd (true≢false (same refl))
      by true false false l v same again = again
      by false true true l v same again = absurd (true≢false (sym (same refl)))
      by false true false l v same again = again
      by false false true l v same again = refl
      by false false false l v same again = again

  pub restored-undoes : (es before : List (I × ℤ)) (old new : List I) → HoldsExactly cmp es new → HoldsExactly cmp before old → AgreeOnCommon cmp before es →
      (q : I) → restored cmp es (left_out cmp before new) old new q ≡ value_at cmp before q
  restored-undoes es before old new holds held agree q =
      rw (value_at-left_out before new q) (by (has cmp old q) (has cmp new q) (value_at cmp es q) (value_at cmp before q) (held q) (holds q) (agree q))
    where
      by : (a b : Bool) (x y : Option ℤ) → is_some y ≡ a → is_some x ≡ b → (is_some y ≡ true → is_some x ≡ true → x ≡ y) →
          cond a (cond b x (cond b None y)) None ≡ y
      by true true x y h g same = same h g
      by true false x y h g same = refl
      by false b x None h g same = refl
      by false b x (Some v) h g same = absurd (cc)

  pub pairs-left_out : (es : List (I × ℤ)) (old new : List I) → HoldsExactly cmp es old → HoldsDropped cmp (left_out cmp es new) old new
  pairs-left_out es old new held = λ q. ap is_some (value_at-left_out es new q) ∙ by (has cmp new q) (has cmp old q) (value_at cmp es q) (held q)
    where
      by : (b a : Bool) (x : Option ℤ) → is_some x ≡ a → is_some (cond b None x) ≡ (a && not b)
      by true true x g = refl
      by true false x g = refl
      by false true x g = g
      by false false x g = g
