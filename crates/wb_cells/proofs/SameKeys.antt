-- A set that is made of a list of keys has the indices of the list.
use Rattle.std.proofs.Common.{◌≡◌, Bool, true, false, ◌&&◌, ◌||◌, List, [], ◌∷◌, map, refl, sym, ap, ◌∙◌}
use Rattle.std.specs.BTreeMap.{is_at}
use Rattle.std.specs.List.{list_all, list_any}
use Rattle.std.specs.declared.cmp.Ordering.{Ordering}
use Rattle.wb_cells.specs.declared.values.index.Index.{Index}
use Rattle.wb_cells.specs.Cells.{index_cmp, is_same_index}
use Rattle.wb_cells.specs.WellFormed.{has}
use Rattle.wb_cells.proofs.MemberRuns.{has_first, has_later}
use Rattle.wb_cells.proofs.MemberSets.{same_index, has_none, has_key}

-- what all of some indices are, all of those are that are among them
pub all_among : (is_of : Index → Bool) (is js : List Index) → ((j : Index) → has js j ≡ true → has is j ≡ true) → list_all is_of is ≡ true →
    list_all is_of js ≡ true
all_among is_of is [] among all = refl
all_among is_of is (j ∷ js) among all = by (is_of j) refl (all_among is_of is js (λ i h. among i (has_later j js i h)) all)
  where
    by : (b : Bool) → is_of j ≡ b → list_all is_of js ≡ true → is_of j && list_all is_of js ≡ true
    by true e rest = ap (λ b. b && list_all is_of js) e ∙ rest
    by false e rest =
        let none : has is j ≡ false = has_none is_of is j all e in
        let there : has is j ≡ true = among j (has_first j js) in
        cc

module _ {K : Type 0} (cmp : K → K → Ordering) (f : K → Index) (alike : (x y : K) → index_cmp (f x) (f y) ≡ cmp x y) where
  -- an index of keys is that of one of them
  key_of : (ks : List K) (j : Index) → has (map f ks) j ≡ true → (k : K) × (j ≡ f k)
  key_of [] j h = cc
  key_of (x ∷ ks) j h = by (is_same_index j (f x)) refl h (λ there. key_of ks j there)
    where
      by : (b : Bool) → is_same_index j (f x) ≡ b → b || has (map f ks) j ≡ true → (has (map f ks) j ≡ true → (k : K) × (j ≡ f k)) → (k : K) × (j ≡ f k)
      by true e there rest = (x, same_index j (f x) e)
      by false e there rest = rest there

  pub same_has : (xs ys : List K) → ((k : K) → list_any (is_at (cmp k)) xs ≡ list_any (is_at (cmp k)) ys) → (j : Index) → has (map f xs) j ≡ has (map f ys) j
  same_has xs ys same j = by (has (map f xs) j) refl (has (map f ys) j) refl
    where
      at : (k : K) → j ≡ f k → has (map f xs) j ≡ has (map f ys) j
      at k e = ap (has (map f xs)) e ∙ has_key cmp f alike xs k ∙ same k ∙ sym (has_key cmp f alike ys k) ∙ ap (has (map f ys)) (sym e)

      by : (a : Bool) → has (map f xs) j ≡ a → (b : Bool) → has (map f ys) j ≡ b → has (map f xs) j ≡ has (map f ys) j
      by true e b h = let k = key_of xs j e in at k.0 k.1
      by false e true h = let k = key_of ys j h in at k.0 k.1
      by false e false h = e ∙ sym h
