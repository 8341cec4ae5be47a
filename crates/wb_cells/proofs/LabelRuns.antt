-- Changes at labels, one after another.
use Rattle.std.proofs.Common.{◌≡◌, ℕ, zero, suc, ◌+◌, ℤ, Bool, true, false, ◌&&◌, List, [], ◌∷◌, ◌++◌, map, take, slice_get, Option, Some, is_some, refl, ap, ◌∙◌}
use Rattle.std.proofs.lemmas.List.{take_more}
use Rattle.std.proofs.lemmas.Option.{slice_get_within, get_or_from_slice_get}
use Rattle.std.specs.List.{list_all}
use Rattle.wb_cells.proofs.MemberRuns.{one_more}

-- the entry with a text
entry_of : (es : List (List ℕ × Option ℤ)) (k : ℕ) (t : List ℕ) → slice_get (map (λ e. e.0) es) k ≡ Some t →
    (e : List ℕ × Option ℤ) × (slice_get es k ≡ Some e) × (e.0 ≡ t)
entry_of [] k t h = cc
entry_of (e ∷ es) zero t h = let same : e.0 ≡ t = cc in (e, refl, same)
entry_of (e ∷ es) (suc k) t h = entry_of es k t h

-- the entry with a text and a number
pub entry_at : (es : List (List ℕ × Option ℤ)) (k : ℕ) (t : List ℕ) (n : Option ℤ) → slice_get (map (λ e. e.0) es) k ≡ Some t →
    slice_get (map (λ e. e.1) es) k ≡ Some n → slice_get es k ≡ Some (t, n)
entry_at [] k t n h i = cc
entry_at (e ∷ es) zero t n h i =
    let text : e.0 ≡ t = cc in
    let number : e.1 ≡ n = cc in
    ap (λ u. Some (u, e.1)) text ∙ ap (λ m. Some (t, m)) number
entry_at (e ∷ es) (suc k) t n h i = entry_at es k t n h i

-- one text more, of which h makes an entry each
pub text_more : {Y : Type 0} (h : List ℕ → Y) (es : List (List ℕ × Option ℤ)) (k : ℕ) (t : List ℕ) → slice_get (map (λ e. e.0) es) k ≡ Some t →
    map (λ e. h e.0) (take (k + 1) es) ≡ map (λ e. h e.0) (take k es) ++ h t ∷ []
text_more {Y} h es k t here =
    let p = entry_of es k t here in
    one_more (λ (e : List ℕ × Option ℤ). h e.0) es k p.0 p.1 ∙ ap (λ (u : List ℕ). map (λ (e : List ℕ × Option ℤ). h e.0) (take k es) ++ h u ∷ []) p.2

-- one more for which a test holds
pub all_more : {X : Type 0} (test : X → Bool) (xs : List X) (x : X) → list_all test xs ≡ true → test x ≡ true → list_all test (xs ++ x ∷ []) ≡ true
all_more test [] x all here = ap (λ b. b && true) here
all_more test (y ∷ xs) x all here = by (test y) refl all (λ more. all_more test xs x more here)
  where
    by : (b : Bool) → test y ≡ b → b && list_all test xs ≡ true → (list_all test xs ≡ true → list_all test (xs ++ x ∷ []) ≡ true) →
        test y && list_all test (xs ++ x ∷ []) ≡ true
    by true e more rest = ap (λ b. b && list_all test (xs ++ x ∷ [])) e ∙ rest more
    by false e more rest = cc

-- one number more
pub number_more : (es : List (List ℕ × Option ℤ)) (k : ℕ) (t : List ℕ) (n : Option ℤ) → slice_get (map (λ e. e.0) es) k ≡ Some t →
    slice_get (map (λ e. e.1) es) k ≡ Some n → is_some n ≡ true → list_all (λ e. is_some e.1) (take k es) ≡ true →
    list_all (λ e. is_some e.1) (take (k + 1) es) ≡ true
number_more es k t n h i some all =
    let more : take (k + 1) es ≡ take k es ++ (t, n) ∷ [] =
    take_more es k (t, n) (slice_get_within es k (t, n) (entry_at es k t n h i))
    ∙ ap (λ (x : List ℕ × Option ℤ). take k es ++ x ∷ []) (get_or_from_slice_get es k (t, n) (t, n) (entry_at es k t n h i)) in
    ap (list_all (λ e. is_some e.1)) more ∙ all_more (λ e. is_some e.1) (take k es) (t, n) all some
