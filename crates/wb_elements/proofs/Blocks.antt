-- Changes of elements at the indices of a rectangle.
use Rattle.std.proofs.Common.{◌≡◌, ℕ, zero, suc, ◌+◌, ◌<◌, ℤ, Bool, true, false, cond, ◌&&◌, List, [], ◌∷◌, ◌++◌, length, map, take, get_or, Option, Some, None}
use Rattle.std.proofs.Common.{is_some, min, slice_get, refl, sym, ap, subst, ◌∙◌, arith}
use Rattle.std.specs.declared.cmp.Ordering.{Ordering}
use Rattle.std.specs.declared.cmp.Ordering.TheVariants.{Less}
use Rattle.std.specs.BTreeMap.{is_at}
use Rattle.std.specs.Cmp.{IsTotalOrder, eq_by_cmp_equiv, tied_itself}
use Rattle.std.specs.List.{AllByRecursion, list_all, zip}
use Rattle.std.specs.List.Sorted.{IsStrictlySortedBy}
use Rattle.std.specs.Map.{keys_of, set_value}
use Rattle.std.specs.Ordering.{is_eq}
use Rattle.std.proofs.lemmas.List.{length-map}
use Rattle.std.proofs.lemmas.Map.{keys-set_value}
use Rattle.std.proofs.lemmas.Slice.Zip.{length-zip}
use Rattle.wb_cells.specs.contracts.values.index.IndexOrd.TheImpl.Laws as index_laws
use Rattle.wb_cells.specs.declared.values.index.Index.{Index}
use Rattle.wb_cells.specs.declared.values.index.Index.TheVariants.{Point}
use Rattle.wb_cells.specs.Cells.{index_cmp, is_same_index}
use Rattle.wb_cells.specs.Runs.{rectangle_entries, numbered_entries}
use Rattle.wb_cells.specs.Shapes.{indices}
use Rattle.wb_rect.specs.Product.{product}
use Rattle.wb_elements.specs.Blocks.{IsWhole}
use Rattle.wb_elements.specs.Entries.{element_at, sets_one, with_one, with_all}
use Rattle.wb_elements.specs.Piecewise.Changed.{changed_at, all_set}
use Rattle.wb_elements.specs.Piecewise.Indexed.{indexed, AllOf}
use Rattle.wb_elements.specs.Piecewise.Marked.{as_changes}
use Rattle.wb_elements.specs.Piecewise.Seen.{AreRanged}
use Rattle.wb_elements.proofs.WithAll.{with_all-more}
use Rattle.wb_elements.proofs.Piecewise.Changed.{all_there, or_nothing}

-- ---- what stands at a place

pub at_place : {X : Type 0} (xs : List X) (k : ℕ) → k < length xs → (x : X) × (x ≡ get_or xs k x)
at_place [] k low = absurd (omega (arith, low))
at_place (x ∷ xs) zero low = (x, refl)
at_place (x ∷ xs) (suc k) low = at_place xs k (omega (arith, low))

same_go : (ps : List (List ℤ)) (n : Option ℤ) (k : ℕ) (i : Index) → slice_get (map Point ps) k ≡ Some i →
    (i, n) ≡ get_or (as_changes Point (map (λ p. (p, n)) ps)) k (i, n)
same_go [] n k i at = cc
same_go (p ∷ ps) n zero i at = let here : Point p ≡ i = cc in ap (λ (j : Index). (j, n)) (sym here)
same_go (p ∷ ps) n (suc k) i at = same_go ps n k i at

pub same_entry : (rs : List (List ℤ)) (n : Option ℤ) (k : ℕ) (i : Index) → slice_get (indices rs) k ≡ Some i →
    (i, n) ≡ get_or (as_changes Point (rectangle_entries rs n)) k (i, n)
same_entry rs n k i at = same_go (product rs) n k i at

each_go : (ps : List (List ℤ)) (ns : List ℤ) (k : ℕ) (i : Index) (o : Option ℤ) → k < length (zip ps (map (λ n. Some n) ns)) →
    slice_get (map Point ps) k ≡ Some i → o ≡ slice_get ns k → (i, o) ≡ get_or (as_changes Point (zip ps (map (λ n. Some n) ns))) k (i, o)
each_go [] ns k i o low at is = absurd (omega (arith, low))
each_go (p ∷ ps) [] k i o low at is = absurd (omega (arith, low))
each_go (p ∷ ps) (m ∷ ns) zero i o low at is =
    let here : Point p ≡ i = cc in
    let there : o ≡ Some m = is in
    ap (λ (j : Index). (j, o)) (sym here) ∙ ap (λ (v : Option ℤ). (Point p, v)) there
each_go (p ∷ ps) (m ∷ ns) (suc k) i o low at is = each_go ps ns k i o (omega (arith, low)) at is

pub each_entry : (rs : List (List ℤ)) (ns : List ℤ) (k : ℕ) (i : Index) (o : Option ℤ) → k < length (numbered_entries rs ns) →
    slice_get (indices rs) k ≡ Some i → o ≡ slice_get ns k → (i, o) ≡ get_or (as_changes Point (numbered_entries rs ns)) k (i, o)
each_entry rs ns k i o low at is = each_go (product rs) ns k i o low at is

pub none_at : {X : Type 0} (xs : List X) (k : ℕ) → slice_get xs k ≡ None → k < length xs → ⊥
none_at [] k none low = omega (arith, low)
none_at (x ∷ xs) zero none low = cc
none_at (x ∷ xs) (suc k) none low = none_at xs k none (omega (arith, low))

pub many_changes : (es : List (List ℤ × Option ℤ)) → length (as_changes Point es) ≡ length es
many_changes [] = refl
many_changes (e ∷ es) = ap suc (many_changes es)

pub many_each : (rs : List (List ℤ)) (ns : List ℤ) → length (numbered_entries rs ns) ≡ min (length (indices rs)) (length ns)
many_each rs ns =
    length-zip (product rs) (map (λ n. Some n) ns)
    ∙ ap (λ k. min k (length (map (λ n. Some n) ns))) (sym (length-map (product rs) Point))
    ∙ ap (min (length (indices rs))) (length-map ns (λ n. Some n))

-- ---- a number at each index

zipped : (ps : List (List ℤ)) (v : ℤ) → map (λ p. (p, Some v)) ps ≡ zip ps (map (λ n. Some n) (map (λ p. v) ps))
zipped [] v = refl
zipped (p ∷ ps) v = ap (λ es. (p, Some v) ∷ es) (zipped ps v)

pub whole_same : (rs : List (List ℤ)) (n : Option ℤ) → is_some n ≡ true → IsWhole rs (rectangle_entries rs n)
whole_same rs None some = cc
whole_same rs (Some v) some = (map (λ p. v) (product rs), length-map (product rs) (λ p. v), zipped (product rs) v)

either : (t : Bool) (v : ℤ) (o : Option ℤ) → is_some o ≡ true → is_some (cond t (Some v) o) ≡ true
either true v o some = refl
either false v o some = some

pub itself : (i j : Index) → i ≡ j → is_same_index i j ≡ true
itself i j e = subst (λ (k : Index). is_same_index i k ≡ true) e (ap is_eq (tied_itself index_laws.total-law i))

there : (es : List (Index × ℤ)) (ps : List (List ℤ)) (ns : List ℤ) (element : Index → Option ℤ) →
    ((i : Index) → is_some (element_at es i) ≡ true → is_some (element i) ≡ true) → keys_of es ≡ map Point ps →
    list_all (sets_one Point element) (zip ps (map (λ n. Some n) ns)) ≡ true
there es [] ns element all same = refl
there es (p ∷ ps) [] element all same = refl
there [] (p ∷ ps) (n ∷ ns) element all same = cc
there (e ∷ es) (p ∷ ps) (n ∷ ns) element all same =
    let here : Point p ≡ e.0 = cc in
    let rest : keys_of es ≡ map Point ps = cc in
    let first : is_some (element (Point p)) ≡ true =
    all (Point p) (ap (λ (t : Bool). is_some (cond t (Some e.1) (element_at es (Point p)))) (itself (Point p) e.0 here)) in
    let last = there es ps ns element (λ i some. all i (either (is_same_index i e.0) e.1 (element_at es i) some)) rest in
    ap (λ (t : Bool). t && list_all (sets_one Point element) (zip ps (map (λ m. Some m) ns))) first ∙ last

-- where numbers are given for all indices of the elements, each sets one that is there
pub whole_there : (es : List (Index × ℤ)) (rs : List (List ℤ)) (xs : List (List ℤ × Option ℤ)) → keys_of es ≡ indices rs → IsWhole rs xs →
    list_all (sets_one Point (element_at es)) xs ≡ true
whole_there es rs xs same whole =
    ap (list_all (sets_one Point (element_at es))) whole.2 ∙ there es (product rs) whole.0 (element_at es) (λ i some. some) same

-- ---- all elements are replaced

apart : (k i : Index) → index_cmp k i ≡ Less → is_same_index i k ≡ false
apart k i less = (eq_by_cmp_equiv index_laws.total-law).symm i k ∙ ap is_eq less

past : (k : Index) (v : ℤ) (es : List (Index × ℤ)) (ps : List (List ℤ)) (ns : List ℤ) → AllByRecursion (λ y. index_cmp k y ≡ Less) (map Point ps) →
    with_all Point ((k, v) ∷ es) (zip ps (map (λ n. Some n) ns)) ≡ (k, v) ∷ with_all Point es (zip ps (map (λ n. Some n) ns))
past k v es [] ns below = refl
past k v es (p ∷ ps) [] below = refl
past k v es (p ∷ ps) (n ∷ ns) below =
    let t = is_at (index_cmp (Point p)) in
    ap (λ (b : Bool). with_all Point (cond b ((k, n) ∷ es) ((k, v) ∷ set_value t es n)) (zip ps (map (λ m. Some m) ns))) (apart k (Point p) below.0)
    ∙ past k v (set_value t es n) ps ns below.1

pub all_written : (es : List (Index × ℤ)) (ps : List (List ℤ)) (ns : List ℤ) → IsStrictlySortedBy index_cmp (keys_of es) → keys_of es ≡ map Point ps →
    length ns ≡ length ps → with_all Point es (zip ps (map (λ n. Some n) ns)) ≡ zip (keys_of es) ns
unfolding IsStrictlySortedBy
all_written [] [] ns sorted same many = refl
all_written [] (p ∷ ps) ns sorted same many = cc
all_written (e ∷ es) [] ns sorted same many = cc
all_written (e ∷ es) (p ∷ ps) [] sorted same many = absurd (omega (arith, many))
all_written (e ∷ es) (p ∷ ps) (n ∷ ns) sorted same many =
    let t = is_at (index_cmp (Point p)) in
    let here : Point p ≡ e.0 = cc in
    let rest : keys_of es ≡ map Point ps = cc in
    let xs = zip ps (map (λ m. Some m) ns) in
    ap (λ (b : Bool). with_all Point (cond b ((e.0, n) ∷ es) (e ∷ set_value t es n)) xs) (itself (Point p) e.0 here)
    ∙ past e.0 n es ps ns (subst (λ (ks : List Index). AllByRecursion (λ y. index_cmp e.0 y ≡ Less) ks) rest sorted.0)
    ∙ ap (λ fs. (e.0, n) ∷ fs) (all_written es ps ns sorted.1 rest (omega (arith, many)))

by_one : (es : List (Index × ℤ)) (ps : List (List ℤ)) (v : ℤ) → keys_of es ≡ map Point ps → zip (keys_of es) (map (λ p. v) ps) ≡ map (λ e. (e.0, v)) es
by_one [] ps v same = refl
by_one (e ∷ es) [] v same = cc
by_one (e ∷ es) (p ∷ ps) v same = let rest : keys_of es ≡ map Point ps = cc in ap (λ fs. (e.0, v) ∷ fs) (by_one es ps v rest)

-- one number for all
pub filled_is : (es : List (Index × ℤ)) (rs : List (List ℤ)) (v : ℤ) → IsStrictlySortedBy index_cmp (keys_of es) → keys_of es ≡ indices rs →
    with_all Point es (rectangle_entries rs (Some v)) ≡ map (λ e. (e.0, v)) es
filled_is es rs v sorted same =
    ap (with_all Point es) (zipped (product rs) v)
    ∙ all_written es (product rs) (map (λ p. v) (product rs)) sorted same (length-map (product rs) (λ p. v))
    ∙ by_one es (product rs) v same

keys_many : (es : List (Index × ℤ)) → length (keys_of es) ≡ length es
keys_many [] = refl
keys_many (e ∷ es) = ap suc (keys_many es)

-- a number for each
pub numbered_is : (es : List (Index × ℤ)) (rs : List (List ℤ)) (ns : List ℤ) → IsStrictlySortedBy index_cmp (keys_of es) → keys_of es ≡ indices rs →
    length ns ≡ length es → with_all Point es (numbered_entries rs ns) ≡ zip (keys_of es) ns
numbered_is es rs ns sorted same many =
    all_written es (product rs) ns sorted same (many ∙ sym (keys_many es) ∙ ap length same ∙ length-map (product rs) Point)

-- ---- one entry after another

never_both : (b : Bool) → b && false ≡ false
never_both true = refl
never_both false = refl

pub fail_entry : (p : List ℤ × Option ℤ → Bool) (es : List (List ℤ × Option ℤ)) (k : ℕ) → k < length es →
    ((e : List ℤ × Option ℤ) → e ≡ get_or es k e → p e ≡ false) → list_all p es ≡ false
fail_entry p [] k low here = absurd (omega (arith, low))
fail_entry p (e ∷ es) zero low here = rw (here e refl) refl
fail_entry p (e ∷ es) (suc k) low here =
    ap (λ (b : Bool). p e && b) (fail_entry p es k (omega (arith, low)) here) ∙ never_both (p e)

pub write_entry : (es : List (List ℤ × Option ℤ)) (k : ℕ) (old now new : List (Index × ℤ)) → k < length es → now ≡ with_all Point old (take k es) →
    ((e : List ℤ × Option ℤ) → e ≡ get_or es k e → new ≡ with_one now (Point e.0) e.1) → new ≡ with_all Point old (take (k + 1) es)
write_entry es k old now new low so_far made =
    let x = at_place es k low in
    made x.0 x.1 ∙ ap (λ fs. with_one fs (Point x.0.0) x.0.1) so_far ∙ sym (with_all-more Point es k x.0 old low x.1)

pub keys-with_all : {I : Type 0} (f : I → Index) (xs : List (I × Option ℤ)) (es : List (Index × ℤ)) → keys_of (with_all f es xs) ≡ keys_of es
keys-with_all f [] es = refl
keys-with_all f (x ∷ xs) es = keys-with_all f xs (with_one es (f x.0) x.1) ∙ by x.1
  where
    by : (o : Option ℤ) → keys_of (with_one es (f x.0) o) ≡ keys_of es
    by None = refl
    by (Some v) = keys-set_value (is_at (index_cmp (f x.0))) es v

pub still_ranged : (o : Option (List (List ℤ))) (es fs : List (Index × ℤ)) → keys_of fs ≡ keys_of es → AreRanged o es → AreRanged o fs
still_ranged None es fs same ranged = tt
still_ranged (Some rs) es fs same ranged = same ∙ ranged

-- elements that are made where none were
pub fresh_after : (es old : List (Index × ℤ)) (xs : List (List ℤ × Option ℤ)) → IsStrictlySortedBy index_cmp (keys_of es) → all_set es ≡ as_changes Point xs →
    length old ≡ 0 → (i : Index) → element_at es i ≡ changed_at (as_changes Point xs) (element_at old i) i
fresh_after es [] xs sorted are none i =
    sym (ap (λ ys. changed_at ys None i) (sym are) ∙ all_there es None i sorted ∙ or_nothing (element_at es i))
fresh_after es (e ∷ old) xs sorted are none i = absurd (omega (arith, none))

-- ---- elements that are made

keys_set : (es : List (Index × ℤ)) → keys_of es ≡ map (λ (e : Index × Option ℤ). e.0) (all_set es)
keys_set [] = refl
keys_set (e ∷ es) = ap (λ ks. e.0 ∷ ks) (keys_set es)

keys_zip : (ps : List (List ℤ)) (ns : List ℤ) → length ns ≡ length ps →
    map (λ (e : Index × Option ℤ). e.0) (as_changes Point (zip ps (map (λ n. Some n) ns))) ≡ map Point ps
keys_zip [] ns many = refl
keys_zip (p ∷ ps) [] many = absurd (omega (arith, many))
keys_zip (p ∷ ps) (n ∷ ns) many = ap (λ ks. Point p ∷ ks) (keys_zip ps ns (omega (arith, many)))

-- elements that are made of numbers for all indices of a rectangle stand at these
pub block_keys : (es : List (Index × ℤ)) (rs : List (List ℤ)) (xs : List (List ℤ × Option ℤ)) → all_set es ≡ as_changes Point xs → IsWhole rs xs →
    keys_of es ≡ indices rs
block_keys es rs xs are whole =
    keys_set es ∙ ap (map (λ (e : Index × Option ℤ). e.0)) (are ∙ ap (as_changes Point) whole.2) ∙ keys_zip (product rs) whole.0 whole.1

module _ {I : Type 0} (f : I → Index) where
  pub set_last : (es : List (I × ℤ)) (e : I × ℤ) → all_set (indexed f (es ++ e ∷ [])) ≡ all_set (indexed f es) ++ (f e.0, Some e.1) ∷ []
  set_last [] e = refl
  set_last (x ∷ es) e = ap (λ ys. (f x.0, Some x.1) ∷ ys) (set_last es e)

  pub all_of-last : (is_of : Index → Bool) (es : List (I × ℤ)) (e : I × ℤ) → AllOf f is_of es → is_of (f e.0) ≡ true → AllOf f is_of (es ++ e ∷ [])
  all_of-last is_of [] e all here = (here, tt)
  all_of-last is_of (x ∷ es) e all here = (all.0, all_of-last is_of es e all.1 here)

  pub filled-indexed : (es : List (I × ℤ)) (n : ℤ) → indexed f (map (λ e. (e.0, n)) es) ≡ map (λ e. (e.0, n)) (indexed f es)
  filled-indexed [] n = refl
  filled-indexed (e ∷ es) n = ap (λ fs. (f e.0, n) ∷ fs) (filled-indexed es n)

  pub numbered-indexed : (es : List (I × ℤ)) (ns : List ℤ) → indexed f (zip (keys_of es) ns) ≡ zip (keys_of (indexed f es)) ns
  numbered-indexed [] ns = refl
  numbered-indexed (e ∷ es) [] = refl
  numbered-indexed (e ∷ es) (n ∷ ns) = ap (λ fs. (f e.0, n) ∷ fs) (numbered-indexed es ns)

  pub keys-indexed : (es fs : List (I × ℤ)) → keys_of fs ≡ keys_of es → keys_of (indexed f fs) ≡ keys_of (indexed f es)
  keys-indexed [] [] same = refl
  keys-indexed [] (x ∷ fs) same = cc
  keys-indexed (e ∷ es) [] same = cc
  keys-indexed (e ∷ es) (x ∷ fs) same =
      let here : x.0 ≡ e.0 = cc in
      let rest : keys_of fs ≡ keys_of es = cc in
      λ i. f (here i) ∷ keys-indexed es fs rest i

  pub all_of-keys : (is_of : Index → Bool) (es fs : List (I × ℤ)) → keys_of fs ≡ keys_of es → AllOf f is_of es → AllOf f is_of fs
  all_of-keys is_of [] [] same all = tt
  all_of-keys is_of [] (x ∷ fs) same all = cc
  all_of-keys is_of (e ∷ es) [] same all = tt
  all_of-keys is_of (e ∷ es) (x ∷ fs) same all =
      let here : x.0 ≡ e.0 = cc in
      let rest : keys_of fs ≡ keys_of es = cc in
      (ap (λ (k : I). is_of (f k)) here ∙ all.0, all_of-keys is_of es fs rest all.1)

module _ {K : Type 0} (cmp : K → K → Ordering) (total : IsTotalOrder cmp) (e : K × ℤ) where
  all_under : (es : List (K × ℤ)) → IsStrictlySortedBy cmp (keys_of es) → ((k : ℕ) (d : K × ℤ) → suc k ≡ length es → cmp (get_or es k d).0 e.0 ≡ Less) →
      AllByRecursion (λ y. cmp y e.0 ≡ Less) (keys_of es)
  unfolding IsStrictlySortedBy
  all_under [] sorted last = tt
  all_under (x ∷ []) sorted last = (last 0 x refl, tt)
  all_under (x ∷ y ∷ es) sorted last =
      let rest = all_under (y ∷ es) sorted.1 (λ k d many. last (suc k) d (ap suc many)) in
      (total.trans x.0 y.0 e.0 sorted.0.0 rest.0, rest)

  all_last : (P : K → Type 0) (es : List (K × ℤ)) → AllByRecursion P (keys_of es) → P e.0 → AllByRecursion P (keys_of (es ++ e ∷ []))
  all_last P [] all here = (here, tt)
  all_last P (x ∷ es) all here = (all.0, all_last P es all.1 here)

  within : {X : Type 0} (xs : List X) (k : ℕ) (d c : X) → k < length xs → get_or xs k d ≡ get_or xs k c
  within [] k d c low = absurd (omega (arith, low))
  within (x ∷ xs) zero d c low = refl
  within (x ∷ xs) (suc k) d c low = within xs k d c (omega (arith, low))

  pub last_less : (es : List (K × ℤ)) (last : ℕ) (r : K × ℤ) → suc last ≡ length es → r ≡ get_or es last r → cmp r.0 e.0 ≡ Less →
      (k : ℕ) (d : K × ℤ) → suc k ≡ length es → cmp (get_or es k d).0 e.0 ≡ Less
  last_less es last r many is less k d at =
      let same : k ≡ last = omega (arith, many, at) in
      let low : k < length es = omega (arith, at) in
      let this : get_or es k d ≡ r = within es k d r low ∙ ap (λ (j : ℕ). get_or es j r) same ∙ sym is in
      ap (λ (x : K × ℤ). cmp x.0 e.0) this ∙ less

  -- a key above the last one goes behind the others
  pub sorted_last : (es : List (K × ℤ)) → IsStrictlySortedBy cmp (keys_of es) → ((k : ℕ) (d : K × ℤ) → suc k ≡ length es → cmp (get_or es k d).0 e.0 ≡ Less) →
      IsStrictlySortedBy cmp (keys_of (es ++ e ∷ []))
  unfolding IsStrictlySortedBy
  sorted_last [] sorted last = (tt, tt)
  sorted_last (x ∷ es) sorted last = (
    all_last (λ y. cmp x.0 y ≡ Less) es sorted.0 ((all_under (x ∷ es) sorted last).0),
    sorted_last es sorted.1 (λ k d many. last (suc k) d (ap suc many)),
  )
