-- Two arrays over one domain list the same indices, so that their elements stand side by side.
use Rattle.std.proofs.Common.{◌≡◌, ℕ, zero, suc, ◌+◌, ◌<◌, ◌≤◌, if◌then◌else◌, is_ok, is_err, Bool, true, false, cond, ◌&&◌, T, ℤ, List, [], ◌∷◌, ◌++◌, map}
use Rattle.std.proofs.Common.{take, length, get_or, Option, Some, None, option_map, Result, Ok, Err, FitsSigned, refl, sym, ap, subst, ◌∙◌, arith, add-one}
use Rattle.std.proofs.Common.{Ordering}
use Rattle.std.proofs.lemmas.Option.{none-some, same_Some}
use Rattle.std.specs.FinMap.{get, find, is_sorted}
use Rattle.std.specs.FinMap.Entries.{below_all, same_entries}
use Rattle.std.specs.Int.{w64}
use Rattle.std.specs.List.{list_all}
use Rattle.std.specs.Map.{keys_of}
use Rattle.std.specs.Option.{option_and_then}
use Rattle.std.specs.Ordering.{eq_by_cmp, is_eq, is_lt}
use Rattle.std.specs.declared.cmp.Ordering.TheVariants.{Less, Equal, Greater}
use Rattle.selective_undo.specs.Edit.{outcome, write}
use Rattle.selective_undo.proofs.Changes.{not_true, is_itself}
use Rattle.wb_cells.specs.declared.cells.cell.Cell.TheVariants.{Object, Element}
use Rattle.wb_cells.specs.declared.cells.pattern.Pattern.{Pattern}
use Rattle.wb_cells.specs.declared.cells.kind.Kind.{Kind}
use Rattle.wb_cells.specs.declared.cells.value.Value.{Value}
use Rattle.wb_cells.specs.declared.cells.value.Value.TheVariants.{Array}
use Rattle.wb_cells.specs.declared.values.index.Index.{Index}
use Rattle.wb_cells.specs.Cells.{Name, Cells, Changes, index_cmp, is_same_index, is_same_name}
use Rattle.wb_cells.specs.Kinds.{kind_of}
use Rattle.wb_cells.specs.Readers.{elements}
use Rattle.wb_cells.specs.WellFormed.{IsWellFormed, IsElement, array_in, domain_at, array_at, is_index_of_array}
use Rattle.wb_edit.specs.declared.operation.Operation.{Operation}
use Rattle.wb_cells.specs.declared.refusal.EditRefusal.{EditRefusal}
use Rattle.wb_cells.specs.declared.refusal.WhyRefused.{WhyRefused}
use Rattle.wb_cells.specs.declared.refusal.WhyRefused.TheVariants.{Overflow}
use Rattle.wb_edit.specs.declared.attempt_err.AttemptErr.{AttemptErr}
use Rattle.wb_edit.specs.declared.attempt_err.AttemptErr.TheVariants.{Refused}
use Rattle.wb_edit.specs.Changed.{Judges}
use Rattle.wb_edit.specs.Elements.{result_of, value_at, results, all_kept_if, all_within, same_domain}
use Rattle.wb_edit.specs.Trees.{Tree, judged}
use Rattle.wb_edit.specs.Numbers.{is_i64, kept_if, fits_integer}
use Rattle.wb_edit.specs.Plans.{Gives, or_refused}
use Rattle.wb_edit.specs.Looks.{array_kind, array_named}
use Rattle.wb_edit.specs.Writes.{set_to}
use Rattle.wb_edit.proofs.Elements.{index_order, number_of, elements_ascend, find_element}
use Rattle.wb_reshape.proofs.States.{same_name}
use Rattle.wb_edit.proofs.Kept.Steps.{array_is}
use Rattle.wb_edit.proofs.Rectangles.{whole}
use Rattle.wb_reshape.proofs.Sorted.{both, first, second}
use Rattle.wb_edit.proofs.Sums.{is_i64-fits}
use Rattle.wb_edit.proofs.Trees.{seen_value}

-- ---- the indices alone

abbrev blank : List (Index × ℤ) → List (Index × Unit {0})
blank es = map (λ e. (e.0, tt)) es

keys-blank : (es : List (Index × ℤ)) → keys_of (blank es) ≡ keys_of es
keys-blank [] = refl
keys-blank (e ∷ es) = ap (λ is. e.0 ∷ is) (keys-blank es)

below-blank : (i : Index) (es : List (Index × ℤ)) → T (below_all index_cmp i es) → T (below_all index_cmp i (blank es))
below-blank i [] s = tt
below-blank i (e ∷ es) s = both _ _ (first _ _ s) (below-blank i es (second _ _ s))

sorted-blank : (es : List (Index × ℤ)) → T (is_sorted index_cmp es) → T (is_sorted index_cmp (blank es))
sorted-blank [] s = tt
sorted-blank (e ∷ es) s = both _ _ (below-blank e.0 es (first _ _ s)) (sorted-blank es (second _ _ s))

abbrev nothing_of : ℤ → Unit {0}
nothing_of x = tt

abbrev some_if : Bool → Option (Unit {0})
some_if true = Some tt
some_if false = None

find-blank : (i : Index) (es : List (Index × ℤ)) → find index_cmp i (blank es) ≡ option_map nothing_of (find index_cmp i es)
find-blank i [] = refl
find-blank i (e ∷ es) = elim (eq_by_cmp index_cmp i e.0) as (λ b. cond b (Some tt) (find index_cmp i (blank es)) ≡ option_map nothing_of
    (cond b (Some e.1) (find index_cmp i es))) [
      | true ↦ refl
      | false ↦ find-blank i es
    ]

there_if : (b : Bool) (o : Option Value) → IsElement b o → option_map nothing_of (option_and_then number_of o) ≡ some_if b
there_if true o number = rw number.1 refl
there_if false o none = rw none refl

-- arrays over one domain have the same indices
pub same_indices : (s : Cells) (a b : Name) → IsWellFormed s → array_at s a ≡ array_at s b → keys_of (elements s a) ≡ keys_of (elements s b)
same_indices s a b h alike =
    let xs : List (Index × ℤ) = elements s a in
    let ys : List (Index × ℤ) = elements s b in
    let at : (n : Name) (i : Index) → find index_cmp i (blank (elements s n)) ≡ some_if (is_index_of_array s (array_at s n) i) = λ n i.
    find-blank i (elements s n) ∙ ap (option_map nothing_of) (find_element s n i) ∙
    there_if (is_index_of_array s (array_at s n) i) (get s (Element n i)) (h.elements n i) in
    let same : blank xs ≡ blank ys = same_entries index_cmp index_order.total index_order.strict (blank xs) (blank ys) (sorted-blank xs (elements_ascend s a))
    (sorted-blank ys (elements_ascend s b)) (λ i.
    at a i ∙ ap (λ o. some_if (is_index_of_array s o i)) alike ∙ sym (at b i)) in
    sym (keys-blank xs) ∙ ap (λ es. keys_of es) same ∙ keys-blank ys

-- ---- that two arrays are over one domain, by what was seen

abbrev shown_in : Result Changes EditRefusal → Option (Name × Kind)
shown_in (Ok (x ∷ xs)) = array_in x.value
shown_in (Ok []) = None
shown_in (Err why) = None

sees : (s : Cells) (x : Name × Kind) (j : Result (Name × Kind) WhyRefused) →
    outcome (judged j (λ y. write (set_to (Object y.0) (Array y.0 y.1) ∷ []))) s ≡ Ok (set_to (Object x.0) (Array x.0 x.1) ∷ []) → j ≡ Ok x
sees s x (Ok y) e = let shown : Some y ≡ Some x = ap shown_in e in ap Ok (same_Some y x shown)
sees s x (Err why) e = let shown : None ≡ Some x = ap shown_in e in absurd (none-some x shown)

-- a look at an array that went on saw it
pub saw_array : (s : Cells) (a : Name) (rs ss : List Pattern) (x : Name × Kind) → Gives (array_named a) s rs x ss → get s (Object a) ≡ Some (Array x.0 x.1)
saw_array s a rs ss x g =
    let next : Name × Kind → Tree = λ y. write (set_to (Object y.0) (Array y.0 y.1) ∷ []) in
    array_is (get s (Object a)) x (sees s x (array_kind (get s (Object a)))
    (ap (λ v. outcome (judged (array_kind v) next) s) (sym (seen_value s (Object a))) ∙ (g next).0))

pub went_on : (j : Result (Unit {0}) WhyRefused) (x : Unit {0}) → or_refused j ≡ Ok x → j ≡ Ok x
went_on (Ok y) x e = refl
went_on (Err why) x e = cc

found_same : (b : Bool) (x : Unit {0}) (why : WhyRefused) → ◌≡◌ {A = Result (Unit {0}) WhyRefused} (elim b [ true ↦ Ok tt | false ↦ Err why ]) (Ok x) → b ≡ true
found_same true x why e = refl
found_same false x why e = cc

pub one_array : (s : Cells) (a b d e : Name) (kind other : Kind) (x : Unit {0}) → IsWellFormed s → get s (Object a) ≡ Some (Array d kind) →
    get s (Object b) ≡ Some (Array e other) → same_domain d e ≡ Ok x → array_at s a ≡ array_at s b
one_array s a b d e kind other x h there also same =
    let name : d ≡ e = same_name d e (found_same (is_same_name d e) x _ same) in
    let one : option_map kind_of (domain_at s d) ≡ Some kind = h.objects a (Array d kind) there in
    let two : option_map kind_of (domain_at s e) ≡ Some other = h.objects b (Array e other) also in
    let kinds : kind ≡ other = same_Some kind other (sym one ∙ ap (λ n. option_map kind_of (domain_at s n)) name ∙ two) in
    ap array_in (there ∙ (λ i. Some (Array (name i) (kinds i))) ∙ sym also)

-- ---- side by side

abbrev pub side_by_side : Operation → (xs ys : List (Index × ℤ)) → List (Index × ℤ)
side_by_side how [] ys = []
side_by_side how (x ∷ xs) [] = []
side_by_side how (x ∷ xs) (y ∷ ys) = (x.0, result_of how x.1 y.1) ∷ side_by_side how xs ys

less_than_itself : (o : Ordering) → T (is_lt o) → is_eq o ≡ true → ⊥
less_than_itself Less p e = cc
less_than_itself Equal p e = absurd p
less_than_itself Greater p e = absurd p

tie : (o : Ordering) → is_eq o ≡ true → o ≡ Equal
tie Less e = cc
tie Equal e = refl
tie Greater e = cc

above_is_other : (k i : Index) → T (is_lt (index_cmp k i)) → is_same_index i k ≡ false
above_is_other k i above = not_true _ λ e.
    let index : i ≡ k = index_order.strict i k (tie (index_cmp i k) e) in
    less_than_itself (index_cmp k i) above (ap (λ j. eq_by_cmp index_cmp k j) index ∙ is_itself index_order k)

-- an element in front of those that are looked for
passed_over : (how : Operation) (y : Index × ℤ) (xs ys : List (Index × ℤ)) → T (below_all index_cmp y.0 xs) → results how xs (y ∷ ys) ≡ results how xs ys
passed_over how y [] ys below = refl
passed_over how y (x ∷ xs) ys below =
    let other : is_same_index x.0 y.0 ≡ false = above_is_other y.0 x.0 (first _ _ below) in
    let value : value_at (y ∷ ys) x.0 ≡ value_at ys x.0 = rw (other, value_at) refl in
    (λ i. (x.0, result_of how x.1 (value i)) ∷ passed_over how y xs ys (second _ _ below) i)

pub results_are : (how : Operation) (xs ys : List (Index × ℤ)) → keys_of xs ≡ keys_of ys → T (is_sorted index_cmp xs) →
    results how xs ys ≡ side_by_side how xs ys
results_are how [] ys alike s = refl
results_are how (x ∷ xs) [] alike s = let none : x.0 ∷ keys_of xs ≡ [] = alike in cc
results_are how (x ∷ xs) (y ∷ ys) alike s =
    let both_are : x.0 ∷ keys_of xs ≡ y.0 ∷ keys_of ys = alike in
    let index : x.0 ≡ y.0 = cc in
    let rest : keys_of xs ≡ keys_of ys = cc in
    let same : is_same_index x.0 y.0 ≡ true = ap (λ j. is_same_index x.0 j) (sym index) ∙ is_itself index_order x.0 in
    let value : value_at (y ∷ ys) x.0 ≡ y.1 = rw (same, value_at) refl in
    let below : T (below_all index_cmp y.0 xs) = subst (λ j. T (below_all index_cmp j xs)) index (first _ _ s) in
    let others : results how xs (y ∷ ys) ≡ side_by_side how xs ys = passed_over how y xs ys below ∙ results_are how xs ys rest (second _ _ s) in
    (λ i. (x.0, result_of how x.1 (value i)) ∷ others i)

pub same_length : (xs ys : List (Index × ℤ)) → keys_of xs ≡ keys_of ys → length xs ≡ length ys
same_length [] [] alike = refl
same_length [] (y ∷ ys) alike = let none : [] ≡ y.0 ∷ keys_of ys = alike in cc
same_length (x ∷ xs) [] alike = let none : x.0 ∷ keys_of xs ≡ [] = alike in cc
same_length (x ∷ xs) (y ∷ ys) alike = let both_are : x.0 ∷ keys_of xs ≡ y.0 ∷ keys_of ys = alike in let rest : keys_of xs ≡ keys_of ys = cc in let e =
    same_length xs ys rest in omega (arith, e)

-- the result at a place
pub result_at : (how : Operation) (xs ys : List (Index × ℤ)) (p : ℕ) (d e : Index × ℤ) → p < length xs → p < length ys →
    take (p + 1) (side_by_side how xs ys) ≡ take p (side_by_side how xs ys) ++ ((get_or xs p d).0, result_of how (get_or xs p d).1 (get_or ys p e).1) ∷ []
result_at how xs ys p d e low below = ap (λ n. take n (side_by_side how xs ys)) (add-one p) ∙ at how xs ys p d e low below
  where
    at : (how : Operation) (xs ys : List (Index × ℤ)) (p : ℕ) (d e : Index × ℤ) → p < length xs → p < length ys →
        take (suc p) (side_by_side how xs ys) ≡ take p (side_by_side how xs ys) ++ ((get_or xs p d).0, result_of how (get_or xs p d).1 (get_or ys p e).1) ∷ []
    at how [] ys p d e low below = absurd (omega (arith, low))
    at how (x ∷ xs) [] p d e low below = absurd (omega (arith, below))
    at how (x ∷ xs) (y ∷ ys) zero d e low below = refl
    at how (x ∷ xs) (y ∷ ys) (suc p) d e low below = ap (λ zs. (x.0, result_of how x.1 y.1) ∷ zs)
        (at how xs ys p d e (omega (arith, low)) (omega (arith, below)))

pub length-side : (how : Operation) (xs ys : List (Index × ℤ)) → length xs ≡ length ys → length (side_by_side how xs ys) ≡ length xs
length-side how [] ys e = refl
length-side how (x ∷ xs) [] e = absurd (omega (arith, e))
length-side how (x ∷ xs) (y ∷ ys) e = let shorter : length xs ≡ length ys = omega (arith, e) in let h = length-side how xs ys shorter in omega (arith, h)

-- ---- results of 64 bits

and-assoc : (a b d : Bool) → (a && (b && d)) ≡ ((a && b) && d)
and-assoc true b d = refl
and-assoc false b d = refl

and-false : (b : Bool) → (b && false) ≡ false
and-false true = refl
and-false false = refl

within-append : (xs ys : List (Index × ℤ)) → list_all (λ z. is_i64 z.1) (xs ++ ys) ≡ (list_all (λ z. is_i64 z.1) xs && list_all (λ z. is_i64 z.1) ys)
within-append [] ys = refl
within-append (x ∷ xs) ys = ap (λ b. is_i64 x.1 && b) (within-append xs ys) ∙
    and-assoc (is_i64 x.1) (list_all (λ z. is_i64 z.1) xs) (list_all (λ z. is_i64 z.1) ys)

-- one more that is of 64 bits
pub within_more : (zs : List (Index × ℤ)) (z : Index × ℤ) → list_all (λ z. is_i64 z.1) zs ≡ true → is_i64 z.1 ≡ true →
    list_all (λ z. is_i64 z.1) (zs ++ z ∷ []) ≡ true
within_more zs z before here = within-append zs (z ∷ []) ∙ rw (before, here) refl

-- one that is not
pub not_within : (how : Operation) (xs ys : List (Index × ℤ)) (p : ℕ) (d e : Index × ℤ) → p < length xs → p < length ys →
    is_i64 (result_of how (get_or xs p d).1 (get_or ys p e).1) ≡ false → list_all (λ z. is_i64 z.1) (side_by_side how xs ys) ≡ false
not_within how [] ys p d e low below out = absurd (omega (arith, low))
not_within how (x ∷ xs) [] p d e low below out = absurd (omega (arith, below))
not_within how (x ∷ xs) (y ∷ ys) zero d e low below out = rw out refl
not_within how (x ∷ xs) (y ∷ ys) (suc p) d e low below out =
    let rest = not_within how xs ys p d e (omega (arith, low)) (omega (arith, below)) out in
    rw rest (and-false (is_i64 (result_of how x.1 y.1)))

-- ---- results stand at the same indices

below-results : (how : Operation) (i : Index) (xs ys : List (Index × ℤ)) → T (below_all index_cmp i xs) → T (below_all index_cmp i (results how xs ys))
below-results how i [] ys s = tt
below-results how i (x ∷ xs) ys s = both _ _ (first _ _ s) (below-results how i xs ys (second _ _ s))

sorted-results : (how : Operation) (xs ys : List (Index × ℤ)) → T (is_sorted index_cmp xs) → T (is_sorted index_cmp (results how xs ys))
sorted-results how [] ys s = tt
sorted-results how (x ∷ xs) ys s = both _ _ (below-results how x.0 xs ys (first _ _ s)) (sorted-results how xs ys (second _ _ s))

pub all_kept_is : (b : Bool) (zs ys : List (Index × ℤ)) → all_kept_if b zs ≡ Ok ys → (b ≡ true) × (zs ≡ ys)
all_kept_is true zs ys e = let same : zs ≡ ys = cc in (refl, same)
all_kept_is false zs ys e = cc

pub kept_ascend : (how : Operation) (xs ys zs : List (Index × ℤ)) → T (is_sorted index_cmp xs) → all_within (results how xs ys) ≡ Ok zs →
    T (is_sorted index_cmp zs)
kept_ascend how xs ys zs s e = subst (λ es. T (is_sorted index_cmp es))
    (all_kept_is (list_all (λ z. is_i64 z.1) (results how xs ys)) (results how xs ys) zs e).1 (sorted-results how xs ys s)

-- ---- the loop

pub went_with : (b : Bool) (w z : ℤ) → or_refused (kept_if b w) ≡ Ok z → (b ≡ true) × (w ≡ z)
went_with true w z e = let same : w ≡ z = cc in (refl, same)
went_with false w z e = cc

pub halted_with : (b : Bool) (w : ℤ) (why : AttemptErr) → or_refused (kept_if b w) ≡ Err why → (b ≡ false) × (Refused Overflow ≡ why)
halted_with true w why e = cc
halted_with false w why e = let same : Refused Overflow ≡ why = cc in (refl, same)

pub fits_after : (w z : ℤ) → or_refused (fits_integer w) ≡ Ok z → FitsSigned w64 z
fits_after w z e = let kept = went_with (is_i64 w) w z e in subst (λ v. FitsSigned w64 v) kept.1 (is_i64-fits w kept.0)

pub pushed : {X A B : Type 0} (r : Result A B) (xs ys : List X) (x : X) → is_err r ≡ false → ys ≡ (if is_ok r then xs ++ x ∷ [] else xs) → ys ≡ xs ++ x ∷ []
pushed (Ok a) xs ys x ok e = e
pushed (Err b) xs ys x ok e = cc

module _ (how : Operation) (xs ys : List (Index × ℤ)) (alike : keys_of xs ≡ keys_of ys) (p : ℕ) (x y : Index × ℤ) (low : p < length xs)
    (here : x ≡ get_or xs p x) (there : y ≡ get_or ys p y) where
  also_low : p < length ys
  also_low = let same = same_length xs ys alike in omega (arith, low, same)

  pub next_result : (z : ℤ) (made more : List (Index × ℤ)) → or_refused (fits_integer (result_of how x.1 y.1)) ≡ Ok z → made ≡ take p (side_by_side how xs ys) →
      list_all (λ z. is_i64 z.1) made ≡ true → more ≡ made ++ (x.0, z) ∷ []
      → (more ≡ take (p + 1) (side_by_side how xs ys)) × (list_all (λ z. is_i64 z.1) more ≡ true)
  next_result z made more given sofar within_64 is =
      let w : ℤ = result_of how x.1 y.1 in
      let kept = went_with (is_i64 w) w z given in
      let same : more ≡ made ++ (x.0, w) ∷ [] = is ∙ ap (λ v. made ++ (x.0, v) ∷ []) (sym kept.1) in (
        same ∙ ap (λ zs. zs ++ (x.0, w) ∷ []) sofar
            ∙ ap (λ e. take p (side_by_side how xs ys) ++ (e.0, result_of how e.1 y.1) ∷ []) here
            ∙ ap (λ e. take p (side_by_side how xs ys) ++ ((get_or xs p x).0, result_of how (get_or xs p x).1 e.1) ∷ []) there
            ∙ sym (result_at how xs ys p x y low also_low),
        ap (list_all (λ z. is_i64 z.1)) same ∙ within_more made (x.0, w) within_64 kept.0,
      )

  pub halted : (why : AttemptErr) → T (is_sorted index_cmp xs) → or_refused (fits_integer (result_of how x.1 y.1)) ≡ Err why →
      Judges (all_within (results how xs ys)) (Err why)
  halted why s given =
      let w : ℤ = result_of how x.1 y.1 in
      let out = halted_with (is_i64 w) w why given in
      let value : result_of how (get_or xs p x).1 (get_or ys p y).1 ≡ w = ap (λ e. result_of how e.1 (get_or ys p y).1) (sym here) ∙
      ap (λ e. result_of how x.1 e.1) (sym there) in
      let none : list_all (λ z. is_i64 z.1) (side_by_side how xs ys) ≡ false = not_within how xs ys p x y low also_low (ap is_i64 value ∙ out.0) in
      subst (λ stop. Judges (all_within (results how xs ys)) (Err stop)) out.1
      (ap all_within (results_are how xs ys alike s) ∙ ap (λ b. all_kept_if b (side_by_side how xs ys)) none)

pub results_made : (how : Operation) (xs ys made : List (Index × ℤ)) (p : ℕ) → keys_of xs ≡ keys_of ys → T (is_sorted index_cmp xs) → length xs ≤ p →
    made ≡ take p (side_by_side how xs ys) → list_all (λ z. is_i64 z.1) made ≡ true → all_within (results how xs ys) ≡ Ok made
results_made how xs ys made p alike s past is within_64 =
    let size = length-side how xs ys (same_length xs ys alike) in
    let whole_made : made ≡ side_by_side how xs ys = is ∙ whole (side_by_side how xs ys) p (omega (arith, past, size)) in
    ap all_within (results_are how xs ys alike s ∙ sym whole_made) ∙ ap (λ b. all_kept_if b made) within_64
