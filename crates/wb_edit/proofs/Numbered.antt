-- What two arrays over one domain make, by their numbers alone.
use Rattle.std.proofs.Common.{◌≡◌, ℕ, zero, suc, ◌+◌, ◌<◌, ◌≤◌, Bool, true, false, ◌&&◌, T, ℤ, List, [], ◌∷◌, ◌++◌, map, take, length, get_or, set, Result, Ok}
use Rattle.std.proofs.Common.{Err, refl, sym, ap, subst, ◌∙◌, arith, add-one, append-nil}
use Rattle.std.specs.FinMap.{is_sorted}
use Rattle.std.specs.List.{list_all, zip}
use Rattle.std.specs.Map.{keys_of}
use Rattle.selective_undo.specs.Edit.{write}
use Rattle.wb_cells.specs.declared.cells.pattern.Pattern.{Pattern}
use Rattle.wb_cells.specs.declared.values.index.Index.{Index}
use Rattle.wb_cells.specs.Cells.{Name, Cells, Changes, index_cmp}
use Rattle.wb_edit.specs.declared.operation.Operation.{Operation}
use Rattle.wb_cells.specs.declared.refusal.WhyRefused.{WhyRefused}
use Rattle.wb_cells.specs.declared.refusal.WhyRefused.TheVariants.{Overflow}
use Rattle.wb_edit.specs.declared.attempt_err.AttemptErr.{AttemptErr}
use Rattle.wb_edit.specs.declared.attempt_err.AttemptErr.TheVariants.{Refused, NoMemory}
use Rattle.wb_edit.specs.Changed.{Judges, numbered, made_of, numbers_if, numbers_within}
use Rattle.wb_edit.specs.Commands.{number_cells}
use Rattle.wb_edit.specs.Elements.{result_of, results, all_kept_if, all_within}
use Rattle.wb_edit.specs.Numbers.{is_i64, fits_integer}
use Rattle.wb_edit.specs.Plans.{Attempts, Makes, or_refused}
use Rattle.wb_edit.specs.Trees.{judged, plain}
use Rattle.wb_edit.proofs.Rectangles.{whole}
use Rattle.wb_edit.proofs.SideBySide.{side_by_side, results_are, went_with, halted_with}

-- ---- a judgement, and then its changes

pub concludes : (s : Cells) (us : List Pattern) (a : Name) (j : Result (List (Index × ℤ)) WhyRefused) (r : Result Changes AttemptErr) → Judges (numbered a j) r →
    Attempts (judged j (λ zs. write (number_cells a zs))) s us r us
concludes s us a (Ok zs) (Ok xs) e = let same : number_cells a zs ≡ xs = cc in (ap Ok same, sym (append-nil us))
concludes s us a (Ok zs) (Err (Refused why)) e = let no : ⊥ = cc in absurd no
concludes s us a (Ok zs) (Err NoMemory) e = tt
concludes s us a (Err stop) (Ok xs) e = let no : ⊥ = cc in absurd no
concludes s us a (Err stop) (Err (Refused why)) e = let same : stop ≡ why = cc in (ap (λ r. Err (plain r)) same, sym (append-nil us))
concludes s us a (Err stop) (Err NoMemory) e = tt

-- a refusal is the same of the changes
pub refused : (a : Name) (j : Result (List (Index × ℤ)) WhyRefused) (why : AttemptErr) → Judges j (Err why) → Judges (numbered a j) (Err why)
refused a (Ok zs) (Refused why) e = let no : ⊥ = cc in absurd no
refused a (Err stop) (Refused why) e = let same : stop ≡ why = cc in ap Err same
refused a j NoMemory e = tt

-- what was kept makes the changes
pub kept : (a : Name) (j : Result (List (Index × ℤ)) WhyRefused) (zs : List (Index × ℤ)) (r : Result Changes AttemptErr) → j ≡ Ok zs →
    Makes (number_cells a zs) r →
    Judges (numbered a j) r
kept a j zs (Ok xs) e is = ap (numbered a) e ∙ ap Ok (sym is)
kept a j zs (Err (Refused why)) e is = let no : ⊥ = cc in absurd no
kept a j zs (Err NoMemory) e is = tt

-- ---- the numbers of elements

abbrev pub numbers_of : List (Index × ℤ) → List ℤ
numbers_of es = map (λ e. e.1) es

pub same_length : (xs ys : List (Index × ℤ)) → keys_of xs ≡ keys_of ys → length (numbers_of xs) ≡ length (numbers_of ys)
same_length [] [] alike = refl
same_length [] (y ∷ ys) alike = let none : [] ≡ y.0 ∷ keys_of ys = alike in cc
same_length (x ∷ xs) [] alike = let none : x.0 ∷ keys_of xs ≡ [] = alike in cc
same_length (x ∷ xs) (y ∷ ys) alike =
    let both_are : x.0 ∷ keys_of xs ≡ y.0 ∷ keys_of ys = alike in
    let rest : keys_of xs ≡ keys_of ys = cc in
    ap suc (same_length xs ys rest)

side_is : (how : Operation) (xs ys : List (Index × ℤ)) → side_by_side how xs ys ≡ zip (keys_of xs) (made_of how (numbers_of xs) (numbers_of ys))
side_is how [] ys = refl
side_is how (x ∷ xs) [] = refl
side_is how (x ∷ xs) (y ∷ ys) = ap (λ zs. (x.0, result_of how x.1 y.1) ∷ zs) (side_is how xs ys)

within_is : (how : Operation) (xs ys : List (Index × ℤ)) →
    list_all (λ z. is_i64 z.1) (side_by_side how xs ys) ≡ list_all is_i64 (made_of how (numbers_of xs) (numbers_of ys))
within_is how [] ys = refl
within_is how (x ∷ xs) [] = refl
within_is how (x ∷ xs) (y ∷ ys) = ap (λ b. is_i64 (result_of how x.1 y.1) && b) (within_is how xs ys)

kept_with : (b : Bool) (ns zs : List ℤ) → numbers_if b ns ≡ Ok zs → (b ≡ true) × (ns ≡ zs)
kept_with true ns zs e = let same : ns ≡ zs = cc in (refl, same)
kept_with false ns zs e = cc

out_with : (b : Bool) (ns : List ℤ) (why : WhyRefused) → numbers_if b ns ≡ Err why → (b ≡ false) × (Overflow ≡ why)
out_with true ns why e = cc
out_with false ns why e = let same : Overflow ≡ why = cc in (refl, same)

module _ (how : Operation) (xs ys : List (Index × ℤ)) (alike : keys_of xs ≡ keys_of ys) (s : T (is_sorted index_cmp xs)) where
  judged_by_numbers : (b : Bool) → list_all is_i64 (made_of how (numbers_of xs) (numbers_of ys)) ≡ b →
      all_within (results how xs ys) ≡ all_kept_if b (side_by_side how xs ys)
  judged_by_numbers b e = ap all_within (results_are how xs ys alike s) ∙ ap (λ k. all_kept_if k (side_by_side how xs ys)) (within_is how xs ys ∙ e)

  -- numbers within 64 bits stand at the indices
  pub numbers_kept : (zs : List ℤ) → numbers_within (made_of how (numbers_of xs) (numbers_of ys)) ≡ Ok zs →
      all_within (results how xs ys) ≡ Ok (zip (keys_of xs) zs)
  numbers_kept zs e =
      let made = made_of how (numbers_of xs) (numbers_of ys) in
      let is = kept_with (list_all is_i64 made) made zs e in
      judged_by_numbers true is.0 ∙ ap Ok (side_is how xs ys ∙ ap (zip (keys_of xs)) is.1)

  -- one that is not refuses all
  pub numbers_refused : (why : AttemptErr) → Judges (numbers_within (made_of how (numbers_of xs) (numbers_of ys))) (Err why) →
      Judges (all_within (results how xs ys)) (Err why)
  numbers_refused (Refused why) e =
      let made = made_of how (numbers_of xs) (numbers_of ys) in
      let is = out_with (list_all is_i64 made) made why e in
      judged_by_numbers false is.0 ∙ ap Err is.1
  numbers_refused NoMemory e = tt

-- ---- the loop

-- up to a place what the numbers make, and from there on the first ones
abbrev pub made_up_to : Operation → ℕ → (xs ys : List ℤ) → List ℤ
made_up_to how zero xs ys = xs
made_up_to how (suc p) [] ys = []
made_up_to how (suc p) (x ∷ xs) [] = x ∷ xs
made_up_to how (suc p) (x ∷ xs) (y ∷ ys) = result_of how x y ∷ made_up_to how p xs ys

-- at the place itself nothing was made yet
pub not_made : (how : Operation) (p : ℕ) (xs ys : List ℤ) (d : ℤ) → length xs ≡ length ys → get_or (made_up_to how p xs ys) p d ≡ get_or xs p d
not_made how zero xs ys d alike = refl
not_made how (suc p) [] ys d alike = refl
not_made how (suc p) (x ∷ xs) [] d alike = absurd (omega (arith, alike))
not_made how (suc p) (x ∷ xs) (y ∷ ys) d alike = not_made how p xs ys d (omega (arith, alike))

one_made : (how : Operation) (p : ℕ) (xs ys : List ℤ) (d e : ℤ) → p < length xs → p < length ys →
    set (made_up_to how p xs ys) p (result_of how (get_or xs p d) (get_or ys p e)) ≡ made_up_to how (suc p) xs ys
one_made how p [] ys d e low below = absurd (omega (arith, low))
one_made how p (x ∷ xs) [] d e low below = absurd (omega (arith, below))
one_made how zero (x ∷ xs) (y ∷ ys) d e low below = refl
one_made how (suc p) (x ∷ xs) (y ∷ ys) d e low below = ap (λ zs. result_of how x y ∷ zs) (one_made how p xs ys d e (omega (arith, low)) (omega (arith, below)))

made_up_to_end : (how : Operation) (p : ℕ) (xs ys : List ℤ) → length xs ≡ length ys → length ys ≤ p → made_up_to how p xs ys ≡ made_of how xs ys
made_up_to_end how zero [] ys alike past = refl
made_up_to_end how zero (x ∷ xs) ys alike past = absurd (omega (arith, alike, past))
made_up_to_end how (suc p) [] ys alike past = refl
made_up_to_end how (suc p) (x ∷ xs) [] alike past = absurd (omega (arith, alike))
made_up_to_end how (suc p) (x ∷ xs) (y ∷ ys) alike past = ap (λ zs. result_of how x y ∷ zs)
    (made_up_to_end how p xs ys (omega (arith, alike)) (omega (arith, past)))

made_at : (how : Operation) (xs ys : List ℤ) (p : ℕ) (d e : ℤ) → p < length xs → p < length ys →
    take (suc p) (made_of how xs ys) ≡ take p (made_of how xs ys) ++ result_of how (get_or xs p d) (get_or ys p e) ∷ []
made_at how [] ys p d e low below = absurd (omega (arith, low))
made_at how (x ∷ xs) [] p d e low below = absurd (omega (arith, below))
made_at how (x ∷ xs) (y ∷ ys) zero d e low below = refl
made_at how (x ∷ xs) (y ∷ ys) (suc p) d e low below = ap (λ zs. result_of how x y ∷ zs) (made_at how xs ys p d e (omega (arith, low)) (omega (arith, below)))

length-made : (how : Operation) (xs ys : List ℤ) → length xs ≡ length ys → length (made_of how xs ys) ≡ length xs
length-made how [] ys e = refl
length-made how (x ∷ xs) [] e = absurd (omega (arith, e))
length-made how (x ∷ xs) (y ∷ ys) e = let shorter : length xs ≡ length ys = omega (arith, e) in let h = length-made how xs ys shorter in omega (arith, h)

and-false : (b : Bool) → (b && false) ≡ false
and-false true = refl
and-false false = refl

both_true : (a b d : Bool) → (a && b) ≡ true → (b ≡ true → d ≡ true) → (a && d) ≡ true
both_true true b d e f = f e
both_true false b d e f = cc

within_more : (zs : List ℤ) (z : ℤ) → list_all is_i64 zs ≡ true → is_i64 z ≡ true → list_all is_i64 (zs ++ z ∷ []) ≡ true
within_more [] z before here = rw here refl
within_more (x ∷ zs) z before here =
    both_true (is_i64 x) (list_all is_i64 zs) (list_all is_i64 (zs ++ z ∷ [])) before (λ e. within_more zs z e here)

not_within : (how : Operation) (xs ys : List ℤ) (p : ℕ) (d e : ℤ) → p < length xs → p < length ys →
    is_i64 (result_of how (get_or xs p d) (get_or ys p e)) ≡ false →
    list_all is_i64 (made_of how xs ys) ≡ false
not_within how [] ys p d e low below out = absurd (omega (arith, low))
not_within how (x ∷ xs) [] p d e low below out = absurd (omega (arith, below))
not_within how (x ∷ xs) (y ∷ ys) zero d e low below out = rw out refl
not_within how (x ∷ xs) (y ∷ ys) (suc p) d e low below out =
    let rest = not_within how xs ys p d e (omega (arith, low)) (omega (arith, below)) out in
    rw rest (and-false (is_i64 (result_of how x y)))

module _ (how : Operation) (xs ys : List ℤ) (alike : length xs ≡ length ys) (p : ℕ) (x y d e : ℤ) (low : p < length xs)
    (here : x ≡ get_or xs p d) (there : y ≡ get_or ys p e) where
  value : result_of how x y ≡ result_of how (get_or xs p d) (get_or ys p e)
  value = ap (λ n. result_of how n y) here ∙ ap (λ n. result_of how (get_or xs p d) n) there

  pub next_number : (z : ℤ) (made more : List ℤ) → or_refused (fits_integer (result_of how x y)) ≡ Ok z → made ≡ made_up_to how p xs ys →
      list_all is_i64 (take p (made_of how xs ys)) ≡ true → more ≡ set made p z
      → (more ≡ made_up_to how (p + 1) xs ys) × (list_all is_i64 (take (p + 1) (made_of how xs ys)) ≡ true)
  next_number z made more given sofar within_64 is =
      let w : ℤ = result_of how x y in
      let below : p < length ys = omega (arith, low, alike) in
      let one = went_with (is_i64 w) w z given in
      let new : w ≡ result_of how (get_or xs p d) (get_or ys p e) = value in
      let put : set made p z ≡ set (made_up_to how p xs ys) p (result_of how (get_or xs p d) (get_or ys p e)) = (λ i. set (sofar i) p ((sym one.1 ∙ new) i)) in
      let longer : take p (made_of how xs ys) ++ w ∷ [] ≡ take (p + 1) (made_of how xs ys) =
      ap (λ v. take p (made_of how xs ys) ++ v ∷ []) new ∙ sym (made_at how xs ys p d e low below) ∙ ap (λ n. take n (made_of how xs ys)) (sym (add-one p)) in (
        is ∙ put ∙ one_made how p xs ys d e low below ∙ ap (λ n. made_up_to how n xs ys) (sym (add-one p)),
        sym (ap (list_all is_i64) longer) ∙ within_more (take p (made_of how xs ys)) w within_64 one.0,
      )

  pub halted : (why : AttemptErr) → or_refused (fits_integer (result_of how x y)) ≡ Err why → Judges (numbers_within (made_of how xs ys)) (Err why)
  halted why given =
      let w : ℤ = result_of how x y in
      let below : p < length ys = omega (arith, low, alike) in
      let out = halted_with (is_i64 w) w why given in
      let none : list_all is_i64 (made_of how xs ys) ≡ false = not_within how xs ys p d e low below (ap is_i64 (sym value) ∙ out.0) in
      subst (λ stop. Judges (numbers_within (made_of how xs ys)) (Err stop)) out.1 (ap (λ b. numbers_if b (made_of how xs ys)) none)

pub all_made : (how : Operation) (xs ys made : List ℤ) (p : ℕ) → length xs ≡ length ys → length ys ≤ p → made ≡ made_up_to how p xs ys →
    list_all is_i64 (take p (made_of how xs ys)) ≡ true → numbers_within (made_of how xs ys) ≡ Ok made
all_made how xs ys made p alike past is within_64 =
    let size = length-made how xs ys alike in
    let all : take p (made_of how xs ys) ≡ made_of how xs ys = whole (made_of how xs ys) p (omega (arith, past, size, alike)) in
    let whole_made : made ≡ made_of how xs ys = is ∙ made_up_to_end how p xs ys alike past in
    ap numbers_within (sym whole_made) ∙ ap (λ b. numbers_if b made) (ap (list_all is_i64) whole_made ∙ sym (ap (list_all is_i64) all) ∙ within_64)
