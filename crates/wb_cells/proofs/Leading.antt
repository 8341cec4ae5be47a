-- Lists of cells in which what a reader takes stands in front.
use Rattle.std.proofs.Common.{◌≡◌, ℕ, zero, suc, ◌+◌, Bool, true, false, cond, List, [], ◌∷◌, length, Option, Some, None, is_some, slice_get, refl, ap, ◌∙◌}
use Rattle.std.proofs.Common.{arith}
use Rattle.std.specs.List.{filter_map, filter, prefix_len, cons_option, AllByRecursion}
use Rattle.std.specs.List.Sorted.{IsStrictlySortedBy}
use Rattle.std.specs.Option.{option_and_then}
use Rattle.std.specs.declared.cmp.Ordering.TheVariants.{Less}
use Rattle.wb_cells.specs.declared.cells.cell.Cell.{Cell}
use Rattle.wb_cells.specs.Cells.{Name, cell_cmp}

-- behind a cell that f does not take, it takes none
abbrev pub Leads : (Cell → Option Name) → List Cell → Type 0
Leads f [] = Unit {0}
Leads f (x ∷ xs) = (f x ≡ None → filter_map f xs ≡ []) × Leads f xs

first_here : (f : Cell → Option Name) (x : Cell) (xs : List Cell) (o : Option Name) → f x ≡ o → (f x ≡ None → filter_map f xs ≡ []) →
    f x ≡ slice_get (cons_option o (filter_map f xs)) 0
first_here f x xs None e stops = rw (stops e) e
first_here f x xs (Some n) e stops = e

later_here : (f : Cell → Option Name) (x : Cell) (xs : List Cell) (p : ℕ) (o : Option Name) → f x ≡ o → (f x ≡ None → filter_map f xs ≡ []) →
    slice_get (filter_map f xs) p ≡ slice_get (cons_option o (filter_map f xs)) (suc p)
later_here f x xs p None e stops = rw (stops e) refl
later_here f x xs p (Some n) e stops = refl

pub get_leading : (f : Cell → Option Name) (xs : List Cell) (p : ℕ) → Leads f xs → option_and_then f (slice_get xs p) ≡ slice_get (filter_map f xs) p
get_leading f [] p h = refl
get_leading f (x ∷ xs) zero h = first_here f x xs (f x) refl h.0
get_leading f (x ∷ xs) (suc p) h = get_leading f xs p h.1 ∙ later_here f x xs p (f x) refl h.0

abbrev pub takes : (Cell → Option Name) → Cell → Bool
takes f x = is_some (f x)

length_here : (f : Cell → Option Name) (x : Cell) (xs : List Cell) (o : Option Name) → f x ≡ o → (f x ≡ None → filter_map f xs ≡ []) →
    prefix_len (takes f) xs ≡ length (filter_map f xs) → cond (is_some o) (1 + prefix_len (takes f) xs) 0 ≡ length (cons_option o (filter_map f xs))
length_here f x xs None e stops rest = rw (stops e) refl
length_here f x xs (Some n) e stops rest = omega (arith, rest)

pub length_leading : (f : Cell → Option Name) (xs : List Cell) → Leads f xs → prefix_len (takes f) xs ≡ length (filter_map f xs)
length_leading f [] h = refl
length_leading f (x ∷ xs) h = length_here f x xs (f x) refl h.0 (length_leading f xs h.1)

-- ---- among cells in their order

abbrev pub Stops : (Cell → Option Name) → (Cell → Type 0) → Type 0
Stops f P = (x y : Cell) → P x → cell_cmp x y ≡ Less → f x ≡ None → f y ≡ None

none_behind : (f : Cell → Option Name) (P : Cell → Type 0) → Stops f P → (x : Cell) (xs : List Cell) → P x → AllByRecursion (λ y. cell_cmp x y ≡ Less) xs →
    f x ≡ None → filter_map f xs ≡ []
none_behind f P stops x [] here above e = refl
none_behind f P stops x (y ∷ xs) here above e = rw (stops x y here above.0 e) (none_behind f P stops x xs here above.1 e)

pub leads_ascending : (f : Cell → Option Name) (P : Cell → Type 0) → Stops f P → (xs : List Cell) → AllByRecursion P xs → IsStrictlySortedBy cell_cmp xs →
    Leads f xs
unfolding IsStrictlySortedBy
leads_ascending f P stops [] here s = tt
leads_ascending f P stops (x ∷ xs) here s = (none_behind f P stops x xs here.0 s.0, leads_ascending f P stops xs here.1 s.1)

-- ---- and in a part of the list that has all that f takes

pub same_taken : (f : Cell → Option Name) (test : Cell → Bool) (xs : List Cell) → AllByRecursion (λ x. test x ≡ false → f x ≡ None) xs →
    filter_map f (filter test xs) ≡ filter_map f xs
same_taken f test [] all = refl
same_taken f test (x ∷ xs) all =
    elim (test x) as (λ b. test x ≡ b → filter_map f (cond b (x ∷ filter test xs) (filter test xs)) ≡ filter_map f (x ∷ xs)) [
      | true ↦ λ e. ap (cons_option (f x)) (same_taken f test xs all.1)
      | false ↦ λ e. rw (all.0 e) (same_taken f test xs all.1)
    ] refl

pub leads_from : (f : Cell → Option Name) (test : Cell → Bool) → Stops f (λ x. test x ≡ true) → (xs : List Cell) →
    AllByRecursion (λ x. test x ≡ false → f x ≡ None) xs → IsStrictlySortedBy cell_cmp xs → Leads f (filter test xs)
unfolding IsStrictlySortedBy
leads_from f test stops [] all s = tt
leads_from f test stops (x ∷ xs) all s =
    elim (test x) as (λ b. test x ≡ b → Leads f (cond b (x ∷ filter test xs) (filter test xs))) [
      | true ↦ λ e. (λ none. same_taken f test xs all.1 ∙ none_behind f (λ y. test y ≡ true) stops x xs e s.0 none, leads_from f test stops xs all.1 s.1)
      | false ↦ λ e. leads_from f test stops xs all.1 s.1
    ] refl
