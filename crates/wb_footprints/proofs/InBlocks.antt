-- Blocks: what is in them, after one is added and after those of a number are taken away.
use Rattle.std.proofs.Common.{◌≡◌, ◌⊎◌, inl, inr, ℕ, ◌<◌, ◌≤◌, ◌+◌, ◌-◌, Bool, true, false, ◌&&◌, ◌||◌, ◌==◌, if◌then◌else◌, List, [], ◌∷◌, ◌++◌}
use Rattle.std.proofs.Common.{Result, Ok, Err, length, take, drop, set, get_or, suc, zero, refl, sym, ap, ◌∙◌, arith}
use Rattle.std.specs.Cmp.{IsTotalOrder}
use Rattle.std.specs.Cmp.Lexicographic.{lists_total}
use Rattle.std.specs.Cmp.{int_cmp_total}
use Rattle.std.specs.FinMap.{IsAntisymmetric, int_cmp-IsAntisymmetric, slice_cmp-IsAntisymmetric}
use Rattle.std.specs.List.{list_any, AllByRecursion}
use Rattle.std.specs.List.Sorted.{IsStrictlySortedBy, IsBinarySearchResult, IsSearchInRange}
use Rattle.std.specs.Ordering.{is_eq, is_lt, eq_by_cmp, ordering_reverse}
use Rattle.std.specs.declared.cmp.Ordering.{Ordering}
use Rattle.std.specs.Result.{is_ok}
use Rattle.std.specs.declared.cmp.Ordering.TheVariants.{Less, Equal, Greater}
use Rattle.std.proofs.lemmas.Bool.{cases_lt}
use Rattle.std.proofs.lemmas.List.Folds.{list_any_at, list_any_none}
use Rattle.std.proofs.lemmas.Bool.Decides.{nat_tests}
use Rattle.wb_sets.specs.Places.{IsGap}
use Rattle.wb_sets.proofs.Ascending.{gap_by}
use Rattle.wb_cells.specs.declared.values.index.Index.{Index}
use Rattle.wb_footprints.specs.declared.marks.blocks.MarkBlock.{MarkBlock}
use Rattle.wb_footprints.specs.Relation.{Sets}
use Rattle.wb_footprints.specs.Points.{Coordinates, point_cmp, in_points}
use Rattle.wb_footprints.specs.Indices.{in_indices}
use Rattle.wb_footprints.specs.Numbers.{Numbers, numbered}
use Rattle.wb_footprints.specs.Blocks.{in_blocks}

pub points_total : IsTotalOrder point_cmp
points_total = lists_total int_cmp_total

pub points_exact : IsAntisymmetric point_cmp
points_exact = slice_cmp-IsAntisymmetric int_cmp-IsAntisymmetric

-- what a binary search says of ascending points
pub among : (xs : List Coordinates) (p : Coordinates) (r : Result ℕ ℕ) → IsStrictlySortedBy point_cmp xs → IsSearchInRange r (length xs) →
    IsBinarySearchResult (λ y. point_cmp y p) xs r → is_ok r ≡ in_points xs p
among xs p (Ok q) s l h = sym (list_any_at (λ y. eq_by_cmp point_cmp y p) xs q p l (ap is_eq (h p)))
among xs p (Err q) s l h =
    let gap : IsGap point_cmp xs p q = gap_by point_cmp points_total points_exact xs p (Err q) s l h in
    sym (list_any_none (λ y. eq_by_cmp point_cmp y p) xs (λ k d below. by gap k d below (cases_lt k q)))
  where
    by : IsGap point_cmp xs p q → (k : ℕ) (d : Coordinates) → k < length xs → (k < q) ⊎ (q ≤ k) → eq_by_cmp point_cmp (get_or xs k d) p ≡ false
    by gap k d below (inl l) = ap is_eq (gap.below k d (omega arith) l)
    by gap k d below (inr l) = ap is_eq (gap.above k d l below)

pub number_is : (m n : ℕ) → (m == n) ≡ true → m ≡ n
number_is m n e = grind (arith, nat_tests)

-- ---- points below another

pub all_below : (xs : List Coordinates) (p d : Coordinates) (i : ℕ) → IsStrictlySortedBy point_cmp xs → i + 1 ≡ length xs →
    point_cmp (get_or xs i d) p ≡ Less → AllByRecursion (λ y. point_cmp y p ≡ Less) xs
unfolding IsStrictlySortedBy
all_below [] p d i s e h = tt
all_below (x ∷ []) p d zero s e h = (h, tt)
all_below (x ∷ []) p d (suc i) s e h = let no : ⊥ = omega arith in absurd no
all_below (x ∷ y ∷ ys) p d zero s e h = let no : ⊥ = omega arith in absurd no
all_below (x ∷ y ∷ ys) p d (suc i) s e h =
    let rest = all_below (y ∷ ys) p d i s.1 (omega arith) h in
    (points_total.trans x y p s.0.0 rest.0, rest)

before_last : (n : ℕ) → (n == 0) ≡ false → (n - 1) + 1 ≡ n
before_last zero e = cc
before_last (suc n) e = omega arith

pub less_of : (o : Ordering) → is_lt o ≡ true → o ≡ Less
less_of Less e = refl
less_of Equal e = cc
less_of Greater e = cc

-- ---- numbers in blocks

and_out : (a b : Bool) → b ≡ false → a && b ≡ false
and_out true b e = e
and_out false b e = refl

or_out : (a b : Bool) → a ≡ false → b ≡ false → a || b ≡ false
or_out true b e f = cc
or_out false b e f = f

pub or_in : (a b : Bool) → a ≡ true → a || b ≡ true
or_in true b e = refl
or_in false b e = cc

pub or_last : (a b : Bool) → b ≡ true → a || b ≡ true
or_last true b e = refl
or_last false b e = e

-- ---- points outside of ascending ones

pub none_in : (xs : List Coordinates) (p : Coordinates) → (length xs == 0) ≡ true → in_points xs p ≡ false
none_in [] p e = refl
none_in (x ∷ xs) p e = let no : length (x ∷ xs) ≡ 0 = number_is (length (x ∷ xs)) 0 e in let bad : ⊥ = omega arith in absurd bad

out_of_lower : (xs : List Coordinates) (p : Coordinates) → AllByRecursion (λ y. point_cmp y p ≡ Less) xs → in_points xs p ≡ false
out_of_lower [] p a = refl
out_of_lower (x ∷ xs) p a = or_out _ _ (ap is_eq a.0) (out_of_lower xs p a.1)

out_of_higher : (xs : List Coordinates) (p : Coordinates) → AllByRecursion (λ y. point_cmp p y ≡ Less) xs → in_points xs p ≡ false
out_of_higher [] p a = refl
out_of_higher (x ∷ xs) p a = or_out _ _ (ap is_eq (points_total.antisymm x p ∙ ap ordering_reverse a.0)) (out_of_higher xs p a.1)

all_after : (xs : List Coordinates) (p x : Coordinates) → point_cmp p x ≡ Less →
    AllByRecursion (λ y. point_cmp x y ≡ Less) xs → AllByRecursion (λ y. point_cmp p y ≡ Less) xs
all_after [] p x l a = tt
all_after (y ∷ ys) p x l a = (points_total.trans p x y l a.0, all_after ys p x l a.1)

pub below_first : (xs : List Coordinates) (p x : Coordinates) → IsStrictlySortedBy point_cmp xs → (length xs == 0) ≡ false →
    x ≡ get_or xs 0 x → point_cmp p x ≡ Less → in_points xs p ≡ false
unfolding IsStrictlySortedBy
below_first [] p x s some is less = cc
below_first (y ∷ ys) p x s some is less =
    let first : point_cmp p y ≡ Less = ap (point_cmp p) (sym is) ∙ less in
    out_of_higher (y ∷ ys) p (first, all_after ys p y first s.0)

pub above_last : (xs : List Coordinates) (p x : Coordinates) → IsStrictlySortedBy point_cmp xs → (length xs == 0) ≡ false →
    x ≡ get_or xs (length xs - 1) x → point_cmp x p ≡ Less → in_points xs p ≡ false
above_last xs p x s some is less =
    let last = ap (λ y. point_cmp y p) (sym is) ∙ less in
    out_of_lower xs p (all_below xs p x (length xs - 1) s (before_last (length xs) some) last)

-- ---- a list of blocks

removed_any : {X : Type 0} (f : X → Bool) (xs : List X) (i : ℕ) (d : X) → i < length xs → f (get_or xs i d) ≡ false →
    list_any f (take i xs ++ drop (i + 1) xs) ≡ list_any f xs
removed_any f [] i d l h = let no : ⊥ = omega arith in absurd no
removed_any f (x ∷ xs) zero d l h = sym (ap (λ b. b || list_any f xs) h)
removed_any f (x ∷ xs) (suc i) d l h = let e : suc i + 1 ≡ suc (i + 1) = omega arith in rw e (ap (λ b. f x || b) (removed_any f xs i d (omega arith) h))

set_any : {X : Type 0} (f : X → Bool) (xs : List X) (i : ℕ) (y d : X) → i < length xs → f y ≡ f (get_or xs i d) → list_any f (set xs i y) ≡ list_any f xs
set_any f [] i y d l h = let no : ⊥ = omega arith in absurd no
set_any f (x ∷ xs) zero y d l h = ap (λ b. b || list_any f xs) h
set_any f (x ∷ xs) (suc i) y d l h = ap (λ b. f x || b) (set_any f xs i y d (omega arith) h)

raised : (h num x r : Bool) → ((h && (if num then true else x)) || r) ≡ (if h && num then true else ((h && x) || r))
raised true true x r = refl
raised true false x r = refl
raised false num x r = refl

beside : (x c r : Bool) → (x || (if c then true else r)) ≡ (if c then true else (x || r))
beside true true r = refl
beside true false r = refl
beside false c r = refl

-- a block with other numbers at the same points
abbrev pub renumbered : MarkBlock → Numbers → MarkBlock
renumbered b new = record { indices = b.indices; numbers = new }

-- a number more at the points of a block
pub number_more : (xs : List MarkBlock) (i number : ℕ) (b : MarkBlock) (new : Numbers) → i < length xs → b ≡ get_or xs i b →
    ((n : ℕ) → numbered new n ≡ (if number == n then true else numbered b.numbers n)) → (p : Index) (n : ℕ) →
    in_blocks (set xs i (renumbered b new)) p n ≡ (if in_indices b.indices p && (number == n) then true else in_blocks xs p n)
number_more [] i number b new l is more p n = let no : ⊥ = omega arith in absurd no
number_more (x ∷ xs) zero number b new l is more p n =
    ap (λ v. (in_indices b.indices p && v) || in_blocks xs p n) (more n)
    ∙ raised (in_indices b.indices p) (number == n) (numbered b.numbers n) (in_blocks xs p n)
    ∙ ap (λ (y : MarkBlock). if in_indices b.indices p && (number == n) then true else ((in_indices y.indices p && numbered y.numbers n) || in_blocks xs p n)) is
number_more (x ∷ xs) (suc i) number b new l is more p n =
    ap (λ r. (in_indices x.indices p && numbered x.numbers n) || r) (number_more xs i number b new (omega arith) is more p n)
    ∙ beside (in_indices x.indices p && numbered x.numbers n) (in_indices b.indices p && (number == n)) (in_blocks xs p n)

pub number_set : (xs : List MarkBlock) (i number : ℕ) (b : MarkBlock) (new : Numbers) → i < length xs → b ≡ get_or xs i b →
    ((n : ℕ) → numbered new n ≡ (if number == n then true else numbered b.numbers n)) → (ps : List Index) → ((d : MarkBlock) → (get_or xs i d).indices ≡ ps) →
    Sets (in_blocks xs) (in_blocks (set xs i (renumbered b new))) (λ p. in_indices ps p) number true
number_set xs i number b new l is more ps h = record {
  at = λ p n.
      number_more xs i number b new l is more p n
      ∙ ap (λ qs. if in_indices qs p && (number == n) then true else in_blocks xs p n) (ap (λ (y : MarkBlock). y.indices) is ∙ h b);
}

-- the same numbers again
pub number_same : (xs : List MarkBlock) (i number : ℕ) (b : MarkBlock) (new : Numbers) → i < length xs → b ≡ get_or xs i b → new ≡ b.numbers → (here : Index → Bool) →
    Sets (in_blocks xs) (in_blocks (set xs i (renumbered b new))) (λ p. false && here p) number true
number_same xs i number b new l is same here = record {
  at = λ p n.
      set_any (λ (y : MarkBlock). in_indices y.indices p && numbered y.numbers n) xs i (renumbered b new) b l
      (ap (λ ns. in_indices b.indices p && numbered ns n) same ∙ ap (λ (y : MarkBlock). in_indices y.indices p && numbered y.numbers n) is);
}

-- the other numbers, where one is taken away from a block
pub number_less : (xs : List MarkBlock) (i number : ℕ) (b : MarkBlock) (new : Numbers) → i < length xs → b ≡ get_or xs i b →
    ((n : ℕ) → numbered new n ≡ (if number == n then false else numbered b.numbers n)) → (p : Index) (n : ℕ) → (number == n) ≡ false →
    in_blocks (set xs i (renumbered b new)) p n ≡ in_blocks xs p n
number_less xs i number b new l is less p n other = set_any (λ (y : MarkBlock). in_indices y.indices p && numbered y.numbers n) xs i (renumbered b new) b l
    (ap (λ v. in_indices b.indices p && v) (less n ∙ ap (λ c. if c then false else numbered b.numbers n) other)
    ∙ ap (λ (y : MarkBlock). in_indices y.indices p && numbered y.numbers n) is)

-- a block without numbers
pub bare_gone : (xs ys : List MarkBlock) (i : ℕ) (b : MarkBlock) → i < length xs → ((n : ℕ) → numbered (get_or xs i b).numbers n ≡ false) → ys ≡ take i xs ++ drop (i + 1) xs →
    (p : Index) (n : ℕ) → in_blocks ys p n ≡ in_blocks xs p n
bare_gone xs ys i b l none e p n = rw e (removed_any (λ (y : MarkBlock). in_indices y.indices p && numbered y.numbers n) xs i b l
    (and_out (in_indices (get_or xs i b).indices p) _ (none n)))
