-- The cells that a pattern names stand together: before its first cell stands none of them, and behind one that is not named
-- there is none any more.
use Rattle.std.proofs.Common.{◌≡◌, Bool, true, false, cond, ◌&&◌, ◌||◌, ℕ, suc, ◌+◌, ◌<◌, ◌≤◌, nat_le, length, arith, List, [], ◌∷◌, map, take, Option, Some}
use Rattle.std.proofs.Common.{None, refl, sym, ap, subst, ◌∙◌, IsSome}
use Rattle.std.specs.BTreeMap.{BTreeMap, IsOrdered, ContainsKey, keys}
use Rattle.std.specs.BTreeMap.Range.{range_contains, entries_between}
use Rattle.std.specs.Cmp.Lexicographic.{slice_cmp, nat_list_cmp_total}
use Rattle.std.specs.FinMap.{get}
use Rattle.std.specs.FinMap.Entries.{where_key}
use Rattle.std.specs.List.{AllByRecursion, filter, list_all, prefix_len}
use Rattle.std.specs.List.Sorted.{IsStrictlySortedBy}
use Rattle.std.specs.Map.{keys_of}
use Rattle.std.specs.Ordering.{is_le, is_eq, nat_cmp, ordering_then}
use Rattle.std.specs.declared.cmp.Ordering.{Ordering}
use Rattle.std.specs.declared.cmp.Ordering.TheVariants.{Less, Equal, Greater}
use Rattle.std.specs.declared.ops.Bound.TheVariants.{Included, Unbounded}
use Rattle.std.proofs.lemmas.Bool.{leb-true}
use Rattle.std.proofs.lemmas.Cmp.{ranked}
use Rattle.std.proofs.lemmas.List.Elements.{recursion_from_All}
use Rattle.std.proofs.lemmas.Map.Views.{All-keys_found}
use Rattle.selective_undo.proofs.Evaluation.{entries-retain_keys}
use Rattle.wb_cells.specs.declared.cells.cell.Cell.{Cell}
use Rattle.wb_cells.specs.declared.cells.cell.Cell.TheVariants.{Object, Shape, In, Member, Mapping, Use, Implicit, Element}
use Rattle.wb_cells.specs.declared.cells.pattern.Pattern.{Pattern}
use Rattle.wb_cells.specs.declared.cells.pattern.Pattern.TheVariants.{Objects, One, Members, Uses, Elements}
use Rattle.wb_cells.specs.declared.cells.value.Value.{Value}
use Rattle.wb_cells.specs.declared.values.index.Index.{Index}
use Rattle.wb_cells.specs.declared.values.index.Index.TheVariants.{Point, Text}
use Rattle.wb_cells.specs.Names.{is_letter, is_name_part, is_name}
use Rattle.wb_cells.specs.Cells.{Name, Cells, cell_cmp, cell_order, index_cmp, is_same_name, same_names, matches, map_state}
use Rattle.wb_cells.specs.Families.{Begins, HasName, AreNamed}
use Rattle.wb_cells.specs.Readers.{seen}
use Rattle.wb_cells.specs.WellFormed.{IsWellFormed, use_of}
use Rattle.wb_cells.proofs.Order.{entries-map_state}
use Rattle.wb_cells.proofs.Shown.{get-map_state}

-- `A`, the least name
abbrev least : Name
least = 65 ∷ []

-- where the code begins to walk
abbrev pub first : Pattern → Cell
first Objects = Object least
first (One c) = c
first (Members d) = Member d (Point [])
first (Uses d) = Use d least
first (Elements a) = Element a (Point [])

abbrev pub is_from : Cell → Cell → Bool
is_from c = range_contains cell_cmp (Included c) Unbounded

-- ---- behind one that is not named

below : (o r : Ordering) → is_le (ordering_then o r) && true ≡ true → is_eq o ≡ false → o ≡ Less
below Less r from none = refl
below Equal r from none = cc
below Greater r from none = cc

less_is_other : (o : Ordering) → o ≡ Less → is_eq o ≡ false
less_is_other o e = rw e refl

at_least : (o : Ordering) → is_le o && true ≡ true → is_eq o ≡ false → o ≡ Less
at_least Less from none = refl
at_least Equal from none = cc
at_least Greater from none = cc

abbrev Stops : Pattern → Type 0
Stops p = (x y : Cell) → is_from (first p) x ≡ true → cell_cmp x y ≡ Less → matches p x ≡ false → matches p y ≡ false

later : (d f e : Name) (o r : Ordering) → slice_cmp nat_cmp f e ≡ o → ordering_then o r ≡ Less → slice_cmp nat_cmp d f ≡ Less → slice_cmp nat_cmp d e ≡ Less
later d f e Less r is up below = nat_list_cmp_total.trans d f e below is
later d f e Equal r is up below = subst (λ (g : Name). slice_cmp nat_cmp d g ≡ Less) (same_names f e is) below
later d f e Greater r is up below = cc

other_name : (d f e : Name) (o r q : Ordering) → is_le (ordering_then (slice_cmp nat_cmp d f) r) && true ≡ true → slice_cmp nat_cmp f e ≡ o →
    ordering_then o q ≡ Less → is_same_name d f ≡ false → is_same_name d e ≡ false
other_name d f e o r q from is up none =
    less_is_other (slice_cmp nat_cmp d e) (later d f e o q is up (below (slice_cmp nat_cmp d f) r from none))

members_stop : (d : Name) → Stops (Members d)
members_stop d x (Object e) from up none = refl
members_stop d x (Shape e) from up none = refl
members_stop d x (In e n) from up none = refl
members_stop d x (Mapping e) from up none = refl
members_stop d x (Use e n) from up none = refl
members_stop d x (Implicit e) from up none = refl
members_stop d x (Element e n) from up none = refl
members_stop d (Object f) (Member e n) from up none = cc
members_stop d (Shape f) (Member e n) from up none = cc
members_stop d (In f m) (Member e n) from up none = cc
members_stop d (Mapping f) (Member e n) from up none = cc
members_stop d (Use f m) (Member e n) from up none = cc
members_stop d (Implicit f) (Member e n) from up none = cc
members_stop d (Element f m) (Member e n) from up none = cc
members_stop d (Member f j) (Member e i) from up none = other_name d f e (slice_cmp nat_cmp f e) (index_cmp (Point []) j) (index_cmp j i) from refl up none

uses_stop : (d : Name) → Stops (Uses d)
uses_stop d x (Object e) from up none = refl
uses_stop d x (Shape e) from up none = refl
uses_stop d x (In e n) from up none = refl
uses_stop d x (Member e n) from up none = refl
uses_stop d x (Mapping e) from up none = refl
uses_stop d x (Implicit e) from up none = refl
uses_stop d x (Element e n) from up none = refl
uses_stop d (Object f) (Use e n) from up none = cc
uses_stop d (Shape f) (Use e n) from up none = cc
uses_stop d (In f m) (Use e n) from up none = cc
uses_stop d (Member f m) (Use e n) from up none = cc
uses_stop d (Mapping f) (Use e n) from up none = cc
uses_stop d (Implicit f) (Use e n) from up none = cc
uses_stop d (Element f m) (Use e n) from up none = cc
uses_stop d (Use f m) (Use e n) from up none = other_name d f e (slice_cmp nat_cmp f e) (slice_cmp nat_cmp least m) (slice_cmp nat_cmp m n) from refl up none

elements_stop : (d : Name) → Stops (Elements d)
elements_stop d x (Object e) from up none = refl
elements_stop d x (Shape e) from up none = refl
elements_stop d x (In e n) from up none = refl
elements_stop d x (Member e n) from up none = refl
elements_stop d x (Mapping e) from up none = refl
elements_stop d x (Use e n) from up none = refl
elements_stop d x (Implicit e) from up none = refl
elements_stop d (Object f) (Element e n) from up none = cc
elements_stop d (Shape f) (Element e n) from up none = cc
elements_stop d (In f m) (Element e n) from up none = cc
elements_stop d (Member f m) (Element e n) from up none = cc
elements_stop d (Mapping f) (Element e n) from up none = cc
elements_stop d (Use f m) (Element e n) from up none = cc
elements_stop d (Implicit f) (Element e n) from up none = cc
elements_stop d (Element f j) (Element e i) from up none = other_name d f e (slice_cmp nat_cmp f e) (index_cmp (Point []) j) (index_cmp j i) from refl up none

objects_stop : Stops Objects
objects_stop x (Shape e) from up none = refl
objects_stop x (In e n) from up none = refl
objects_stop x (Member e n) from up none = refl
objects_stop x (Mapping e) from up none = refl
objects_stop x (Use e n) from up none = refl
objects_stop x (Implicit e) from up none = refl
objects_stop x (Element e n) from up none = refl
objects_stop (Object f) (Object n) from up none = cc
objects_stop (Shape f) (Object n) from up none = cc
objects_stop (In f m) (Object n) from up none = cc
objects_stop (Member f m) (Object n) from up none = cc
objects_stop (Mapping f) (Object n) from up none = cc
objects_stop (Use f m) (Object n) from up none = cc
objects_stop (Implicit f) (Object n) from up none = cc
objects_stop (Element f m) (Object n) from up none = cc

stop : (p : Pattern) → Stops p
stop Objects = objects_stop
stop (One c) = λ x y from up none. less_is_other (cell_cmp c y) (cell_order.total.trans c x y (at_least (cell_cmp c x) from none) up)
stop (Members d) = members_stop d
stop (Uses d) = uses_stop d
stop (Elements a) = elements_stop a

-- ---- before the first cell

abbrev Covered : Pattern → Cell → Type 0
Covered p x = is_from (first p) x ≡ false → matches p x ≡ false

no_coordinates : (i : Index) → is_le (index_cmp (Point []) i) ≡ true
no_coordinates (Point []) = refl
no_coordinates (Point (x ∷ xs)) = refl
no_coordinates (Text t) = refl

not_below : (o r : Ordering) → is_le r ≡ true → is_le (ordering_then o r) && true ≡ false → is_eq o ≡ false
not_below Less r named from = refl
not_below Equal r named from = let no : true ≡ false = subst (λ (b : Bool). b && true ≡ false) named from in cc
not_below Greater r named from = refl

not_itself : (o : Ordering) → is_le o && true ≡ false → is_eq o ≡ false
not_itself Less from = refl
not_itself Equal from = cc
not_itself Greater from = refl

members_covered : (d : Name) (x : Cell) → Covered (Members d) x
members_covered d (Object e) from = refl
members_covered d (Shape e) from = refl
members_covered d (In e n) from = refl
members_covered d (Mapping e) from = refl
members_covered d (Use e n) from = refl
members_covered d (Implicit e) from = refl
members_covered d (Element e n) from = refl
members_covered d (Member e i) from = not_below (slice_cmp nat_cmp d e) (index_cmp (Point []) i) (no_coordinates i) from

elements_covered : (d : Name) (x : Cell) → Covered (Elements d) x
elements_covered d (Object e) from = refl
elements_covered d (Shape e) from = refl
elements_covered d (In e n) from = refl
elements_covered d (Member e n) from = refl
elements_covered d (Mapping e) from = refl
elements_covered d (Use e n) from = refl
elements_covered d (Implicit e) from = refl
elements_covered d (Element e i) from = not_below (slice_cmp nat_cmp d e) (index_cmp (Point []) i) (no_coordinates i) from

second : (a b d : Bool) → a && b && d ≡ true → b ≡ true
second true true d e = refl
second true false d e = cc
second false b d e = cc

from_letter : (c : ℕ) (a b d e : Bool) → (a ≡ true → 65 ≤ c) → (d ≡ true → 65 ≤ c) → (a && b) || (d && e) ≡ true → 65 ≤ c
from_letter c true b d e f g is = f refl
from_letter c false b true e f g is = g refl
from_letter c false b false e f g is = let no : ⊥ = cc in absurd no

from_97 : (c : ℕ) → 97 ≤ c → 65 ≤ c
from_97 c h = omega arith

is_no_letter : (c : ℕ) → c < 65 → is_letter c ≡ true → ⊥
is_no_letter c below is =
    let from = from_letter c (nat_le 65 c) (nat_le c 90) (nat_le 97 c) (nat_le c 122) (leb-true 65 c) (λ e. from_97 c (leb-true 97 c e)) is in
    omega arith

nothing_is_least : (cs : List ℕ) → is_le (slice_cmp nat_cmp [] cs) ≡ true
nothing_is_least [] = refl
nothing_is_least (c ∷ cs) = refl

least_is_least : (n : Name) → is_name n ≡ true → is_le (slice_cmp nat_cmp least n) ≡ true
least_is_least [] named = cc
least_is_least (c ∷ cs) named = elim (nat_cmp 65 c) as (λ o. nat_cmp 65 c ≡ o → is_le (ordering_then o (slice_cmp nat_cmp [] cs)) ≡ true) [
  | Less ↦ λ e. refl
  | Equal ↦ λ e. nothing_is_least cs
  | Greater ↦ λ e. absurd (is_no_letter c (ranked 65 c Greater (sym e)) (second (nat_le (length cs) 31) (is_letter c) (list_all is_name_part cs) named))
] refl

covered : (p : Pattern) (x : Cell) → HasName x → Covered p x
covered Objects (Object n) named from =
    let least_first : is_le (slice_cmp nat_cmp least n) ≡ true = least_is_least n named in
    let no : true ≡ false = subst (λ (b : Bool). b && true ≡ false) least_first from in cc
covered Objects (Shape e) named from = refl
covered Objects (In e n) named from = refl
covered Objects (Member e n) named from = refl
covered Objects (Mapping e) named from = refl
covered Objects (Use e n) named from = refl
covered Objects (Implicit e) named from = refl
covered Objects (Element e n) named from = refl
covered (One c) x named from = not_itself (cell_cmp c x) from
covered (Members d) x named from = members_covered d x from
covered (Elements a) x named from = elements_covered a x from
covered (Uses d) (Object e) named from = refl
covered (Uses d) (Shape e) named from = refl
covered (Uses d) (In e n) named from = refl
covered (Uses d) (Member e n) named from = refl
covered (Uses d) (Mapping e) named from = refl
covered (Uses d) (Implicit e) named from = refl
covered (Uses d) (Element e n) named from = refl
covered (Uses d) (Use e n) named from = not_below (slice_cmp nat_cmp d e) (slice_cmp nat_cmp least n) (least_is_least n named) from

pub begins : (p : Pattern) (c : Cell) → c ≡ first p → Begins p c
begins p c is =
    rw is (record {
      together = λ x y from up none. stop p x y (ap (λ b. b && true) from) up none;
      none_before = λ x named before. covered p x named (ap (λ b. b && true) before);
    })

-- ---- the cells of a well-formed workbook have names

some_value : (o : Option Value) → IsSome o → (v : Value) × (o ≡ Some v)
some_value None there = let no : ⊥ = cc in absurd no
some_value (Some v) there = (v, refl)

user_is_object : (d : Name) (o : Option Value) → IsSome (use_of d o) → IsSome o
user_is_object d None there = let no : ⊥ = cc in absurd no
user_is_object d (Some v) there = there_is v
  where
    there_is : (w : Value) → IsSome (Some w)
    there_is w = refl

module _ (s : Cells) (ok : IsWellFormed s) where
  object_named : (n : Name) → IsSome (get s (Object n)) → is_name n ≡ true
  object_named n there = let object = some_value (get s (Object n)) there in ok.names n object.0 object.1

  pub cell_named : (x : Cell) → IsSome (get s x) → HasName x
  cell_named (Object n) there = object_named n there
  cell_named (Use e n) there = object_named n (user_is_object e (get s (Object n)) (subst (λ (o : Option Value). IsSome o) (ok.uses e n) there))
  cell_named (Shape e) there = tt
  cell_named (In e n) there = tt
  cell_named (Member e n) there = tt
  cell_named (Mapping e) there = tt
  cell_named (Implicit e) there = tt
  cell_named (Element e n) there = tt

-- ---- so they are the front of what stands from the first cell on

with_true : (b t : Bool) → b && true ≡ t → b ≡ t
with_true true t e = e
with_true false t e = e

abbrev pub named : Pattern → Cell × Value → Bool
named p e = matches p e.0

-- each as it is
pub map-same : {X : Type 0} (xs : List X) → map (λ x. x) xs ≡ xs
map-same [] = refl
map-same (x ∷ xs) = ap (λ ys. x ∷ ys) (map-same xs)

one_more : (n : ℕ) (e : Cell × Value) (es : List (Cell × Value)) → take (1 + n) (e ∷ es) ≡ e ∷ take n es
one_more n e es = let more : 1 + n ≡ suc n = omega arith in ap (λ k. take k (e ∷ es)) more

module _ (p : Pattern) (c : Cell) (b : Begins p c) where
  pub together_from : (x y : Cell) → is_from c x ≡ true → cell_cmp x y ≡ Less → matches p x ≡ false → matches p y ≡ false
  together_from x y from up none = b.together x y (with_true (is_le (cell_cmp c x)) true from) up none

  pub all_covered : (m : BTreeMap Cell Value) → AreNamed (map_state m) → (xs : List Cell) → AllByRecursion (ContainsKey cell_cmp m) xs →
      AllByRecursion (λ x. is_from c x ≡ false → matches p x ≡ false) xs
  all_covered m names [] there = tt
  all_covered m names (x ∷ xs) there =
      let here : IsSome (get (map_state m) x) = subst (λ (o : Option Value). IsSome o) (sym (get-map_state m x)) there.0 in
      (λ before. b.none_before x (names x here) (with_true (is_le (cell_cmp c x)) false before), all_covered m names xs there.1)

  none_behind : (x : Cell) (es : List (Cell × Value)) → is_from c x ≡ true → matches p x ≡ false → AllByRecursion (λ y. cell_cmp x y ≡ Less) (keys_of es) →
      filter (named p) es ≡ []
  none_behind x [] from none above = refl
  none_behind x (e ∷ es) from none above = rw (together_from x e.0 from above.0 none) (none_behind x es from none above.1)

  front : (es : List (Cell × Value)) → AllByRecursion (λ x. is_from c x ≡ false → matches p x ≡ false) (keys_of es) → IsStrictlySortedBy cell_cmp (keys_of es)
      → take (prefix_len (named p) (filter (λ e. is_from c e.0) es)) (filter (λ e. is_from c e.0) es) ≡ filter (named p) es
  unfolding IsStrictlySortedBy
  front [] all s = refl
  front (e ∷ es) all s =
      let rest : List (Cell × Value) = filter (λ x. is_from c x.0) es in
      elim (is_from c e.0) as (λ v. is_from c e.0 ≡ v → take (prefix_len (named p) (cond v (e ∷ rest) rest)) (cond v (e ∷ rest) rest) ≡ filter (named p)
      (e ∷ es)) [
        | true ↦ λ from. elim (matches p e.0) as (λ v. matches p e.0 ≡ v →
            take (cond v (1 + prefix_len (named p) rest) 0) (e ∷ rest) ≡ cond v (e ∷ filter (named p) es) (filter (named p) es)) [
              | true ↦ λ here. one_more (prefix_len (named p) rest) e rest ∙ ap (λ xs. e ∷ xs) (front es all.1 s.1)
              | false ↦ λ none. sym (none_behind e.0 es from none s.0)
            ] refl
        | false ↦ λ from. rw (all.0 from) (front es all.1 s.1)
      ] refl

  found : (m : BTreeMap Cell Value) (part : List (Cell × Value)) → AllByRecursion (λ x. is_from c x ≡ false → matches p x ≡ false) (keys m) →
      IsOrdered cell_cmp m → part ≡ entries_between cell_cmp (Included c) Unbounded m.entries
      → take (prefix_len (named p) part) part ≡ seen (map_state m) p
  found m part all s is =
      ap (λ (es : List (Cell × Value)). take (prefix_len (named p) es) es) is
      ∙ front m.entries all s
      ∙ sym (ap (where_key cell_cmp (matches p)) (entries-map_state m s))
      ∙ sym (entries-retain_keys cell_order (map_state m) (matches p))

pub seen_found : (m : BTreeMap Cell Value) (p : Pattern) (c : Cell) (part : List (Cell × Value)) → AreNamed (map_state m) → IsOrdered cell_cmp m → Begins p c →
    part ≡ entries_between cell_cmp (Included c) Unbounded m.entries
    → take (prefix_len (named p) part) part ≡ seen (map_state m) p
seen_found m p c part names s b is =
    found p c b m part (all_covered p c b m names (keys m) (recursion_from_All (ContainsKey cell_cmp m) (keys m) (All-keys_found cell_order.total m s))) s is

-- a family of cells that are neither objects nor users, in any workbook
module _ (p : Pattern) (c : Cell) (b : Begins p c) (no_object : (n : Name) → matches p (Object n) ≡ false)
    (no_user : (d n : Name) → matches p (Use d n) ≡ false) where
  none_before : (x : Cell) → is_from c x ≡ false → matches p x ≡ false
  none_before (Object e) before = no_object e
  none_before (Use e n) before = no_user e n
  none_before (Shape e) before = b.none_before (Shape e) tt (with_true (is_le (cell_cmp c (Shape e))) false before)
  none_before (In e i) before = b.none_before (In e i) tt (with_true (is_le (cell_cmp c (In e i))) false before)
  none_before (Member e i) before = b.none_before (Member e i) tt (with_true (is_le (cell_cmp c (Member e i))) false before)
  none_before (Mapping e) before = b.none_before (Mapping e) tt (with_true (is_le (cell_cmp c (Mapping e))) false before)
  none_before (Implicit e) before = b.none_before (Implicit e) tt (with_true (is_le (cell_cmp c (Implicit e))) false before)
  none_before (Element e i) before = b.none_before (Element e i) tt (with_true (is_le (cell_cmp c (Element e i))) false before)
