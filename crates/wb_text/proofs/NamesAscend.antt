-- The lines of a workbook stand in the order of their names, each name once.
use Rattle.std.proofs.Common.{◌≡◌, Bool, true, false, ◌&&◌, T, List, [], ◌∷◌, map, Option, Some, None, refl, subst, Ordering}
use Rattle.std.specs.Cmp.Lexicographic.{slice_cmp}
use Rattle.std.specs.FinMap.{entries, entries_sorted, is_sorted, keys}
use Rattle.std.specs.FinMap.Entries.{below_all}
use Rattle.std.specs.List.{AllByRecursion, cons_option, filter_map}
use Rattle.std.specs.List.Sorted.{IsStrictlySortedBy}
use Rattle.std.specs.Ordering.{is_lt, nat_cmp}
use Rattle.std.specs.declared.cmp.Ordering.TheVariants.{Less, Equal, Greater}
use Rattle.wb_cells.specs.declared.cells.cell.Cell.{Cell}
use Rattle.wb_cells.specs.declared.cells.cell.Cell.TheVariants.{Object}
use Rattle.wb_cells.specs.Cells.{Name, Cells, cell_cmp}
use Rattle.wb_cells.specs.Readers.{object_of, objects}
use Rattle.wb_text.specs.Said.{Line, name_of, said_of, said}
use Rattle.wb_text.proofs.ReadIndices.{some_same}
use Rattle.wb_text.proofs.LineOfName.{IsNamed, said_named}
use Rattle.wb_text.proofs.SameDomains.{none_some}

-- ---- the keys of a finite map ascend

parts : (a b : Bool) → T (a && b) → T a × T b
parts true b h = (tt, h)
parts false b h = absurd h

less : (o : Ordering) → T (is_lt o) → o ≡ Less
less Less h = refl
less Equal h = absurd h
less Greater h = absurd h

all_below : {K X : Type 0} (R : K → K → Ordering) (x : K) (es : List (K × X)) → T (below_all R x es) → AllByRecursion (λ y. R x y ≡ Less) (map (λ e. e.0) es)
all_below R x [] h = tt
all_below R x (e ∷ es) h = let p = parts (is_lt (R x e.0)) (below_all R x es) h in (less (R x e.0) p.0, all_below R x es p.1)

sorted_keys : {K X : Type 0} (R : K → K → Ordering) (es : List (K × X)) → T (is_sorted R es) → IsStrictlySortedBy R (map (λ e. e.0) es)
unfolding IsStrictlySortedBy
sorted_keys R [] h = tt
sorted_keys R (e ∷ es) h = let p = parts (below_all R e.0 es) (is_sorted R es) h in (all_below R e.0 es p.0, sorted_keys R es p.1)

-- ---- what a function that keeps the order gives of ascending items ascends

module _ {K J : Type 0} (R : K → K → Ordering) (S : J → J → Ordering) (h : K → Option J)
    (keeps : (k l : K) (a b : J) → h k ≡ Some a → h l ≡ Some b → R k l ≡ Less → S a b ≡ Less) where
  above_more : (a : J) (o : Option J) (bs : List J) → ((b : J) → o ≡ Some b → S a b ≡ Less) → AllByRecursion (λ b. S a b ≡ Less) bs →
      AllByRecursion (λ b. S a b ≡ Less) (cons_option o bs)
  above_more a None bs here rest = rest
  above_more a (Some b) bs here rest = (here b refl, rest)

  above : (k : K) (a : J) → h k ≡ Some a → (ks : List K) → AllByRecursion (λ l. R k l ≡ Less) ks → AllByRecursion (λ b. S a b ≡ Less) (filter_map h ks)
  above k a e [] s = tt
  above k a e (l ∷ ks) s = above_more a (h l) (filter_map h ks) (λ b f. keeps k l a b e f s.0) (above k a e ks s.1)

  sorted_more : (o : Option J) (bs : List J) → ((a : J) → o ≡ Some a → AllByRecursion (λ b. S a b ≡ Less) bs) → IsStrictlySortedBy S bs →
      IsStrictlySortedBy S (cons_option o bs)
  unfolding IsStrictlySortedBy
  sorted_more None bs here rest = rest
  sorted_more (Some a) bs here rest = (here a refl, rest)

  filtered : (ks : List K) → IsStrictlySortedBy R ks → IsStrictlySortedBy S (filter_map h ks)
  unfolding IsStrictlySortedBy
  filtered [] s = tt
  filtered (k ∷ ks) s = sorted_more (h k) (filter_map h ks) (λ a e. above k a e ks s.0) (filtered ks s.1)

-- ---- the names

abbrev name_cmp : Name → Name → Ordering
name_cmp = slice_cmp nat_cmp

object_less : (k l : Cell) (m n : Name) → object_of k ≡ Some m → object_of l ≡ Some n → cell_cmp k l ≡ Less → name_cmp m n ≡ Less
object_less (Object a) (Object b) m n e f less = let first = some_same a m e in let second = some_same b n f in rw (← first, ← second) less
object_less (Object a) l m n e f less = none_some n f
object_less k l m n e f less = none_some m e

-- the names of the objects ascend
pub objects_ascend : (s : Cells) → IsStrictlySortedBy (slice_cmp nat_cmp) (objects s)
objects_ascend s = filtered cell_cmp name_cmp object_of object_less (keys s) (sorted_keys cell_cmp (entries s) (entries_sorted s))

named : (s : Cells) (n : Name) (l : Line) → said_of s n ≡ Some l → name_of l ≡ n
named s n l e = subst (IsNamed n) e (said_named s n _)

line_less : (s : Cells) (m n : Name) (a b : Line) → said_of s m ≡ Some a → said_of s n ≡ Some b → name_cmp m n ≡ Less → name_cmp (name_of a) (name_of b) ≡ Less
line_less s m n a b e f less = let first = named s m a e in let second = named s n b f in rw (first, second) less

-- each line has a name below those of the lines after it
pub lines_ascend : (s : Cells) → IsStrictlySortedBy (λ a b. slice_cmp nat_cmp (name_of a) (name_of b)) (said s)
lines_ascend s = filtered name_cmp (λ a b. name_cmp (name_of a) (name_of b)) (said_of s) (line_less s) (objects s) (objects_ascend s)
