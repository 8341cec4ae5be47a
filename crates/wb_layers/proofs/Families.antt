-- The cells that a pattern names, among those that have places, and the changes there.
use Rattle.std.proofs.Common.{◌≡◌, Bool, true, false, true≢false, cond, ◌&&◌, ◌||◌, ℕ, suc, ◌+◌, ◌<◌, length, arith, List, [], ◌∷◌, map, take, Option, Some, None, refl, sym, ap, ◌∙◌, Ordering}
use Rattle.std.specs.BTreeMap.{BTreeMap, is_at}
use Rattle.std.specs.BTreeMap as tree
use Rattle.std.specs.BTreeMap.Range.{entries_between}
use Rattle.std.specs.Cmp.{eq_by_cmp_equiv}
use Rattle.std.specs.List.{AllByRecursion, filter, list_any, prefix_len}
use Rattle.std.specs.List.Sorted.{IsStrictlySortedBy}
use Rattle.std.specs.Map.{keys_of, lookup}
use Rattle.std.specs.Ordering.{eq_by_cmp, is_eq, is_le}
use Rattle.std.specs.declared.cmp.Ordering.TheVariants.{Less}
use Rattle.std.specs.declared.ops.Bound.TheVariants.{Included, Unbounded}
use Rattle.std.proofs.lemmas.List.Elements.{recursion_from_All}
use Rattle.std.proofs.lemmas.Map.Views.{All-keys_found}
use Rattle.selective_undo.specs.Changes.{changes, AllOnce}
use Rattle.selective_undo.specs.Together.{left_in}
use Rattle.selective_undo.proofs.AllOrNothing.{tied}
use Rattle.selective_undo.proofs.Changes.{not_true}
use Rattle.selective_undo.proofs.Locality.{or_neither}
use Rattle.wb_cells.specs.declared.cells.cell.Cell.{Cell}
use Rattle.wb_cells.specs.declared.cells.pattern.Pattern.{Pattern}
use Rattle.wb_cells.specs.declared.cells.value.Value.{Value}
use Rattle.wb_cells.specs.Cells.{Changes, cell_cmp, cell_order, matches}
use Rattle.wb_cells.specs.Families.{Begins}
use Rattle.wb_cells.proofs.Families.{is_from, together_from}
use Rattle.wb_layers.specs.Places.{place_in, AreCalled, IsFound, IsFamily, change_at}
use Rattle.wb_layers.proofs.Placed.{left_in-keeps, place_none, place_some, StandsAt, stands_at}
use Rattle.wb_layers.proofs.Shown.{untouched_cell}

abbrev Places : Type 0
Places = List (Cell × ℕ)

abbrev pub names : Pattern → Cell × ℕ → Bool
names p e = matches p e.0

less_is_other : (o : Ordering) → o ≡ Less → is_eq o ≡ false
less_is_other o e = rw e refl

-- ---- they are the front of what stands from the first cell on

with_true : (b t : Bool) → b && true ≡ t → b ≡ t
with_true true t e = e
with_true false t e = e

one_more : (n : ℕ) (e : Cell × ℕ) (es : Places) → take (1 + n) (e ∷ es) ≡ e ∷ take n es
one_more n e es = let more : 1 + n ≡ suc n = omega arith in ap (λ k. take k (e ∷ es)) more

module _ (p : Pattern) (c : Cell) (b : Begins p c) where
  covered : (m : BTreeMap Cell ℕ) → AreCalled m → (xs : List Cell) → AllByRecursion (tree.ContainsKey cell_cmp m) xs →
      AllByRecursion (λ x. is_from c x ≡ false → matches p x ≡ false) xs
  covered m called [] there = tt
  covered m called (x ∷ xs) there =
      (λ before. b.none_before x (called x there.0) (with_true (is_le (cell_cmp c x)) false before), covered m called xs there.1)

  none_behind : (x : Cell) (es : Places) → is_from c x ≡ true → matches p x ≡ false → AllByRecursion (λ y. cell_cmp x y ≡ Less) (keys_of es) →
      filter (names p) es ≡ []
  none_behind x [] from none above = refl
  none_behind x (e ∷ es) from none above = rw (together_from p c b x e.0 from above.0 none) (none_behind x es from none above.1)

  front : (es : Places) → AllByRecursion (λ x. is_from c x ≡ false → matches p x ≡ false) (keys_of es) → IsStrictlySortedBy cell_cmp (keys_of es)
      → take (prefix_len (names p) (filter (λ e. is_from c e.0) es)) (filter (λ e. is_from c e.0) es) ≡ filter (names p) es
  unfolding IsStrictlySortedBy
  front [] all s = refl
  front (e ∷ es) all s =
      let rest : Places = filter (λ x. is_from c x.0) es in
      elim (is_from c e.0) as (λ v. is_from c e.0 ≡ v → take (prefix_len (names p) (cond v (e ∷ rest) rest)) (cond v (e ∷ rest) rest) ≡ filter (names p)
      (e ∷ es)) [
        | true ↦ λ from. elim (matches p e.0) as (λ v. matches p e.0 ≡ v →
            take (cond v (1 + prefix_len (names p) rest) 0) (e ∷ rest) ≡ cond v (e ∷ filter (names p) es) (filter (names p) es)) [
              | true ↦ λ here. one_more (prefix_len (names p) rest) e rest ∙ ap (λ xs. e ∷ xs) (front es all.1 s.1)
              | false ↦ λ none. sym (none_behind e.0 es from none s.0)
            ] refl
        | false ↦ λ from. rw (all.0 from) (front es all.1 s.1)
      ] refl

  pub family_placed : (m : BTreeMap Cell ℕ) (part : Places) → AreCalled m → tree.IsOrdered cell_cmp m →
      part ≡ entries_between cell_cmp (Included c) Unbounded m.entries → take (prefix_len (names p) part) part ≡ filter (names p) m.entries
  family_placed m part called s is =
      ap (λ (es : Places). take (prefix_len (names p) es) es) is
      ∙ front m.entries (covered m called (tree.keys m) (recursion_from_All (tree.ContainsKey cell_cmp m) (tree.keys m) (All-keys_found cell_order.total m s))) s

-- ---- so the first of these tells whether there are any

abbrev pub any_there : Places → Bool
any_there [] = false
any_there (e ∷ es) = true

any_filter : (p : Pattern) (es : Places) → any_there (filter (names p) es) ≡ list_any (names p) es
any_filter p [] = refl
any_filter p (e ∷ es) = elim (matches p e.0) as (λ b. any_there (cond b (e ∷ filter (names p) es) (filter (names p) es)) ≡ b || list_any (names p) es) [
  | true ↦ refl
  | false ↦ any_filter p es
]

pub first_tells : (p : Pattern) (c : Cell) → Begins p c → (m : BTreeMap Cell ℕ) (e : Cell × ℕ) (rest : Places) → AreCalled m → tree.IsOrdered cell_cmp m →
    e ∷ rest ≡ entries_between cell_cmp (Included c) Unbounded m.entries → matches p e.0 ≡ list_any (names p) m.entries
first_tells p c b m e rest called s is =
    elim (matches p e.0) as (λ v. v ≡ any_there (take (cond v (1 + prefix_len (names p) rest) 0) (e ∷ rest))) [
      | true ↦ sym (ap any_there (one_more (prefix_len (names p) rest) e rest))
      | false ↦ refl
    ]
    ∙ ap any_there (family_placed p c b m (e ∷ rest) called s is) ∙ any_filter p m.entries

pub none_tells : (p : Pattern) (c : Cell) → Begins p c → (m : BTreeMap Cell ℕ) → AreCalled m → tree.IsOrdered cell_cmp m →
    [] ≡ entries_between cell_cmp (Included c) Unbounded m.entries → false ≡ list_any (names p) m.entries
none_tells p c b m called s is = ap any_there (family_placed p c b m [] called s is) ∙ any_filter p m.entries

-- ---- each stands at its place

find_more : (e : Cell × ℕ) (es part : Places) → AllByRecursion (λ y. cell_cmp e.0 y ≡ Less) (keys_of part) →
    AllByRecursion (λ x. lookup (is_at (cell_cmp x.0)) es ≡ Some x.1) part → AllByRecursion (λ x. lookup (is_at (cell_cmp x.0)) (e ∷ es) ≡ Some x.1) part
find_more e es [] above there = tt
find_more e es (x ∷ part) above there =
    let other : eq_by_cmp cell_cmp x.0 e.0 ≡ false = (eq_by_cmp_equiv cell_order.total).symm x.0 e.0 ∙ less_is_other (cell_cmp e.0 x.0) above.0 in
    (rw other there.0, find_more e es part above.1 there.1)

each_found : (es : Places) → IsStrictlySortedBy cell_cmp (keys_of es) → AllByRecursion (λ x. lookup (is_at (cell_cmp x.0)) es ≡ Some x.1) es
unfolding IsStrictlySortedBy
each_found [] s = tt
each_found (e ∷ es) s =
    (rw ((eq_by_cmp_equiv cell_order.total).refl e.0) refl, find_more e es es s.0 (each_found es s.1))

module _ (xs : Changes) where
  all_stand : (m : BTreeMap Cell ℕ) → IsFound m xs → (es : Places) → AllByRecursion (λ x. lookup (is_at (cell_cmp x.0)) m.entries ≡ Some x.1) es →
      AllByRecursion (λ e. StandsAt xs e.0 e.1) es
  all_stand m f [] there = tt
  all_stand m f (e ∷ es) there = (stands_at xs e.0 e.1 (sym (f.found e.0) ∙ there.0), all_stand m f es there.1)

  all_changed : (m : BTreeMap Cell ℕ) → IsFound m xs → (es : Places) → AllByRecursion (λ x. lookup (is_at (cell_cmp x.0)) m.entries ≡ Some x.1) es →
      AllByRecursion (λ e. changes cell_cmp xs e.0 ≡ true) es
  all_changed m f [] there = tt
  all_changed m f (e ∷ es) there = (place_some xs e.0 e.1 (sym (f.found e.0) ∙ there.0), all_changed m f es there.1)

  module _ (p : Pattern) where
    low_family : (es : Places) → AllByRecursion (λ e. StandsAt xs e.0 e.1) es → AllByRecursion (λ e. e.1 < length xs) (filter (names p) es)
    low_family [] at = tt
    low_family (e ∷ es) at = elim (matches p e.0) as (λ b. AllByRecursion (λ e. e.1 < length xs) (cond b (e ∷ filter (names p) es) (filter (names p) es))) [
      | true ↦ ((at.0).low, low_family es at.1)
      | false ↦ low_family es at.1
    ]

    pub low_places : (m : BTreeMap Cell ℕ) → IsFound m xs → tree.IsOrdered cell_cmp m → AllByRecursion (λ e. e.1 < length xs) (filter (names p) m.entries)
    low_places m f s = low_family m.entries (all_stand m f m.entries (each_found m.entries s))

    -- ---- and the changes there are those of the pattern

    abbrev own : Places → Changes
    own es = map (change_at xs) (filter (names p) es)

    cell_of : (e : Cell × ℕ) → StandsAt xs e.0 e.1 → (change_at xs e).cell ≡ e.0
    cell_of e at = at.cell (record { cell = e.0; value = None })

    none_own : (c : Cell) (es : Places) → AllByRecursion (λ e. StandsAt xs e.0 e.1) es → AllByRecursion (λ y. cell_cmp c y ≡ Less) (keys_of es) →
        changes cell_cmp (own es) c ≡ false
    none_own c [] at above = refl
    none_own c (e ∷ es) at above =
        elim (matches p e.0) as (λ b. changes cell_cmp (map (change_at xs) (cond b (e ∷ filter (names p) es) (filter (names p) es))) c ≡ false) [
          | true ↦ rw (ap (eq_by_cmp cell_cmp c) (cell_of e at.0) ∙ less_is_other (cell_cmp c e.0) above.0) (none_own c es at.1 above.1)
          | false ↦ none_own c es at.1 above.1
        ]

    once_own : (es : Places) → AllByRecursion (λ e. StandsAt xs e.0 e.1) es → IsStrictlySortedBy cell_cmp (keys_of es) → AllOnce cell_cmp (own es)
    unfolding IsStrictlySortedBy
    once_own [] at s = tt
    once_own (e ∷ es) at s =
        elim (matches p e.0) as (λ b. AllOnce cell_cmp (map (change_at xs) (cond b (e ∷ filter (names p) es) (filter (names p) es)))) [
          | true ↦ (ap (changes cell_cmp (own es)) (cell_of e at.0) ∙ none_own e.0 es at.1 s.0, once_own es at.1 s.1)
          | false ↦ once_own es at.1 s.1
        ]

    apart : (c x : Cell) → matches p c ≡ true → matches p x ≡ false → eq_by_cmp cell_cmp c x ≡ false
    apart c x hit no_match = not_true _ (λ same. true≢false (sym hit ∙ ap (matches p) (tied cell_order c x same) ∙ no_match))

    -- at a cell that it doesn't name, they leave nothing changed
    left_alone : (c : Cell) (es : Places) → AllByRecursion (λ e. StandsAt xs e.0 e.1) es → matches p c ≡ false → changes cell_cmp (own es) c ≡ false
    left_alone c [] at none = refl
    left_alone c (e ∷ es) at none =
        elim (matches p e.0) as (λ b. matches p e.0 ≡ b → changes cell_cmp (map (change_at xs) (cond b (e ∷ filter (names p) es) (filter (names p) es))) c ≡ false) [
          | true ↦ λ here. rw (ap (eq_by_cmp cell_cmp c) (cell_of e at.0) ∙ (eq_by_cmp_equiv cell_order.total).symm c e.0 ∙ apart e.0 c here none)
              (left_alone c es at.1 none)
          | false ↦ λ here. left_alone c es at.1 none
        ] refl

    abbrev left_at : Cell → Option ℕ → Option Value → Option Value
    left_at c None v = v
    left_at c (Some q) v = (change_at xs (c, q)).value

    -- at a cell that it names, they leave what stands at its place
    left_named : (c : Cell) (v : Option Value) (es : Places) → AllByRecursion (λ e. StandsAt xs e.0 e.1) es → IsStrictlySortedBy cell_cmp (keys_of es) →
        matches p c ≡ true → left_in cell_cmp (own es) c v ≡ left_at c (lookup (is_at (cell_cmp c)) es) v
    unfolding IsStrictlySortedBy
    left_named c v [] at s hit = refl
    left_named c v (e ∷ es) at s hit =
        elim (eq_by_cmp cell_cmp c e.0) as (λ b. eq_by_cmp cell_cmp c e.0 ≡ b →
        left_in cell_cmp (own (e ∷ es)) c v ≡ left_at c (cond b (Some e.1) (lookup (is_at (cell_cmp c)) es)) v) [
          | true ↦ λ same. here (tied cell_order c e.0 same)
          | false ↦ λ other. behind other (matches p e.0) ∙ left_named c v es at.1 s.1 hit
        ] refl
      where
        here : c ≡ e.0 → left_in cell_cmp (own (e ∷ es)) c v ≡ (change_at xs (c, e.1)).value
        here is =
            ap (λ b. left_in cell_cmp (map (change_at xs) (cond b (e ∷ filter (names p) es) (filter (names p) es))) c v) (sym (ap (matches p) is) ∙ hit)
            ∙ ap (λ b. left_in cell_cmp (own es) c (cond b (change_at xs e).value v))
            (ap (eq_by_cmp cell_cmp c) (cell_of e at.0 ∙ sym is) ∙ (eq_by_cmp_equiv cell_order.total).refl c)
            ∙ left_in-keeps (own es) c (change_at xs e).value (ap (changes cell_cmp (own es)) is ∙ none_own e.0 es at.1 s.0)
            ∙ ap (λ d. (change_at xs (d, e.1)).value) (sym is)

        behind : eq_by_cmp cell_cmp c e.0 ≡ false → (b : Bool) →
            left_in cell_cmp (map (change_at xs) (cond b (e ∷ filter (names p) es) (filter (names p) es))) c v ≡ left_in cell_cmp (own es) c v
        behind other true =
            ap (λ b. left_in cell_cmp (own es) c (cond b (change_at xs e).value v)) (ap (eq_by_cmp cell_cmp c) (cell_of e at.0) ∙ other)
        behind other false = refl

    placed_left : (c : Cell) (v : Option Value) (o : Option ℕ) → AllOnce cell_cmp xs → place_in xs c ≡ o → left_at c o v ≡ left_in cell_cmp xs c v
    placed_left c v None once is = sym (left_in-keeps xs c v (place_none xs c is))
    placed_left c v (Some q) once is = sym ((stands_at xs c q is).value once (record { cell = c; value = None }) v)

    pub family : (m : BTreeMap Cell ℕ) → IsFound m xs → tree.IsOrdered cell_cmp m → IsFamily p xs (map (change_at xs) (filter (names p) m.entries))
    family m f s =
        let at = all_stand m f m.entries (each_found m.entries s) in
        record {
          once = once_own m.entries at s;
          left = λ c v. elim (matches p c) as (λ b. matches p c ≡ b → left_in cell_cmp (own m.entries) c v ≡ cond b (left_in cell_cmp xs c v) v) [
            | true ↦ λ hit. left_named c v m.entries at s hit ∙ placed_left c v (lookup (is_at (cell_cmp c)) m.entries) f.once (sym (f.found c))
            | false ↦ λ none. left_in-keeps (own m.entries) c v (left_alone c m.entries at none)
          ] refl;
        }

    -- ---- a pattern names a cell that has a place where it names one that is changed

    same_answer : (a b : Bool) → (a ≡ true → b ≡ true) → (b ≡ true → a ≡ true) → a ≡ b
    same_answer true b f g = sym (f refl)
    same_answer false true f g = g refl
    same_answer false false f g = refl

    changed_of : (c : Cell) → matches p c ≡ true → changes cell_cmp xs c ≡ true → list_any (λ x. matches p x.cell) xs ≡ true
    changed_of c hit there = elim (list_any (λ x. matches p x.cell) xs) as (λ b. list_any (λ x. matches p x.cell) xs ≡ b → b ≡ true) [
      | true ↦ λ e. refl
      | false ↦ λ e. absurd (true≢false (sym there ∙ untouched_cell p xs c e hit))
    ] refl

    any_changed : (es : Places) → AllByRecursion (λ e. changes cell_cmp xs e.0 ≡ true) es → list_any (names p) es ≡ true → list_any (λ x. matches p x.cell) xs ≡ true
    any_changed [] there hit = cc
    any_changed (e ∷ es) there hit = elim (matches p e.0) as (λ b. matches p e.0 ≡ b → b || list_any (names p) es ≡ true → list_any (λ x. matches p x.cell) xs ≡ true) [
      | true ↦ λ here h. changed_of e.0 here there.0
      | false ↦ λ here h. any_changed es there.1 h
    ] refl hit

    none_placed : (c : Cell) (es : Places) → list_any (names p) es ≡ false → matches p c ≡ true → lookup (is_at (cell_cmp c)) es ≡ None
    none_placed c [] e hit = refl
    none_placed c (x ∷ es) e hit =
        let parts = or_neither (matches p x.0) (list_any (names p) es) e in
        rw (apart c x.0 hit parts.0) (none_placed c es parts.1 hit)

    none_changed : (m : BTreeMap Cell ℕ) → IsFound m xs → list_any (names p) m.entries ≡ false → (ys : Changes) →
        ((c : Cell) → changes cell_cmp ys c ≡ true → changes cell_cmp xs c ≡ true) → list_any (λ x. matches p x.cell) ys ≡ false
    none_changed m f none [] part = refl
    none_changed m f none (y ∷ ys) part =
        rw (not_true (matches p y.cell) (λ hit. true≢false (sym (part y.cell (rw ((eq_by_cmp_equiv cell_order.total).refl y.cell) refl))
        ∙ place_none xs y.cell (sym (f.found y.cell) ∙ none_placed y.cell m.entries none hit))))
        (none_changed m f none ys (λ c there. part c (or_second (eq_by_cmp cell_cmp c y.cell) (changes cell_cmp ys c) there)))
      where
        or_second : (a b : Bool) → b ≡ true → a || b ≡ true
        or_second true b h = refl
        or_second false b h = h

    pub touched : (m : BTreeMap Cell ℕ) → IsFound m xs → tree.IsOrdered cell_cmp m → list_any (names p) m.entries ≡ list_any (λ x. matches p x.cell) xs
    touched m f s = same_answer _ _ (any_changed m.entries (all_changed m f m.entries (each_found m.entries s))) (λ hit. back hit (list_any (names p) m.entries) refl)
      where
        back : list_any (λ x. matches p x.cell) xs ≡ true → (b : Bool) → list_any (names p) m.entries ≡ b → b ≡ true
        back hit true e = refl
        back hit false e = absurd (true≢false (sym hit ∙ none_changed m f e xs (λ c there. there)))
