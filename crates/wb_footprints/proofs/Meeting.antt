-- Footprints and places: what a footprint read or touched, by the marks that it has.
use Rattle.std.proofs.Common.{◌≡◌, ℕ, Bool, true, false, ◌||◌, Option, Some, None, List, [], ◌∷◌}
use Rattle.std.proofs.Common.{◌++◌, map, refl, sym, ap, ◌∙◌, length, take, drop, suc, ◌+◌, ◌<◌, get_or, add-one, arith}
use Rattle.std.specs.Prelude.{IfSome}
use Rattle.std.specs.List.{list_any}
use Rattle.std.proofs.lemmas.List.{take-append-drop}
use Rattle.std.proofs.lemmas.List.Folds.{list_any-append}
use Rattle.std.specs.Ordering.{eq_by_cmp}
use Rattle.std.proofs.lemmas.Cmp.{eq_by_cmp_equiv}
use Rattle.selective_undo.specs.Changes.{changes}
use Rattle.selective_undo.specs.Edit.{covers}
use Rattle.selective_undo.specs.Log.{Footprint, blocks_undo, blocks_redo}
use Rattle.wb_cells.specs.declared.cells.cell.Cell.{Cell}
use Rattle.wb_cells.specs.declared.cells.pattern.Pattern.{Pattern}
use Rattle.wb_cells.specs.declared.cells.pattern.Pattern.TheVariants as p
use Rattle.wb_cells.specs.Cells.{Changes, cell_cmp, cell_cmp_total, matches}
use Rattle.wb_cells.specs.Schema.{workbook}
use Rattle.std.specs.Cmp.{IsTotalOrder}
use Rattle.std.specs.Cmp.Lexicographic.{nat_list_cmp_total}
use Rattle.wb_cells.specs.Cells.{index_cmp}
use Rattle.wb_cells.specs.contracts.values.index.IndexOrd.TheImpl.Laws as index_laws
use Rattle.wb_footprints.specs.contracts.places.part.SlotOrd.TheImpl.Laws as slot_laws
use Rattle.wb_footprints.specs.declared.places.part.Part.{Part}
use Rattle.wb_footprints.specs.declared.places.part.Part.TheVariants as part
use Rattle.wb_footprints.specs.declared.places.place.Place.{Place}
use Rattle.wb_footprints.specs.declared.places.place.Place.TheVariants.{Objects, Of}
use Rattle.wb_footprints.specs.declared.foot_index.FootIndex.{FootIndex}
use Rattle.wb_footprints.specs.Relation.{IsLeastAfter}
use Rattle.wb_footprints.specs.declared.places.marking.Marking.TheVariants.{Own, Families}
use Rattle.wb_footprints.specs.Parts.{is_same_part}
use Rattle.wb_footprints.specs.Slots.{slot_cmp}
use Rattle.wb_footprints.specs.Places.{place_marked}
use Rattle.wb_footprints.specs.Footprints.{IsIndexOf, any_met}
use Rattle.wb_footprints.specs.Places.{own, family, place_of, is_same_place, is_family}
use Rattle.wb_footprints.specs.Footprints.{at_cell, marked_at, touched_at, read_at, own_touched_by, touched_by, read_by, met_by, touched_under, touched_one_of, footprint}
use Rattle.wb_footprints.proofs.Matching.{named, no_family}
use Rattle.wb_footprints.proofs.Setting.{more_any}

four : (a b c d : Bool) → ((a || b) || (c || d)) ≡ ((a || c) || (b || d))
four true b c d = refl
four false true true d = refl
four false true false d = refl
four false false c d = refl

module _ {X : Type 0} where
  pub any_or : (f g : X → Bool) (xs : List X) → list_any (λ x. f x || g x) xs ≡ (list_any f xs || list_any g xs)
  any_or f g [] = refl
  any_or f g (x ∷ xs) = rw (any_or f g xs) (four (f x) (g x) (list_any f xs) (list_any g xs))

  pub any_like : (f g : X → Bool) (xs : List X) → ((x : X) → f x ≡ g x) → list_any f xs ≡ list_any g xs
  any_like f g [] e = refl
  any_like f g (x ∷ xs) e = rw (e x, any_like f g xs e)

  pub any_none : (xs : List X) → list_any (λ x. false) xs ≡ false
  any_none [] = refl
  any_none (x ∷ xs) = any_none xs

pub any_map : {X Y : Type 0} (f : Y → Bool) (g : X → Y) (xs : List X) → list_any f (map g xs) ≡ list_any (λ x. f (g x)) xs
any_map f g [] = refl
any_map f g (x ∷ xs) = rw (any_map f g xs) refl

pub any_swap : {X Y : Type 0} (r : X → Y → Bool) (xs : List X) (ys : List Y) →
    list_any (λ x. list_any (r x) ys) xs ≡ list_any (λ y. list_any (λ x. r x y) xs) ys
any_swap r [] ys = sym (any_none ys)
any_swap r (x ∷ xs) ys = rw (any_swap r xs ys) (sym (any_or (r x) (λ y. list_any (λ z. r z y) xs) ys))

-- ---- places are the same both ways

index_total : IsTotalOrder index_cmp
index_total = index_laws.total-law

slot_total : IsTotalOrder slot_cmp
slot_total = slot_laws.total-law

same_parts : (x y : Part) → is_same_part x y ≡ is_same_part y x
same_parts (part.Slot s) (part.Slot t) = (eq_by_cmp_equiv slot_total).symm s t
same_parts (part.Slot s) (part.In j) = refl
same_parts (part.Slot s) (part.Member j) = refl
same_parts (part.Slot s) (part.User j) = refl
same_parts (part.Slot s) (part.Element j) = refl
same_parts (part.In i) (part.Slot t) = refl
same_parts (part.In i) (part.In j) = (eq_by_cmp_equiv index_total).symm i j
same_parts (part.In i) (part.Member j) = refl
same_parts (part.In i) (part.User j) = refl
same_parts (part.In i) (part.Element j) = refl
same_parts (part.Member i) (part.Slot t) = refl
same_parts (part.Member i) (part.In j) = refl
same_parts (part.Member i) (part.Member j) = (eq_by_cmp_equiv index_total).symm i j
same_parts (part.Member i) (part.User j) = refl
same_parts (part.Member i) (part.Element j) = refl
same_parts (part.User i) (part.Slot t) = refl
same_parts (part.User i) (part.In j) = refl
same_parts (part.User i) (part.Member j) = refl
same_parts (part.User i) (part.User j) = (eq_by_cmp_equiv nat_list_cmp_total).symm i j
same_parts (part.User i) (part.Element j) = refl
same_parts (part.Element i) (part.Slot t) = refl
same_parts (part.Element i) (part.In j) = refl
same_parts (part.Element i) (part.Member j) = refl
same_parts (part.Element i) (part.User j) = refl
same_parts (part.Element i) (part.Element j) = (eq_by_cmp_equiv index_total).symm i j

same_places : (a b : Place) → is_same_place a b ≡ is_same_place b a
same_places Objects Objects = refl
same_places Objects (Of e y) = refl
same_places (Of d x) Objects = refl
same_places (Of d x) (Of e y) = rw (same_parts x y, (eq_by_cmp_equiv nat_list_cmp_total).symm d e)

abbrev pub at_family : (Place → Bool) → Option Place → Bool
at_family t o = elim o [ Some f ↦ t f | None ↦ false ]

same_family : (o : Option Place) (q : Place) → at_family (λ f. is_same_place q f) o ≡ at_family (λ f. is_same_place f q) o
same_family None q = refl
same_family (Some f) q = same_places q f

at_named : (q : Pattern) (y : Cell) → matches q y ≡ at_cell Families y (place_of q)
at_named q y = named q y ∙ rw (same_places (place_of q) (own y), same_family (family y) (place_of q))

-- ---- what a footprint touched and read, at places

pub touched_named : (q : Pattern) (xs : Changes) → list_any (λ x. matches q x.cell) xs ≡ touched_at xs (place_of q)
touched_named q xs = any_like (λ x. matches q x.cell) (λ x. at_cell Families x.cell (place_of q)) xs (λ x. at_named q x.cell)

family_read : (o : Option Place) (rs : List Pattern) → list_any (λ r. at_family (λ f. is_same_place (place_of r) f) o) rs ≡ at_family (read_at rs) o
family_read None rs = any_none rs
family_read (Some f) rs = refl

pub covers_at : (c : Cell) (rs : List Pattern) → covers workbook rs c ≡ (read_at rs (own c) || at_family (read_at rs) (family c))
covers_at c rs =
    any_like (λ r. matches r c) (λ r. is_same_place (place_of r) (own c) || is_family (place_of r) c) rs (λ r. named r c)
    ∙ any_or (λ r. is_same_place (place_of r) (own c)) (λ r. is_family (place_of r) c) rs
    ∙ rw (family_read (family c) rs)

or_assoc : (a b c : Bool) → (a || (b || c)) ≡ ((a || b) || c)
or_assoc true b c = refl
or_assoc false b c = refl

none_family : (o : Option Place) → at_family (λ f. false) o ≡ false
none_family None = refl
none_family (Some f) = refl

pub met_at : (o : Option (Footprint workbook)) (c : Cell) → met_by o c ≡ ((touched_by o (own c) || read_by o (own c)) || at_family (read_by o) (family c))
met_at None c = sym (none_family (family c))
met_at (Some f) c = rw (touched_named (p.One c) f.touched, covers_at c f.reads)
    (or_assoc (touched_at f.touched (own c)) (read_at f.reads (own c)) (at_family (read_at f.reads) (family c)))

or_nothing : (a : Bool) → a || false ≡ a
or_nothing true = refl
or_nothing false = refl

or_more : (a b : Bool) → a || false ≡ true → a || b ≡ true
or_more true b e = refl
or_more false b e = cc

any_more : {X : Type 0} (f g : X → Bool) → ((x : X) → f x ≡ true → g x ≡ true) → (xs : List X) → list_any f xs ≡ true → list_any g xs ≡ true
any_more f g h [] e = e
any_more f g h (x ∷ xs) e = more (f x) (g x) (h x) (any_more f g h xs) e
  where
    more : (a b : Bool) → (a ≡ true → b ≡ true) → (list_any f xs ≡ true → list_any g xs ≡ true) → a || list_any f xs ≡ true → b || list_any g xs ≡ true
    more true b k m e = ap (λ c. c || list_any g xs) (k refl)
    more false true k m e = refl
    more false false k m e = m e

-- a cell that was touched by itself was touched
own_touches : (o : Option (Footprint workbook)) (q : Place) → own_touched_by o q ≡ true → touched_by o q ≡ true
own_touches None q e = e
own_touches (Some f) q e = any_more (λ x. at_cell Own x.cell q) (λ x. at_cell Families x.cell q)
    (λ x there. or_more (is_same_place (own x.cell) q) (at_family (λ f. is_same_place f q) (family x.cell)) there) f.touched e

own_families : (xs : Changes) (o : Option Place) → at_family (marked_at Own xs) o ≡ list_any (λ x. at_family (is_same_place (own x.cell)) o) xs
own_families xs None = sym (any_none xs)
own_families xs (Some f) = any_like (λ x. at_cell Own x.cell f) (λ x. is_same_place (own x.cell) f) xs (λ x. or_nothing (is_same_place (own x.cell) f))

-- no cell stands at the place of a family
own_apart : (o : Option (Footprint workbook)) (c : Cell) → at_family (own_touched_by o) (family c) ≡ false
own_apart None c = none_family (family c)
own_apart (Some f) c = own_families f.touched (family c) ∙ any_like (λ x. is_family (own x.cell) c) (λ x. false) f.touched (λ x. no_family x.cell c)
    ∙ any_none f.touched

met_or : (t r m w : Bool) → (m ≡ true → r ≡ true) → (r ≡ true → m || w ≡ true) → (w ≡ true → t ≡ true) → t || r ≡ t || m
met_or true r m w s k u = refl
met_or false true true w s k u = refl
met_or false false false w s k u = refl
met_or false true false w s k u = sym (u (k refl))
met_or false false true w s k u = s refl

read_or : (r m w : Bool) → (m ≡ true → r ≡ true) → (r ≡ true → m || w ≡ true) → w ≡ false → r ≡ m
read_or true true w s k e = refl
read_or false false w s k e = refl
read_or true false w s k e = sym (k refl) ∙ e
read_or false true w s k e = s refl

module _ (idx : FootIndex) (footprints : ℕ → Option (Footprint workbook)) (h : IsIndexOf idx footprints) (n : ℕ) where
  marked_family : (o : Option Place) → at_family (own_touched_by (footprints n)) o ≡ false →
      at_family (read_by (footprints n)) o ≡ at_family (λ q. place_marked idx.read q n) o
  marked_family None out = refl
  marked_family (Some f) out = read_or (read_by (footprints n) f) (place_marked idx.read f n) (own_touched_by (footprints n) f) (h.read.sound f n)
      (h.read.told f n) out

  marked_own : (q : Place) → touched_by (footprints n) q || read_by (footprints n) q ≡ place_marked idx.touched q n || place_marked idx.read q n
  marked_own q = met_or (touched_by (footprints n) q) (read_by (footprints n) q) (place_marked idx.read q n) (own_touched_by (footprints n) q)
      (h.read.sound q n) (h.read.told q n) (own_touches (footprints n) q) ∙ ap (λ b. b || place_marked idx.read q n) (sym (h.touched q n))

  pub met_marked : (c : Cell) (q : Place) (o : Option Place) → q ≡ own c → o ≡ family c →
      met_by (footprints n) c ≡ ((place_marked idx.touched q n || place_marked idx.read q n) || at_family (λ f. place_marked idx.read f n) o)
  met_marked c q o e g = met_at (footprints n) c
      ∙ rw (← e, ← g, marked_own q, marked_family o (ap (at_family (own_touched_by (footprints n))) g ∙ own_apart (footprints n) c))

  pub met_alone : (c : Cell) (q : Place) → q ≡ own c → None ≡ family c → met_by (footprints n) c ≡ (place_marked idx.touched q n || place_marked idx.read q n)
  met_alone c q e g = met_marked c q None e g ∙ or_nothing (place_marked idx.touched q n || place_marked idx.read q n)

pub least_above : (p : ℕ → Bool) (after : ℕ) (r : Option ℕ) → IsLeastAfter p after r → IfSome r (λ j. after < j)
least_above p after None h = tt
least_above p after (Some j) h = h.0

pub least_like : (p q : ℕ → Bool) (after : ℕ) (r : Option ℕ) → ((n : ℕ) → q n ≡ p n) → IsLeastAfter p after r → IsLeastAfter q after r
least_like p q after None e h = λ n up. e n ∙ h n up
least_like p q after (Some j) e h = (h.0, e j ∙ h.1, λ n up down. e n ∙ h.2 n up down)

-- the number right above another is the least one of more
pub soonest : (p q : ℕ → Bool) (after : ℕ) (r : Option ℕ) → r ≡ Some (after + 1) → ((n : ℕ) → p n ≡ true → q n ≡ true) →
    IsLeastAfter p after r → IsLeastAfter q after r
soonest p q after None e more h = cc
soonest p q after (Some j) e more h =
    let next : j ≡ after + 1 = cc in
    (h.0, more j h.1, λ n up down. absurd (omega (arith, next, up, down)))

pub any_in_front : {X : Type 0} (f : X → Bool) (xs : List X) (k : ℕ) → list_any f (take k xs) ≡ true → list_any f xs ≡ true
any_in_front f xs k e = sym (ap (list_any f) (take-append-drop k xs)) ∙ list_any-append f (take k xs) (drop k xs) ∙
    ap (λ b. b || list_any f (drop k xs)) e

pub any_first : {X : Type 0} (f : X → Bool) (xs ys zs : List X) → zs ≡ xs ++ ys → list_any f xs ≡ true → list_any f zs ≡ true
any_first f xs ys zs e h = ap (list_any f) e ∙ list_any-append f xs ys ∙ ap (λ b. b || list_any f ys) h

-- ---- undo and redo

pub undo_met : (xs : Changes) (o : Option (Footprint workbook)) → blocks_undo xs o ≡ any_met o xs
undo_met xs None = sym (any_none xs)
undo_met xs (Some f) = refl

again : (c d t : Bool) → ((c || d) || (c || t)) ≡ ((c || d) || t)
again true d t = refl
again false true t = refl
again false false t = refl

changed_back : (xs ys : Changes) → list_any (λ x. changes cell_cmp ys x.cell) xs ≡ list_any (λ y. changes cell_cmp xs y.cell) ys
changed_back xs ys =
    any_swap (λ x y. eq_by_cmp cell_cmp x.cell y.cell) xs ys
    ∙ any_like (λ y. list_any (λ x. eq_by_cmp cell_cmp x.cell y.cell) xs) (λ y. changes cell_cmp xs y.cell) ys
    (λ y. any_like (λ x. eq_by_cmp cell_cmp x.cell y.cell) (λ x. eq_by_cmp cell_cmp y.cell x.cell) xs
    (λ x. (eq_by_cmp_equiv cell_cmp_total).symm x.cell y.cell))

covered_back : (rs : List Pattern) (xs : Changes) → list_any (λ x. covers workbook rs x.cell) xs ≡ list_any (λ r. touched_at xs (place_of r)) rs
covered_back rs xs =
    any_swap (λ x r. matches r x.cell) xs rs
    ∙ any_like (λ r. list_any (λ x. matches r x.cell) xs) (λ r. touched_at xs (place_of r)) rs (λ r. touched_named r xs)

pub named_under : (rs : List Pattern) (o : Option (Footprint workbook)) → touched_one_of o rs ≡ touched_under o rs
named_under rs None = sym (any_none rs)
named_under rs (Some f) = covered_back rs f.touched

pub redo_met : (rs : List Pattern) (xs : Changes) (o : Option (Footprint workbook)) → blocks_redo (footprint rs xs) o ≡ (any_met o xs || touched_one_of o rs)
redo_met rs xs None = rw (any_none xs)
redo_met rs xs (Some f) =
    rw (
      any_or (λ x. changes cell_cmp f.touched x.cell) (λ x. covers workbook f.reads x.cell) xs,
      any_or (λ x. changes cell_cmp xs x.cell) (λ x. covers workbook rs x.cell) f.touched,
      changed_back f.touched xs,
    )
    (again (list_any (λ x. changes cell_cmp f.touched x.cell) xs) (list_any (λ x. covers workbook f.reads x.cell) xs)
    (list_any (λ x. covers workbook rs x.cell) f.touched))

-- ---- loops

module _ (footprints : ℕ → Option (Footprint workbook)) (after : ℕ) where
  pub undo_more : (xs : Changes) (i : ℕ) (d : _) → i < length xs → (x : Cell) → x ≡ (get_or xs i d).cell → (r : Option ℕ) →
      IsLeastAfter (λ n. any_met (footprints n) (take i xs) || met_by (footprints n) x) after r →
      IsLeastAfter (λ n. any_met (footprints n) (take (i + 1) xs)) after r
  undo_more xs i d below x e r h = rw add-one (least_like (λ n. any_met (footprints n) (take i xs) || met_by (footprints n) x)
      (λ n. any_met (footprints n) (take (suc i) xs)) after r (λ n. sym
      (rw e (more_any (λ y (o : Option (Footprint workbook)). met_by o y.cell) xs i d below (footprints n)))) h)

  pub touch_more : (rs : List Pattern) (i : ℕ) (d : Pattern) → i < length rs → (q : Pattern) → q ≡ get_or rs i d → (r : Option ℕ) →
      IsLeastAfter (λ n. touched_under (footprints n) (take i rs) || touched_by (footprints n) (place_of q)) after r →
      IsLeastAfter (λ n. touched_under (footprints n) (take (i + 1) rs)) after r
  touch_more rs i d below q e r h = rw add-one (least_like (λ n. touched_under (footprints n) (take i rs) || touched_by (footprints n) (place_of q))
      (λ n. touched_under (footprints n) (take (suc i) rs)) after r
      (λ n. sym (rw e (more_any (λ y (o : Option (Footprint workbook)). touched_by o (place_of y)) rs i d below (footprints n)))) h)

  pub cells_more : (xs : Changes) (i : ℕ) (d : _) → i < length xs → (q : Place) → q ≡ own (get_or xs i d).cell → (r : Option ℕ) →
      IsLeastAfter (λ n. list_any (λ x. touched_by (footprints n) (own x.cell)) (take i xs) || touched_by (footprints n) q) after r →
      IsLeastAfter (λ n. list_any (λ x. touched_by (footprints n) (own x.cell)) (take (i + 1) xs)) after r
  cells_more xs i d below q e r h = rw add-one (least_like
      (λ n. list_any (λ x. touched_by (footprints n) (own x.cell)) (take i xs) || touched_by (footprints n) q)
      (λ n. list_any (λ x. touched_by (footprints n) (own x.cell)) (take (suc i) xs)) after r
      (λ n. sym (rw e (more_any (λ x (o : Option (Footprint workbook)). touched_by o (own x.cell)) xs i d below (footprints n)))) h)

  pub under_both : (xs ys zs : List Pattern) → zs ≡ xs ++ ys → (r : Option ℕ) →
      IsLeastAfter (λ n. touched_under (footprints n) xs || touched_under (footprints n) ys) after r →
      IsLeastAfter (λ n. touched_under (footprints n) zs) after r
  under_both xs ys zs e r h = least_like (λ n. touched_under (footprints n) xs || touched_under (footprints n) ys) (λ n. touched_under (footprints n) zs)
      after r (λ n. ap (touched_under (footprints n)) e ∙ list_any-append (λ y. touched_by (footprints n) (place_of y)) xs ys) h

  pub met_both : (xs ys zs : Changes) → zs ≡ xs ++ ys → (r : Option ℕ) →
      IsLeastAfter (λ n. any_met (footprints n) xs || any_met (footprints n) ys) after r → IsLeastAfter (λ n. any_met (footprints n) zs) after r
  met_both xs ys zs e r h = least_like (λ n. any_met (footprints n) xs || any_met (footprints n) ys) (λ n. any_met (footprints n) zs)
      after r (λ n. ap (any_met (footprints n)) e ∙ list_any-append (λ x. met_by (footprints n) x.cell) xs ys) h
