-- Lists of patterns that name the same places and cells.
use Rattle.std.proofs.Common.{◌≡◌, ◌≢◌, ℕ, ◌==◌, Bool, true, false, ◌||◌, if◌then◌else◌, List, [], ◌∷◌, ◌++◌, Option, Some, arith, refl, sym, ap, subst, ◌∙◌}
use Rattle.std.specs.List.{list_any}
use Rattle.std.proofs.lemmas.Bool.Decides.{nat_tests}
use Rattle.std.proofs.lemmas.List.{append-nil}
use Rattle.std.proofs.lemmas.List.Folds.{list_any-append}
use Rattle.selective_undo.specs.Changes.{changes}
use Rattle.selective_undo.specs.declared.Change.{Change}
use Rattle.selective_undo.specs.Edit.{covers}
use Rattle.selective_undo.specs.Log.{Footprint, meets_any}
use Rattle.wb_cells.specs.declared.cells.cell.Cell.{Cell}
use Rattle.wb_cells.specs.declared.cells.value.Value.{Value}
use Rattle.wb_cells.specs.declared.cells.pattern.Pattern.{Pattern}
use Rattle.wb_cells.specs.declared.cells.pattern.Pattern.TheVariants.{One}
use Rattle.wb_cells.specs.Cells.{Changes, cell_cmp, matches}
use Rattle.wb_cells.specs.declared.reads.ReadRun.{ReadRun}
use Rattle.wb_cells.specs.Reads.{patterns_of, all_read}
use Rattle.wb_cells.specs.Schema.{workbook}
use Rattle.wb_footprints.specs.declared.foot_index.FootIndex.{FootIndex}
use Rattle.wb_footprints.specs.declared.places.place.Place.{Place}
use Rattle.wb_footprints.specs.Footprints.{Footprints, IsIndexOf, footprint, with_footprint, touched_by, own_touched_by, read_by}
use Rattle.wb_footprints.specs.Places.{place_of, is_same_place}
use Rattle.wb_log.specs.Sets.{each_read, cells_in, AreCells, NameAlike}
use Rattle.wb_log.proofs.Covered.{cells_cover}
use Rattle.wb_log.proofs.Lists.{index_same}

-- ---- one look before each cell

once_more : (p f q : Bool) → ((p || (f || false)) || (p || q)) ≡ (p || (f || q))
once_more true f q = refl
once_more false true q = refl
once_more false false q = refl

alone : (p f : Bool) → ((p || (f || false)) || false) ≡ (p || (f || false))
alone true f = refl
alone false true = refl
alone false false = refl

any_each : (f : Pattern → Bool) (ps : List Pattern) (x : Change Cell Value) (xs : Changes) →
    list_any f (each_read ps (x ∷ xs)) ≡ list_any f (ps ++ patterns_of (x ∷ xs))
any_each f ps x [] = list_any-append f (ps ++ One x.cell ∷ []) [] ∙ ap (λ (b : Bool). b || false) (list_any-append f ps (One x.cell ∷ [])) ∙
    alone (list_any f ps) (f (One x.cell)) ∙ sym (list_any-append f ps (One x.cell ∷ []))
any_each f ps x (y ∷ ys) =
    let rest = patterns_of (y ∷ ys) in
    list_any-append f (ps ++ One x.cell ∷ []) (each_read ps (y ∷ ys))
    ∙ ap (λ (b : Bool). b || list_any f (each_read ps (y ∷ ys))) (list_any-append f ps (One x.cell ∷ []))
    ∙ ap (λ (b : Bool). (list_any f ps || (f (One x.cell) || false)) || b) (any_each f ps y ys ∙ list_any-append f ps rest)
    ∙ once_more (list_any f ps) (f (One x.cell)) (list_any f rest)
    ∙ sym (list_any-append f ps (One x.cell ∷ rest))

any_of_each : (f : Pattern → Bool) (ps : List Pattern) (xs : Changes) → xs ≢ [] → list_any f (each_read ps xs) ≡ list_any f (ps ++ patterns_of xs)
any_of_each f ps [] some = absurd (some refl)
any_of_each f ps (x ∷ xs) some = any_each f ps x xs

pub each_alike : (ps : List Pattern) (xs : Changes) → xs ≢ [] → NameAlike (each_read ps xs) (ps ++ patterns_of xs)
each_alike ps xs some = record {
  places = λ q. any_of_each (λ r. is_same_place (place_of r) q) ps xs some;
  cells = λ c. any_of_each (λ p. matches p c) ps xs some;
}

-- the cells of the one run, behind patterns
pub first_alike : (ps : List Pattern) (runs : List ReadRun) → AreCells runs → NameAlike (each_read ps (cells_in runs)) (ps ++ all_read runs)
first_alike ps runs h =
    let told : all_read runs ≡ patterns_of (cells_in runs) = ap all_read h.alone ∙ append-nil (patterns_of (cells_in runs)) in
    subst (λ qs. NameAlike (each_read ps (cells_in runs)) (ps ++ qs)) (sym told) (each_alike ps (cells_in runs) h.some)

-- ---- what is made of them

-- an index of the one is one of the other
pub index_alike : (idx : FootIndex) (f : Footprints) (k : ℕ) (rs qs : List Pattern) (bs : Changes) → NameAlike rs qs →
    IsIndexOf idx (with_footprint f k (Some (footprint qs bs))) → IsIndexOf idx (with_footprint f k (Some (footprint rs bs)))
index_alike idx f k rs qs bs alike h =
    index_same idx (with_footprint f k (Some (footprint qs bs))) (with_footprint f k (Some (footprint rs bs)))
    (λ q n. touched (k == n) (f n) q)
    (λ q n. own (k == n) (f n) q)
    (λ q n. read (k == n) (f n) q)
    h
  where
    touched : (b : Bool) (o : Option (Footprint workbook)) (q : Place) →
        touched_by (if b then Some (footprint qs bs) else o) q ≡ touched_by (if b then Some (footprint rs bs) else o) q
    touched true o q = refl
    touched false o q = refl

    own : (b : Bool) (o : Option (Footprint workbook)) (q : Place) →
        own_touched_by (if b then Some (footprint qs bs) else o) q ≡ own_touched_by (if b then Some (footprint rs bs) else o) q
    own true o q = refl
    own false o q = refl

    read : (b : Bool) (o : Option (Footprint workbook)) (q : Place) →
        read_by (if b then Some (footprint qs bs) else o) q ≡ read_by (if b then Some (footprint rs bs) else o) q
    read true o q = sym (alike.places q)
    read false o q = refl

-- an index of footprints, of which one is this, is one where it names what another one names
pub put_alike : (idx : FootIndex) (f : Footprints) (k : ℕ) (rs qs : List Pattern) (bs : Changes) → NameAlike rs qs → f k ≡ Some (footprint rs bs) →
    IsIndexOf idx f → IsIndexOf idx (with_footprint f k (Some (footprint qs bs)))
put_alike idx f k rs qs bs alike is h =
    index_same idx f (with_footprint f k (Some (footprint qs bs)))
    (λ q n. elim (k == n) as (λ b. (k == n) ≡ b → touched_by (f n) q ≡ touched_by (if b then Some (footprint qs bs) else f n) q)
    [ true ↦ λ e. ap (λ o. touched_by o q) (here n e) | false ↦ λ e. refl ] refl)
    (λ q n. elim (k == n) as (λ b. (k == n) ≡ b → own_touched_by (f n) q ≡ own_touched_by (if b then Some (footprint qs bs) else f n) q)
    [ true ↦ λ e. ap (λ o. own_touched_by o q) (here n e) | false ↦ λ e. refl ] refl)
    (λ q n. elim (k == n) as (λ b. (k == n) ≡ b → read_by (f n) q ≡ read_by (if b then Some (footprint qs bs) else f n) q)
    [ true ↦ λ e. ap (λ o. read_by o q) (here n e) ∙ alike.places q | false ↦ λ e. refl ] refl)
    h
  where
    here : (n : ℕ) → (k == n) ≡ true → f n ≡ Some (footprint rs bs)
    here n e = let same : k ≡ n = grind (arith, nat_tests) in subst (λ (m : ℕ). f m ≡ Some (footprint rs bs)) same is

-- and another one at its number is another one
pub again : (f : Footprints) (k : ℕ) (o p : Option (Footprint workbook)) (n : ℕ) → with_footprint (with_footprint f k o) k p n ≡ with_footprint f k p n
again f k o p n = elim (k == n) as (λ b. (if b then p else (if b then o else f n)) ≡ (if b then p else f n)) [ true ↦ refl | false ↦ refl ]

-- cells are met by the one where they are met by the other
pub meets_alike : (rs qs : List Pattern) (bs xs : Changes) → NameAlike rs qs → meets_any {w = workbook} (footprint rs bs) xs ≡ meets_any (footprint qs bs) xs
meets_alike rs qs bs [] alike = refl
meets_alike rs qs bs (x ∷ xs) alike =
    ap (λ (b : Bool). (changes cell_cmp bs x.cell || b) || meets_any {w = workbook} (footprint rs bs) xs) (alike.cells x.cell)
    ∙ ap (λ (b : Bool). (changes cell_cmp bs x.cell || covers workbook qs x.cell) || b) (meets_alike rs qs bs xs alike)

once_told : (t p : Bool) → (t || (p || t)) ≡ (t || p)
once_told true p = refl
once_told false true = refl
once_told false false = refl

-- cells that were written are met whether they were read too
pub written_met : (ps : List Pattern) (bs xs : Changes) → meets_any {w = workbook} (footprint (ps ++ patterns_of bs) bs) xs ≡ meets_any (footprint ps bs) xs
written_met ps bs [] = refl
written_met ps bs (x ∷ xs) =
    let p = covers workbook ps x.cell in
    let t = changes cell_cmp bs x.cell in
    let apart : covers workbook (ps ++ patterns_of bs) x.cell ≡ (p || t) =
    list_any-append (λ q. matches q x.cell) ps (patterns_of bs) ∙ ap (λ (b : Bool). p || b) (sym (cells_cover bs x.cell)) in
    ap (λ (b : Bool). (t || b) || meets_any {w = workbook} (footprint (ps ++ patterns_of bs) bs) xs) apart
    ∙ ap (λ (b : Bool). b || meets_any {w = workbook} (footprint (ps ++ patterns_of bs) bs) xs) (once_told t p)
    ∙ ap (λ (b : Bool). (t || p) || b) (written_met ps bs xs)

at_self : (k : ℕ) → (k == k) ≡ true
at_self k = grind (arith, nat_tests)

pub at_number : (f : Footprints) (k : ℕ) (o : Option (Footprint workbook)) → with_footprint f k o k ≡ o
at_number f k o = rw (at_self k) refl
