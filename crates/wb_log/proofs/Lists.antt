-- A history's list of what it keeps, after an edit, an undo or a redo.
use Rattle.std.proofs.Common.{◌≡◌, ℕ, zero, suc, ◌==◌, ◌||◌, List, [], ◌∷◌, length, slice_set, Option, ◌<◌, arith, true, false, inl, inr, refl, sym, ap, subst, ◌∙◌}
use Rattle.std.proofs.lemmas.Bool.{cases_eq}
use Rattle.std.proofs.lemmas.Bool.Decides.{nat_tests}
use Rattle.selective_undo.specs.Log.{Footprint}
use Rattle.wb_cells.specs.Schema.{workbook}
use Rattle.wb_footprints.specs.declared.foot_index.FootIndex.{FootIndex}
use Rattle.wb_footprints.specs.declared.places.place.Place.{Place}
use Rattle.wb_footprints.specs.Footprints.{IsIndexOf, with_footprint, touched_by, read_by, own_touched_by}
use Rattle.wb_footprints.specs.Places.{place_marked}
use Rattle.wb_log.specs.Kept.{footprint_at_number}

abbrev Kept : Type 0
Kept = List (Option (Footprint workbook))

-- an index is one of footprints that touch and read the same places
pub index_same : (idx : FootIndex) (f g : ℕ → Option (Footprint workbook)) → ((q : Place) (n : ℕ) → touched_by (f n) q ≡ touched_by (g n) q) →
    ((q : Place) (n : ℕ) → own_touched_by (f n) q ≡ own_touched_by (g n) q) → ((q : Place) (n : ℕ) → read_by (f n) q ≡ read_by (g n) q) → IsIndexOf idx f →
    IsIndexOf idx g
index_same idx f g touched own read h = record {
  touched = λ q n. h.touched q n ∙ touched q n;
  read = record {
    sound = λ q n marked. sym (read q n) ∙ h.read.sound q n marked;
    told = λ q n was. ap (λ b. place_marked idx.read q n || b) (sym (own q n)) ∙ h.read.told q n (read q n ∙ was);
  };
}

pub index_like : (idx : FootIndex) (f g : ℕ → Option (Footprint workbook)) → ((n : ℕ) → f n ≡ g n) → IsIndexOf idx f → IsIndexOf idx g
index_like idx f g e h = index_same idx f g (λ q n. ap (λ o. touched_by o q) (e n)) (λ q n. ap (λ o. own_touched_by o q) (e n)) (λ q n. ap (λ o. read_by o q) (e n)) h

at_self : (a : ℕ) → (a == a) ≡ true
at_self a = grind (arith, nat_tests)

at_other : (a b : ℕ) → (a ≡ b → ⊥) → (a == b) ≡ false
at_other a b apart = grind (arith, nat_tests)

with_here : (f : ℕ → Option (Footprint workbook)) (k : ℕ) (o : Option (Footprint workbook)) → with_footprint f k o k ≡ o
with_here f k o = rw (at_self k)

with_apart : (f : ℕ → Option (Footprint workbook)) (k : ℕ) (o : Option (Footprint workbook)) (n : ℕ) → (k ≡ n → ⊥) → with_footprint f k o n ≡ f n
with_apart f k o n apart = rw (at_other k n apart)

set_here : (xs : Kept) (k : ℕ) (o : Option (Footprint workbook)) → k < length xs → footprint_at_number (slice_set xs k o) k ≡ o
set_here [] k o h = absurd (omega arith)
set_here (x ∷ xs) zero o h = refl
set_here (x ∷ xs) (suc k) o h = set_here xs k o (omega arith)

set_apart : (xs : Kept) (k : ℕ) (o : Option (Footprint workbook)) (n : ℕ) → (k ≡ n → ⊥) → footprint_at_number (slice_set xs k o) n ≡ footprint_at_number xs n
set_apart [] k o n apart = refl
set_apart (x ∷ xs) zero o zero apart = absurd (apart refl)
set_apart (x ∷ xs) zero o (suc n) apart = refl
set_apart (x ∷ xs) (suc k) o zero apart = refl
set_apart (x ∷ xs) (suc k) o (suc n) apart = set_apart xs k o n (λ e. apart (ap (λ (k : ℕ). suc k) e))

pub replaced : (xs : Kept) (k : ℕ) (o : Option (Footprint workbook)) (n : ℕ) → k < length xs →
    with_footprint (footprint_at_number xs) k o n ≡ footprint_at_number (slice_set xs k o) n
replaced xs k o n h = elim (cases_eq k n) [
  | inl e ↦ subst (λ (j : ℕ). with_footprint (footprint_at_number xs) k o j ≡ footprint_at_number (slice_set xs k o) j)
      e (with_here (footprint_at_number xs) k o ∙ sym (set_here xs k o h))
  | inr apart ↦ with_apart (footprint_at_number xs) k o n apart ∙
      sym (set_apart xs k o n apart)
]
