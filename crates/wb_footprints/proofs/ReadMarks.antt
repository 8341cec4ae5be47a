-- What is marked as read where a footprint comes, isn't added for want of memory, or is taken away.
use Rattle.std.proofs.Common.{◌≡◌, ℕ, Bool, true, false, true≢false, ◌&&◌, ◌||◌, ◌==◌, Option, Some, None, if◌then◌else◌, refl, sym, subst, ap, ◌∙◌, arith}
use Rattle.std.proofs.lemmas.Bool.{false_from_ne_true}
use Rattle.std.proofs.lemmas.Bool.Decides.{nat_tests}
use Rattle.selective_undo.specs.Log.{Footprint}
use Rattle.wb_cells.specs.Schema.{workbook}
use Rattle.wb_footprints.specs.declared.places.marking.Marking.TheVariants.{Own}
use Rattle.wb_footprints.specs.declared.places.place.Place.{Place}
use Rattle.wb_footprints.specs.declared.marks.place_marks.PlaceMarks.{PlaceMarks}
use Rattle.wb_footprints.specs.Relation.{Sets, Stays, Clears}
use Rattle.wb_footprints.specs.Places.{place_marked}
use Rattle.wb_footprints.specs.Footprints.{Footprints, AreReads, marked_at, own_touched_by, read_at, read_by, with_footprint}

number_is : (m n : ℕ) → (m == n) ≡ true → m ≡ n
number_is m n e = grind (arith, nat_tests)

and_false : (a : Bool) → a && false ≡ false
and_false true = refl
and_false false = refl

pub same_reads : (old new : PlaceMarks) (footprints : Footprints) → ((q : Place) (n : ℕ) → place_marked new q n ≡ place_marked old q n) →
    AreReads old footprints → AreReads new footprints
same_reads old new footprints same h = record {
  sound = λ q n there. h.sound q n (sym (same q n) ∙ there);
  told = λ q n read. ap (λ b. b || own_touched_by (footprints n) q) (same q n) ∙ h.told q n read;
}

module _ (footprints : Footprints) (number : ℕ) where
  -- a number without a footprint stands nowhere
  none_read : (m : PlaceMarks) → AreReads m footprints → footprints number ≡ None → (q : Place) → place_marked m q number ≡ false
  none_read m h had q = false_from_ne_true (place_marked m q number)
      (λ there. true≢false (sym (ap (λ o. read_by o q) (sym had) ∙ h.sound q number there)))

  module _ (old new : PlaceMarks) (h : AreReads old footprints) (f : Option (Footprint workbook))
      (others : (q : Place) (n : ℕ) → (number == n) ≡ false → place_marked new q n ≡ place_marked old q n)
      (sound : (q : Place) → place_marked new q number ≡ true → read_by f q ≡ true)
      (told : (q : Place) → read_by f q ≡ true → place_marked new q number || own_touched_by f q ≡ true) where
    sound_at : (q : Place) (n : ℕ) (b : Bool) → (number == n) ≡ b → place_marked new q n ≡ true → read_by (if b then f else footprints n) q ≡ true
    sound_at q n true e there = sound q (ap (place_marked new q) (number_is number n e) ∙ there)
    sound_at q n false e there = h.sound q n (sym (others q n e) ∙ there)

    told_at : (q : Place) (n : ℕ) (b : Bool) → (number == n) ≡ b → read_by (if b then f else footprints n) q ≡ true →
        place_marked new q n || own_touched_by (if b then f else footprints n) q ≡ true
    told_at q n true e read = ap (λ k. place_marked new q k || own_touched_by f q) (sym (number_is number n e)) ∙ told q read
    told_at q n false e read = ap (λ b. b || own_touched_by (footprints n) q) (others q n e) ∙ h.told q n read

    one_read : AreReads new (with_footprint footprints number f)
    one_read = record { sound = λ q n. sound_at q n (number == n) refl; told = λ q n. told_at q n (number == n) refl }

  pub reads_taken : (old new : PlaceMarks) (f : Footprint workbook) → footprints number ≡ Some f → AreReads old footprints →
      Clears (place_marked old) (place_marked new) (read_at f.reads) number → AreReads new (with_footprint footprints number None)
  reads_taken old new f had h k = one_read old new h None k.others (λ q there. absurd (true≢false (sym there ∙ gone q (read_at f.reads q) refl))) (λ q read. cc)
    where
      gone : (q : Place) (b : Bool) → read_at f.reads q ≡ b → place_marked new q number ≡ false
      gone q true e = k.gone q e
      gone q false e = k.fewer q (false_from_ne_true (place_marked old q number)
          (λ there. true≢false (sym (ap (λ o. read_by o q) (sym had) ∙ h.sound q number there) ∙ e)))

  pub reads_undone : (old mid new : PlaceMarks) (here : Place → Bool) → footprints number ≡ None → AreReads old footprints →
      Stays (place_marked old) (place_marked mid) here number → Clears (place_marked mid) (place_marked new) here number → AreReads new footprints
  reads_undone old mid new here had h p k = same_reads old new footprints (λ q n. back q n (number == n) refl) h
    where
      gone : (q : Place) (b : Bool) → here q ≡ b → place_marked new q number ≡ false
      gone q true e = k.gone q e
      gone q false e = k.fewer q (p.at q number (ap (λ b. b && (number == number)) e) ∙ none_read old h had q)

      back : (q : Place) (n : ℕ) (b : Bool) → (number == n) ≡ b → place_marked new q n ≡ place_marked old q n
      back q n true e = subst (λ (j : ℕ). place_marked new q j ≡ place_marked old q j) (number_is number n e)
          (gone q (here q) refl ∙ sym (none_read old h had q))
      back q n false e = k.others q n e ∙ p.at q n (ap (λ b. here q && b) e ∙ and_false (here q))

  pub reads_came : (old new : PlaceMarks) (f : Footprint workbook) (here : Place → Bool) → ((q : Place) → here q ≡ true → read_at f.reads q ≡ true) →
      ((q : Place) → read_at f.reads q ≡ true → here q || marked_at Own f.touched q ≡ true) → footprints number ≡ None → AreReads old footprints →
      Sets (place_marked old) (place_marked new) here number true → AreReads new (with_footprint footprints number (Some f))
  reads_came old new f here sound told had h p = one_read old new h (Some f) (λ q n e. p.at q n ∙ unless (here q) (number == n) (place_marked old q n) e)
      (λ q there. sound q (sym (at_number q) ∙ there)) (λ q read. ap (λ b. b || marked_at Own f.touched q) (at_number q) ∙ told q read)
    where
      unless : (a b x : Bool) → b ≡ false → (if a && b then true else x) ≡ x
      unless true b x e = ap (λ c. if c then true else x) e
      unless false b x e = refl

      itself : (a b x : Bool) → b ≡ true → x ≡ false → (if a && b then true else x) ≡ a
      itself true b x e out = ap (λ c. if c then true else x) e
      itself false b x e out = out

      at_number : (q : Place) → place_marked new q number ≡ here q
      at_number q = p.at q number ∙ itself (here q) (number == number) (place_marked old q number) (grind (arith, nat_tests)) (none_read old h had q)
