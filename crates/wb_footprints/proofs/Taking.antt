-- What is left of an index where a footprint is taken away, or wasn't added for want of memory; and what it is with one more.
use Rattle.std.proofs.Common.{◌≡◌, ℕ, Bool, true, false, ◌&&◌, ◌==◌, Option, Some, None, if◌then◌else◌, refl, sym, subst, ap, ◌∙◌, arith}
use Rattle.std.proofs.lemmas.Bool.Decides.{nat_tests}
use Rattle.selective_undo.specs.Log.{Footprint}
use Rattle.wb_cells.specs.Schema.{workbook}
use Rattle.wb_footprints.specs.declared.places.place.Place.{Place}
use Rattle.std.specs.Prelude.{Result, Ok, Err, OnOk, OnErr}
use Rattle.std.specs.Result.{is_err}
use Rattle.wb_footprints.specs.Relation.{Sets, Stays, Clears}
use Rattle.wb_footprints.specs.Footprints.{with_footprint}

number_is : (m n : ℕ) → (m == n) ≡ true → m ≡ n
number_is m n e = grind (arith, nat_tests)

and_false : (a : Bool) → a && false ≡ false
and_false true = refl
and_false false = refl

unless : (c b x : Bool) → c ≡ false → (if c then b else x) ≡ x
unless true b x e = cc
unless false b x e = refl

pub on_ok : {T E P : Type 0} (r : Result T E) → is_err r ≡ false → OnOk r P → P
on_ok (Ok x) e h = h
on_ok (Err x) e h = cc

pub on_err : {T E P : Type 0} (r : Result T E) → is_err r ≡ true → OnErr r P → P
on_err (Ok x) e h = cc
on_err (Err x) e h = h

pub sets_stays : (o n : Place → ℕ → Bool) (h : Place → Bool) (number : ℕ) (b : Bool) → Sets o n h number b → Stays o n h number
sets_stays o n h number b p = record { at = λ q k out. p.at q k ∙ unless (h q && (number == k)) b (o q k) out }

pub stays_more : (o n : Place → ℕ → Bool) (g h : Place → Bool) (number : ℕ) → ((q : Place) → g q ≡ true → h q ≡ true) → Stays o n g number → Stays o n h number
stays_more o n g h number more p = record { at = λ q k out. p.at q k (less (g q) (h q) (number == k) (more q) out) }
  where
    less : (a b c : Bool) → (a ≡ true → b ≡ true) → b && c ≡ false → a && c ≡ false
    less true true c f out = out
    less true false c f out = let e = f refl in cc
    less false b c f out = refl

module _ (by : Option (Footprint workbook) → Place → Bool) (nothing : (q : Place) → by None q ≡ false) (footprints : ℕ → Option (Footprint workbook))
    (here : Place → Bool) (number : ℕ) where
  module _ (old new : Place → ℕ → Bool) (f : Footprint workbook) (its : (q : Place) → by (Some f) q ≡ here q) (had : footprints number ≡ Some f)
      (was : (q : Place) (n : ℕ) → old q n ≡ by (footprints n) q) (h : Clears old new here number) where
    gone_at : (q : Place) (b : Bool) → here q ≡ b → new q number ≡ false
    gone_at q true e = h.gone q e
    gone_at q false e = h.fewer q (was q number ∙ ap (λ o. by o q) had ∙ its q ∙ e)

    taken_at : (q : Place) (n : ℕ) (b : Bool) → (number == n) ≡ b → new q n ≡ by (if b then None else footprints n) q
    taken_at q n true e = subst (λ (k : ℕ). new q k ≡ by None q) (number_is number n e) (gone_at q (here q) refl ∙ sym (nothing q))
    taken_at q n false e = h.others q n e ∙ was q n

    pub taken : (q : Place) (n : ℕ) → new q n ≡ by (with_footprint footprints number None n) q
    taken q n = taken_at q n (number == n) refl

  module _ (old mid new : Place → ℕ → Bool) (had : footprints number ≡ None) (was : (q : Place) (n : ℕ) → old q n ≡ by (footprints n) q)
      (p : Stays old mid here number) (h : Clears mid new here number) where
    before_at : (q : Place) → old q number ≡ false
    before_at q = was q number ∙ ap (λ o. by o q) had ∙ nothing q

    left_at : (q : Place) (b : Bool) → here q ≡ b → new q number ≡ false
    left_at q true e = h.gone q e
    left_at q false e = h.fewer q (p.at q number (ap (λ b. b && (number == number)) e) ∙ before_at q)

    undone_at : (q : Place) (n : ℕ) (b : Bool) → (number == n) ≡ b → new q n ≡ by (footprints n) q
    undone_at q n true e = subst (λ (k : ℕ). new q k ≡ by (footprints k) q) (number_is number n e) (left_at q (here q) refl ∙ sym (before_at q) ∙ was q number)
    undone_at q n false e = h.others q n e ∙ p.at q n (ap (λ b. here q && b) e ∙ and_false (here q)) ∙ was q n

    pub undone : (q : Place) (n : ℕ) → new q n ≡ by (footprints n) q
    undone q n = undone_at q n (number == n) refl

  module _ (old new : Place → ℕ → Bool) (f : Footprint workbook) (its : (q : Place) → by (Some f) q ≡ here q) (had : footprints number ≡ None)
      (was : (q : Place) (n : ℕ) → old q n ≡ by (footprints n) q) (p : Sets old new here number true) where
    came_here : (q : Place) (n : ℕ) (b : Bool) → here q ≡ b → (number == n) ≡ true → (if b && true then true else old q n) ≡ by (Some f) q
    came_here q n true h e = sym (its q ∙ h)
    came_here q n false h e =
        was q n ∙ ap (λ o. by o q) (subst (λ (k : ℕ). footprints k ≡ None) (number_is number n e) had) ∙ nothing q ∙ sym (its q ∙ h)

    came_at : (q : Place) (n : ℕ) (b : Bool) → (number == n) ≡ b → new q n ≡ by (if b then Some f else footprints n) q
    came_at q n true e = p.at q n ∙ ap (λ b. if here q && b then true else old q n) e ∙ came_here q n (here q) refl e
    came_at q n false e = p.at q n ∙ unless (here q && (number == n)) true (old q n) (ap (λ b. here q && b) e ∙ and_false (here q)) ∙ was q n

    pub came : (q : Place) (n : ℕ) → new q n ≡ by (with_footprint footprints number (Some f) n) q
    came q n = came_at q n (number == n) refl
