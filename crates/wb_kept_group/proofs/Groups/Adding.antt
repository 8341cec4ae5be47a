-- The step that adds a turn keeps the book's rule.
use Rattle.std.proofs.Common.{◌≡◌, ℕ, ◌+◌, ◌<◌, ◌==◌, Bool, true, false, List, [], ◌∷◌, ◌++◌, length, refl, ap, sym, subst, arith, inl, length-append, append-nil, None}
use Rattle.std.proofs.lemmas.Bool.Decides.{nat_tests}
use mathlib.Core.List.{IsPrefix}
use prog.Atomic.{either}
use Rattle.logbook.specs.Pages.{Cell, cell, keeps, no_nib, step, Moves, Goes}
use Rattle.wb_kept_group.specs.Group.Books.{IsCounted, IsAdded}
use Rattle.wb_kept_group.proofs.Groups.Fronts.{whole}

module _ {C : Type 0} (seen : List C) (turn : C) (old new : ℕ) (counts : length seen ≡ old) (next : new ≡ old + 1) where
  abbrev shown : List C → List C
  shown turns = []

  abbrev moved : List C → List C → ℕ → Type 0
  moved before after answer = Unit {0}

  abbrev pub Step : List Cell → List C → Type 0
  Step = Goes IsCounted shown moved 0 (seen, (no_nib, None)) (λ n. either (n == old) new n) (IsAdded (step 0 old new turn) (seen, (no_nib, None)))

  by_number : (all : List C) (others : List Cell) → IsPrefix seen all → (b : Bool) → (length all == old) ≡ b → Step ((length all, true) ∷ others) all
  by_number all others begins true is =
      let number : length all ≡ old = grind (arith, nat_tests) in
      let same : seen ≡ all = whole seen all begins (omega arith) in
      let now : either (length all == old) new (length all) ≡ length (all ++ turn ∷ []) = rw is (omega (arith, length-append all (turn ∷ []))) in
      (keeps, turn ∷ [], None, tt, (others, ap (λ (k : ℕ). (k, true) ∷ others) now), inl (refl, refl), rw is (ap (λ l. l ++ turn ∷ []) (sym same)))
  by_number all others begins false is =
      let now : either (length all == old) new (length all) ≡ length (all ++ []) = rw is (sym (ap length (append-nil all))) in
      (keeps, [], None, tt, (others, ap (λ (k : ℕ). (k, true) ∷ others) now), inl (refl, refl), rw is tt)

  pub adds : Moves IsCounted shown moved 0 (seen, (no_nib, None)) (λ n. either (n == old) new n) (IsAdded (step 0 old new turn) (seen, (no_nib, None)))
  adds cells all (others, is) begins away =
      let Fits : List Cell → Type 0 = λ cs. (0 < length cs) × ((cell cs 0).1 ≡ true) × Step cs all in
      subst Fits (sym is) (omega arith, refl, by_number all others begins (length all == old) refl)
