-- Lists of entries whose keys strictly rise.
use Rattle.std.proofs.Common.{◌≡◌, Bool, true, false, ◌&&◌, T, List, [], ◌∷◌, Some, None, refl, sym, ap, ◌∙◌, Ordering}
use Rattle.std.specs.Ordering.{eq_by_cmp, is_eq, is_lt}
use Rattle.std.specs.declared.cmp.Ordering.TheVariants.{Less, Equal, Greater}
use Rattle.std.specs.List.{AllByRecursion}
use Rattle.std.specs.FinMap.{find, is_sorted}
use Rattle.std.specs.FinMap.Entries.{below_all}
use Rattle.selective_undo.specs.Changes.{IsOrder}
use Rattle.selective_undo.proofs.Changes.{is_itself}

pub both : (a b : Bool) → T a → T b → T (a && b)
both true b p q = q
both false b p q = p

pub first : (a b : Bool) → T (a && b) → T a
first true b p = tt
first false b p = p

pub second : (a b : Bool) → T (a && b) → T b
second true b p = p
second false b p = absurd p

less_is_other : (o : Ordering) → T (is_lt o) → is_eq o ≡ false
less_is_other Less p = refl
less_is_other Equal p = absurd p
less_is_other Greater p = absurd p

module _ {K X : Type 0} (R : K → K → Ordering) where
  -- below all keys there is none
  pub none_below : (q : K) (es : List (K × X)) → T (below_all R q es) → find R q es ≡ None
  none_below q [] h = refl
  none_below q (e ∷ es) h = rw (less_is_other (R q e.0) (first _ _ h)) (none_below q es (second _ _ h))

module _ {K X : Type 0} {R : K → K → Ordering} (ordered : IsOrder R) (Q : K → X → Type 0) where
  -- what holds of each key with what is found at it holds of each entry
  pub of_entries : (es : List (K × X)) → T (is_sorted R es) → ((q : K) (x : X) → find R q es ≡ Some x → Q q x) → AllByRecursion (λ e. Q e.0 e.1) es
  of_entries [] h holds = tt
  of_entries (e ∷ es) h holds = (
    holds e.0 e.1 (rw (is_itself ordered e.0) refl),
    of_entries es (second _ _ h) (λ q x there. elim (eq_by_cmp R q e.0) as (λ b. eq_by_cmp R q e.0 ≡ b → Q q x) [
      | true ↦ λ same.
          let is : q ≡ e.0 = ordered.strict q e.0 (tie (R q e.0) same) in
          absurd (none_some x (sym (none_below R e.0 es (first _ _ h)) ∙ ap (λ k. find R k es) (sym is) ∙ there))
      | false ↦ λ other. holds q x (rw other there)
    ] refl),
  )
    where
      tie : (o : Ordering) → is_eq o ≡ true → o ≡ Equal
      tie Less e = cc
      tie Equal e = refl
      tie Greater e = cc

      none_some : (x : X) → None ≡ Some x → ⊥
      none_some x e = cc
