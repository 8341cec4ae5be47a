-- What the literal of a set stands for is indices of one kind, ascending and each once.
use Rattle.std.proofs.Common.{◌≡◌, ◌≤◌, inl, inr, ℕ, ℤ, List, [], ◌∷◌, map, refl, sym, subst, arith}
use Rattle.std.specs.List.{AllByRecursion}
use Rattle.std.specs.declared.cmp.Ordering.{Ordering}
use Rattle.std.specs.declared.cmp.Ordering.TheVariants.{Less, Equal, Greater}
use Rattle.wb_sets.specs.Labels.{IsLabel}
use Rattle.wb_cells.specs.Cells.{index_cmp}
use Rattle.wb_cells.specs.declared.values.index.Index.{Index}
use Rattle.wb_cells.specs.declared.values.index.Index.TheVariants.{Point, Text}
use Rattle.wb_literals.specs.Grammar as grammar
use Rattle.wb_literals.specs.Integer.{IsWithin}
use Rattle.wb_literals.specs.Set.{Items as Listed, nothing, integers, pairs, triples, texts}
use Rattle.wb_literals.specs.Spelling.{IsInteger}
use Rattle.wb_literals.specs.Limits.Literals.{listed_in}
use Rattle.wb_reshape.specs.Sources.{placed, inserted, ascending}
use Rattle.wb_reshape.proofs.Ascending.{sorted-ascending, is_ascending}
use Rattle.wb_requests.proofs.OnTheWire.Listed.{each_listed, integer_within}
use Rattle.wb_requests.specs.Wire.Proper.{AllWithin, IsPoint, IsText, ArePoints, AreTexts, AreAlike}

-- ---- what holds of each index holds of each in order

module _ (P : Index → Type 0) where
  each_placed : (o : Ordering) (i j : Index) (js rest : List Index) → P i → P j → AllByRecursion P js → AllByRecursion P rest
      → AllByRecursion P (placed o i j js rest)
  each_placed Less i j js rest p q all more = (p, (q, all))
  each_placed Equal i j js rest p q all more = (q, all)
  each_placed Greater i j js rest p q all more = (q, more)

  each_inserted : (i : Index) (js : List Index) → P i → AllByRecursion P js → AllByRecursion P (inserted i js)
  each_inserted i [] p all = (p, tt)
  each_inserted i (j ∷ js) p all = each_placed (index_cmp i j) i j js (inserted i js) p all.0 all.1 (each_inserted i js p all.1)

  each_ascending : (is : List Index) → AllByRecursion P is → AllByRecursion P (ascending is)
  each_ascending [] all = tt
  each_ascending (i ∷ is) all = each_inserted i (ascending is) all.0 (each_ascending is all.1)

pub ascending_again : (is : List Index) → ascending (ascending is) ≡ ascending is
ascending_again is = sym (is_ascending (ascending is) (ascending is) (sorted-ascending is) (λ k. (λ m. m, λ m. m)))

-- ---- points and texts

points_are : (rank : ℕ) (is : List Index) → AllByRecursion (IsPoint rank) is → ArePoints rank is
points_are rank [] h = tt
points_are rank (i ∷ is) h = (h.0, points_are rank is h.1)

texts_are : (is : List Index) → AllByRecursion IsText is → AreTexts is
texts_are [] h = tt
texts_are (i ∷ is) h = (h.0, texts_are is h.1)

of_rank : (rank : ℕ) (is : List Index) → 1 ≤ rank → rank ≤ 3 → AllByRecursion (IsPoint rank) is → AreAlike (ascending is)
of_rank rank is low high h = inl (rank, low, high, points_are rank (ascending is) (each_ascending (IsPoint rank) is h))

of_texts : (is : List Index) → AllByRecursion IsText is → AreAlike (ascending is)
of_texts is h = inr (texts_are (ascending is) (each_ascending IsText is h))

under : {X : Type 0} (f : X → Index) (P : Index → Type 0) (xs : List X) → AllByRecursion (λ x. P (f x)) xs → AllByRecursion P (map f xs)
under f P [] h = tt
under f P (x ∷ xs) h = (h.0, under f P xs h.1)

-- ---- what a literal lists

within_each : (is : List ℤ) → AllByRecursion IsWithin is → AllWithin is
within_each [] h = tt
within_each (i ∷ is) h = (h.0, within_each is h.1)

single_is : (text : List ℕ) (i : ℤ) → IsInteger text i → IsPoint 1 (Point (i ∷ []))
single_is text i h = (refl, (integer_within text i h, tt))

pair_is : (text : List ℕ) (p : List ℤ) → grammar.IsPair text p → IsPoint 2 (Point p)
pair_is text p h =
    let is = h.0 ∷ h.1 ∷ [] in
    subst (λ p. IsPoint 2 (Point p)) (sym h.3) (refl, within_each is (each_listed IsInteger IsWithin integer_within h.2.1 is h.2.4))

triple_is : (text : List ℕ) (p : List ℤ) → grammar.IsTriple text p → IsPoint 3 (Point p)
triple_is text p h =
    let is = h.0 ∷ h.1 ∷ h.2 ∷ [] in
    subst (λ p. IsPoint 3 (Point p)) (sym h.4) (refl, within_each is (each_listed IsInteger IsWithin integer_within h.3.1 is h.3.4))

pub set_is : (text : List ℕ) (listed : Listed) → grammar.IsSet text listed → AreAlike (ascending (listed_in listed))
set_is text nothing h = inr tt
set_is text (integers is) h =
    of_rank 1 (map (λ i. Point (i ∷ [])) is) (omega arith) (omega arith)
    (under (λ i. Point (i ∷ [])) (IsPoint 1) is (each_listed IsInteger (λ i. IsPoint 1 (Point (i ∷ []))) single_is h.1 is h.4))
set_is text (pairs ps) h =
    of_rank 2 (map Point ps) (omega arith) (omega arith) (under Point (IsPoint 2) ps (each_listed grammar.IsPair (λ p. IsPoint 2 (Point p)) pair_is h.1 ps h.4))
set_is text (triples ts) h =
    of_rank 3 (map Point ts) (omega arith) (omega arith)
    (under Point (IsPoint 3) ts (each_listed grammar.IsTriple (λ p. IsPoint 3 (Point p)) triple_is h.1 ts h.4))
set_is text (texts ls) h =
    of_texts (map Text ls) (under Text IsText ls (each_listed grammar.IsText IsLabel (λ text label k. k.0) h.1 ls h.4))
