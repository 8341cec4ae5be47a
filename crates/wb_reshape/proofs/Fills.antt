-- The arrays over a domain, as a look at all its users shows them, each with what a new index brings to it.
use Rattle.std.proofs.Common.{◌≡◌, ◌⊎◌, inl, inr, ℕ, ℤ, pos, true, false, not, ◌&&◌, List, [], ◌∷◌, map, Option, Some, None, FitsSigned, arith, refl, sym, ap}
use Rattle.std.proofs.Common.{subst, ◌∙◌}
use Rattle.std.proofs.lemmas.Map.Views.{Contains-from_any}
use Rattle.std.proofs.lemmas.Option.{none-some}
use Rattle.std.specs.Int.{w64}
use Rattle.std.specs.FinMap.{get}
use Rattle.std.specs.List.{Contains, zip}
use Rattle.std.specs.Map.{keys_of}
use Rattle.wb_range.specs.Domain.{IsListedOnce}
use Rattle.wb_sets.proofs.Members.{contains_cons, cons_contains, first_contains}
use Rattle.wb_cells.specs.declared.cells.cell.Cell.TheVariants.{Shape, Member, Use, Implicit}
use Rattle.wb_cells.specs.declared.cells.kind.DomainKind.TheVariants.{Sparse}
use Rattle.wb_cells.specs.declared.cells.value.Binding.TheVariants.{Array as BoundArray, Sparse as BoundSparse}
use Rattle.wb_cells.specs.declared.cells.value.Value.{Value}
use Rattle.wb_cells.specs.declared.cells.value.Value.TheVariants.{Bound, Present, Ranges}
use Rattle.wb_cells.specs.declared.values.index.Index.{Index}
use Rattle.wb_cells.specs.Cells.{Name, Cells, is_same_name}
use Rattle.wb_cells.specs.Shapes.{Range, indices}
use Rattle.wb_cells.specs.WellFormed.{IsWellFormed, IsNumber, IsImplicit, has, domain_at}
use Rattle.wb_reshape.specs.Fills.{number_or_zero, zeros}
use Rattle.wb_reshape.specs.Laws.{AreFills, LosesNone}
use Rattle.wb_reshape.specs.Resized.{without}
use Rattle.wb_reshape.specs.Users.{bound}
use Rattle.wb_reshape.proofs.Gets.{list_any-map}
use Rattle.wb_reshape.proofs.States.{same_index, array_over, inside_parent, among_ranges}
use Rattle.wb_reshape.proofs.Users.{users, bound_once, any-from_bound, listed-from_bound, bound-from_listed}
use Rattle.wb_reshape.proofs.Without.{has-without}

-- ---- names, each with a number

-- each name with its number
abbrev pub numbered : (Name → ℤ) → List Name → List (Name × ℤ)
numbered number ns = map (λ a. (a, number a)) ns

pub keys-numbered : (number : Name → ℤ) (ns : List Name) → keys_of (numbered number ns) ≡ ns
keys-numbered number [] = refl
keys-numbered number (a ∷ ns) = ap (λ ms. a ∷ ms) (keys-numbered number ns)

zip-numbered : {X : Type 0} (f : X → ℤ) (g : Name → X) (ns : List Name) → zip ns (map f (map g ns)) ≡ numbered (λ a. f (g a)) ns
zip-numbered f g [] = refl
zip-numbered f g (a ∷ ns) = ap (λ fs. (a, f (g a)) ∷ fs) (zip-numbered f g ns)

listed_number : (number : Name → ℤ) (ns : List Name) (n : Name) (v : ℤ) → Contains (numbered number ns) (n, v) → Contains ns n × (v ≡ number n)
listed_number number [] n v there = absurd (omega (arith, there.1))
listed_number number (a ∷ ns) n v there = by (listed_number number ns n v) (contains_cons (a, number a) (numbered number ns) (n, v) there.0 there.1 there.2)
  where
    by : (Contains (numbered number ns) (n, v) → Contains ns n × (v ≡ number n)) → ◌≡◌ {A = Name × ℤ} (n, v) (a, number a) ⊎
        Contains (numbered number ns) (n, v) → Contains (a ∷ ns) n × (v ≡ number n)
    by rest (inl same) =
        let name : n ≡ a = ap (λ (f : Name × ℤ). f.0) same in
        (first_contains a ns n name, ap (λ (f : Name × ℤ). f.1) same ∙ ap number (sym name))
    by rest (inr later) = let found = rest later in (cons_contains a ns n found.0, found.1)

-- ---- what new indices bring

module _ (s : Cells) (d : Name) where
  abbrev pub arrays : List Name
  arrays = bound BoundArray (users s d)

  numbered_fills : (number : Name → ℤ) → ((a : Name) → get s (Use d a) ≡ Some (Bound BoundArray) → FitsSigned w64 (number a)) →
      AreFills s d (numbered number arrays)
  numbered_fills number fit =
      record {
        all = λ a used. list_any-map (λ f. is_same_name a f.0) (λ n. (n, number n)) arrays ∙ any-from_bound s d BoundArray a used;
        only = λ a v listed. bound-from_listed s d BoundArray a (listed_number number arrays a v listed).0;
        numbers = λ a v listed.
            let found = listed_number number arrays a v listed in
            subst (FitsSigned w64) (sym found.1) (fit a (bound-from_listed s d BoundArray a found.0));
      }

  -- 0 to each
  pub zeros_fill : AreFills s d (zeros arrays)
  zeros_fill = numbered_fills (λ a. pos 0) (λ a used. search arith)

  pub zeros_once : IsListedOnce (keys_of (zeros arrays))
  zeros_once = subst (λ (ns : List Name). IsListedOnce ns) (sym (keys-numbered (λ a. pos 0) arrays)) (bound_once s d BoundArray)

  -- the number that stands in a cell of each, 0 where none does
  abbrev held : (Name → Option Value) → List (Name × ℤ)
  held cell = zip arrays (map number_or_zero (map cell arrays))

  pub held_once : (cell : Name → Option Value) → IsListedOnce (keys_of (held cell))
  held_once cell = subst (λ (ns : List Name). IsListedOnce ns)
      (sym (ap (λ fs. keys_of fs) (zip-numbered number_or_zero cell arrays) ∙ keys-numbered (λ a. number_or_zero (cell a)) arrays)) (bound_once s d BoundArray)

  is_number : (v : Option Value) → IsNumber v → FitsSigned w64 (number_or_zero v)
  is_number v number = rw number.1 number.2

  -- to each its implicit value, where the domain is sparse
  pub implicits_fill : (parent : Name) (rank : ℕ) → IsWellFormed s → domain_at s d ≡ Some (Sparse parent rank) → AreFills s d (held (λ a. get s (Implicit a)))
  implicits_fill parent rank h there = subst (AreFills s d) (sym (zip-numbered number_or_zero (λ a. get s (Implicit a)) arrays))
      (numbered_fills (λ a. number_or_zero (get s (Implicit a))) (λ a used.
      is_number (get s (Implicit a)) (subst (λ over. IsImplicit over (get s (Implicit a))) (array_over s h d (Sparse parent rank) there a used)
      (h.implicits a))))

  -- ---- no sparse domain loses an index

  -- none of those that leave is in one of them
  pub loses_none : (rs : List Range) (is : List Index) → IsWellFormed s → get s (Shape d) ≡ Some (Ranges rs)
      → ((e : Name) (i : Index) → Contains (bound BoundSparse (users s d)) e → Contains (without is (indices rs)) i → get s (Member e i) ≡ None) →
      LosesNone s d is
  loses_none rs is h shape none e i used present =
      let inside : has (indices rs) i ≡ true = among_ranges s h d rs shape i (inside_parent s h d e i used present) in
      elim (has is i) as (λ b. has is i ≡ b → b ≡ true) [
        | true ↦ λ stays. refl
        | false ↦ λ leaves.
            let among : has (without is (indices rs)) i ≡ true = has-without is (indices rs) i ∙ ap (λ b. b && not (has is i)) inside ∙ ap not leaves in
            absurd (none-some Present (sym (none e i (listed-from_bound s d BoundSparse e used)
            (Contains-from_any same_index i (without is (indices rs)) among)) ∙ present))
      ] refl
