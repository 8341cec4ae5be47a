-- What the tests on mappings let through.
use Rattle.std.proofs.Common.{◌≡◌, ℕ, ◌≤◌, Bool, true, false, length, Result, Ok, Err, refl, sym, subst, le-leb, eqb-true}
use Rattle.wb_dist.specs.Maps.{LayoutMap, whole, block, cyclic, block_cyclic, is_rank}
use Rattle.wb_cells.specs.declared.cells.kind.DomainKind.{DomainKind}
use Rattle.wb_cells.specs.declared.cells.kind.DomainKind.TheVariants.{Rectangular, Sparse, Associative}
use Rattle.wb_cells.specs.Layouts.{is_of_rank, IsMapping, IsLayout}
use Rattle.wb_cells.specs.declared.refusal.WhyRefused.{WhyRefused}
use Rattle.wb_cells.specs.declared.refusal.WhyRefused.TheVariants.{BadMapping}
use Rattle.wb_edit.specs.Kinds.{rank_of}
use Rattle.wb_edit.specs.Layouts.{for_rank}

pub kind_is : (kind : DomainKind) (rank : ℕ) → rank_of kind ≡ Ok rank → kind ≡ Rectangular rank
kind_is (Rectangular r) rank e = cc
kind_is (Sparse parent r) rank e = cc
kind_is (Associative type) rank e = cc

abbrev fitting : Bool → Result (Unit {0}) WhyRefused
fitting b = elim b [ true ↦ Ok tt | false ↦ Err BadMapping ]

found : (b : Bool) (x : Unit {0}) → fitting b ≡ Ok x → b ≡ true
found true x e = refl
found false x e = cc

ranked : (rank : ℕ) → 1 ≤ rank → rank ≤ 3 → is_rank rank ≡ true
ranked rank low high = rw (le-leb 1 rank low, le-leb rank 3 high) refl

of_rank : (rank : ℕ) (m : LayoutMap) → 1 ≤ rank → rank ≤ 3 → IsLayout m → is_of_rank rank m ≡ true → IsMapping rank m
of_rank rank whole low high h e = record { valid = ranked rank low high; in_limits = tt }
of_rank rank (block m) low high h e = subst (λ r. IsMapping r (block m)) (sym (eqb-true rank (length m.grid) e)) h
of_rank rank (cyclic m) low high h e = subst (λ r. IsMapping r (cyclic m)) (sym (eqb-true rank (length m.grid) e)) h
of_rank rank (block_cyclic m) low high h e = subst (λ r. IsMapping r (block_cyclic m)) (sym (eqb-true rank (length m.grid) e)) h

-- a mapping that was found to be for the rank is
pub mapping_for : (rank : ℕ) (m : LayoutMap) (x : Unit {0}) → 1 ≤ rank → rank ≤ 3 → IsLayout m → for_rank rank m ≡ Ok x → IsMapping rank m
mapping_for rank m x low high h e = of_rank rank m low high h (found (is_of_rank rank m) x e)
