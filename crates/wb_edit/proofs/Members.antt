-- The members of a domain, as a look at all of them shows them: ascending, each once, and exactly those that are there.
use Rattle.std.proofs.Common.{◌≡◌, Bool, true, false, cond, ◌||◌, T, List, [], ◌∷◌, Option, Some, None, is_some, refl, sym, ap, ◌∙◌}
use Rattle.std.specs.Cmp.{Equal-is}
use Rattle.std.specs.Cmp.Lexicographic.{slice_cmp}
use Rattle.std.specs.FinMap.{get, find, is_sorted}
use Rattle.std.specs.FinMap.Entries.{below_all}
use Rattle.std.specs.List.{AllByRecursion, filter_map}
use Rattle.std.specs.List.Sorted.{IsStrictlySortedBy}
use Rattle.std.specs.Ordering.{eq_by_cmp, is_eq, nat_cmp}
use Rattle.std.specs.declared.cmp.Ordering.TheVariants.{Less}
use Rattle.wb_range.specs.Domain.{IsListedOnce}
use Rattle.wb_sets.proofs.Ascending.{IsListedOnce-sorted}
use Rattle.wb_cells.specs.declared.cells.cell.Cell.{Cell}
use Rattle.wb_cells.specs.declared.cells.cell.Cell.TheVariants.{Object, Shape, In, Member, Mapping, Use, Implicit, Element}
use Rattle.wb_cells.specs.declared.cells.kind.DomainKind.{DomainKind}
use Rattle.wb_cells.specs.declared.cells.pattern.Pattern.TheVariants.{Members}
use Rattle.wb_cells.specs.declared.cells.value.Value.{Value}
use Rattle.wb_cells.specs.declared.values.index.Index.{Index}
use Rattle.wb_cells.specs.contracts.values.index.IndexOrd.TheImpl.Laws as index_laws
use Rattle.wb_cells.specs.Cells.{Name, Cells, cell_cmp, index_cmp, index_cmp-IsAntisymmetric, is_same_name}
use Rattle.wb_cells.specs.Readers.{seen}
use Rattle.wb_cells.specs.WellFormed.{IsMember, has, present_if}
use Rattle.wb_reshape.proofs.Seen.{AreNamed, seen_named, seen_sorted, find_seen, same_family, second_less, second_tie}
use Rattle.wb_reshape.proofs.Sorted.{first, second}
use Rattle.wb_reshape.proofs.States.{itself}
use Rattle.wb_edit.specs.Looks.{member_in}

-- ---- ascending

above : (d e : Name) (i : Index) (es : List (Cell × Value)) → is_same_name d e ≡ true → T (below_all cell_cmp (Member e i) es) → AreNamed (Members d) es →
    AllByRecursion (λ j. index_cmp i j ≡ Less) (filter_map member_in es)
above d e i [] same below of = tt
above d e i ((Member f j, v) ∷ es) same below of = (
  second_less (slice_cmp nat_cmp e f) (index_cmp i j) (same_family d e f same of.0) (first _ _ below),
  above d e i es same (second _ _ below) of.1,
)
above d e i ((Object n, v) ∷ es) same below of = let no : ⊥ = cc in absurd no
above d e i ((Shape n, v) ∷ es) same below of = let no : ⊥ = cc in absurd no
above d e i ((In f j, v) ∷ es) same below of = let no : ⊥ = cc in absurd no
above d e i ((Mapping n, v) ∷ es) same below of = let no : ⊥ = cc in absurd no
above d e i ((Use f n, v) ∷ es) same below of = let no : ⊥ = cc in absurd no
above d e i ((Implicit n, v) ∷ es) same below of = let no : ⊥ = cc in absurd no
above d e i ((Element f j, v) ∷ es) same below of = let no : ⊥ = cc in absurd no

ascending : (d : Name) (es : List (Cell × Value)) → T (is_sorted cell_cmp es) → AreNamed (Members d) es → IsStrictlySortedBy index_cmp (filter_map member_in es)
unfolding IsStrictlySortedBy
ascending d [] sorted of = tt
ascending d ((Member e i, v) ∷ es) sorted of = (above d e i es of.0 (first _ _ sorted) of.1, ascending d es (second _ _ sorted) of.1)
ascending d ((Object n, v) ∷ es) sorted of = let no : ⊥ = cc in absurd no
ascending d ((Shape n, v) ∷ es) sorted of = let no : ⊥ = cc in absurd no
ascending d ((In f j, v) ∷ es) sorted of = let no : ⊥ = cc in absurd no
ascending d ((Mapping n, v) ∷ es) sorted of = let no : ⊥ = cc in absurd no
ascending d ((Use f n, v) ∷ es) sorted of = let no : ⊥ = cc in absurd no
ascending d ((Implicit n, v) ∷ es) sorted of = let no : ⊥ = cc in absurd no
ascending d ((Element f j, v) ∷ es) sorted of = let no : ⊥ = cc in absurd no

pub members_ascending : (s : Cells) (d : Name) → IsStrictlySortedBy index_cmp (filter_map member_in (seen s (Members d)))
members_ascending s d = ascending d (seen s (Members d)) (seen_sorted s (Members d)) (seen_named s (Members d))

pub members_once : (s : Cells) (d : Name) → IsListedOnce (filter_map member_in (seen s (Members d)))
members_once s d = IsListedOnce-sorted index_cmp index_laws.total-law index_cmp-IsAntisymmetric _ (members_ascending s d)

-- ---- exactly those that are there

some_or : (b : Bool) (v : Value) (o : Option Value) → is_some (cond b (Some v) o) ≡ b || is_some o
some_or true v o = refl
some_or false v o = refl

listed : (d : Name) (i : Index) (es : List (Cell × Value)) → AreNamed (Members d) es → is_some (find cell_cmp (Member d i) es) ≡ has (filter_map member_in es) i
listed d i [] of = refl
listed d i ((Member f j, v) ∷ es) of =
    some_or (eq_by_cmp cell_cmp (Member d i) (Member f j)) v (find cell_cmp (Member d i) es)
    ∙ ap (λ b. b || is_some (find cell_cmp (Member d i) es)) (second_tie (slice_cmp nat_cmp d f) (index_cmp i j) ((Equal-is _).0 of.0))
    ∙ ap (λ b. is_eq (index_cmp i j) || b) (listed d i es of.1)
listed d i ((Object n, v) ∷ es) of = let no : ⊥ = cc in absurd no
listed d i ((Shape n, v) ∷ es) of = let no : ⊥ = cc in absurd no
listed d i ((In f j, v) ∷ es) of = let no : ⊥ = cc in absurd no
listed d i ((Mapping n, v) ∷ es) of = let no : ⊥ = cc in absurd no
listed d i ((Use f n, v) ∷ es) of = let no : ⊥ = cc in absurd no
listed d i ((Implicit n, v) ∷ es) of = let no : ⊥ = cc in absurd no
listed d i ((Element f j, v) ∷ es) of = let no : ⊥ = cc in absurd no

pub members_has : (s : Cells) (d : Name) (i : Index) → is_some (get s (Member d i)) ≡ has (filter_map member_in (seen s (Members d))) i
members_has s d i = ap is_some (sym (find_seen s (Members d) (Member d i) (itself d))) ∙ listed d i (seen s (Members d)) (seen_named s (Members d))

present : (s : Cells) (kind : Option DomainKind) (i : Index) (v : Option Value) (b : Bool) → IsMember s kind i v → is_some v ≡ b → v ≡ present_if b
present s kind i None true m e = cc
present s kind i None false m e = refl
present s kind i (Some v) true m e = ap Some m.0
present s kind i (Some v) false m e = cc

pub members_found : (s : Cells) (d : Name) (kind : Option DomainKind) (i : Index) → IsMember s kind i (get s (Member d i)) →
    get s (Member d i) ≡ present_if (has (filter_map member_in (seen s (Members d))) i)
members_found s d kind i m = present s kind i (get s (Member d i)) _ m (members_has s d i)
