-- A domain that loses all of its members.
use Rattle.std.proofs.Common.{◌≡◌, ℕ, zero, suc, ℤ, Bool, true, false, ◌||◌, List, [], ◌∷◌, ◌++◌, length, map, slice_get, Option, Some, None, refl, sym, ap, subst, ◌∙◌, append_assoc, append-nil, arith}
use Rattle.std.proofs.lemmas.Bool.Decides.{nat_tests}
use Rattle.std.specs.Prelude.{◌==◌}
use Rattle.std.specs.Ordering.{eq_by_cmp}
use Rattle.selective_undo.specs.declared.Change.{Change}
use Rattle.selective_undo.specs.Changes.{changes, AllOnce}
use Rattle.selective_undo.specs.Edit.{outcome, reads, write}
use Rattle.wb_cells.specs.declared.cells.cell.Cell.{Cell}
use Rattle.wb_cells.specs.declared.cells.cell.Cell.TheVariants.{Member}
use Rattle.wb_cells.specs.declared.cells.kind.DomainKind.{DomainKind}
use Rattle.wb_cells.specs.declared.cells.kind.DomainKind.TheVariants.{Rectangular, Sparse, Associative}
use Rattle.wb_cells.specs.declared.cells.pattern.Pattern.{Pattern}
use Rattle.wb_cells.specs.declared.cells.pattern.Pattern.TheVariants.{Members}
use Rattle.wb_cells.specs.declared.cells.value.Value.{Value}
use Rattle.wb_cells.specs.declared.changes.row.IndexedRow.TheVariants.{Members as MembersOf}
use Rattle.wb_cells.specs.declared.values.index.Index.{Index}
use Rattle.wb_range.specs.Domain.{IsListedOnce}
use Rattle.wb_cells.specs.Cells.{Name, Cells, Changes, cell_cmp, cell_order}
use Rattle.wb_cells.specs.Kinds.{kind_of}
use Rattle.wb_cells.specs.MemberRuns.{members_to}
use Rattle.wb_cells.specs.Readers as readers
use Rattle.wb_cells.specs.WellFormed.{index_cell}
use Rattle.wb_reshape.proofs.Gets.{same_key}
use Rattle.wb_reshape.specs.declared.new_indices.SetOperation.TheVariants.{Intersection}
use Rattle.wb_reshape.specs.Resized.{without, resized_cells}
use Rattle.wb_reshape.specs.Sources.{combined}
use Rattle.wb_reshape.specs.Writes.{clear_all}
use Rattle.wb_edit.specs.Changed.{set_all}
use Rattle.wb_edit.specs.Commands.{cells_beside_indices}
use Rattle.wb_edit.specs.Commands.Reshape.{with_indices}
use Rattle.wb_edit.specs.Looks.{members}
use Rattle.wb_edit.specs.Plans.{Gives}
use Rattle.wb_edit.specs.Resizing.{all_in_parent, fills}
use Rattle.wb_edit.specs.Trees.{Tree}
use Rattle.wb_edit.proofs.Exchanges.{same_cells}
use Rattle.wb_edit.proofs.IndexedRows.{other_cells}
use Rattle.wb_edit.proofs.Members.{members_once}

-- what is kept of the members that were looked at
pub seen_members : (s : Cells) (d : Name) (rs ss : List Pattern) → ss ≡ rs ++ Members d ∷ [] → Gives (members d) s rs (readers.members s d) ss
seen_members s d rs ss is = λ next.
    let rest : List Pattern = reads (next (readers.members s d)) s in
    (refl, sym (ap (λ (us : List Pattern). us ++ rest) is ∙ append_assoc rs (Members d ∷ []) rest))

-- the members are none of the other cells of a domain
pub members_apart : (kind : DomainKind) (d : Name) (i : Index) → changes cell_cmp (clear_all (cells_beside_indices d kind)) (Member d i) ≡ false
members_apart (Rectangular rank) d i = refl
members_apart (Sparse parent rank) d i = refl
members_apart (Associative type) d i = refl

-- the changes of members to one value, as those of their cells
pub as_cells : (d : Name) (v : Option Value) (is : List Index) → members_to d v is ≡ set_all (map (Member d) is) v
as_cells d v [] = refl
as_cells d v (i ∷ is) =
    let x : Change Cell Value = record { cell = Member d i; value = v } in
    ap (λ (xs : Changes). x ∷ xs) (as_cells d v is)

once_after : (i : Index) (is : List Index) → IsListedOnce (i ∷ is) → IsListedOnce is
once_after i is once = λ p q j e f.
    let same : suc p ≡ suc q = once (suc p) (suc q) j e f in
    omega (arith, same)

never_again : (i : Index) (is : List Index) → IsListedOnce (i ∷ is) → (q : ℕ) → slice_get is q ≡ Some i → ⊥
never_again i is once q e =
    let same : suc q ≡ zero = once (suc q) zero i e refl in
    absurd (omega (arith, same))

once_cells : (d : Name) (is : List Index) → IsListedOnce is → AllOnce cell_cmp (set_all (map (Member d) is) None)
once_cells d [] once = tt
once_cells d (i ∷ is) once = (other_cells (MembersOf d) None i is (never_again i is once), once_cells d is (once_after i is once))

-- each member of a domain is cleared once
pub once_members : (s : Cells) (d : Name) → AllOnce cell_cmp (members_to d None (readers.members s d))
once_members s d =
    subst (λ (xs : Changes). AllOnce cell_cmp xs) (sym (as_cells d None (readers.members s d))) (once_cells d (readers.members s d) (members_once s d))

-- a cell of a member is none of changes of no member
pub new_members : (old : Changes) (d : Name) (v : Option Value) → ((i : Index) → changes cell_cmp old (Member d i) ≡ false) → (is : List Index) (c : Cell) →
    changes cell_cmp (members_to d v is) c ≡ true → changes cell_cmp old c ≡ false
new_members old d v fresh [] c e = cc
new_members old d v fresh (i ∷ is) c e = by (eq_by_cmp cell_cmp c (Member d i)) refl e (λ f. new_members old d v fresh is c f)
  where
    by : (b : Bool) → eq_by_cmp cell_cmp c (Member d i) ≡ b → b || changes cell_cmp (members_to d v is) c ≡ true →
        (changes cell_cmp (members_to d v is) c ≡ true → changes cell_cmp old c ≡ false) → changes cell_cmp old c ≡ false
    by true same e later = ap (changes cell_cmp old) (same_key cell_order c (Member d i) same) ∙ fresh i
    by false apart e later = later e

without_none : (is : List Index) → without [] is ≡ is
without_none [] = refl
without_none (i ∷ is) = ap (λ js. i ∷ js) (without_none is)

none_in_parent : (kind : DomainKind) (next : Unit {0} → Tree) → all_in_parent kind [] next ≡ next tt
none_in_parent (Rectangular rank) next = refl
none_in_parent (Sparse parent rank) next = refl
none_in_parent (Associative type) next = refl

-- a domain gets no index
pub emptied : (d : Name) (kind : DomainKind) (old new : List Index) → new ≡ [] →
    with_indices d kind old new ≡ fills d kind (λ brought. write (resized_cells (kind_of kind) d brought old []))
emptied d kind old new none =
    ap (with_indices d kind old) none
    ∙ none_in_parent kind (λ u. fills d kind (λ brought. write (resized_cells (kind_of kind) d brought (without [] old) [])))
    ∙ ap (λ (is : List Index). fills d kind (λ brought. write (resized_cells (kind_of kind) d brought is []))) (without_none old)

-- nothing changes but the members
pub all_leave : (kind : DomainKind) (d : Name) (fs : List (Name × ℤ)) (is : List Index) → fs ≡ [] → ((i : Index) → index_cell (kind_of kind) d i ≡ Member d i) →
    resized_cells (kind_of kind) d fs is [] ≡ clear_all (map (Member d) is)
all_leave kind d fs is none own =
    let cells : List Cell = map (index_cell (kind_of kind) d) is in
    ap (λ (gs : List (Name × ℤ)). resized_cells (kind_of kind) d gs is []) none
    ∙ append-nil (clear_all cells ++ [])
    ∙ append-nil (clear_all cells)
    ∙ ap clear_all (same_cells (index_cell (kind_of kind) d) (Member d) own is)

none_among : (is : List Index) → combined Intersection [] is ≡ []
none_among [] = refl
none_among (i ∷ is) = none_among is

pub nothing_common : (given old : List Index) → given ≡ [] → combined Intersection given old ≡ []
nothing_common given old none = ap (λ (is : List Index). combined Intersection is old) none ∙ none_among old

number_is : (m n : ℕ) → (m == n) ≡ true → m ≡ n
number_is m n e = grind (arith, nat_tests)

pub empty_list : (is : List Index) → (length is == 0) ≡ true → is ≡ []
empty_list [] e = refl
empty_list (i ∷ is) e =
    let none : length (i ∷ is) ≡ 0 = number_is (length (i ∷ is)) 0 e in
    let bad : ⊥ = omega arith in
    absurd bad
