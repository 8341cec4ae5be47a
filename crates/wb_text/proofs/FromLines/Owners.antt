-- The cells that a line tells of are those of its name.
use Rattle.std.proofs.Common.{◌≡◌, ℕ, ℤ, Bool, true, false, cond, List, ◌∷◌, length, Option, Some, None, option_map, refl, sym, ap, ◌∙◌, subst, Ordering}
use Rattle.std.specs.Cmp.{Equal-is, eq_by_cmp_equiv}
use Rattle.std.specs.Cmp.Lexicographic.{slice_cmp, nat_list_cmp_total}
use Rattle.std.specs.List.{zip}
use Rattle.std.specs.Ordering.{eq_by_cmp, is_eq, nat_cmp, ordering_then}
use Rattle.std.specs.declared.cmp.Ordering.TheVariants.{Less, Equal, Greater}
use Rattle.wb_dist.specs.Maps.{LayoutMap}
use Rattle.wb_cells.specs.declared.cells.cell.Cell.{Cell}
use Rattle.wb_cells.specs.declared.cells.cell.Cell.TheVariants.{Object, Shape, In, Member, Mapping, Use, Implicit, Element}
use Rattle.wb_cells.specs.declared.cells.kind.DomainKind.TheVariants as domains
use Rattle.wb_cells.specs.declared.cells.kind.KeyType.{KeyType}
use Rattle.wb_cells.specs.declared.cells.kind.Kind.{Kind}
use Rattle.wb_cells.specs.declared.cells.value.Binding.TheVariants as bindings
use Rattle.wb_cells.specs.declared.cells.value.Value.{Value}
use Rattle.wb_cells.specs.declared.cells.value.Value.TheVariants as values
use Rattle.wb_cells.specs.declared.values.index.Index.{Index}
use Rattle.wb_cells.specs.Cells.{Name, cell_cmp, cell_order, index_cmp, is_same_name}
use Rattle.wb_cells.specs.Shapes.{Range, indices}
use Rattle.wb_cells.specs.WellFormed.{has, present_if}
use Rattle.wb_text.specs.Said.{Line, rectangular, sparse, associative, array, name_of, first_line_of}
use Rattle.wb_text.specs.FromLines.Inserted.{or_else, last_of}
use Rattle.wb_text.specs.FromLines.Told.{owner, rectangular_cells, sparse_cells, associative_cells, line_array_cells, cells_of, told_of, presents}
use Rattle.wb_text.specs.FromLines.Told.{element_cells, rank_told, kind_told, indices_told, implicit_told}
use Rattle.wb_text.proofs.FromLines.Inserts.{none_first, head, never, alike, by_index}

pub itself : (n : Name) → is_same_name n n ≡ true
itself n = (eq_by_cmp_equiv nat_list_cmp_total).refl n

pub tied : (n m : Name) → is_same_name n m ≡ true → slice_cmp nat_cmp n m ≡ Equal
tied n m e = (Equal-is _).0 e

-- ---- cells of other names

pub apart : (c k : Cell) → is_same_name (owner c) (owner k) ≡ false → eq_by_cmp cell_cmp c k ≡ false
apart c k f =
    elim (eq_by_cmp cell_cmp c k) as (λ b. eq_by_cmp cell_cmp c k ≡ b → b ≡ false) [
      | true ↦ λ e.
          let same : c ≡ k = cell_order.strict c k ((Equal-is _).0 e) in
          let here : is_same_name (owner c) (owner k) ≡ true = subst (λ x. is_same_name (owner c) (owner x) ≡ true) same (itself (owner c)) in
          sym here ∙ f
      | false ↦ λ e. refl
    ] refl

-- ---- the last of the cells of a line

abbrev over : Option Value → Bool → Value → Option Value
over o b v = or_else o (cond b (Some v) None)

rectangular_last : (d : Name) (rs : List Range) (m : LayoutMap) (c : Cell) (o : Option Value) (i j k : Bool) → eq_by_cmp cell_cmp c (Object d) ≡ i →
    eq_by_cmp cell_cmp c (Shape d) ≡ j → eq_by_cmp cell_cmp c (Mapping d) ≡ k
    → last_of cell_cmp (presents (In d) (indices rs)) c ≡ o → last_of cell_cmp (rectangular_cells d rs m) c ≡ over
    (over (over o k (values.Mapping m)) j (values.Ranges rs)) i (values.Domain (domains.Rectangular (length rs)))
rectangular_last d rs m c o i j k e f g h =
    let last = head cell_cmp (Mapping d, values.Mapping m) (presents (In d) (indices rs)) c k o g h in
    let second = head cell_cmp (Shape d, values.Ranges rs) ((Mapping d, values.Mapping m) ∷ presents (In d) (indices rs)) c j _ f last in
    head cell_cmp (Object d, values.Domain (domains.Rectangular (length rs)))
    ((Shape d, values.Ranges rs) ∷ (Mapping d, values.Mapping m) ∷ presents (In d) (indices rs)) c i _ e second

sparse_last : (d parent : Name) (rank : ℕ) (is : List Index) (c : Cell) (o : Option Value) (i j : Bool) → eq_by_cmp cell_cmp c (Object d) ≡ i →
    eq_by_cmp cell_cmp c (Use parent d) ≡ j → last_of cell_cmp (presents (Member d) is) c ≡ o
    → last_of cell_cmp (sparse_cells d parent rank is) c ≡ over (over o j (values.Bound bindings.Sparse)) i (values.Domain (domains.Sparse parent rank))
sparse_last d parent rank is c o i j e f h =
    head cell_cmp (Object d, values.Domain (domains.Sparse parent rank)) ((Use parent d, values.Bound bindings.Sparse) ∷ presents (Member d) is) c i _ e
    (head cell_cmp (Use parent d, values.Bound bindings.Sparse) (presents (Member d) is) c j o f h)

associative_last : (d : Name) (type : KeyType) (is : List Index) (c : Cell) (o : Option Value) (i : Bool) → eq_by_cmp cell_cmp c (Object d) ≡ i →
    last_of cell_cmp (presents (Member d) is) c ≡ o
    → last_of cell_cmp (associative_cells d type is) c ≡ over o i (values.Domain (domains.Associative type))
associative_last d type is c o i e h = head cell_cmp (Object d, values.Domain (domains.Associative type)) (presents (Member d) is) c i o e h

array_last : (a d : Name) (kind : Kind) (is : List Index) (xs : List ℤ) (irv : Option ℤ) (c : Cell) (o : Option Value) (i j k : Bool) →
    eq_by_cmp cell_cmp c (Object a) ≡ i → eq_by_cmp cell_cmp c (Use d a) ≡ j → eq_by_cmp cell_cmp c (Implicit a) ≡ k
    → last_of cell_cmp (element_cells a (zip is xs)) c ≡ o
    → last_of cell_cmp (line_array_cells a d kind is xs irv) c ≡ over
    (over (over o k (values.Number (implicit_told kind irv))) j (values.Bound bindings.Array)) i (values.Array d kind)
array_last a d kind is xs irv c o i j k e f g h =
    let last = head cell_cmp (Implicit a, values.Number (implicit_told kind irv)) (element_cells a (zip is xs)) c k o g h in
    let second = head cell_cmp (Use d a, values.Bound bindings.Array) ((Implicit a, values.Number (implicit_told kind irv)) ∷ element_cells a (zip is xs)) c j
    _ f last in
    head cell_cmp (Object a, values.Array d kind) ((Use d a, values.Bound bindings.Array) ∷ (Implicit a, values.Number (implicit_told kind irv)) ∷
    element_cells a (zip is xs)) c i _ e second

no_present : (make : Index → Cell) (is : List Index) (c : Cell) → ((j : Index) → eq_by_cmp cell_cmp c (make j) ≡ false) →
    last_of cell_cmp (presents make is) c ≡ None
no_present make is c h = never cell_cmp (λ (i : Index). (make i, values.Present)) is c h

no_number : (a : Name) (ps : List (Index × ℤ)) (c : Cell) → ((j : Index) → eq_by_cmp cell_cmp c (Element a j) ≡ false) →
    last_of cell_cmp (element_cells a ps) c ≡ None
no_number a ps c h = never cell_cmp (λ (p : Index × ℤ). (Element a p.0, values.Number p.1)) ps c (λ p. h p.0)

pub others : (ls : List Line) (l : Line) (c : Cell) → is_same_name (owner c) (name_of l) ≡ false → last_of cell_cmp (cells_of ls l) c ≡ None
others ls (rectangular d rs m) c f =
    rectangular_last d rs m c None false false false (apart c (Object d) f) (apart c (Shape d) f) (apart c (Mapping d) f)
    (no_present (In d) (indices rs) c (λ i. apart c (In d i) f))
others ls (sparse d parent is) c f =
    sparse_last d parent (rank_told (first_line_of parent ls)) is c None false false (apart c (Object d) f) (apart c (Use parent d) f)
    (no_present (Member d) is c (λ i. apart c (Member d i) f))
others ls (associative d type is) c f =
    associative_last d type is c None false (apart c (Object d) f) (no_present (Member d) is c (λ i. apart c (Member d i) f))
others ls (array a d xs irv) c f =
    array_last a d (kind_told ls (first_line_of d ls)) (indices_told (first_line_of d ls)) xs irv c None false false false (apart c (Object a) f)
    (apart c (Use d a) f) (apart c (Implicit a) f)
    (no_number a (zip (indices_told (first_line_of d ls)) xs) c (λ i. apart c (Element a i) f))

-- ---- cells of its own name

second_tie : (o r : Ordering) → o ≡ Equal → is_eq (ordering_then o r) ≡ is_eq r
second_tie Equal r e = refl
second_tie Less r e = cc
second_tie Greater r e = cc

first_tie : (o r : Ordering) → r ≡ Equal → is_eq (ordering_then o r) ≡ is_eq o
first_tie Equal r e = ap is_eq e
first_tie Less r e = refl
first_tie Greater r e = refl

present_is : (b : Bool) → cond b (Some values.Present) None ≡ present_if b
present_is true = refl
present_is false = refl

-- an index among those that are put in
within : (make : Name → Index → Cell) (d : Name) (is : List Index) (c : Cell) (i : Index) →
    ((j : Index) → eq_by_cmp cell_cmp c (make d j) ≡ eq_by_cmp index_cmp i j) → last_of cell_cmp (presents (make d) is) c ≡ present_if (has is i)
within make d is c i h = alike cell_cmp index_cmp (make d) values.Present is c i h ∙ present_is (has is i)

-- what the cells of the line of a rectangular domain have, the cell being its own
mine_rectangular : (ls : List Line) (d : Name) (rs : List Range) (m : LayoutMap) (c : Cell) → is_same_name (owner c) d ≡ true →
    last_of cell_cmp (rectangular_cells d rs m) c ≡ told_of ls (rectangular d rs m) c
mine_rectangular ls d rs m (Object n) e = rectangular_last d rs m (Object n) None true false false e refl refl
    (no_present (In d) (indices rs) (Object n) (λ j. refl))
mine_rectangular ls d rs m (Shape n) e = rectangular_last d rs m (Shape n) None false true false refl e refl
    (no_present (In d) (indices rs) (Shape n) (λ j. refl))
mine_rectangular ls d rs m (Mapping n) e = rectangular_last d rs m (Mapping n) None false false true refl refl e
    (no_present (In d) (indices rs) (Mapping n) (λ j. refl))
mine_rectangular ls d rs m (In n i) e =
    rectangular_last d rs m (In n i) (present_if (has (indices rs) i)) false false false refl refl refl
    (within In d (indices rs) (In n i) i (λ j. second_tie (slice_cmp nat_cmp n d) (index_cmp i j) (tied n d e)))
mine_rectangular ls d rs m c e = rectangular_last d rs m c None false false false refl refl refl (no_present (In d) (indices rs) c (λ j. refl))

mine_sparse : (ls : List Line) (d parent : Name) (is : List Index) (c : Cell) → is_same_name (owner c) d ≡ true →
    last_of cell_cmp (sparse_cells d parent (rank_told (first_line_of parent ls)) is) c ≡ told_of ls (sparse d parent is) c
mine_sparse ls d parent is (Object n) e = sparse_last d parent (rank_told (first_line_of parent ls)) is (Object n) None true false e refl
    (no_present (Member d) is (Object n) (λ j. refl))
mine_sparse ls d parent is (Use f n) e =
    sparse_last d parent (rank_told (first_line_of parent ls)) is (Use f n) None false (is_same_name f parent) refl
    (first_tie (slice_cmp nat_cmp f parent) (slice_cmp nat_cmp n d) (tied n d e)) (no_present (Member d) is (Use f n) (λ j. refl))
    ∙ none_first (cond (is_same_name f parent) (Some (values.Bound bindings.Sparse)) None)
mine_sparse ls d parent is (Member n i) e =
    sparse_last d parent (rank_told (first_line_of parent ls)) is (Member n i) (present_if (has is i)) false false refl refl
    (within Member d is (Member n i) i (λ j. second_tie (slice_cmp nat_cmp n d) (index_cmp i j) (tied n d e)))
mine_sparse ls d parent is c e = sparse_last d parent (rank_told (first_line_of parent ls)) is c None false false refl refl
    (no_present (Member d) is c (λ j. refl))

mine_associative : (ls : List Line) (d : Name) (type : KeyType) (is : List Index) (c : Cell) → is_same_name (owner c) d ≡ true →
    last_of cell_cmp (associative_cells d type is) c ≡ told_of ls (associative d type is) c
mine_associative ls d type is (Object n) e = associative_last d type is (Object n) None true e (no_present (Member d) is (Object n) (λ j. refl))
mine_associative ls d type is (Member n i) e =
    associative_last d type is (Member n i) (present_if (has is i)) false refl
    (within Member d is (Member n i) i (λ j. second_tie (slice_cmp nat_cmp n d) (index_cmp i j) (tied n d e)))
mine_associative ls d type is c e = associative_last d type is c None false refl (no_present (Member d) is c (λ j. refl))

abbrev array_told : List Line → Name → Name → List ℤ → Option ℤ → List (Cell × Value)
array_told ls a d xs irv = line_array_cells a d (kind_told ls (first_line_of d ls)) (indices_told (first_line_of d ls)) xs irv

mine_array : (ls : List Line) (a d : Name) (xs : List ℤ) (irv : Option ℤ) (c : Cell) → is_same_name (owner c) a ≡ true →
    last_of cell_cmp (array_told ls a d xs irv) c ≡ told_of ls (array a d xs irv) c
mine_array ls a d xs irv (Object n) e =
    array_last a d (kind_told ls (first_line_of d ls)) (indices_told (first_line_of d ls)) xs irv (Object n) None true false false e refl refl
    (no_number a (zip (indices_told (first_line_of d ls)) xs) (Object n) (λ j. refl))
mine_array ls a d xs irv (Use f n) e =
    array_last a d (kind_told ls (first_line_of d ls)) (indices_told (first_line_of d ls)) xs irv (Use f n) None false (is_same_name f d) false refl
    (first_tie (slice_cmp nat_cmp f d) (slice_cmp nat_cmp n a) (tied n a e)) refl
    (no_number a (zip (indices_told (first_line_of d ls)) xs) (Use f n) (λ j. refl))
    ∙ none_first (cond (is_same_name f d) (Some (values.Bound bindings.Array)) None)
mine_array ls a d xs irv (Implicit n) e =
    array_last a d (kind_told ls (first_line_of d ls)) (indices_told (first_line_of d ls)) xs irv (Implicit n) None false false true refl refl e
    (no_number a (zip (indices_told (first_line_of d ls)) xs) (Implicit n) (λ j. refl))
mine_array ls a d xs irv (Element n i) e =
    array_last a d (kind_told ls (first_line_of d ls)) (indices_told (first_line_of d ls)) xs irv (Element n i)
    (option_map (λ z. values.Number z) (last_of index_cmp (zip (indices_told (first_line_of d ls)) xs) i)) false false false refl refl refl
    (by_index cell_cmp index_cmp (Element a) (λ z. values.Number z) (zip (indices_told (first_line_of d ls)) xs) (Element n i) i
    (λ j. second_tie (slice_cmp nat_cmp n a) (index_cmp i j) (tied n a e)))
mine_array ls a d xs irv c e = array_last a d (kind_told ls (first_line_of d ls)) (indices_told (first_line_of d ls)) xs irv c None false false false refl refl
    refl (no_number a (zip (indices_told (first_line_of d ls)) xs) c (λ j. refl))

pub mine : (ls : List Line) (l : Line) (c : Cell) → is_same_name (owner c) (name_of l) ≡ true → last_of cell_cmp (cells_of ls l) c ≡ told_of ls l c
mine ls (rectangular d rs m) c e = mine_rectangular ls d rs m c e
mine ls (sparse d parent is) c e = mine_sparse ls d parent is c e
mine ls (associative d type is) c e = mine_associative ls d type is c e
mine ls (array a d xs irv) c e = mine_array ls a d xs irv c e
