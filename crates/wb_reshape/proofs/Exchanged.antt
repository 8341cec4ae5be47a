-- What each cell holds after indices left a domain and others came to it.
use Rattle.std.proofs.Common.{◌≡◌, ◌⊎◌, inl, inr, ℤ, Bool, true, false, not, cond, ◌&&◌, ◌||◌, List, [], ◌∷◌, map, Option, Some, None, refl, sym, ap, subst}
use Rattle.std.proofs.Common.{◌∙◌, Ordering}
use Rattle.std.specs.Ordering.{eq_by_cmp, is_eq}
use Rattle.std.specs.Cmp.Lexicographic.{slice_cmp}
use Rattle.std.specs.Ordering.{nat_cmp}
use Rattle.std.specs.List.{Contains, list_any}
use Rattle.wb_sets.proofs.Members.{cons_contains, first_contains}
use Rattle.wb_cells.specs.declared.cells.cell.Cell.{Cell}
use Rattle.wb_cells.specs.declared.cells.cell.Cell.TheVariants.{In, Member, Element}
use Rattle.wb_cells.specs.declared.cells.kind.Kind.{Kind}
use Rattle.wb_cells.specs.declared.cells.kind.Kind.TheVariants.{Rectangular, Sparse, Associative}
use Rattle.wb_cells.specs.declared.cells.value.Value.{Value}
use Rattle.wb_cells.specs.declared.cells.value.Value.TheVariants.{Present, Number}
use Rattle.wb_cells.specs.declared.values.index.Index.{Index}
use Rattle.wb_cells.specs.Cells.{Name, Changes, cell_cmp, is_same_name}
use Rattle.wb_cells.specs.WellFormed.{has, index_cell}
use Rattle.wb_reshape.specs.Writes.{put_all, clear_all}
use Rattle.wb_reshape.specs.Resized.{exchanged, elements_exchanged, resized_cells}
use Rattle.wb_reshape.proofs.Gets.{after, after-append, after-each, each-beside}
use Rattle.wb_reshape.proofs.States.{same_name, in_column}

-- what the cell of an index holds, where it held o: the value if the index comes, nothing if it only leaves
abbrev pub exchanged_at : (leaving coming : List Index) → Value → Index → Option Value → Option Value
exchanged_at leaving coming v i o = cond (has coming i) (Some v) (cond (has leaving i) None o)

-- whether the domain says by the cells `In` which indices it has
abbrev pub has_ranges : Kind → Bool
has_ranges (Rectangular rank) = true
has_ranges (Sparse rank) = false
has_ranges (Associative type) = false

both_or_none : (b p q : Bool) (v o : Option Value) → cond (b && p) v (cond (b && q) None o) ≡ cond b (cond p v (cond q None o)) o
both_or_none true p q v o = refl
both_or_none false p q v o = refl

-- a number written twice is as one written once
twice : (p q : Bool) (v w o : Option Value) → cond p v (cond q None (cond p w (cond q None o))) ≡ cond p v (cond q None o)
twice true q v w o = refl
twice false true v w o = refl
twice false false v w o = refl

module _ (leaving coming : List Index) where
  -- cells of one name, at an index
  after-exchanged : (make : Index → Cell) (v : Value) (c : Cell) (o : Option Value) (tie : Ordering) (i : Index)
      → ((is : List Index) → list_any (λ j. eq_by_cmp cell_cmp c (make j)) is ≡ (is_eq tie && has is i))
      → after cell_cmp (exchanged make leaving coming v) c o ≡ cond (is_eq tie) (exchanged_at leaving coming v i o) o
  after-exchanged make v c o tie i at =
      after-append cell_cmp (clear_all (map make leaving)) (put_all (map make coming) v) c o
      ∙ after-each cell_cmp make coming (Some v) c (after cell_cmp (clear_all (map make leaving)) c o)
      ∙ ap (cond (list_any (λ j. eq_by_cmp cell_cmp c (make j)) coming) (Some v)) (after-each cell_cmp make leaving None c o)
      ∙ ap (λ b. cond b (Some v) (cond (list_any (λ j. eq_by_cmp cell_cmp c (make j)) leaving) None o)) (at coming)
      ∙ ap (λ b. cond (is_eq tie && has coming i) (Some v) (cond b None o)) (at leaving)
      ∙ both_or_none (is_eq tie) (has coming i) (has leaving i) (Some v) o

  -- a cell that is none of them
  exchanged-beside : (make : Index → Cell) (v : Value) (c : Cell) (o : Option Value) → ((i : Index) → eq_by_cmp cell_cmp c (make i) ≡ false) →
      after cell_cmp (exchanged make leaving coming v) c o ≡ o
  exchanged-beside make v c o beside =
      after-append cell_cmp (clear_all (map make leaving)) (put_all (map make coming) v) c o
      ∙ each-beside cell_cmp make coming (Some v) c (after cell_cmp (clear_all (map make leaving)) c o) beside
      ∙ each-beside cell_cmp make leaving None c o beside

  -- ---- the cells that say which indices are in the domain d

  pub after-inside : (kind : Kind) (d n : Name) (i : Index) (o : Option Value) →
      after cell_cmp (exchanged (index_cell kind d) leaving coming Present) (In n i) o ≡ cond (has_ranges kind && is_same_name n d)
      (exchanged_at leaving coming Present i o) o
  after-inside (Rectangular rank) d n i o = after-exchanged (In d) Present (In n i) o (slice_cmp nat_cmp n d) i (in_column (slice_cmp nat_cmp n d) i)
  after-inside (Sparse rank) d n i o = exchanged-beside (Member d) Present (In n i) o (λ j. refl)
  after-inside (Associative type) d n i o = exchanged-beside (Member d) Present (In n i) o (λ j. refl)

  pub after-member : (kind : Kind) (d n : Name) (i : Index) (o : Option Value) →
      after cell_cmp (exchanged (index_cell kind d) leaving coming Present) (Member n i) o ≡ cond (not (has_ranges kind) && is_same_name n d)
      (exchanged_at leaving coming Present i o) o
  after-member (Rectangular rank) d n i o = exchanged-beside (In d) Present (Member n i) o (λ j. refl)
  after-member (Sparse rank) d n i o = after-exchanged (Member d) Present (Member n i) o (slice_cmp nat_cmp n d) i (in_column (slice_cmp nat_cmp n d) i)
  after-member (Associative type) d n i o = after-exchanged (Member d) Present (Member n i) o (slice_cmp nat_cmp n d) i (in_column (slice_cmp nat_cmp n d) i)

  -- other cells are none of them
  indices-beside : (kind : Kind) (d : Name) (c : Cell) (o : Option Value) → ((i : Index) → eq_by_cmp cell_cmp c (In d i) ≡ false) →
      ((i : Index) → eq_by_cmp cell_cmp c (Member d i) ≡ false)
      → after cell_cmp (exchanged (index_cell kind d) leaving coming Present) c o ≡ o
  indices-beside (Rectangular rank) d c o no_in no_member = exchanged-beside (In d) Present c o no_in
  indices-beside (Sparse rank) d c o no_in no_member = exchanged-beside (Member d) Present c o no_member
  indices-beside (Associative type) d c o no_in no_member = exchanged-beside (Member d) Present c o no_member

  -- ---- the elements of the arrays over it

  elements-beside : (fills : List (Name × ℤ)) (c : Cell) (o : Option Value) → ((a : Name) (i : Index) → eq_by_cmp cell_cmp c (Element a i) ≡ false) →
      after cell_cmp (elements_exchanged fills leaving coming) c o ≡ o
  elements-beside [] c o beside = refl
  elements-beside (f ∷ fills) c o beside =
      after-append cell_cmp (exchanged (Element f.0) leaving coming (Number f.1)) (elements_exchanged fills leaving coming) c o
      ∙ elements-beside fills c (after cell_cmp (exchanged (Element f.0) leaving coming (Number f.1)) c o) beside
      ∙ exchanged-beside (Element f.0) (Number f.1) c o (beside f.0)

  -- ---- both

  after-both : (kind : Kind) (d : Name) (fills : List (Name × ℤ)) (c : Cell) (o : Option Value)
      → after cell_cmp (resized_cells kind d fills leaving coming) c o ≡ after cell_cmp (elements_exchanged fills leaving coming) c
      (after cell_cmp (exchanged (index_cell kind d) leaving coming Present) c o)
  after-both kind d fills = after-append cell_cmp (exchanged (index_cell kind d) leaving coming Present) (elements_exchanged fills leaving coming)

  -- a cell that is no element
  pub no_element-resized : (kind : Kind) (d : Name) (fills : List (Name × ℤ)) (c : Cell) (o : Option Value) →
      ((a : Name) (i : Index) → eq_by_cmp cell_cmp c (Element a i) ≡ false)
      → after cell_cmp (resized_cells kind d fills leaving coming) c o ≡ after cell_cmp (exchanged (index_cell kind d) leaving coming Present) c o
  no_element-resized kind d fills c o beside = after-both kind d fills c o ∙
      elements-beside fills c (after cell_cmp (exchanged (index_cell kind d) leaving coming Present) c o) beside

  -- a cell that says of no index whether it is in a domain
  pub no_index-resized : (kind : Kind) (d : Name) (fills : List (Name × ℤ)) (c : Cell) (o : Option Value) →
      ((i : Index) → eq_by_cmp cell_cmp c (In d i) ≡ false) → ((i : Index) → eq_by_cmp cell_cmp c (Member d i) ≡ false)
      → after cell_cmp (resized_cells kind d fills leaving coming) c o ≡ after cell_cmp (elements_exchanged fills leaving coming) c o
  no_index-resized kind d fills c o no_in no_member = after-both kind d fills c o ∙
      ap (after cell_cmp (elements_exchanged fills leaving coming) c) (indices-beside kind d c o no_in no_member)

  -- a cell that is neither
  pub neither-resized : (kind : Kind) (d : Name) (fills : List (Name × ℤ)) (c : Cell) (o : Option Value)
      → ((a : Name) (i : Index) → eq_by_cmp cell_cmp c (Element a i) ≡ false) → ((i : Index) → eq_by_cmp cell_cmp c (In d i) ≡ false) →
      ((i : Index) → eq_by_cmp cell_cmp c (Member d i) ≡ false)
      → after cell_cmp (resized_cells kind d fills leaving coming) c o ≡ o
  neither-resized kind d fills c o no_element no_in no_member = no_element-resized kind d fills c o no_element ∙ indices-beside kind d c o no_in no_member

  -- ---- an element

  -- the cell of an element held o and holds r: none of the arrays is a, and they are the same; or a gets the number v
  abbrev pub IsFilled : (fills : List (Name × ℤ)) (a : Name) (i : Index) (o r : Option Value) → Type 0
  IsFilled fills a i o r = ((list_any (λ f. is_same_name a f.0) fills ≡ false) × (r ≡ o)) ⊎
      ((v : ℤ) × Contains fills (a, v) × (r ≡ exchanged_at leaving coming (Number v) i o))

  filled_more : (same : Bool) (b : Name) (w : ℤ) (fills : List (Name × ℤ)) (a : Name) (i : Index) (o p r : Option Value)
      → is_same_name a b ≡ same → p ≡ cond same (exchanged_at leaving coming (Number w) i o) o → IsFilled fills a i p r → IsFilled ((b, w) ∷ fills) a i o r
  filled_more true b w fills a i o p r same step (inl none) = inr
      (w, first_contains (b, w) fills (a, w) (ap (λ (n : Name). (n, w)) (same_name a b same)), none.1 ∙ step)
  filled_more true b w fills a i o p r same step (inr some) = inr (
    some.0,
    cons_contains (b, w) fills (a, some.0) some.1,
    some.2 ∙ ap (exchanged_at leaving coming (Number some.0) i) step ∙
        twice (has coming i) (has leaving i) (Some (Number some.0)) (Some (Number w)) o,
  )
  filled_more false b w fills a i o p r same step (inl none) = inl (ap (λ t. t || list_any (λ f. is_same_name a f.0) fills) same ∙ none.0, none.1 ∙ step)
  filled_more false b w fills a i o p r same step (inr some) =
      inr (some.0, cons_contains (b, w) fills (a, some.0) some.1, some.2 ∙ ap (exchanged_at leaving coming (Number some.0) i) step)

  pub filled : (fills : List (Name × ℤ)) (a : Name) (i : Index) (o : Option Value) →
      IsFilled fills a i o (after cell_cmp (elements_exchanged fills leaving coming) (Element a i) o)
  filled [] a i o = inl (refl, refl)
  filled ((b, w) ∷ fills) a i o =
      let first : Changes = exchanged (Element b) leaving coming (Number w) in
      let p : Option Value = after cell_cmp first (Element a i) o in
      subst (IsFilled ((b, w) ∷ fills) a i o) (sym (after-append cell_cmp first (elements_exchanged fills leaving coming) (Element a i) o)) (
      filled_more (is_same_name a b) b w fills a i o p _ refl (after-exchanged (Element b) (Number w) (Element a i) o (slice_cmp nat_cmp a b) i
      (in_column (slice_cmp nat_cmp a b) i)) (filled fills a i p))
