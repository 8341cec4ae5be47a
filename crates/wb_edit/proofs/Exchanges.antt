-- Cells of indices that leave and of indices that come: each cell once.
use Rattle.std.proofs.Common.{◌≡◌, ℕ, zero, suc, ◌+◌, ◌<◌, Bool, true, false, ◌||◌, ℤ, List, [], ◌∷◌, ◌++◌, map, take, length, Some, None, slice_get, get_or}
use Rattle.std.proofs.Common.{refl, sym, ap, subst, ◌∙◌, append-nil, add-one, arith}
use Rattle.std.proofs.Math.Seq.{take-suc}
use Rattle.std.proofs.lemmas.Grind.{flat_map-append}
use Rattle.std.specs.Map.{keys_of}
use Rattle.std.specs.Ordering.{eq_by_cmp}
use Rattle.selective_undo.specs.Changes.{changes}
use Rattle.selective_undo.proofs.Changes.{not_true, is_itself}
use Rattle.wb_range.specs.Domain.{IsListedOnce}
use Rattle.wb_cells.specs.declared.cells.cell.Cell.{Cell}
use Rattle.wb_cells.specs.declared.cells.cell.Cell.TheVariants.{Element}
use Rattle.wb_cells.specs.declared.cells.kind.DomainKind.{DomainKind}
use Rattle.wb_cells.specs.declared.cells.kind.DomainKind.TheVariants.{Rectangular, Sparse, Associative}
use Rattle.wb_cells.specs.declared.cells.kind.Kind.{Kind}
use Rattle.wb_cells.specs.declared.cells.kind.Kind.TheVariants.{Rectangular as over_rectangular, Sparse as over_sparse, Associative as over_associative}
use Rattle.wb_cells.specs.declared.cells.value.Value.{Value}
use Rattle.wb_cells.specs.declared.cells.value.Value.TheVariants.{Number, Present}
use Rattle.wb_cells.specs.declared.values.index.Index.{Index}
use Rattle.wb_cells.specs.Cells.{Name, Changes, cell_cmp, cell_order, is_same_index}
use Rattle.wb_cells.specs.Kinds.{kind_of}
use Rattle.wb_cells.specs.WellFormed.{has, index_cell}
use Rattle.wb_reshape.specs.Resized.{without, exchanged, elements_exchanged}
use Rattle.wb_reshape.specs.Writes.{put_all, clear_all}
use Rattle.wb_reshape.proofs.Gets.{same_key}
use Rattle.wb_reshape.proofs.Without.{without-apart}
use Rattle.wb_cells.specs.declared.changes.row.IndexedRow.{IndexedRow}
use Rattle.wb_edit.specs.Changed.{set_all, AreApart}
use Rattle.wb_edit.specs.Commands.{cells_beside_indices}
use Rattle.wb_cells.specs.Runs.{cell_of}
use Rattle.wb_edit.proofs.IndexedRows.{changes-append, other_cells, elsewhere, get-take}
use Rattle.wb_edit.proofs.Elements.{index_order}

-- cells that are the same at each index
pub same_cells : (f g : Index → Cell) → ((i : Index) → f i ≡ g i) → (is : List Index) → map f is ≡ map g is
same_cells f g h [] = refl
same_cells f g h (i ∷ is) = ap (λ c. c ∷ map f is) (h i) ∙ ap (λ cs. g i ∷ cs) (same_cells f g h is)

pub same_exchanged : (f g : Index → Cell) → ((i : Index) → f i ≡ g i) → (leaving coming : List Index) (v : Value) →
    exchanged f leaving coming v ≡ exchanged g leaving coming v
same_exchanged f g h leaving coming v =
    ap (λ cs. clear_all cs ++ put_all (map f coming) v) (same_cells f g h leaving)
    ∙ ap (λ cs. clear_all (map g leaving) ++ put_all cs v) (same_cells f g h coming)

pub neither : (a b : Bool) → a ≡ false → b ≡ false → (a || b) ≡ false
neither true b e f = cc
neither false b e f = f

-- the cell of an index that comes is none of those of the indices that leave
pub coming_is_new : (row : IndexedRow) (old : Changes) (leaving coming : List Index) → ((i : Index) → changes cell_cmp old (cell_of row i) ≡ false) →
    AreApart leaving coming → (p : ℕ) (i : Index) → slice_get coming p ≡ Some i
    → changes cell_cmp (old ++ set_all (map (cell_of row) leaving) None) (cell_of row i) ≡ false
coming_is_new row old leaving coming fresh apart p i here =
    changes-append old (set_all (map (cell_of row) leaving) None) (cell_of row i) ∙
    neither _ _ (fresh i) (other_cells row None i leaving (λ q e. apart q p i e here))

keys-take : (fs : List (Name × ℤ)) (k : ℕ) → keys_of (take k fs) ≡ take k (keys_of fs)
keys-take [] zero = refl
keys-take [] (suc k) = refl
keys-take (f ∷ fs) zero = refl
keys-take (f ∷ fs) (suc k) = ap (λ ns. f.0 ∷ ns) (keys-take fs k)

key_at : (fs : List (Name × ℤ)) (k : ℕ) (d : Name × ℤ) → k < length fs → slice_get (keys_of fs) k ≡ Some (get_or fs k d).0
key_at [] k d low = absurd (omega (arith, low))
key_at (f ∷ fs) zero d low = refl
key_at (f ∷ fs) (suc k) d low = key_at fs k d (omega (arith, low))

module _ (leaving coming : List Index) where
  -- a cell that is none of a column's
  pub none_exchanged : (f : Index → Cell) (v : Value) (c : Cell) → ((i : Index) → eq_by_cmp cell_cmp c (f i) ≡ false) →
      changes cell_cmp (exchanged f leaving coming v) c ≡ false
  none_exchanged f v c other =
      changes-append (clear_all (map f leaving)) (put_all (map f coming) v) c ∙
      neither _ _ (elsewhere f None c leaving other) (elsewhere f (Some v) c coming other)

  other_array : (a b : Name) (i j : Index) → (a ≡ b → ⊥) → eq_by_cmp cell_cmp (Element a i) (Element b j) ≡ false
  other_array a b i j other = not_true _ λ e.
      let same : Element a i ≡ Element b j = same_key cell_order (Element a i) (Element b j) e in
      let name : a ≡ b = cc in
      other name

  pub none_of : (fs : List (Name × ℤ)) (a : Name) (i : Index) → ((q : ℕ) → slice_get (keys_of fs) q ≡ Some a → ⊥) →
      changes cell_cmp (elements_exchanged fs leaving coming) (Element a i) ≡ false
  none_of [] a i other = refl
  none_of (f ∷ fs) a i other =
      changes-append (exchanged (Element f.0) leaving coming (Number f.1)) (elements_exchanged fs leaving coming) (Element a i)
      ∙ neither _ _ (none_exchanged (Element f.0) (Number f.1) (Element a i) (λ j. other_array a f.0 i j (λ same. other zero (ap Some (sym same)))))
      (none_of fs a i (λ q e. other (suc q) e))

  -- the next array has none of the cells so far
  pub next_array : (old : Changes) (fs : List (Name × ℤ)) (k : ℕ) (d : Name × ℤ) → ((a : Name) (i : Index) → changes cell_cmp old (Element a i) ≡ false) →
      IsListedOnce (keys_of fs) → k < length fs → (i : Index)
      → changes cell_cmp (old ++ elements_exchanged (take k fs) leaving coming) (Element (get_or fs k d).0 i) ≡ false
  next_array old fs k d fresh once low i =
      let a : Name = (get_or fs k d).0 in
      let other : (q : ℕ) → slice_get (keys_of (take k fs)) q ≡ Some a → ⊥ = λ q e.
      let h = get-take (keys_of fs) k q a (subst (λ ns. slice_get ns q ≡ Some a) (keys-take fs k) e) in
      let same : q ≡ k = once q k a h.1 (key_at fs k d low) in
      absurd (omega (arith, h.0, same)) in
      changes-append old (elements_exchanged (take k fs) leaving coming) (Element a i) ∙ neither _ _ (fresh a i) (none_of (take k fs) a i other)

  -- one more array
  pub elements_more : (fs : List (Name × ℤ)) (k : ℕ) (d : Name × ℤ) → k < length fs
      → elements_exchanged (take (k + 1) fs) leaving coming ≡ elements_exchanged (take k fs) leaving coming ++ exchanged (Element (get_or fs k d).0) leaving
      coming (Number (get_or fs k d).1)
  elements_more fs k d low =
      let f : Name × ℤ → Changes = λ x. exchanged (Element x.0) leaving coming (Number x.1) in
      ap (λ n. elements_exchanged (take n fs) leaving coming) (add-one k)
      ∙ ap (λ xs. elements_exchanged xs leaving coming) (take-suc fs k d low)
      ∙ flat_map-append f (take k fs) (get_or fs k d ∷ [])
      ∙ ap (λ xs. elements_exchanged (take k fs) leaving coming ++ xs) (append-nil (f (get_or fs k d)))

  membership_apart : (kind : Kind) (d a : Name) (i j : Index) → eq_by_cmp cell_cmp (Element a i) (index_cell kind d j) ≡ false
  membership_apart (over_rectangular rank) d a i j = refl
  membership_apart (over_sparse rank) d a i j = refl
  membership_apart (over_associative type) d a i j = refl

  -- no element is among the cells that say which indices are there
  pub elements_are_new : (kind : Kind) (d : Name) (old : Changes) → ((a : Name) (i : Index) → changes cell_cmp old (Element a i) ≡ false) →
      (a : Name) (i : Index)
      → changes cell_cmp (old ++ exchanged (index_cell kind d) leaving coming Present) (Element a i) ≡ false
  elements_are_new kind d old fresh a i =
      changes-append old (exchanged (index_cell kind d) leaving coming Present) (Element a i)
      ∙ neither _ _ (fresh a i) (none_exchanged (index_cell kind d) Present (Element a i) (λ j. membership_apart kind d a i j))

-- the cells that say which indices a domain has are no others of it
pub own_apart : (kind : DomainKind) (d : Name) (i : Index) →
    changes cell_cmp (clear_all (cells_beside_indices d kind)) (index_cell (kind_of kind) d i) ≡ false
own_apart (Rectangular rank) d i = refl
own_apart (Sparse parent rank) d i = refl
own_apart (Associative type) d i = refl

-- ---- the indices that leave and those that come, by two lists of indices

has_at : (xs : List Index) (p : ℕ) (i : Index) → slice_get xs p ≡ Some i → has xs i ≡ true
has_at [] p i e = cc
has_at (x ∷ xs) zero i e =
    let same : i ≡ x = cc in
    ap (λ b. b || has xs i) (ap (λ j. is_same_index i j) (sym same) ∙ is_itself index_order i)
has_at (x ∷ xs) (suc p) i e = ap (λ b. is_same_index i x || b) (has_at xs p i e) ∙ or_true (is_same_index i x)
  where
    or_true : (b : Bool) → (b || true) ≡ true
    or_true true = refl
    or_true false = refl

-- none is among both
pub apart_without : (xs ys : List Index) → AreApart (without ys xs) (without xs ys)
apart_without xs ys p q i leaves comes =
    let no : true ≡ false = sym (has_at (without xs ys) q i comes) ∙ without-apart xs ys i (has_at (without ys xs) p i leaves) in
    cc
