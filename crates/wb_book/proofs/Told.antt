-- What the cells of a run were.
use Rattle.std.proofs.Common.{◌≡◌, ◌≤◌, ℤ, pos, Bool, true, false, cond, ◌||◌, List, [], ◌∷◌, length, map, Result, Ok, Err, Option, Some, None}
use Rattle.std.proofs.Common.{is_some, refl, sym, ap, ◌∙◌, arith}
use Rattle.std.specs.List.{zip}
use Rattle.std.specs.List.Sorted.{IsStrictlySortedBy}
use Rattle.std.specs.Map.{keys_of}
use Rattle.std.proofs.lemmas.List.{length-map}
use Rattle.std.specs.Cmp.{tied_itself}
use Rattle.std.specs.Ordering.{is_eq}
use Rattle.std.specs.Prelude.{IfOk, IfSome}
use Rattle.std.specs.Option.{option_map}
use Rattle.selective_undo.specs.declared.Change.{Change}
use Rattle.wb_cells.specs.contracts.values.index.IndexOrd.TheImpl.Laws as index_laws
use Rattle.wb_cells.specs.declared.cells.cell.Cell.{Cell}
use Rattle.wb_cells.specs.declared.cells.cell.Cell.TheVariants.{Element, Shape}
use Rattle.wb_cells.specs.declared.cells.value.Value.{Value}
use Rattle.wb_cells.specs.declared.cells.value.Value.TheVariants.{Number}
use Rattle.wb_cells.specs.declared.changes.row.IndexedRow.TheVariants.{Inside, Elements}
use Rattle.wb_cells.specs.declared.changes.row.IndexedRow.{IndexedRow}
use Rattle.wb_cells.specs.declared.changes.run.RunForm.{RunForm}
use Rattle.wb_cells.specs.declared.values.index.Index.{Index}
use Rattle.wb_cells.specs.declared.values.index.Index.TheVariants.{Point}
use Rattle.wb_cells.specs.Cells.{Name, Changes, index_cmp, is_same_index}
use Rattle.wb_rect.specs.Product.{product}
use Rattle.wb_cells.specs.Runs.{cell_of, value_of, changes_in, packed_changes, rectangle_entries, numbered_entries}
use Rattle.wb_cells.specs.Shapes.{indices}
use Rattle.wb_cells.specs.WellFormed.{has, present_if, inside_of, ranges_in}
use Rattle.wb_elements.specs.Entries.{row_changes, read_at, element_at}
use Rattle.wb_book.specs.Joined.{answer, with_answer}
use Rattle.wb_elements.proofs.Blocks.{itself}
use Rattle.wb_elements.proofs.Piecewise.Changed.{one_index, none_above}

-- elements that were read tell it
pub row_told : {I : Type 0} (f : I → Index) (stored : Cell → Option Value) (element : Name → Index → Option ℤ) (a : Name) (xs : List (I × Option ℤ)) →
    row_changes f (Elements a) (read_at f (element a) xs) ≡ map (with_answer (answer stored element)) (row_changes f (Elements a) xs)
row_told f stored element a [] = refl
row_told f stored element a (x ∷ xs) =
    let first : Change Cell Value = record { cell = Element a (f x.0); value = option_map (λ (z : ℤ). Number z) (element a (f x.0)) } in
    ap (λ (ys : Changes). first ∷ ys) (row_told f stored element a xs)

first_there : (i : Index) (is : List Index) → has (i ∷ is) i ≡ true
first_there i is = ap (λ (b : Bool). b || has is i) (ap is_eq (tied_itself index_laws.total-law i))

more_there : (b c : Bool) → c ≡ true → b || c ≡ true
more_there true c e = refl
more_there false c e = e

abbrev told_at : IndexedRow → List ℤ → Option Value → Change Cell Value
told_at row p v = record { cell = cell_of row (Point p); value = v }

-- the same stands in all cells
all_told : (answers : Cell → Option Value) (row : IndexedRow) (n m : Option ℤ) (ps : List (List ℤ)) →
    ((p : List ℤ) → has (map Point ps) (Point p) ≡ true → answers (cell_of row (Point p)) ≡ option_map (value_of row) m) →
    map (with_answer answers) (packed_changes row (map (λ p. (p, n)) ps)) ≡ packed_changes row (map (λ p. (p, m)) ps)
all_told answers row n m [] all = refl
all_told answers row n m (p ∷ ps) all =
    ap (λ (v : Option Value). told_at row p v ∷ map (with_answer answers) (packed_changes row (map (λ q. (q, n)) ps)))
    (all p (first_there (Point p) (map Point ps)))
    ∙ ap (λ (ys : Changes). told_at row p (option_map (value_of row) m) ∷ ys)
    (all_told answers row n m ps (λ q h. all q (more_there (is_same_index (Point q) (Point p)) (has (map Point ps) (Point q)) h)))

module _ (stored : Cell → Option Value) (element : Name → Index → Option ℤ) (rs : List (List ℤ)) (n : Option ℤ) where
  -- none of the indices is in a domain that has no ranges
  pub outside_told : (d : Name) → ranges_in (stored (Shape d)) ≡ None →
      packed_changes (Inside d) (rectangle_entries rs None) ≡ map (with_answer (answer stored element)) (packed_changes (Inside d) (rectangle_entries rs n))
  outside_told d none = sym (all_told (answer stored element) (Inside d) n None (product rs) (λ p h. ap (λ o. inside_of o (Point p)) none))

  -- all are in a domain that has these ranges
  pub inside_told : (d : Name) → ranges_in (stored (Shape d)) ≡ Some rs →
      packed_changes (Inside d) (rectangle_entries rs (Some (pos 0))) ≡
      map (with_answer (answer stored element)) (packed_changes (Inside d) (rectangle_entries rs n))
  inside_told d there = sym (all_told (answer stored element) (Inside d) n (Some (pos 0)) (product rs)
      (λ p h. ap (λ o. inside_of o (Point p)) there ∙ ap present_if h))

  -- there are no elements where there is no array
  pub absent_told : (a : Name) → ((i : Index) → element a i ≡ None) →
      packed_changes (Elements a) (rectangle_entries rs None) ≡ map (with_answer (answer stored element)) (packed_changes (Elements a) (rectangle_entries rs n))
  absent_told a none = sym (all_told (answer stored element) (Elements a) n None (product rs)
      (λ p h. ap (option_map (λ (z : ℤ). Number z)) (none (Point p))))

either_there : (t : Bool) (v : ℤ) (o : Option ℤ) → (t ≡ true → o ≡ None) → is_some o ≡ true → cond t (Some v) o ≡ o
either_there false v o none some = refl
either_there true v o none some = let gone : o ≡ None = none refl in cc

numbers_go : (stored : Cell → Option Value) (element : Name → Index → Option ℤ) (a : Name) (n : Option ℤ) (es : List (Index × ℤ)) (ps : List (List ℤ)) →
    IsStrictlySortedBy index_cmp (keys_of es) → keys_of es ≡ map Point ps → ((i : Index) → is_some (element_at es i) ≡ true → element a i ≡ element_at es i) →
    packed_changes (Elements a) (zip ps (map (λ m. Some m) (map (λ e. e.1) es))) ≡
    map (with_answer (answer stored element)) (packed_changes (Elements a) (map (λ p. (p, n)) ps))
unfolding IsStrictlySortedBy
numbers_go stored element a n es [] sorted same all = refl
numbers_go stored element a n [] (p ∷ ps) sorted same all = cc
numbers_go stored element a n (e ∷ es) (p ∷ ps) sorted same all =
    let here : Point p ≡ e.0 = cc in
    let rest : keys_of es ≡ map Point ps = cc in
    let at : element_at (e ∷ es) (Point p) ≡ Some e.1 = ap (λ (t : Bool). cond t (Some e.1) (element_at es (Point p))) (itself (Point p) e.0 here) in
    let first : element a (Point p) ≡ Some e.1 = all (Point p) (ap is_some at) ∙ at in
    let shown = λ (v : Option Value). told_at (Elements a) p v in
    let last = numbers_go stored element a n es ps sorted.1 rest (λ i some.
    let gone : is_same_index i e.0 ≡ true → element_at es i ≡ None = λ t. ap (element_at es) (one_index i e.0 t) ∙ none_above e.0 es sorted.0 in
    let kept : element_at (e ∷ es) i ≡ element_at es i = either_there (is_same_index i e.0) e.1 (element_at es i) gone some in
    all i (ap is_some kept ∙ some) ∙ kept) in
    ap (λ (ys : Changes). shown (Some (Number e.1)) ∷ ys) last
    ∙ ap (λ (o : Option ℤ). shown (option_map (λ (z : ℤ). Number z) o) ∷ map (with_answer (answer stored element))
    (packed_changes (Elements a) (map (λ q. (q, n)) ps))) (sym first)

-- the numbers of an array tell its elements
pub numbers_told : (stored : Cell → Option Value) (element : Name → Index → Option ℤ) (a : Name) (n : Option ℤ) (es : List (Index × ℤ)) (rs : List (List ℤ)) →
    IsStrictlySortedBy index_cmp (keys_of es) → keys_of es ≡ indices rs → ((i : Index) → element a i ≡ element_at es i) →
    packed_changes (Elements a) (numbered_entries rs (map (λ e. e.1) es)) ≡
    map (with_answer (answer stored element)) (packed_changes (Elements a) (rectangle_entries rs n))
numbers_told stored element a n es rs sorted same all = numbers_go stored element a n es (product rs) sorted same (λ i some. all i)

keys_go : (answers : Cell → Option Value) (row : IndexedRow) (n : Option ℤ) (ps : List (List ℤ)) (ns : List ℤ) → length ps ≤ length ns →
    map (with_answer answers) (packed_changes row (map (λ p. (p, n)) ps)) ≡
    map (with_answer answers) (packed_changes row (zip ps (map (λ m. Some m) ns)))
keys_go answers row n [] ns many = refl
keys_go answers row n (p ∷ ps) [] many = absurd (omega (arith, many))
keys_go answers row n (p ∷ ps) (m ∷ ns) many =
    ap (λ (ys : Changes). told_at row p (answers (cell_of row (Point p))) ∷ ys) (keys_go answers row n ps ns (omega (arith, many)))

-- what the cells are goes by their indices alone
pub keys_told : (answers : Cell → Option Value) (row : IndexedRow) (n : Option ℤ) (rs : List (List ℤ)) (ns : List ℤ) → length (indices rs) ≤ length ns →
    map (with_answer answers) (packed_changes row (rectangle_entries rs n)) ≡ map (with_answer answers) (packed_changes row (numbered_entries rs ns))
keys_told answers row n rs ns many = keys_go answers row n (product rs) ns (omega (arith, many, length-map (product rs) Point))

-- elements at points that were read tell what the run of them was
pub packed_told : (stored : Cell → Option Value) (element : Name → Index → Option ℤ) (a : Name) (row told : IndexedRow) (es read_by found : List (List ℤ × Option ℤ)) →
    row ≡ Elements a → told ≡ Elements a → found ≡ read_at Point (element a) read_by → read_by ≡ es →
    packed_changes told found ≡ map (with_answer (answer stored element)) (packed_changes row es)
packed_told stored element a row told es read_by found is told_is read same =
    ap (λ (r : IndexedRow). packed_changes r found) told_is
    ∙ ap (packed_changes (Elements a)) (read ∙ ap (read_at Point (element a)) same)
    ∙ row_told Point stored element a es
    ∙ ap (λ (r : IndexedRow). map (with_answer (answer stored element)) (packed_changes r es)) (sym is)

-- a run that tells what a run of these changes was tells what a run in the same form was
pub form_told : {E : Type 0} (r : Result (Option RunForm) E) (form : RunForm) (ys : Changes) (element : Name → Index → Option ℤ) → changes_in form ≡ ys →
    IfOk r (λ o. IfSome o (λ f. (stored : Cell → Option Value) → changes_in f ≡ map (with_answer (answer stored element)) ys)) →
    (stored : Cell → Option Value) → IfOk r (λ o. IfSome o (λ f. changes_in f ≡ map (with_answer (answer stored element)) (changes_in form)))
form_told (Ok (Some f)) form ys element is told stored = told stored ∙ ap (map (with_answer (answer stored element))) (sym is)
form_told (Ok None) form ys element is told stored = tt
form_told (Err e) form ys element is told stored = tt

-- a run that tells what the cells at the indices of a rectangle were tells what changes at these were
pub rectangle_told : {E : Type 0} (r : Result (Option RunForm) E) (answers : Cell → Option Value) (n : Option ℤ) (row told : IndexedRow) (rs over : List (List ℤ))
    (ys : Changes) → told ≡ row → over ≡ rs → map (with_answer answers) (packed_changes row (rectangle_entries rs n)) ≡ map (with_answer answers) ys →
    IfOk r (λ o. IfSome o (λ f. (m : Option ℤ) → changes_in f ≡ map (with_answer answers) (packed_changes told (rectangle_entries over m)))) →
    IfOk r (λ o. IfSome o (λ f. changes_in f ≡ map (with_answer answers) ys))
rectangle_told (Ok (Some f)) answers n row told rs over ys same_row same_ranges is told_by =
    told_by n ∙ ap (λ (r : IndexedRow). map (with_answer answers) (packed_changes r (rectangle_entries over n))) same_row
    ∙ ap (λ (qs : List (List ℤ)). map (with_answer answers) (packed_changes row (rectangle_entries qs n))) same_ranges ∙ is
rectangle_told (Ok None) answers n row told rs over ys same_row same_ranges is told_by = tt
rectangle_told (Err e) answers n row told rs over ys same_row same_ranges is told_by = tt

-- what a run of the same changes was
pub block_told : {E : Type 0} (r : Result (Option RunForm) E) (form : RunForm) (answers : Cell → Option Value) (ys : Changes) → changes_in form ≡ ys →
    IfOk r (λ o. IfSome o (λ f. changes_in f ≡ map (with_answer answers) ys)) →
    IfOk r (λ o. IfSome o (λ f. changes_in f ≡ map (with_answer answers) (changes_in form)))
block_told (Ok (Some f)) form answers ys is told = told ∙ ap (map (with_answer answers)) (sym is)
block_told (Ok None) form answers ys is told = tt
block_told (Err e) form answers ys is told = tt

-- the same where the row is known by its form
pub inside_row_told : (o : Option RunForm) (stored : Cell → Option Value) (element : Name → Index → Option ℤ) (row : IndexedRow) (d : Name) (rs : List (List ℤ)) →
    row ≡ Inside d → IfSome o (λ f. (element : Name → Index → Option ℤ) (n : Option ℤ) →
    changes_in f ≡ map (with_answer (answer stored element)) (packed_changes (Inside d) (rectangle_entries rs n))) →
    IfSome o (λ f. (n : Option ℤ) → changes_in f ≡ map (with_answer (answer stored element)) (packed_changes row (rectangle_entries rs n)))
inside_row_told (Some f) stored element row d rs is told = λ n.
    told element n ∙ ap (λ (r : IndexedRow). map (with_answer (answer stored element)) (packed_changes r (rectangle_entries rs n))) (sym is)
inside_row_told None stored element row d rs is told = tt

pub elements_row_told : {E : Type 0} (r : Result (Option RunForm) E) (stored : Cell → Option Value) (element : Name → Index → Option ℤ) (row : IndexedRow) (a : Name)
    (rs : List (List ℤ)) → row ≡ Elements a → IfOk r (λ o. IfSome o (λ f. (stored : Cell → Option Value) (n : Option ℤ) →
    changes_in f ≡ map (with_answer (answer stored element)) (packed_changes (Elements a) (rectangle_entries rs n)))) →
    IfOk r (λ o. IfSome o (λ f. (n : Option ℤ) → changes_in f ≡ map (with_answer (answer stored element)) (packed_changes row (rectangle_entries rs n))))
elements_row_told (Ok (Some f)) stored element row a rs is told = λ n.
    told stored n ∙ ap (λ (q : IndexedRow). map (with_answer (answer stored element)) (packed_changes q (rectangle_entries rs n))) (sym is)
elements_row_told (Ok None) stored element row a rs is told = tt
elements_row_told (Err e) stored element row a rs is told = tt

pub known_told : {E : Type 0} (r : Result (Option RunForm) E) (element : Name → Index → Option ℤ) (a : Name) (rs : List (List ℤ)) (es : List (Index × ℤ)) →
    ((i : Index) → element a i ≡ element_at es i) →
    IfOk r (λ o. IfSome o (λ f. (stored : Cell → Option Value) (element : Name → Index → Option ℤ) (n : Option ℤ) →
    ((i : Index) → element a i ≡ element_at es i) →
    changes_in f ≡ map (with_answer (answer stored element)) (packed_changes (Elements a) (rectangle_entries rs n)))) →
    IfOk r (λ o. IfSome o (λ f. (stored : Cell → Option Value) (n : Option ℤ) →
    changes_in f ≡ map (with_answer (answer stored element)) (packed_changes (Elements a) (rectangle_entries rs n))))
known_told (Ok (Some f)) element a rs es same told = λ stored n. told stored element n same
known_told (Ok None) element a rs es same told = tt
known_told (Err e) element a rs es same told = tt
