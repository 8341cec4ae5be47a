-- What a command writes names each cell once.
pub mod IndexedRows
pub mod Looks
pub mod Sources
use Rattle.std.proofs.Common.{◌≡◌, ℕ, zero, suc, false, ℤ, pos, ◌+ℤ◌, List, [], ◌∷◌, map, length, Option, Some, None, refl}
use Rattle.std.specs.FinMap.{get, entries, entries_sorted}
use Rattle.std.specs.List.{zip}
use Rattle.std.specs.Map.{keys_of}
use Rattle.std.specs.Ordering.{eq_by_cmp}
use Rattle.selective_undo.specs.Changes.{changes, AllOnce}
use Rattle.selective_undo.specs.Edit.{seen, refuse, write}
use Rattle.wb_range.specs.Domain.{IsListedOnce}
use Rattle.wb_dist.specs.Maps.{LayoutMap}
use Rattle.wb_cells.specs.declared.cells.cell.Cell.{Cell}
use Rattle.wb_cells.specs.declared.cells.cell.Cell.TheVariants.{Object, Shape, In, Member, Mapping, Use, Implicit, Element}
use Rattle.wb_cells.specs.declared.cells.kind.DomainKind.{DomainKind}
use Rattle.wb_cells.specs.declared.cells.kind.DomainKind.TheVariants.{Sparse, Associative}
use Rattle.wb_cells.specs.declared.cells.kind.KeyType.{KeyType}
use Rattle.wb_cells.specs.declared.cells.kind.Kind.{Kind}
use Rattle.wb_cells.specs.declared.cells.value.Binding.TheVariants.{Sparse}
use Rattle.wb_cells.specs.declared.cells.pattern.Pattern.TheVariants.{Objects}
use Rattle.wb_cells.specs.declared.cells.value.Value.{Value}
use Rattle.wb_cells.specs.declared.cells.value.Value.TheVariants.{Domain, Mapping, Present, Bound, Number}
use Rattle.wb_cells.specs.declared.values.index.Index.{Index}
use Rattle.wb_cells.specs.Cells.{Name, Cells, cell_cmp}
use Rattle.wb_cells.specs.Kinds.{kind_of}
use Rattle.wb_cells.specs.Readers as readers
use Rattle.wb_cells.specs.Shapes.{Range, indices}
use Rattle.wb_cells.specs.WellFormed.{IsWellFormed}
use Rattle.wb_reshape.specs.Dropped.{dropped_domain_cells}
use Rattle.wb_reshape.proofs.Fills.{arrays, zeros_once}
use Rattle.wb_reshape.proofs.Users.{users}
use Rattle.wb_edit.specs.declared.asked_numbers.AskedNumbers.{AskedNumbers}
use Rattle.wb_edit.specs.declared.asked_numbers.AskedNumbers.TheVariants.{Rectangle as numbered, Indices as set_numbered}
use Rattle.wb_edit.specs.ValidNumbers.{AreAskedOnce}
use Rattle.wb_edit.specs.declared.asked_rectangle.AskedRectangle.TheVariants.{Ranges, Indices}
use Rattle.wb_edit.specs.declared.command.Command.TheVariants.{Domain, Remap, Sparse, Assoc, Array, Set, Irv, Copy, Fill, Put, FillAll, DropArray, All, Add, Remove}
use Rattle.wb_edit.specs.declared.command.Command.TheVariants.{DropDomain, Reshape}
use Rattle.wb_edit.specs.declared.operation.Operation.{Operation}
use Rattle.wb_cells.specs.declared.refusal.WhyRefused.TheVariants.{WrongKind}
use Rattle.wb_edit.specs.Changed.{set_all}
use Rattle.wb_edit.specs.Commands.{new_domain_changes, domain, remap, sparse, assoc, new_array_changes, array, set, irv, copy, fill, put_numbers, put, fill_all}
use Rattle.wb_edit.specs.Commands.{dropped_cells}
use Rattle.wb_edit.specs.Commands.{drop_array, number_cells, all_results, all, drop_domain, add_unless, remove_if, book_cells, load}
use Rattle.wb_edit.specs.Elements.{elements, same_domain, results, all_within, over_one_domain}
use Rattle.wb_edit.specs.Implicit.{has_implicit, parent_in, implicit_value, implicit_inside, implicit_at, or_implicit, element_or_implicit}
use Rattle.wb_edit.specs.Kinds.{rank_of, is_sparse, rectangular, over_sparse}
use Rattle.wb_edit.specs.Laws.{CommandWritesOnce}
use Rattle.wb_edit.specs.Layouts.{for_rank, mapped}
use Rattle.wb_edit.specs.Trees.{Tree, read, judged, plain}
use Rattle.wb_edit.specs.Objects.{is_empty}
use Rattle.wb_edit.specs.Numbers.{element_or_refusal, fits_integer, sum}
use Rattle.wb_edit.specs.Rectangles.{of_rank, all_there, over_rectangle, all_elements}
use Rattle.wb_edit.specs.Resizing.{has_members, with_members, zeros}
use Rattle.wb_cells.specs.Schema.{workbook}
use Rattle.wb_edit.specs.Looks.{is_free, domain_kind, array_kind, is_there, fits, domain_named, array_named, index_fits, element, domain_indices}
use Rattle.wb_edit.specs.Users.{is_unused, unused}
use Rattle.wb_edit.specs.Writes.{set_to, put_all, clear_all}
use Rattle.wb_edit.proofs.IndexedRows.{elsewhere}
use Rattle.wb_edit.proofs.Elements.{elements_ascend, elements_once}
use Rattle.wb_edit.proofs.Loading.{puts_once}
use Rattle.wb_edit.proofs.SideBySide.{kept_ascend}
use Rattle.wb_edit.proofs.Once.IndexedRows.{once_numbered, once_indexed, once_resized, once_ended, once_seen}
use Rattle.wb_edit.proofs.Once.Looks.{Once, once_read, once_judged, once_test, once_all, once_indices, rectangle_once, none_once, none_apart}
use Rattle.wb_edit.proofs.Once.Sources.{resized_once, reshape_once}
use Rattle.wb_text.specs.Texts.Books.{cells_in}

domain_once : (d : Name) (rs : List Range) (m : LayoutMap) → IsListedOnce (indices rs) → AllOnce cell_cmp (new_domain_changes d rs m)
domain_once d rs m once =
    let apart : (c : Cell) → ((i : Index) → eq_by_cmp cell_cmp c (In d i) ≡ false) → changes cell_cmp (put_all (map (In d) (indices rs)) Present) c ≡ false =
    λ c other. elsewhere (In d) (Some Present) c (indices rs) other in (
      apart (Object d) (λ i. refl),
      (
        apart (Shape d) (λ i. refl),
        (apart (Mapping d) (λ i. refl), once_indexed (In d) (λ i j e. cc) (Some Present) (indices rs) once),
      ),
    )

-- a cell that is no element of an array
not_among : (a : Name) (o : Option Value) (is : List Index) (c : Cell) → ((i : Index) → eq_by_cmp cell_cmp c (Element a i) ≡ false) →
    changes cell_cmp (set_all (map (Element a) is) o) c ≡ false
not_among a o is c other = elsewhere (Element a) o c is other

array_once : (a d : Name) (kind : Kind) (is : List Index) → IsListedOnce is → AllOnce cell_cmp (new_array_changes a d kind is)
array_once a d kind is once =
    let apart = not_among a (Some (Number (pos 0))) is in (
      apart (Object a) (λ i. refl),
      (
        apart (Use d a) (λ i. refl),
        (apart (Implicit a) (λ i. refl), once_indexed (Element a) (λ i j e. cc) (Some (Number (pos 0))) is once),
      ),
    )

-- ---- all elements of an array

fill_all_once : (s : Cells) (a : Name) (v : ℤ) → Once (fill_all a v) s
fill_all_once s a v =
    let es : List (Index × ℤ) = readers.elements s a in
    once_test s (Object a) array_kind (λ array. elements a (λ es. write (put_all (map (Element a) (keys_of es)) (Number v)))) (λ array _.
    once_indexed (Element a) (λ i j e. cc) (Some (Number v)) (keys_of es) (elements_once s a))

drop_array_once : (s : Cells) (a : Name) → Once (drop_array a) s
drop_array_once s a =
    let es : List (Index × ℤ) = readers.elements s a in
    let apart = not_among a None (keys_of es) in
    let own : AllOnce cell_cmp (clear_all (map (Element a) (keys_of es))) = once_indexed (Element a) (λ i j e. cc) None (keys_of es) (elements_once s a) in
    once_test s (Object a) array_kind (λ array. elements a (λ es. write (dropped_cells a array.0 (keys_of es)))) (λ array _.
    (apart (Object a) (λ i. refl), (apart (Use array.0 a) (λ i. refl), (apart (Implicit a) (λ i. refl), own))))

all_once : (s : Cells) (a : Name) (how : Operation) (b : Name) → Once (all a how b) s
all_once s a how b =
    let xs : List (Index × ℤ) = readers.elements s a in
    let ys : List (Index × ℤ) = readers.elements s b in
    let last : List (Index × ℤ) → Tree = λ zs. write (number_cells a zs) in
    let one : Name × Kind → Name × Kind → Tree = λ array source. over_one_domain array.0 source.0 (λ x. all_results a how b) in
    once_test s (Object a) array_kind (λ array. array_named b (one array)) (λ array _.
    once_test s (Object b) array_kind (one array) (λ source _.
    once_judged s (same_domain array.0 source.0) (λ x. all_results a how b) (λ x _.
    once_judged s (all_within (results how xs ys)) last (λ zs ok.
    once_seen a (λ e. Some (Number e.1)) zs (kept_ascend how xs ys zs (elements_ascend s a) ok)))))

-- ---- one element

number_once : (s : Cells) (b d : Name) (kind : Kind) (j : Index) (next : ℤ → Tree) → ((x : ℤ) → Once (next x) s) → Once (element_or_implicit b d kind j next) s
number_once s b d kind j next once = once_read s (Element b j) (λ v. or_implicit b d kind j v next) (by_case (get s (Element b j)))
  where
    by_case : (v : Option Value) → Once (or_implicit b d kind j v next) s
    by_case (Some v) = once_judged s (element_or_refusal (Some v)) next (λ x _. once x)
    by_case None =
        once_judged s (has_implicit kind) (λ z. implicit_at b d j next) (λ z _.
        once_test s (Object d) parent_in (λ p. implicit_inside b p j next) (λ p _.
        once_test s (In p j) is_there (λ y. implicit_value b next) (λ y _.
        once_test s (Implicit b) element_or_refusal next (λ x _. once x))))

copy_once : (s : Cells) (a : Name) (i : Index) (b : Name) (j : Index) (c : ℤ) → Once (copy a i b j c) s
copy_once s a i b j c =
    let last : ℤ → Tree = λ y. write (set_to (Element a i) (Number y) ∷ []) in
    let added : ℤ → Tree = λ x. sum x c last in
    let elements : Name × Kind → Tree = λ source. element a i (λ z. element_or_implicit b source.0 source.1 j added) in
    let keys : Kind → Name × Kind → Tree = λ kind source. index_fits kind i (λ x. index_fits source.1 j (λ y. elements source)) in
    once_test s (Object a) array_kind (λ array. array_named b (keys array.1)) (λ array _.
    once_test s (Object b) array_kind (keys array.1) (λ source _.
    once_judged s (fits array.1 i) (λ x. index_fits source.1 j (λ y. elements source)) (λ x _.
    once_judged s (fits source.1 j) (λ y. elements source) (λ y _.
    once_test s (Element a i) is_there (λ z. element_or_implicit b source.0 source.1 j added) (λ z _.
    number_once s b source.0 source.1 j added (λ x.
    once_judged s (fits_integer (x +ℤ c)) last (λ y _. (refl, tt))))))))

fill_once : (s : Cells) (a : Name) (on : List Range) (v : ℤ) → IsListedOnce (indices on) → Once (fill a (Ranges on) v) s
fill_once s a on v once =
    let last : Tree = write (put_all (map (Element a) (indices on)) (Number v)) in
    once_test s (Object a) array_kind (λ array. over_rectangle (length on) array.1 (λ x. all_elements a (indices on) (λ y. last))) (λ array _.
    once_judged s (of_rank (length on) array.1) (λ x. all_elements a (indices on) (λ y. last)) (λ x _.
    once_all s (map (Element a) (indices on)) (λ vs. judged (all_there vs) (λ y. last)) (
    once_judged s (all_there (map (get s) (map (Element a) (indices on)))) (λ y. last) (λ y _.
    once_indexed (Element a) (λ i j e. cc) (Some (Number v)) (indices on) once))))

numbers_once : (s : Cells) (a : Name) (kind : Kind) (on : List Range) (vs : List ℤ) → IsListedOnce (indices on) → Once (put_numbers a kind on vs) s
numbers_once s a kind on vs once =
    let last : Tree = write (number_cells a (zip (indices on) vs)) in
    once_judged s (of_rank (length on) kind) (λ x. all_elements a (indices on) (λ y. last)) (λ x _.
    once_all s (map (Element a) (indices on)) (λ vs. judged (all_there vs) (λ y. last)) (
    once_judged s (all_there (map (get s) (map (Element a) (indices on)))) (λ y. last) (λ y _. once_numbered a (indices on) vs once)))

put_once : (s : Cells) (a : Name) (asked : AskedNumbers) → AreAskedOnce asked → Once (put a asked) s
put_once s a set_numbered once = once_test s (Object a) array_kind (λ over. refuse (plain WrongKind)) (λ over _. tt)
put_once s a (numbered r) once =
    once_test s (Object a) array_kind (λ array. put_numbers a array.1 r.0 r.1) (λ array _. numbers_once s a array.1 r.0 r.1 once)

-- ---- one index

single_once : (i : Index) → IsListedOnce (i ∷ [])
single_once i zero zero x e f = refl
single_once i zero (suc q) x e f = cc
single_once i (suc p) q x e f = cc

add_unless_once : (s : Cells) (o : Option Value) (d : Name) (kind : DomainKind) (i : Index) → Once (add_unless o d kind i) s
add_unless_once s (Some v) d kind i = tt
add_unless_once s None d kind i = resized_once s d kind (i ∷ []) [] (i ∷ []) none_once (single_once i) (λ p q x e f. none_apart p x e)

remove_if_once : (s : Cells) (o : Option Value) (d : Name) (kind : DomainKind) (i : Index) → Once (remove_if o d kind i) s
remove_if_once s None d kind i = tt
remove_if_once s (Some v) d kind i = once_resized (i ∷ []) [] (single_once i) none_once (λ p q x e f. none_apart q x f) (kind_of kind) d (zeros (arrays s d))
    (zeros_once s d)

-- the tests on an index that is added or removed
member_once : (s : Cells) (d : Name) (i : Index) (next : Option Value → DomainKind → Tree) → ((o : Option Value) (kind : DomainKind) → Once (next o kind) s) →
    Once (domain_named d (λ kind. with_members kind (λ x. index_fits (kind_of kind) i (λ y. read (Member d i) (λ there. next there kind))))) s
member_once s d i next once =
    let last : DomainKind → Tree = λ kind. read (Member d i) (λ there. next there kind) in
    let keyed : DomainKind → Tree = λ kind. index_fits (kind_of kind) i (λ y. last kind) in
    once_test s (Object d) domain_kind (λ kind. with_members kind (λ x. keyed kind)) (λ kind _.
    once_judged s (has_members kind) (λ x. keyed kind) (λ x _.
    once_judged s (fits (kind_of kind) i) (λ y. last kind) (λ y _.
    once_read s (Member d i) (λ there. next there kind) (once (get s (Member d i)) kind))))

-- ---- every command

new_domain_once : (s : Cells) (d : Name) (rs : List Range) (m : LayoutMap) → IsListedOnce (indices rs) → Once (domain d (Ranges rs) m) s
new_domain_once s d rs m once =
    let last : Tree = write (new_domain_changes d rs m) in
    once_test s (Object d) is_free (λ x. mapped (length rs) m (λ y. last)) (λ x _.
    once_judged s (for_rank (length rs) m) (λ y. last) (λ y _. domain_once d rs m once))

remap_once : (s : Cells) (d : Name) (m : LayoutMap) → Once (remap d m) s
remap_once s d m =
    let last : Tree = write (set_to (Mapping d) (Mapping m) ∷ []) in
    let ranked : ℕ → Tree = λ rank. mapped rank m (λ x. last) in
    once_test s (Object d) domain_kind (λ kind. rectangular kind ranked) (λ kind _.
    once_judged s (rank_of kind) ranked (λ rank _.
    once_judged s (for_rank rank m) (λ x. last) (λ x _. (refl, tt))))

sparse_once : (s : Cells) (d parent : Name) → Once (sparse d parent) s
sparse_once s d parent =
    let last : ℕ → Tree = λ rank. write (set_to (Object d) (Domain (Sparse parent rank)) ∷ set_to (Use parent d) (Bound Sparse) ∷ []) in
    once_test s (Object d) is_free (λ x. domain_named parent (λ kind. rectangular kind last)) (λ x _.
    once_test s (Object parent) domain_kind (λ kind. rectangular kind last) (λ kind _.
    once_judged s (rank_of kind) last (λ rank _. (refl, (refl, tt)))))

assoc_once : (s : Cells) (d : Name) (type : KeyType) → Once (assoc d type) s
assoc_once s d type = once_test s (Object d) is_free (λ x. write (set_to (Object d) (Domain (Associative type)) ∷ [])) (λ x _. (refl, tt))

new_array_once : (s : Cells) (a d : Name) → IsWellFormed s → Once (array a d) s
new_array_once s a d h =
    let last : DomainKind → List Index → Tree = λ kind is. write (new_array_changes a d (kind_of kind) is) in
    once_test s (Object a) is_free (λ x. domain_named d (λ kind. domain_indices d kind (last kind))) (λ x _.
    once_test s (Object d) domain_kind (λ kind. domain_indices d kind (last kind)) (λ kind _.
    once_indices s h d kind (last kind) (λ is listed. array_once a d (kind_of kind) is listed)))

set_once : (s : Cells) (a : Name) (i : Index) (v : ℤ) → Once (set a i v) s
set_once s a i v =
    let last : Tree = write (set_to (Element a i) (Number v) ∷ []) in
    once_test s (Object a) array_kind (λ array. index_fits array.1 i (λ x. element a i (λ y. last))) (λ array _.
    once_judged s (fits array.1 i) (λ x. element a i (λ y. last)) (λ x _.
    once_test s (Element a i) is_there (λ y. last) (λ y _. (refl, tt))))

irv_once : (s : Cells) (a : Name) (v : ℤ) → Once (irv a v) s
irv_once s a v =
    let last : Tree = write (set_to (Implicit a) (Number v) ∷ []) in
    once_test s (Object a) array_kind (λ array. over_sparse array.1 (λ x. last)) (λ array _.
    once_judged s (is_sparse array.1) (λ x. last) (λ x _. (refl, tt)))

drop_domain_once : (s : Cells) (d : Name) → IsWellFormed s → Once (drop_domain d) s
drop_domain_once s d h =
    let last : DomainKind → List Index → Tree = λ kind is. write (dropped_domain_cells d kind is) in
    once_test s (Object d) domain_kind (λ kind. unused d (λ x. domain_indices d kind (last kind))) (λ kind _.
    once_judged s (is_unused (users s d)) (λ x. domain_indices d kind (last kind)) (λ x _.
    once_indices s h d kind (last kind) (λ is listed. once_ended d kind is listed)))

pub load_once : (s : Cells) (text : List ℕ) → Once (load text) s
load_once s text =
    once_judged s (is_empty (seen workbook Objects s)) (λ x. write (book_cells (cells_in text))) (λ x ok.
    puts_once (entries (cells_in text)) (entries_sorted (cells_in text)))

pub command_once : CommandWritesOnce
command_once (Domain d (Ranges rs) m) s valid once h = new_domain_once s d rs m (rectangle_once (length rs) rs valid.1)
command_once (Domain d Indices m) s valid once h = once_test s (Object d) is_free (λ x. refuse (plain WrongKind)) (λ x _. tt)
command_once (Remap d m) s valid once h = remap_once s d m
command_once (Sparse d parent) s valid once h = sparse_once s d parent
command_once (Assoc d type) s valid once h = assoc_once s d type
command_once (Array a d) s valid once h = new_array_once s a d h
command_once (Set a i v) s valid once h = set_once s a i v
command_once (Irv a v) s valid once h = irv_once s a v
command_once (Copy a i b j c) s valid once h = copy_once s a i b j c
command_once (Fill a (Ranges on) v) s valid once h = fill_once s a on v once
command_once (Fill a Indices v) s valid once h = once_test s (Object a) array_kind (λ over. refuse (plain WrongKind)) (λ over _. tt)
command_once (Put a asked) s valid once h = put_once s a asked once
command_once (FillAll a v) s valid once h = fill_all_once s a v
command_once (DropArray a) s valid once h = drop_array_once s a
command_once (All a how b) s valid once h = all_once s a how b
command_once (Add d i) s valid once h = member_once s d i (λ there kind. add_unless there d kind i) (λ there kind. add_unless_once s there d kind i)
command_once (Remove d i) s valid once h = member_once s d i (λ there kind. remove_if there d kind i) (λ there kind. remove_if_once s there d kind i)
command_once (DropDomain d) s valid once h = drop_domain_once s d h
command_once (Reshape d source) s valid once h = reshape_once s d source valid once h
