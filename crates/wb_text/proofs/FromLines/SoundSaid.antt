-- What a well-formed workbook says is sound, and its lines are of different names.
use Rattle.std.proofs.Common.{◌≡◌, ℕ, ◌==◌, Bool, true, false, ◌&&◌, cond, List, [], ◌∷◌, length, Option, Some, None, is_some, unwrap_or, refl, sym, ap, ◌∙◌}
use Rattle.std.proofs.Common.{subst, eqb-true}
use Rattle.std.proofs.lemmas.Bool.{eq-eqb}
use Rattle.std.specs.Cmp.Lexicographic.{slice_cmp}
use Rattle.std.specs.FinMap.{get}
use Rattle.std.specs.List.{AllByRecursion, filter_map, cons_option, list_all}
use Rattle.std.specs.List.Sorted.{IsStrictlySortedBy}
use Rattle.std.specs.Ordering.{is_eq, nat_cmp}
use Rattle.std.specs.declared.cmp.Ordering.TheVariants.{Less}
use Rattle.wb_dist.specs.Grid.{are_positive, is_grid}
use Rattle.wb_dist.specs.Maps.{LayoutMap, whole, block, cyclic, block_cyclic, is_rank, is_box, is_layout}
use Rattle.wb_cells.specs.declared.cells.cell.Cell.TheVariants.{Object, In, Member, Mapping}
use Rattle.wb_cells.specs.declared.cells.kind.DomainKind.{DomainKind}
use Rattle.wb_cells.specs.declared.cells.kind.DomainKind.TheVariants as domains
use Rattle.wb_cells.specs.declared.cells.kind.KeyType.{KeyType}
use Rattle.wb_cells.specs.declared.cells.kind.Kind.{Kind}
use Rattle.wb_cells.specs.declared.cells.kind.Kind.TheVariants.{Associative}
use Rattle.wb_cells.specs.declared.cells.value.Value.{Value}
use Rattle.wb_cells.specs.declared.cells.value.Value.TheVariants as values
use Rattle.wb_cells.specs.declared.values.index.Index.{Index}
use Rattle.wb_cells.specs.Cells.{Name, Cells}
use Rattle.wb_cells.specs.Kinds.{is_key}
use Rattle.wb_cells.specs.Layouts.{is_of_rank}
use Rattle.wb_cells.specs.Locales.{mapping_in}
use Rattle.wb_cells.specs.Readers.{objects}
use Rattle.wb_cells.specs.Shapes.{indices}
use Rattle.wb_cells.specs.WellFormed.{IsWellFormed, HasMapping, MayHave, domain_at, domain_in, ranges_in, inside_of, has}
use Rattle.wb_cells.specs.declared.cells.value.Value.TheVariants.{Present}
use Rattle.wb_text.specs.Lines.{members, indices_in, element_at, elements_at}
use Rattle.wb_text.specs.Said.{Line, name_of, first_line_of, said_in, said_of, said}
use Rattle.wb_text.proofs.MembersWritten.{has_members, members_each, present_known}
use Rattle.wb_text.proofs.NamesAscend.{lines_ascend}
use Rattle.wb_text.proofs.Readable.{Each}
use Rattle.wb_text.proofs.SameDomains.{rank_known}
use Rattle.wb_text.specs.FromLines.Told.{are_within, is_sound, are_distinct, is_domain, indices_told}
use Rattle.wb_text.proofs.FromLines.Returned.{shape_of, ranges_at, ranges_line, is_domain_line, indices_line, column, column_length}

-- ---- mappings

turned : (a b : ℕ) → (a == b) ≡ true → (b == a) ≡ true
turned a b e = eq-eqb b a (sym (eqb-true a b e))

third_of_four : (a b c d : Bool) → a && b && c && d ≡ true → c ≡ true
third_of_four true true true d e = refl
third_of_four true true false d e = cc
third_of_four true false c d e = cc
third_of_four false b c d e = cc

third_of_five : (a b c d g : Bool) → a && b && c && d && g ≡ true → c ≡ true
third_of_five true true true d g e = refl
third_of_five true true false d g e = cc
third_of_five true false c d g e = cc
third_of_five false b c d g e = cc

fourth_of_six : (a b c d g h : Bool) → a && b && c && d && g && h ≡ true → d ≡ true
fourth_of_six true true true true g h e = refl
fourth_of_six true true true false g h e = cc
fourth_of_six true true false d g h e = cc
fourth_of_six true false c d g h e = cc
fourth_of_six false b c d g h e = cc

rank_of_mapping : (rank : ℕ) (m : LayoutMap) → is_layout rank m ≡ true → is_of_rank rank m ≡ true
rank_of_mapping rank whole e = refl
rank_of_mapping rank (block m) e = turned (length m.grid) rank
    (third_of_five (is_rank rank) (length m.box == rank) (length m.grid == rank) (is_box m.box) (is_grid m.grid) e)
rank_of_mapping rank (cyclic m) e = turned (length m.grid) rank
    (third_of_four (is_rank rank) (length m.start == rank) (length m.grid == rank) (is_grid m.grid) e)
rank_of_mapping rank (block_cyclic m) e =
    turned (length m.grid) rank (fourth_of_six (is_rank rank) (length m.start == rank) (length m.size == rank) (length m.grid == rank) (are_positive m.size)
    (is_grid m.grid) e)

-- ---- members

each_passes : (p : Index → Bool) (is : List Index) → Each (λ i. p i ≡ true) is → list_all p is ≡ true
each_passes p [] h = refl
each_passes p (i ∷ is) h = ap (λ b. b && list_all p is) h.0 ∙ each_passes p is h.1

module _ (w : Cells) (well : IsWellFormed w) where
  abbrev Is : Option Line → Type 0
  Is None = Unit {0}
  Is (Some l) = is_sound (said w) l ≡ true

  member_may : (d : Name) (kind : DomainKind) (i : Index) → domain_at w d ≡ Some kind → is_some (get w (Member d i)) ≡ true → MayHave w (Some kind) i
  member_may d kind i is there = subst (λ k. MayHave w k i) is (has_members w (domain_at w d) i (get w (Member d i)) (well.members d i) there)

  inside_known : (parent : Name) (rank : ℕ) (i : Index) → domain_at w parent ≡ Some (domains.Rectangular rank) → get w (In parent i) ≡ Some Present →
      has (indices (ranges_at w well parent)) i ≡ true
  inside_known parent rank i is e =
      let shape = shape_of w well parent rank is in
      ap (λ v. has (indices (unwrap_or (ranges_in v) [])) i) shape.1
      ∙ present_known (has (indices shape.0) i) (sym (ap (λ v. inside_of (ranges_in v) i) shape.1) ∙ sym (well.insides parent i) ∙ e)

  sparse_within : (d parent : Name) (rank : ℕ) → domain_at w d ≡ Some (domains.Sparse parent rank) → domain_at w parent ≡ Some (domains.Rectangular rank) →
      list_all (has (indices (ranges_at w well parent))) (members w d) ≡ true
  sparse_within d parent rank is over =
      each_passes (has (indices (ranges_at w well parent))) (members w d)
      (members_each (λ i. has (indices (ranges_at w well parent)) i ≡ true) w d
      (λ i there. inside_known parent rank i over (member_may d (domains.Sparse parent rank) i is there)))

  associative_keys : (d : Name) (type : KeyType) → domain_at w d ≡ Some (domains.Associative type) → list_all (is_key (Associative type)) (members w d) ≡ true
  associative_keys d type is =
      each_passes (is_key (Associative type)) (members w d)
      (members_each (λ i. is_key (Associative type) i ≡ true) w d (λ i there. (member_may d (domains.Associative type) i is there).0))

  mapping_sound : (n : Name) (rank : ℕ) → domain_at w n ≡ Some (domains.Rectangular rank) → HasMapping (Some (domains.Rectangular rank)) (get w (Mapping n))
      → is_of_rank (length (ranges_at w well n)) (unwrap_or (mapping_in (get w (Mapping n))) whole) ≡ true
  mapping_sound n rank is h =
      ap (λ k. is_of_rank k (unwrap_or (mapping_in (get w (Mapping n))) whole)) (rank_known w n rank well is)
      ∙ ap (λ v. is_of_rank rank (unwrap_or (mapping_in v) whole)) h.1 ∙ rank_of_mapping rank h.0 h.2.valid

  array_sound : (n d : Name) (kind : Kind) → get w (Object n) ≡ Some (values.Array d kind)
      → is_domain (first_line_of d (said w)) && (length (indices_told (first_line_of d (said w))) == length (elements_at w n (indices_in w d kind))) ≡ true
  array_sound n d kind e =
      let over = well.objects n _ e in
      ap (λ b. b && (length (indices_told (first_line_of d (said w))) == length (elements_at w n (indices_in w d kind)))) (is_domain_line w well d kind over)
      ∙ ap (λ is. length is == length (elements_at w n (indices_in w d kind))) (indices_line w well d kind over)
      ∙ eq-eqb _ _ (column_length (element_at w n) (indices_in w d kind) (column w well n d kind e))

  sound_of : (n : Name) (o : Option Value) → get w (Object n) ≡ o → Is (said_in w n o)
  sound_of n None e = tt
  sound_of n (Some (values.Domain (domains.Rectangular rank))) e =
      mapping_sound n rank (ap domain_in e) (subst (λ k. HasMapping k (get w (Mapping n))) (ap domain_in e) (well.mappings n))
  sound_of n (Some (values.Domain (domains.Sparse parent rank))) e =
      let over = well.objects n _ e in
      ap (λ o. are_within o (members w n)) (ranges_line w well parent rank over) ∙ sparse_within n parent rank (ap domain_in e) over
  sound_of n (Some (values.Domain (domains.Associative type))) e = associative_keys n type (ap domain_in e)
  sound_of n (Some (values.Array d kind)) e = array_sound n d kind e
  sound_of n (Some v) e = tt

  one_more : (o : Option Line) (ls : List Line) → Is o → list_all (is_sound (said w)) ls ≡ true → list_all (is_sound (said w)) (cons_option o ls) ≡ true
  one_more None ls h e = e
  one_more (Some l) ls h e = ap (λ b. b && list_all (is_sound (said w)) ls) h ∙ e

  all_sound : (ns : List Name) → list_all (is_sound (said w)) (filter_map (said_of w) ns) ≡ true
  all_sound [] = refl
  all_sound (n ∷ ns) = one_more (said_of w n) (filter_map (said_of w) ns) (sound_of n (get w (Object n)) refl) (all_sound ns)

  pub sound_said : list_all (is_sound (said w)) (said w) ≡ true
  sound_said = all_sound (objects w)

-- ---- names

absent : (l : Line) (ls : List Line) → AllByRecursion (λ m. slice_cmp nat_cmp (name_of l) (name_of m) ≡ Less) ls → first_line_of (name_of l) ls ≡ None
absent l [] h = refl
absent l (m ∷ ls) h = ap (λ o. cond (is_eq o) (Some m) (first_line_of (name_of l) ls)) h.0 ∙ absent l ls h.1

all_distinct : (ls : List Line) → IsStrictlySortedBy (λ l m. slice_cmp nat_cmp (name_of l) (name_of m)) ls → are_distinct ls ≡ true
unfolding IsStrictlySortedBy
all_distinct [] h = refl
all_distinct (l ∷ ls) h = ap (λ o. cond (is_some o) false (are_distinct ls)) (absent l ls h.0) ∙ all_distinct ls h.1

pub distinct_said : (s : Cells) → are_distinct (said s) ≡ true
distinct_said s = all_distinct (said s) (lines_ascend s)
