-- In a well-formed workbook nothing is missing that the readers of a domain look for.
use Rattle.std.proofs.Common.{◌≡◌, Bool, true, false, Option, Some, None, is_some, refl, sym, ap, subst, ◌∙◌}
use Rattle.std.specs.Prelude.{option_and_then}
use Rattle.std.specs.FinMap.{get}
use Rattle.wb_cells.specs.declared.cells.cell.Cell.TheVariants.{Object, Mapping, Element}
use Rattle.wb_cells.specs.declared.cells.kind.DomainKind.{DomainKind}
use Rattle.wb_cells.specs.declared.cells.kind.DomainKind.TheVariants.{Rectangular, Sparse, Associative}
use Rattle.wb_cells.specs.declared.cells.value.Value.{Value}
use Rattle.wb_cells.specs.declared.cells.value.Value.TheVariants.{Domain}
use Rattle.wb_cells.specs.declared.values.index.Index.{Index}
use Rattle.wb_cells.specs.Cells.{Name, Cells}
use Rattle.wb_cells.specs.Kinds.{kind_of}
use Rattle.wb_cells.specs.Layouts.{locale_in}
use Rattle.wb_cells.specs.Locales.{mapping_in, locale_by, locale_count_at}
use Rattle.wb_cells.specs.WellFormed.{IsWellFormed, IsElement, HasMapping, domain_at, domain_in, index_cell, is_index_of_array}
use Rattle.wb_cells.proofs.Lying.{size_there, locale_there}
use Rattle.wb_edit.specs.Looks.{domain_kind}
use Rattle.wb_history.specs.Pieces.{mapped_as, mapped_at, mapped_by}
use Rattle.wb_laws.specs.Defaults.{GoesByMapping, DefaultsLaw}
use Rattle.wb_laws.proofs.Lying.{counted, uncounted, located}
use Rattle.wb_laws.proofs.Reallocated.{index_by}

was_index : (b : Bool) (v : Option Value) → IsElement b v → is_some v ≡ true → b ≡ true
was_index true v element there = refl
was_index false v none there = let no : false ≡ true = sym (ap (λ o. is_some o) none) ∙ there in cc

module _ (s : Cells) (d : Name) (h : IsWellFormed s) where
  no_mapping : (type : _) → domain_at s d ≡ Some (Associative type) → (i : Index) → locale_by s d i ≡ None
  no_mapping type is i =
      let none : get s (Mapping d) ≡ None = subst (λ o. HasMapping o (get s (Mapping d))) is (h.mappings d) in
      ap (λ v. option_and_then (λ m. locale_in m i) (mapping_in v)) none

  counted_by : (kind : DomainKind) → get s (Object d) ≡ Some (Domain kind) → GoesByMapping kind (locale_count_at s (mapped_by d kind))
  counted_by (Rectangular rank) is = counted s d rank h (ap domain_in is)
  counted_by (Sparse parent rank) is = counted s parent rank h (h.objects d (Domain (Sparse parent rank)) is)
  counted_by (Associative type) is = uncounted s d type h (ap domain_in is)

  mapped_index : (kind : DomainKind) (i : Index) → get s (Object d) ≡ Some (Domain kind) → is_some (get s (index_cell (kind_of kind) d i)) ≡ true →
      GoesByMapping kind (locale_by s (mapped_by d kind) i)
  mapped_index (Rectangular rank) i is there = located s d (Rectangular rank) i h (ap domain_in is) there
  mapped_index (Sparse parent rank) i is there = located s d (Sparse parent rank) i h (ap domain_in is) there
  mapped_index (Associative type) i is there = no_mapping type (ap domain_in is) i

pub defaults_law : DefaultsLaw
defaults_law s d kind h is =
    let there : domain_at s d ≡ Some kind = ap domain_in is in
    let by : mapped_by d kind ≡ mapped_at s d = sym (ap (λ v. mapped_as d (domain_kind v)) is) in
    record {
      size = size_there s d h ∙ ap (λ o. is_some o) there;
      locale = λ i has. locale_there s h d i ∙ index_by s d kind i there ∙ has;
      locales = subst (λ e. GoesByMapping kind (locale_count_at s e)) by (counted_by s d h kind is);
      mapped = λ i has. subst (λ e. GoesByMapping kind (locale_by s e i)) by (mapped_index s d h kind i is has);
      elements = λ a over i element.
          was_index _ (get s (Element a i)) (subst (λ o. IsElement (is_index_of_array s o i) (get s (Element a i))) over (h.elements a i)) element;
    }
