-- The arrays that lines tell of are those of the workbook that the lines tell of.
use Rattle.std.specs.List.{AllByRecursion, list_all}
use Rattle.std.proofs.Common.{◌≡◌, ℕ, true, List, length, Option, Some, None, option_map, refl, sym, ap, ◌∙◌}
use Rattle.std.specs.FinMap.{get, empty}
use Rattle.std.specs.BTreeMap.{BTreeMap, is_at}
use Rattle.std.specs.Map.{lookup}
use Rattle.std.specs.Option.{option_and_then}
use Rattle.wb_cells.specs.declared.cells.cell.Cell.{Cell}
use Rattle.wb_cells.specs.declared.cells.cell.Cell.TheVariants.{Object, Mapping, Element}
use Rattle.wb_cells.specs.declared.cells.kind.DomainKind.TheVariants as domains
use Rattle.wb_cells.specs.declared.cells.kind.KeyType.TheVariants.{Int, Text}
use Rattle.wb_cells.specs.declared.cells.kind.Kind.{Kind}
use Rattle.wb_cells.specs.declared.cells.value.Value.TheVariants as values
use Rattle.wb_cells.specs.declared.values.index.Index.{Index}
use Rattle.wb_cells.specs.Cells.{Stored, Name, Cells, index_cmp, state_of}
use Rattle.wb_cells.specs.Kinds.{kind_of}
use Rattle.wb_cells.specs.Locales.{mapping_in}
use Rattle.wb_cells.specs.WellFormed.{IsWellFormed, domain_at, domain_in, array_at, array_in as object_in}
use Rattle.wb_book.specs.Joined.{element_in}
use Rattle.wb_text.specs.Said.{Line, rectangular, sparse, associative, array, first_line_of}
use Rattle.wb_text.specs.FromLines.Told.{owner, are_distinct, cells_put, is_sound, kind_told, rank_told, told_by, stored_put}
use Rattle.wb_text.specs.FromLines.Made.{IsMade}
use Rattle.wb_text.proofs.FromLines.Built.{built}
use Rattle.wb_text.proofs.FromLines.ComingBack.{made_well}
use Rattle.wb_book.specs.Kept.{Pieced, array_in, Agree}
use Rattle.wb_book.specs.Parts.{AreParts}
use Rattle.wb_book.specs.Shelf.{lies_by, mapping_of}
use Rattle.wb_reading.specs.Laid.{lies_told, rectangle_lies, IsArrayTold, AreArraysTold}
use Rattle.wb_reading.proofs.Storing.{told_stored}

module _ (ls : List Line) (distinct : are_distinct ls ≡ true) (well : IsWellFormed (cells_put ls ls empty)) where
  abbrev w : Cells
  w = cells_put ls ls empty

  -- what the line of its owner tells of a cell
  at_line : (c : Cell) (o : Option Line) → first_line_of (owner c) ls ≡ o → get w c ≡ told_by ls o c
  at_line c o is = built ls distinct c ∙ ap (λ (x : Option Line). told_by ls x c) is

  -- ---- elements

  no_element : (es : List (Name × Pieced)) (a : Name) (i : Index) → array_in es a ≡ None → option_map values.Number (element_in es a i) ≡ None
  no_element es a i none = ap (λ (o : Option Pieced). option_map values.Number (option_and_then (λ x. lookup (is_at (index_cmp i)) x.0) o)) none

  element_told : (es : List (Name × Pieced)) (a : Name) (i : Index) (o : Option Line) → IsArrayTold ls o (array_in es a) →
      option_map values.Number (element_in es a i) ≡ told_by ls o (Element a i)
  element_told es a i None t = no_element es a i t
  element_told es a i (Some (rectangular d rs m)) t = no_element es a i t
  element_told es a i (Some (sparse d parent is)) t = no_element es a i t
  element_told es a i (Some (associative d type is)) t = no_element es a i t
  element_told es a i (Some (array b d xs irv)) t =
      ap (λ (o : Option Pieced). option_map values.Number (option_and_then (λ x. lookup (is_at (index_cmp i)) x.0) o)) t.1
      ∙ ap (option_map values.Number) (t.2.elements i)

  agreeing : (es : List (Name × Pieced)) → AreArraysTold ls ls es → Agree es w
  agreeing es told a i = element_told es a i (first_line_of a ls) (told a) ∙ sym (at_line (Element a i) (first_line_of a ls) refl)

  -- ---- mappings

  domain_told : (d : Name) (o : Option Line) → first_line_of d ls ≡ o → domain_at w d ≡ domain_in (told_by ls o (Object d))
  domain_told d o is = ap domain_in (at_line (Object d) o is)

  mapping_told : (d : Name) (o : Option Line) → first_line_of d ls ≡ o → mapping_in (get w (Mapping d)) ≡ mapping_in (told_by ls o (Mapping d))
  mapping_told d o is = ap mapping_in (at_line (Mapping d) o is)

  rectangle_told : (parent : Name) (rank : ℕ) (o : Option Line) → first_line_of parent ls ≡ o → domain_at w parent ≡ Some (domains.Rectangular rank)
      → option_map (λ m. (m, rank)) (mapping_in (get w (Mapping parent))) ≡ Some (rectangle_lies o)
  rectangle_told parent rank None is at = let no = sym (domain_told parent None is) ∙ at in cc
  rectangle_told parent rank (Some (sparse d p xs)) is at = let no = sym (domain_told parent (Some (sparse d p xs)) is) ∙ at in cc
  rectangle_told parent rank (Some (associative d type xs)) is at = let no = sym (domain_told parent (Some (associative d type xs)) is) ∙ at in cc
  rectangle_told parent rank (Some (array a d xs irv)) is at = let no = sym (domain_told parent (Some (array a d xs irv)) is) ∙ at in cc
  rectangle_told parent rank (Some (rectangular d rs m)) is at =
      let same : Some (domains.Rectangular (length rs)) ≡ Some (domains.Rectangular rank) = sym (domain_told parent (Some (rectangular d rs m)) is) ∙ at in
      let ranks : length rs ≡ rank = cc in
      ap (option_map (λ x. (x, rank))) (mapping_told parent (Some (rectangular d rs m)) is) ∙ ap (λ r. Some (m, r)) (sym ranks)

  domain_lies : (d : Name) (kind : Kind) (o : Option Line) → first_line_of d ls ≡ o → option_map kind_of (domain_at w d) ≡ Some kind →
      mapping_of w d (domain_at w d) ≡ Some (lies_told ls o)
  domain_lies d kind None is there = let no = sym (ap (option_map kind_of) (domain_told d None is)) ∙ there in cc
  domain_lies d kind (Some (array a e xs irv)) is there = let no = sym (ap (option_map kind_of) (domain_told d (Some (array a e xs irv)) is)) ∙ there in cc
  domain_lies d kind (Some (rectangular e rs m)) is there =
      ap (mapping_of w d) (domain_told d (Some (rectangular e rs m)) is)
      ∙ ap (option_map (λ x. (x, length rs))) (mapping_told d (Some (rectangular e rs m)) is)
  domain_lies d kind (Some (associative e Int xs)) is there = ap (mapping_of w d) (domain_told d (Some (associative e Int xs)) is)
  domain_lies d kind (Some (associative e Text xs)) is there = ap (mapping_of w d) (domain_told d (Some (associative e Text xs)) is)
  domain_lies d kind (Some (sparse e parent xs)) is there =
      let rank : ℕ = rank_told (first_line_of parent ls) in
      ap (mapping_of w d) (domain_told d (Some (sparse e parent xs)) is)
      ∙ rectangle_told parent rank (first_line_of parent ls) refl (well.objects d (values.Domain (domains.Sparse parent rank))
      (at_line (Object d) (Some (sparse e parent xs)) is))

  no_array : (es : List (Name × Pieced)) (a : Name) (o : Option Line) → first_line_of a ls ≡ o → object_in (told_by ls o (Object a)) ≡ None →
      array_in es a ≡ None → option_map (λ p. p.1) (array_in es a) ≡ lies_by w (array_at w a)
  no_array es a o is none nothing = ap (option_map (λ p. p.1)) nothing ∙ sym (ap (λ v. lies_by w (object_in v)) (at_line (Object a) o is) ∙ ap (lies_by w) none)

  lies_told_by : (es : List (Name × Pieced)) (a : Name) (o : Option Line) → first_line_of a ls ≡ o → IsArrayTold ls o (array_in es a) →
      option_map (λ p. p.1) (array_in es a) ≡ lies_by w (array_at w a)
  lies_told_by es a None is t = no_array es a None is refl t
  lies_told_by es a (Some (rectangular d rs m)) is t = no_array es a (Some (rectangular d rs m)) is refl t
  lies_told_by es a (Some (sparse d parent xs)) is t = no_array es a (Some (sparse d parent xs)) is refl t
  lies_told_by es a (Some (associative d type xs)) is t = no_array es a (Some (associative d type xs)) is refl t
  lies_told_by es a (Some (array b d xs irv)) is t =
      let kind : Kind = kind_told ls (first_line_of d ls) in
      let object = at_line (Object a) (Some (array b d xs irv)) is in
      ap (option_map (λ p. p.1)) t.1 ∙ ap (λ l. Some l) t.2.lies
      ∙ sym (ap (λ v. lies_by w (object_in v)) object ∙ domain_lies d kind (first_line_of d ls) refl (well.objects a (values.Array d kind) object))

  -- so they are its parts
  parts_told : (cells : Stored) (arrays : BTreeMap Name Pieced) → state_of cells ≡ stored_put ls ls empty → AreArraysTold ls ls arrays.entries →
      AreParts cells arrays w
  parts_told cells arrays is told = record {
    well_formed = well;
    stored = is ∙ told_stored ls;
    elements = agreeing arrays.entries told;
    lie = λ a. lies_told_by arrays.entries a (first_line_of a ls) refl (told a);
  }

pub made_parts : (ls : List Line) → list_all (is_sound ls) ls ≡ true → AllByRecursion IsMade ls → are_distinct ls ≡ true →
    (cells : Stored) (arrays : BTreeMap Name Pieced)
    → state_of cells ≡ stored_put ls ls empty → AreArraysTold ls ls arrays.entries → AreParts cells arrays (cells_put ls ls empty)
made_parts ls sound made distinct cells arrays is told = parts_told ls distinct (made_well ls (cells_put ls ls empty) sound made distinct refl) cells arrays is
    told
