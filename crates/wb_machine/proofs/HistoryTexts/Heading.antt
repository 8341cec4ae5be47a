-- What stands above the edits in the text of a history ends with a line that has no mark.
use Rattle.std.proofs.Common.{◌≡◌, ℕ, ℤ, unwrap_or, List, [], ◌∷◌, ◌++◌, length, codes, refl, sym, ap, ◌∙◌, subst, Option, Some, None, ◌⊎◌, inl, inr, decimal}
use Rattle.std.proofs.Common.{arith}
use Rattle.std.specs.FinMap.{get}
use Rattle.std.specs.List.{flat_map}
use Rattle.std.proofs.lemmas.List.{append-nil, append_assoc}
use Rattle.std.proofs.lemmas.List.Concat.{flat_map-cons}
use Rattle.selective_undo.specs.History.{replay}
use Rattle.wb_dist.specs.Maps.{whole}
use Rattle.wb_cells.specs.declared.cells.cell.Cell.TheVariants.{Object, Shape, Mapping as MappingCell}
use Rattle.wb_cells.specs.declared.cells.kind.DomainKind.{DomainKind}
use Rattle.wb_cells.specs.declared.cells.kind.DomainKind.TheVariants as kinds
use Rattle.wb_cells.specs.declared.cells.value.Value.{Value}
use Rattle.wb_cells.specs.declared.cells.value.Value.TheVariants.{Domain, Array, Ranges, Mapping, Present, Bound, Number}
use Rattle.wb_cells.specs.Cells.{Name, Cells}
use Rattle.wb_cells.specs.Locales.{mapping_in}
use Rattle.wb_cells.specs.Readers.{objects}
use Rattle.wb_cells.specs.WellFormed.{ranges_in}
use Rattle.wb_history.specs.Past.{Numbered, meant}
use Rattle.wb_lines.specs.Lines.{IsUnbroken}
use Rattle.wb_lines.proofs.Progress.{unbroken-append}
use Rattle.wb_text.specs.Literals.{rectangle_text, set_text, integers_text, mapping_text}
use Rattle.wb_text.specs.Lines.{members, type_text, implicit_text, array_line, domain_line}
use Rattle.wb_text.specs.Lines.{elements_at, indices_in, implicit_in, text_of_object, object_line}
use Rattle.wb_machine.specs.Histories.Lines.{marked_at, heading}
use Rattle.wb_machine.specs.Histories.Text.{objects_text}
use Rattle.wb_machine.proofs.HistoryTexts.Unbroken.{unbroken_decimal}

-- a text that ends with a line end
abbrev Ended : List ℕ → Type 0
Ended xs = (ys : List ℕ) × (xs ≡ ys ++ 10 ∷ [])

behind : (a b : List ℕ) → Ended b → Ended (a ++ b)
behind a b (ys, e) = (a ++ ys, ap (λ t. a ++ t) e ∙ sym (append_assoc a ys (10 ∷ [])))

line_end : Ended (codes "\n")
line_end = ([], refl)

six : (a b c d e f : List ℕ) → Ended (a ++ (b ++ (c ++ (d ++ (e ++ (f ++ codes "\n"))))))
six a b c d e f = behind a _ (behind b _ (behind c _ (behind d _ (behind e _ (behind f _ line_end)))))

domain_ended : (s : Cells) (n : Name) (kind : DomainKind) → Ended (domain_line s n kind)
domain_ended s n (kinds.Rectangular rank) =
    six (codes "rect ") n (codes " ") (rectangle_text (unwrap_or (ranges_in (get s (Shape n))) [])) (codes " ")
    (mapping_text (unwrap_or (mapping_in (get s (MappingCell n))) whole))
domain_ended s n (kinds.Sparse parent rank) = six (codes "sparse ") n (codes " of ") parent (codes " ") (set_text (members s n))
domain_ended s n (kinds.Associative type) = six (codes "assoc ") n (codes " of ") (type_text type) (codes " ") (set_text (members s n))

array_ended : (a d : Name) (xs : List ℤ) (irv : Option ℤ) → Ended (array_line a d xs irv)
array_ended a d xs irv = behind (codes "array ") _ (six a (codes " over ") d (codes " ") (integers_text xs) (implicit_text irv))

line_ended : (s : Cells) (n : Name) (o : Option Value) → (text_of_object s n o ≡ []) ⊎ Ended (text_of_object s n o)
line_ended s n None = inl refl
line_ended s n (Some (Domain kind)) = inr (domain_ended s n kind)
line_ended s n (Some (Array d kind)) = inr (array_ended n d (elements_at s n (indices_in s d kind)) (implicit_in s n kind))
line_ended s n (Some (Ranges rs)) = inl refl
line_ended s n (Some (Mapping m)) = inl refl
line_ended s n (Some Present) = inl refl
line_ended s n (Some (Bound b)) = inl refl
line_ended s n (Some (Number z)) = inl refl

with_line : (front line : List ℕ) → Ended front → (line ≡ []) ⊎ Ended line → Ended (front ++ line)
with_line front line e (inl none) = subst Ended (sym (ap (λ l. front ++ l) none ∙ append-nil front)) e
with_line front line e (inr some) = behind front line some

lines_ended : (s : Cells) (front : List ℕ) (ns : List Name) → Ended front → Ended (front ++ flat_map (object_line s) ns)
lines_ended s front [] e = subst Ended (sym (append-nil front)) e
lines_ended s front (n ∷ ns) e =
    subst Ended (append_assoc front (object_line s n) (flat_map (object_line s) ns) ∙ sym (ap (λ t. front ++ t) (flat_map-cons (object_line s) n ns)))
    (lines_ended s (front ++ object_line s n) ns (with_line front (object_line s n) e (line_ended s n (get s (Object n)))))

-- the last line of it
abbrev pub count_line : List Numbered → List ℕ
count_line es = codes "history " ++ decimal (length es)

pub heading_last : (es : List Numbered) → (above : List ℕ) × (heading es ≡ above ++ 10 ∷ count_line es)
heading_last es =
    let s = replay (meant es) in
    let (above, e) = lines_ended s (codes "chapel-workbook 2\n") (objects s) (behind (codes "chapel-workbook 2") _ line_end) in (
      above,
      sym (append_assoc (codes "chapel-workbook 2\n") (objects_text s) (count_line es)) ∙ ap (λ t. t ++ count_line es) e ∙
          append_assoc above (10 ∷ []) (count_line es),
    )

pub count_unbroken : (es : List Numbered) → IsUnbroken (count_line es)
count_unbroken es =
    unbroken-append (codes "history ") _ (
      (λ e. omega (arith, e)),
      (
        (λ e. omega (arith, e)),
        (
          (λ e. omega (arith, e)),
          (
            (λ e. omega (arith, e)),
            ((λ e. omega (arith, e)), ((λ e. omega (arith, e)), ((λ e. omega (arith, e)), ((λ e. omega (arith, e)), tt)))),
          ),
        ),
      ),
    ) (unbroken_decimal (length es))

pub count_unmarked : (es : List Numbered) → marked_at (count_line es) ≡ None
count_unmarked es = refl
