-- The text of a workbook is that of its lines, and two workbooks with one text have the same lines.
use Rattle.std.proofs.Common.{◌≡◌, ℕ, List, [], ◌∷◌, ◌++◌, codes, Option, Some, None, refl, sym, ap, ◌∙◌}
use Rattle.std.proofs.lemmas.List.{append_cancel_left}
use Rattle.std.specs.FinMap.{get}
use Rattle.std.specs.List.{cons_option, filter_map, flat_map}
use Rattle.wb_cells.specs.declared.cells.cell.Cell.TheVariants.{Object}
use Rattle.wb_cells.specs.declared.cells.kind.DomainKind.{DomainKind}
use Rattle.wb_cells.specs.declared.cells.kind.DomainKind.TheVariants.{Rectangular, Sparse, Associative}
use Rattle.wb_cells.specs.declared.cells.value.Value.{Value}
use Rattle.wb_cells.specs.declared.cells.value.Value.TheVariants.{Domain, Array}
use Rattle.wb_cells.specs.Cells.{Name, Cells}
use Rattle.wb_cells.specs.Readers.{objects}
use Rattle.wb_text.specs.Said.{Line, line_text, lines_text, domain_said, said_in, said_of, said}
use Rattle.wb_text.specs.Lines.{text_of_object, object_line, book_text}
use Rattle.wb_text.proofs.Readable.{Each}
use Rattle.wb_text.proofs.ReadLines.{IsLine, lines_read}

abbrev text_or_none : Option Line → List ℕ
text_or_none None = []
text_or_none (Some l) = line_text l

domain_text : (s : Cells) (n : Name) (kind : DomainKind) → text_of_object s n (Some (Domain kind)) ≡ line_text (domain_said s n kind)
domain_text s n (Rectangular rank) = refl
domain_text s n (Sparse parent rank) = refl
domain_text s n (Associative type) = refl

value_text : (s : Cells) (n : Name) (v : Option Value) → text_of_object s n v ≡ text_or_none (said_in s n v)
value_text s n None = refl
value_text s n (Some (Domain kind)) = domain_text s n kind
value_text s n (Some (Array d kind)) = refl
value_text s n (Some v) = refl

one_more : (o : Option Line) (ls : List Line) → text_or_none o ++ flat_map line_text ls ≡ flat_map line_text (cons_option o ls)
one_more None ls = refl
one_more (Some l) ls = refl

texts_of : (s : Cells) (ns : List Name) → flat_map (object_line s) ns ≡ flat_map line_text (filter_map (said_of s) ns)
texts_of s [] = refl
texts_of s (n ∷ ns) =
    ap (λ t. t ++ flat_map (object_line s) ns) (value_text s n (get s (Object n)))
    ∙ ap (λ t. text_or_none (said_of s n) ++ t) (texts_of s ns)
    ∙ one_more (said_of s n) (filter_map (said_of s) ns)

pub text_of_lines : (s : Cells) → book_text s ≡ codes "chapel-workbook 1\n" ++ lines_text (said s)
text_of_lines s = ap (λ t. codes "chapel-workbook 1\n" ++ (t ++ codes "end\n")) (texts_of s (objects s))

-- two workbooks with one text have the same lines, if each part of these may be written
pub same_lines : (s t : Cells) → Each IsLine (said s) → Each IsLine (said t) → book_text s ≡ book_text t → said s ≡ said t
same_lines s t h k e =
    lines_read (said s) (said t) h k (append_cancel_left (codes "chapel-workbook 1\n") (lines_text (said s)) (lines_text (said t))
    (sym (text_of_lines s) ∙ e ∙ text_of_lines t))
