-- The lines of a workbook tell the line of each name.
use Rattle.std.proofs.Common.{◌≡◌, Bool, true, false, cond, ◌||◌, List, [], ◌∷◌, Option, Some, None, is_some, refl, sym, ap, ◌∙◌, subst}
use Rattle.std.specs.Cmp.{Equal-is, eq_by_cmp_equiv}
use Rattle.std.specs.Cmp.Lexicographic.{nat_list_cmp_total}
use Rattle.std.specs.FinMap.{get, keys, contains_key-keys}
use Rattle.std.specs.List.{cons_option, filter_map, list_any}
use Rattle.std.specs.Ordering.{eq_by_cmp}
use Rattle.wb_cells.specs.declared.cells.cell.Cell.{Cell}
use Rattle.wb_cells.specs.declared.cells.cell.Cell.TheVariants.{Object}
use Rattle.wb_cells.specs.declared.cells.kind.DomainKind.TheVariants.{Rectangular, Sparse, Associative}
use Rattle.wb_cells.specs.declared.cells.value.Value.{Value}
use Rattle.wb_cells.specs.declared.cells.value.Value.TheVariants as values
use Rattle.wb_cells.specs.Cells.{Name, Cells, cell_cmp, is_same_name, same_names}
use Rattle.wb_cells.specs.Readers.{object_of, objects}
use Rattle.wb_text.specs.Said.{Line, name_of, first_line_of, said_in, said_of, said}

abbrev pub IsNamed : Name → Option Line → Type 0
IsNamed n None = Unit {0}
IsNamed n (Some l) = name_of l ≡ n

pub said_named : (s : Cells) (n : Name) (v : Option Value) → IsNamed n (said_in s n v)
said_named s n None = tt
said_named s n (Some (values.Domain (Rectangular rank))) = refl
said_named s n (Some (values.Domain (Sparse parent rank))) = refl
said_named s n (Some (values.Domain (Associative type))) = refl
said_named s n (Some (values.Array d kind)) = refl
said_named s n (Some v) = tt

itself : (n : Name) → is_same_name n n ≡ true
itself n = (eq_by_cmp_equiv nat_list_cmp_total).refl n

never : (b : Bool) → cond {A = Option Line} b None None ≡ None
never true = refl
never false = refl

its_own : (n : Name) (o : Option Line) (ls : List Line) (b : Bool) → IsNamed n o → first_line_of n ls ≡ cond b o None → first_line_of n (cons_option o ls) ≡ o
its_own n None ls b h e = e ∙ never b
its_own n (Some l) ls b h e =
    ap (λ k. cond (is_same_name n k) (Some l) (first_line_of n ls)) h ∙ ap (λ t. cond t (Some l) (first_line_of n ls)) (itself n)

another : (n m : Name) (o : Option Line) (ls : List Line) → is_same_name n m ≡ false → IsNamed m o → first_line_of n (cons_option o ls) ≡ first_line_of n ls
another n m None ls f h = refl
another n m (Some l) ls f h = ap (λ k. cond (is_same_name n k) (Some l) (first_line_of n ls)) h ∙ ap (λ t. cond t (Some l) (first_line_of n ls)) f

found : (s : Cells) (n : Name) (ns : List Name) → first_line_of n (filter_map (said_of s) ns) ≡ cond (list_any (is_same_name n) ns) (said_of s n) None
found s n [] = refl
found s n (m ∷ ns) =
    let rest : List Line = filter_map (said_of s) ns in
    elim (is_same_name n m) as (λ b. is_same_name n m ≡ b → first_line_of n (cons_option (said_of s m) rest) ≡ cond (b || list_any (is_same_name n) ns)
    (said_of s n) None) [
      | true ↦ λ e.
          subst (λ k. first_line_of n (cons_option (said_of s k) rest) ≡ said_of s n) (same_names n m ((Equal-is _).0 e))
          (its_own n (said_of s n) rest (list_any (is_same_name n) ns) (said_named s n (get s (Object n))) (found s n ns))
      | false ↦ λ e. another n m (said_of s m) rest e (said_named s m (get s (Object m))) ∙ found s n ns
    ] refl

objects_any : (n : Name) (ks : List Cell) → list_any (is_same_name n) (filter_map object_of ks) ≡ list_any (eq_by_cmp cell_cmp (Object n)) ks
objects_any n [] = refl
objects_any n (Object m ∷ ks) = ap (λ b. is_same_name n m || b) (objects_any n ks)
objects_any n (c ∷ ks) = objects_any n ks

by_value : (s : Cells) (n : Name) (o : Option Value) → cond (is_some o) (said_in s n o) None ≡ said_in s n o
by_value s n None = refl
by_value s n (Some v) = refl

pub line_of_name : (s : Cells) (n : Name) → first_line_of n (said s) ≡ said_of s n
line_of_name s n =
    found s n (objects s)
    ∙ ap (λ b. cond b (said_of s n) None) (objects_any n (keys s) ∙ sym (contains_key-keys s (Object n)))
    ∙ by_value s n (get s (Object n))

-- where the lines are the same, so is the line of each name
pub same_line : (s t : Cells) → said s ≡ said t → (n : Name) → said_of s n ≡ said_of t n
same_line s t e n = sym (line_of_name s n) ∙ ap (first_line_of n) e ∙ line_of_name t n
