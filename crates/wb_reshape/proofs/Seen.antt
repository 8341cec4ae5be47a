-- What a look at a pattern shows: the cells that it names, in their order, each with what it holds.
use Rattle.std.proofs.Common.{◌≡◌, Bool, true, false, cond, T, List, [], ◌∷◌, None, refl, sym, ap, subst, ◌∙◌, Ordering}
use Rattle.std.specs.Cmp.{Equal-is}
use Rattle.std.specs.Cmp.Lexicographic.{slice_cmp}
use Rattle.std.specs.FinMap.{get, find, entries, entries_sorted, retain_keys, get-entries, get-retain_keys, is_sorted}
use Rattle.std.specs.List.{AllByRecursion, filter}
use Rattle.std.specs.Ordering.{is_eq, is_lt, nat_cmp, ordering_then}
use Rattle.std.specs.declared.cmp.Ordering.TheVariants.{Less, Equal, Greater}
use Rattle.selective_undo.proofs.Evaluation.{entries-retain_keys}
use Rattle.wb_cells.specs.declared.cells.cell.Cell.{Cell}
use Rattle.wb_cells.specs.declared.cells.pattern.Pattern.{Pattern}
use Rattle.wb_cells.specs.declared.cells.value.Value.{Value}
use Rattle.wb_cells.specs.Cells.{Name, Cells, cell_cmp, cell_order, is_same_name, same_names, matches}
use Rattle.wb_cells.specs.Readers.{seen}

-- all of them are named
abbrev pub AreNamed : Pattern → List (Cell × Value) → Type 0
AreNamed p es = AllByRecursion (λ e. matches p e.0 ≡ true) es

filter_passes : (p : Cell → Bool) (es : List (Cell × Value)) → AllByRecursion (λ e. p e.0 ≡ true) (filter (λ e. p e.0) es)
filter_passes p [] = tt
filter_passes p (e ∷ es) =
    elim (p e.0) as
    (λ b. p e.0 ≡ b → AllByRecursion (λ x. p x.0 ≡ true) (cond b (e ∷ filter (λ x. p x.0) es) (filter (λ x. p x.0) es)))
    [ true ↦ λ is. (is, filter_passes p es) | false ↦ λ is. filter_passes p es ] refl

pub seen_named : (s : Cells) (p : Pattern) → AreNamed p (seen s p)
seen_named s p = subst (AreNamed p) (sym (entries-retain_keys cell_order s (matches p))) (filter_passes (matches p) (entries s))

pub seen_sorted : (s : Cells) (p : Pattern) → T (is_sorted cell_cmp (seen s p))
seen_sorted s p = entries_sorted (retain_keys s (matches p))

-- at a cell that is named, they show what it holds
pub find_seen : (s : Cells) (p : Pattern) (c : Cell) → matches p c ≡ true → find cell_cmp c (seen s p) ≡ get s c
find_seen s p c named =
    sym (get-entries (retain_keys s (matches p)) c)
    ∙ get-retain_keys s (matches p) c (λ x tie. ap (matches p) (sym (cell_order.strict c x tie)))
    ∙ ap (λ b. cond b (get s c) None) named

-- ---- cells of one name: they compare as what stands after the name

pub same_family : (d e f : Name) → is_same_name d e ≡ true → is_same_name d f ≡ true → slice_cmp nat_cmp e f ≡ Equal
same_family d e f p q =
    let one : d ≡ e = same_names d e ((Equal-is _).0 p) in
    let two : d ≡ f = same_names d f ((Equal-is _).0 q) in
    subst (λ (n : Name). slice_cmp nat_cmp n f ≡ Equal) one ((Equal-is _).0 q)

pub second_less : (o r : Ordering) → o ≡ Equal → T (is_lt (ordering_then o r)) → r ≡ Less
second_less Equal Less e p = refl
second_less Equal Equal e p = absurd p
second_less Equal Greater e p = absurd p
second_less Less r e p = cc
second_less Greater r e p = cc

pub second_tie : (o r : Ordering) → o ≡ Equal → is_eq (ordering_then o r) ≡ is_eq r
second_tie Equal r e = refl
second_tie Less r e = cc
second_tie Greater r e = cc
