-- A pattern names a cell where it stands at the place of the cell or of its family.
use Rattle.std.proofs.Common.{◌≡◌, Bool, true, false, ◌&&◌, ◌||◌, refl, sym, ◌∙◌}
use Rattle.std.specs.Ordering.{is_eq, ordering_then}
use Rattle.std.specs.declared.cmp.Ordering.{Ordering}
use Rattle.std.specs.declared.cmp.Ordering.TheVariants.{Less, Equal, Greater}
use Rattle.wb_cells.specs.declared.cells.cell.Cell.{Cell}
use Rattle.wb_cells.specs.declared.cells.cell.Cell.TheVariants as c
use Rattle.wb_cells.specs.declared.cells.pattern.Pattern.{Pattern}
use Rattle.wb_cells.specs.declared.cells.pattern.Pattern.TheVariants as p
use Rattle.wb_cells.specs.Cells.{matches}
use Rattle.wb_footprints.specs.Places.{own, place_of, is_same_place, is_family}

and_false : (a : Bool) → a && false ≡ false
and_false true = refl
and_false false = refl

and_true : (a : Bool) → a && true ≡ a
and_true true = refl
and_true false = refl

or_false : (a : Bool) → a || false ≡ a
or_false true = refl
or_false false = refl

tie_both : (o q : Ordering) → is_eq (ordering_then o q) ≡ is_eq o && is_eq q
tie_both Less q = refl
tie_both Equal q = refl
tie_both Greater q = refl

pub same_one : (x y : Cell) → matches (p.One x) y ≡ is_same_place (own x) (own y)
same_one (c.Object m) (c.Object n) = simp (and_false, and_true, or_false, tie_both)
same_one (c.Object m) (c.Shape n) = simp (and_false, and_true, or_false, tie_both)
same_one (c.Object m) (c.In n j) = simp (and_false, and_true, or_false, tie_both)
same_one (c.Object m) (c.Member n j) = simp (and_false, and_true, or_false, tie_both)
same_one (c.Object m) (c.Mapping n) = simp (and_false, and_true, or_false, tie_both)
same_one (c.Object m) (c.Use n j) = simp (and_false, and_true, or_false, tie_both)
same_one (c.Object m) (c.Implicit n) = simp (and_false, and_true, or_false, tie_both)
same_one (c.Object m) (c.Element n j) = simp (and_false, and_true, or_false, tie_both)
same_one (c.Shape m) (c.Object n) = simp (and_false, and_true, or_false, tie_both)
same_one (c.Shape m) (c.Shape n) = simp (and_false, and_true, or_false, tie_both)
same_one (c.Shape m) (c.In n j) = simp (and_false, and_true, or_false, tie_both)
same_one (c.Shape m) (c.Member n j) = simp (and_false, and_true, or_false, tie_both)
same_one (c.Shape m) (c.Mapping n) = simp (and_false, and_true, or_false, tie_both)
same_one (c.Shape m) (c.Use n j) = simp (and_false, and_true, or_false, tie_both)
same_one (c.Shape m) (c.Implicit n) = simp (and_false, and_true, or_false, tie_both)
same_one (c.Shape m) (c.Element n j) = simp (and_false, and_true, or_false, tie_both)
same_one (c.In m i) (c.Object n) = simp (and_false, and_true, or_false, tie_both)
same_one (c.In m i) (c.Shape n) = simp (and_false, and_true, or_false, tie_both)
same_one (c.In m i) (c.In n j) = simp (and_false, and_true, or_false, tie_both)
same_one (c.In m i) (c.Member n j) = simp (and_false, and_true, or_false, tie_both)
same_one (c.In m i) (c.Mapping n) = simp (and_false, and_true, or_false, tie_both)
same_one (c.In m i) (c.Use n j) = simp (and_false, and_true, or_false, tie_both)
same_one (c.In m i) (c.Implicit n) = simp (and_false, and_true, or_false, tie_both)
same_one (c.In m i) (c.Element n j) = simp (and_false, and_true, or_false, tie_both)
same_one (c.Member m i) (c.Object n) = simp (and_false, and_true, or_false, tie_both)
same_one (c.Member m i) (c.Shape n) = simp (and_false, and_true, or_false, tie_both)
same_one (c.Member m i) (c.In n j) = simp (and_false, and_true, or_false, tie_both)
same_one (c.Member m i) (c.Member n j) = simp (and_false, and_true, or_false, tie_both)
same_one (c.Member m i) (c.Mapping n) = simp (and_false, and_true, or_false, tie_both)
same_one (c.Member m i) (c.Use n j) = simp (and_false, and_true, or_false, tie_both)
same_one (c.Member m i) (c.Implicit n) = simp (and_false, and_true, or_false, tie_both)
same_one (c.Member m i) (c.Element n j) = simp (and_false, and_true, or_false, tie_both)
same_one (c.Mapping m) (c.Object n) = simp (and_false, and_true, or_false, tie_both)
same_one (c.Mapping m) (c.Shape n) = simp (and_false, and_true, or_false, tie_both)
same_one (c.Mapping m) (c.In n j) = simp (and_false, and_true, or_false, tie_both)
same_one (c.Mapping m) (c.Member n j) = simp (and_false, and_true, or_false, tie_both)
same_one (c.Mapping m) (c.Mapping n) = simp (and_false, and_true, or_false, tie_both)
same_one (c.Mapping m) (c.Use n j) = simp (and_false, and_true, or_false, tie_both)
same_one (c.Mapping m) (c.Implicit n) = simp (and_false, and_true, or_false, tie_both)
same_one (c.Mapping m) (c.Element n j) = simp (and_false, and_true, or_false, tie_both)
same_one (c.Use m i) (c.Object n) = simp (and_false, and_true, or_false, tie_both)
same_one (c.Use m i) (c.Shape n) = simp (and_false, and_true, or_false, tie_both)
same_one (c.Use m i) (c.In n j) = simp (and_false, and_true, or_false, tie_both)
same_one (c.Use m i) (c.Member n j) = simp (and_false, and_true, or_false, tie_both)
same_one (c.Use m i) (c.Mapping n) = simp (and_false, and_true, or_false, tie_both)
same_one (c.Use m i) (c.Use n j) = simp (and_false, and_true, or_false, tie_both)
same_one (c.Use m i) (c.Implicit n) = simp (and_false, and_true, or_false, tie_both)
same_one (c.Use m i) (c.Element n j) = simp (and_false, and_true, or_false, tie_both)
same_one (c.Implicit m) (c.Object n) = simp (and_false, and_true, or_false, tie_both)
same_one (c.Implicit m) (c.Shape n) = simp (and_false, and_true, or_false, tie_both)
same_one (c.Implicit m) (c.In n j) = simp (and_false, and_true, or_false, tie_both)
same_one (c.Implicit m) (c.Member n j) = simp (and_false, and_true, or_false, tie_both)
same_one (c.Implicit m) (c.Mapping n) = simp (and_false, and_true, or_false, tie_both)
same_one (c.Implicit m) (c.Use n j) = simp (and_false, and_true, or_false, tie_both)
same_one (c.Implicit m) (c.Implicit n) = simp (and_false, and_true, or_false, tie_both)
same_one (c.Implicit m) (c.Element n j) = simp (and_false, and_true, or_false, tie_both)
same_one (c.Element m i) (c.Object n) = simp (and_false, and_true, or_false, tie_both)
same_one (c.Element m i) (c.Shape n) = simp (and_false, and_true, or_false, tie_both)
same_one (c.Element m i) (c.In n j) = simp (and_false, and_true, or_false, tie_both)
same_one (c.Element m i) (c.Member n j) = simp (and_false, and_true, or_false, tie_both)
same_one (c.Element m i) (c.Mapping n) = simp (and_false, and_true, or_false, tie_both)
same_one (c.Element m i) (c.Use n j) = simp (and_false, and_true, or_false, tie_both)
same_one (c.Element m i) (c.Implicit n) = simp (and_false, and_true, or_false, tie_both)
same_one (c.Element m i) (c.Element n j) = simp (and_false, and_true, or_false, tie_both)

pub no_family : (x y : Cell) → is_family (own x) y ≡ false
no_family (c.Object m) (c.Object n) = refl
no_family (c.Object m) (c.Shape n) = refl
no_family (c.Object m) (c.In n j) = refl
no_family (c.Object m) (c.Member n j) = simp and_false
no_family (c.Object m) (c.Mapping n) = refl
no_family (c.Object m) (c.Use n j) = simp and_false
no_family (c.Object m) (c.Implicit n) = refl
no_family (c.Object m) (c.Element n j) = simp and_false
no_family (c.Shape m) (c.Object n) = refl
no_family (c.Shape m) (c.Shape n) = refl
no_family (c.Shape m) (c.In n j) = refl
no_family (c.Shape m) (c.Member n j) = simp and_false
no_family (c.Shape m) (c.Mapping n) = refl
no_family (c.Shape m) (c.Use n j) = simp and_false
no_family (c.Shape m) (c.Implicit n) = refl
no_family (c.Shape m) (c.Element n j) = simp and_false
no_family (c.In m i) (c.Object n) = refl
no_family (c.In m i) (c.Shape n) = refl
no_family (c.In m i) (c.In n j) = refl
no_family (c.In m i) (c.Member n j) = simp and_false
no_family (c.In m i) (c.Mapping n) = refl
no_family (c.In m i) (c.Use n j) = simp and_false
no_family (c.In m i) (c.Implicit n) = refl
no_family (c.In m i) (c.Element n j) = simp and_false
no_family (c.Member m i) (c.Object n) = refl
no_family (c.Member m i) (c.Shape n) = refl
no_family (c.Member m i) (c.In n j) = refl
no_family (c.Member m i) (c.Member n j) = simp and_false
no_family (c.Member m i) (c.Mapping n) = refl
no_family (c.Member m i) (c.Use n j) = simp and_false
no_family (c.Member m i) (c.Implicit n) = refl
no_family (c.Member m i) (c.Element n j) = simp and_false
no_family (c.Mapping m) (c.Object n) = refl
no_family (c.Mapping m) (c.Shape n) = refl
no_family (c.Mapping m) (c.In n j) = refl
no_family (c.Mapping m) (c.Member n j) = simp and_false
no_family (c.Mapping m) (c.Mapping n) = refl
no_family (c.Mapping m) (c.Use n j) = simp and_false
no_family (c.Mapping m) (c.Implicit n) = refl
no_family (c.Mapping m) (c.Element n j) = simp and_false
no_family (c.Use m i) (c.Object n) = refl
no_family (c.Use m i) (c.Shape n) = refl
no_family (c.Use m i) (c.In n j) = refl
no_family (c.Use m i) (c.Member n j) = simp and_false
no_family (c.Use m i) (c.Mapping n) = refl
no_family (c.Use m i) (c.Use n j) = simp and_false
no_family (c.Use m i) (c.Implicit n) = refl
no_family (c.Use m i) (c.Element n j) = simp and_false
no_family (c.Implicit m) (c.Object n) = refl
no_family (c.Implicit m) (c.Shape n) = refl
no_family (c.Implicit m) (c.In n j) = refl
no_family (c.Implicit m) (c.Member n j) = simp and_false
no_family (c.Implicit m) (c.Mapping n) = refl
no_family (c.Implicit m) (c.Use n j) = simp and_false
no_family (c.Implicit m) (c.Implicit n) = refl
no_family (c.Implicit m) (c.Element n j) = simp and_false
no_family (c.Element m i) (c.Object n) = refl
no_family (c.Element m i) (c.Shape n) = refl
no_family (c.Element m i) (c.In n j) = refl
no_family (c.Element m i) (c.Member n j) = simp and_false
no_family (c.Element m i) (c.Mapping n) = refl
no_family (c.Element m i) (c.Use n j) = simp and_false
no_family (c.Element m i) (c.Implicit n) = refl
no_family (c.Element m i) (c.Element n j) = simp and_false

pub named : (q : Pattern) (y : Cell) → matches q y ≡ (is_same_place (place_of q) (own y) || is_family (place_of q) y)
named (p.One x) y = same_one x y ∙ rw (no_family x y) (sym (or_false (is_same_place (own x) (own y))))
named p.Objects (c.Object n) = refl
named p.Objects (c.Shape n) = refl
named p.Objects (c.In n j) = refl
named p.Objects (c.Member n j) = refl
named p.Objects (c.Mapping n) = refl
named p.Objects (c.Use n j) = refl
named p.Objects (c.Implicit n) = refl
named p.Objects (c.Element n j) = refl
named (p.Members d) (c.Object n) = simp (and_false, and_true, or_false)
named (p.Members d) (c.Shape n) = simp (and_false, and_true, or_false)
named (p.Members d) (c.In n j) = simp (and_false, and_true, or_false)
named (p.Members d) (c.Member n j) = simp (and_false, and_true, or_false)
named (p.Members d) (c.Mapping n) = simp (and_false, and_true, or_false)
named (p.Members d) (c.Use n j) = simp (and_false, and_true, or_false)
named (p.Members d) (c.Implicit n) = simp (and_false, and_true, or_false)
named (p.Members d) (c.Element n j) = simp (and_false, and_true, or_false)
named (p.Uses d) (c.Object n) = simp (and_false, and_true, or_false)
named (p.Uses d) (c.Shape n) = simp (and_false, and_true, or_false)
named (p.Uses d) (c.In n j) = simp (and_false, and_true, or_false)
named (p.Uses d) (c.Member n j) = simp (and_false, and_true, or_false)
named (p.Uses d) (c.Mapping n) = simp (and_false, and_true, or_false)
named (p.Uses d) (c.Use n j) = simp (and_false, and_true, or_false)
named (p.Uses d) (c.Implicit n) = simp (and_false, and_true, or_false)
named (p.Uses d) (c.Element n j) = simp (and_false, and_true, or_false)
named (p.Elements d) (c.Object n) = simp (and_false, and_true, or_false)
named (p.Elements d) (c.Shape n) = simp (and_false, and_true, or_false)
named (p.Elements d) (c.In n j) = simp (and_false, and_true, or_false)
named (p.Elements d) (c.Member n j) = simp (and_false, and_true, or_false)
named (p.Elements d) (c.Mapping n) = simp (and_false, and_true, or_false)
named (p.Elements d) (c.Use n j) = simp (and_false, and_true, or_false)
named (p.Elements d) (c.Implicit n) = simp (and_false, and_true, or_false)
named (p.Elements d) (c.Element n j) = simp (and_false, and_true, or_false)
