use Rattle.std.proofs.Common.{◌≡◌, Some, None, sym, ap, ◌∙◌}
use Rattle.std.specs.BTreeMap.{BTreeMap, is_at}
use Rattle.std.specs.Map.{lookup}
use Rattle.std.specs.Option.{option_and_then}
use Rattle.wb_cells.specs.Cells.{Name, index_cmp}
use Rattle.wb_book.specs.Kept.{Pieced, array_in}
use Rattle.wb_book.proofs.Replaced.{stays}
use Rattle.wb_book.proofs.Written.{array_in-written, array_in-none}
use Rattle.wb_book.proofs.keep.replace.Goals as goal

pub returns-in-Some-clause-was : goal.returns-in-Some-clause-was
returns-in-Some-clause-was c =
    let found : array_in c.args.arrays.now.entries c.args.array.now ≡ Some c.in-Some.elements.now = sym c.in-Some.ensures.value in
    c.replace_in.ensures.was ∙ ap (option_and_then (λ x. lookup (is_at (index_cmp c.args.index.now)) x.0)) (sym found)

pub returns-in-Some-clause-arrays : goal.returns-in-Some-clause-arrays
returns-in-Some-clause-arrays c = λ b.
    let p : Pieced = c.in-Some.elements.now in
    let found : array_in c.args.arrays.now.entries c.args.array.now ≡ Some p = sym c.in-Some.ensures.value in
    ap (λ es. array_in es b) (c.get_mut.follows.holds c.replace_in.new.elements).0
    ∙ array_in-written c.args.arrays.now.entries c.args.array.now b c.replace_in.new.elements p c.args.index.now c.args.value.now found
    c.replace_in.ensures.elements

pub returns-in-None-clause-arrays : goal.returns-in-None-clause-arrays
returns-in-None-clause-arrays c = λ b.
    let none : array_in c.args.arrays.now.entries c.args.array.now ≡ None = sym c.in-None.ensures.value in
    ap (λ (m : BTreeMap Name Pieced). array_in m.entries b) c.get_mut.follows.holds-at-none
    ∙ array_in-none c.args.arrays.now.entries c.args.array.now b c.args.index.now c.args.value.now none

pub returns-in-Some-clause-none : goal.returns-in-Some-clause-none
returns-in-Some-clause-none c =
    let p : Pieced = c.in-Some.elements.now in
    let found : array_in c.args.arrays.now.entries c.args.array.now ≡ Some p = sym c.in-Some.ensures.value in
    stays c.args.arrays.now.entries _ c.args.array.now c.args.index.now c.args.value.now p c.replace_in.new.elements c.replace_in.result c.replace_in.ensures.was found
    c.replace_in.ensures.elements (c.get_mut.follows.holds c.replace_in.new.elements).0
