use Rattle.std.proofs.Common.{rules, ◌≡◌, Some, None, w64, sym, ap, ◌∙◌}
use Rattle.std.specs.BTreeMap.{BTreeMap, is_at}
use Rattle.std.specs.Map.{set_value}
use Rattle.std.proofs.lemmas.Int.{to_z-of_z}
use Rattle.wb_cells.specs.Cells.{Name, index_cmp}
use Rattle.wb_book.specs.Kept.{Pieced, array_in}
use Rattle.wb_book.proofs.Written.{array_in-written, array_in-none}
use Rattle.wb_book.proofs.keep.set_element.Goals as goal

pub returns-in-Some-clause-arrays : goal.returns-in-Some-clause-arrays
returns-in-Some-clause-arrays c = λ b.
    let p : Pieced = c.in-Some.elements.now in
    let i = c.args.index.now in
    let v = c.args.value.now in
    let found : array_in c.args.arrays.now.entries c.args.array.now ≡ Some p = sym c.in-Some.ensures.value in
    let value : c.set_near.new.self.0 ≡ set_value (is_at (index_cmp i)) p.0 v =
    c.set_near.ensures.elements ∙ ap (set_value (is_at (index_cmp i)) p.0) (to_z-of_z w64 v (search rules)) in
    let mapping : c.set_near.new.self.1 ≡ p.1 = c.set_near.ensures.mapping in
    let w : c.set_near.new.self ≡ (set_value (is_at (index_cmp i)) p.0 v, p.1) = λ k. (value k, mapping k) in
    ap (λ es. array_in es b) (c.get_mut.follows.holds c.set_near.new.self).0
    ∙ array_in-written c.args.arrays.now.entries c.args.array.now b c.set_near.new.self p i v found w

pub returns-in-None-clause-arrays : goal.returns-in-None-clause-arrays
returns-in-None-clause-arrays c = λ b.
    let none : array_in c.args.arrays.now.entries c.args.array.now ≡ None = sym c.in-None.ensures.value in
    ap (λ (m : BTreeMap Name Pieced). array_in m.entries b) c.get_mut.follows.holds-at-none
    ∙ array_in-none c.args.arrays.now.entries c.args.array.now b c.args.index.now c.args.value.now none
