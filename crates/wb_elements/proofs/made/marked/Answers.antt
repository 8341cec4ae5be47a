use Rattle.std.proofs.Common.{◌≡◌, ℤ, Option, None, ap, ◌∙◌}
use Rattle.wb_arrays.specs.Elements.{value_at}
use Rattle.wb_cells.specs.Cells.{index_cmp}
use Rattle.wb_elements.specs.Piecewise.Changed.{changed_at, all_set}
use Rattle.wb_elements.specs.Piecewise.Marked.{marked_at}
use Rattle.wb_elements.proofs.Piecewise.Changed.{all_there, or_nothing}
use Rattle.wb_elements.proofs.made.marked.Goals as goal

pub returns-clause-elements : goal.returns-clause-elements
returns-clause-elements g c = λ i here.
    let f = g.I.AsIndex.as_index in
    let none : marked_at f c.in-Ok.marks.items i ≡ None = ap (λ ms. marked_at f ms i) c.in-Ok.ensures.items in
    c.in_ok-mark_all.ensures.elements i here
    ∙ ap (λ (o : Option ℤ). changed_at c.args.changes.now o i)
    (c.in_ok-mark_old.ensures.elements i here
    ∙ ap (λ (o : Option ℤ). changed_at (all_set c.args.old.now) o i) none
    ∙ all_there c.args.old.now None i c.requires
    ∙ or_nothing (value_at index_cmp c.args.old.now i))
