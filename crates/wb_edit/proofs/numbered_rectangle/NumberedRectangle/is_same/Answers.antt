use Rattle.std.proofs.Common.{◌≡◌, ℤ, List, sym, ap, ◌∙◌}
use Rattle.wb_cells.specs.Shapes.{Range}
use Rattle.wb_edit.proofs.numbered_rectangle.NumberedRectangle.is_same.Goals as goal

pub returns : goal.returns
returns c =
    let s : List Range × List ℤ = c.args.self.now in
    let o : List Range × List ℤ = c.args.other.now in (
      λ e.
          let both = c.are_same.ensures.0 e in
          let ranges : s.0 ≡ o.0 = sym c.ranges-on.ensures ∙ both.0 ∙ c.ranges-by.ensures in
          let numbers : s.1 ≡ o.1 = sym c.numbers.ensures.same ∙ both.1 ∙ c.numbers-2.ensures.same in
          λ i. (ranges i, numbers i),
      λ e. c.are_same.ensures.1 (
        c.ranges-on.ensures ∙ ap (λ x. x.0) e ∙ sym c.ranges-by.ensures,
        c.numbers.ensures.same ∙ ap (λ x. x.1) e ∙ sym c.numbers-2.ensures.same,
      ),
    )
