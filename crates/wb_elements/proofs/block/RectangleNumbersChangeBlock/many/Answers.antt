use Rattle.std.proofs.Common.{◌≡◌, ℤ, List, length, min, sym, ap, ◌∙◌}
use Rattle.wb_cells.specs.Shapes.{indices}
use Rattle.wb_elements.proofs.Blocks.{many_each}
use Rattle.wb_elements.proofs.block.RectangleNumbersChangeBlock.many.Goals as goal

pub returns : goal.returns
returns c =
    let b = c.args.self.now in
    let size : c.size.result ≡ length (indices b.ranges) = c.size.ensures.count ∙ ap (λ (rs : List (List ℤ)). length (indices rs)) c.ranges-2.ensures in
    c.lesser.ensures ∙ ap (λ n. min n (length c.numbers.result.now)) size ∙ ap (λ (ns : List ℤ). min (length (indices b.ranges)) (length ns)) c.numbers.ensures
    ∙ sym (many_each b.ranges b.numbers.items)
