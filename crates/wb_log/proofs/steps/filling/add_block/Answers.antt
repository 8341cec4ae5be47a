use Rattle.std.proofs.Common.{◌≡◌, ◌≤◌, ℤ, Bool, if◌then◌else◌, List, ◌++◌, length, sym, ap, ◌∙◌, arith}
use Rattle.wb_cells.specs.Shapes.{Range, indices}
use Rattle.wb_log.proofs.Filled.{block_added}
use Rattle.wb_log.proofs.steps.filling.add_block.Goals as goal

pub returns-in-Elements : goal.returns-in-Elements
returns-in-Elements c = λ e.
    let block = c.args.block.now in
    let old = c.args.numbers.now.items in
    let more = c.numbers-in-Elements.result.now in
    let size : c.size.result ≡ length (indices block.ranges) =
    c.size.ensures.count ∙ ap (λ (rs : List Range). length (indices rs)) c.ranges-2.ensures in
    let count : length c.numbers.result.now ≡ length block.numbers.items = ap (λ (ns : List ℤ). length ns) c.numbers.ensures in
    block_added c.extend_from_slice.new.self.items old block.numbers.items block.row c.in-Elements.field-0 block.ranges
    (sym c.row.ensures ∙ c.in-Elements.is)
    (omega (arith, c.if-numbers-size.false, size, count))
    (c.extend_from_slice.ensures.items
    ∙ ap (λ (b : Bool). if b then old ++ more else old) (sym c.is_ok.ensures.value ∙ e)
    ∙ ap (λ (ns : List ℤ). old ++ ns) c.numbers-in-Elements.ensures)
