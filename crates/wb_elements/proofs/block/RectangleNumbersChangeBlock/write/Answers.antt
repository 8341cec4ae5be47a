use Rattle.std.proofs.Common.{◌≡◌, ℤ, List, length, sym, ap, ◌∙◌}
use Rattle.std.specs.List.{zip}
use Rattle.std.specs.Map.{keys_of}
use Rattle.wb_elements.proofs.Blocks.{numbered_is}
use Rattle.wb_elements.proofs.block.RectangleNumbersChangeBlock.write.Goals as goal

pub returns-clause-done : goal.returns-clause-done
returns-clause-done c = λ h.
    let b = c.args.self.now in
    let es = c.args.elements.now.0 in
    let many : length b.numbers.items ≡ length es = ap length (sym c.numbers.ensures) ∙ c.set_numbers.ensures.many h in
    c.set_numbers.ensures.done h ∙ ap (λ (ns : List ℤ). zip (keys_of es) ns) c.numbers.ensures
    ∙ sym (numbered_is es b.ranges b.numbers.items c.len-ascending.ensures.ascending c.requires.ranged many)
