use Rattle.std.proofs.Common.{rules, ℕ, ◌≡◌, ◌<◌, false, length, get_or, set, sym, ap, ◌∙◌}
use Rattle.wb_footprints.specs.declared.marks.blocks.MarkBlock.{MarkBlock}
use Rattle.wb_footprints.specs.Numbers.{numbered}
use Rattle.wb_footprints.proofs.InBlocks.{number_less, bare_gone, renumbered}
use Rattle.wb_footprints.proofs.marks.blocks.Blocks.take_at.Goals as goal

pub returns-clause-others : goal.returns-clause-others
returns-clause-others c = λ p n other. number_less c.args.self.now.list.items c.args.place c.args.number c.index_mut.result.now c.take.new.self
    (search rules) (search rules) c.take.ensures p n other

pub returns-then-is_empty-clause-others : goal.returns-then-is_empty-clause-others
returns-then-is_empty-clause-others c = λ p n other.
    let xs = c.args.self.now.list.items in
    let i = c.args.place in
    let x = c.index.result.now in
    let b = c.index_mut.result.now in
    let zs = set xs i (renumbered b c.take.new.self) in
    let none : (k : ℕ) → numbered x.numbers k ≡ false = search rules in
    let is : x ≡ get_or zs i x = search rules in
    let l : i < length zs = search rules in
    bare_gone zs c.remove.new.self.items i x l (λ k. ap (λ (z : MarkBlock). numbered z.numbers k) (sym is) ∙ none k) c.remove.ensures.by_index.2 p n
    ∙ number_less xs i c.args.number b c.take.new.self (search rules) (search rules) c.take.ensures p n other
