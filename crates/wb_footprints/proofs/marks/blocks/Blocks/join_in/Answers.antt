use Rattle.std.proofs.Common.{ℕ, Bool, ◌≤◌, ◌&&◌, false, length, refl, sym, ap, ◌∙◌, arith}
use Rattle.std.specs.List.{list_any}
use Rattle.wb_footprints.specs.declared.marks.blocks.MarkBlock.{MarkBlock}
use Rattle.wb_footprints.specs.Numbers.{numbered}
use Rattle.wb_footprints.specs.Indices.{in_indices}
use Rattle.wb_footprints.specs.Blocks.{in_blocks}
use Rattle.wb_footprints.proofs.AtPoints.{and_last}
use Rattle.wb_footprints.proofs.Joining.{none_joined, one_more, all_joined, joined_like}
use Rattle.wb_footprints.proofs.Meeting.{any_like, any_swap}
use Rattle.wb_footprints.proofs.marks.blocks.Blocks.join_in.Goals as goal

pub loop-block-init : goal.loop-block-init
loop-block-init c = none_joined c.args.waiting.now (λ n. false) c.args.after (λ n up. refl)

pub loop-block-preserved : goal.loop-block-preserved
loop-block-preserved c =
    let f : MarkBlock → ℕ → Bool = λ b n. list_any (in_indices b.indices) c.args.indices.now && numbered b.numbers n in
    let x = c.block-item.result in
    let is = rw c.deref-block-items.ensures.value at c.block-item.is in
    let below = rw c.deref-block-items.ensures.value at c.loop-block-test.true in
    one_more f c.args.after c.args.waiting.now c.loop-block.waiting c.join_in.new.waiting c.args.self.now.list.items c.loop-block.block-index x below (f x)
    (λ n. ap (λ b. f b n) (sym is)) c.loop-block.invariant c.in_ok-join_in.ensures

pub returns : goal.returns
returns c =
    let f : MarkBlock → ℕ → Bool = λ b n. list_any (in_indices b.indices) c.args.indices.now && numbered b.numbers n in
    let xs = c.args.self.now.list.items in
    let ps = c.args.indices.now in
    let test = rw c.deref-block-items.ensures.value at c.loop-block-test.false in
    let high : length xs ≤ c.loop-block.block-index = omega (arith, test) in
    joined_like c.args.waiting.now c.loop-block.waiting (λ n. list_any (λ b. f b n) xs) (λ n. list_any (λ p. in_blocks xs p n) ps) c.args.after
    (λ n. any_swap (λ p (b : MarkBlock). in_indices b.indices p && numbered b.numbers n) ps xs
    ∙ any_like (λ b. list_any (λ p. in_indices b.indices p && numbered b.numbers n) ps) (λ b. f b n) xs (λ b. and_last (numbered b.numbers n) (in_indices b.indices) ps))
    (all_joined f c.args.after c.args.waiting.now c.loop-block.waiting xs c.loop-block.block-index high c.loop-block.invariant)
