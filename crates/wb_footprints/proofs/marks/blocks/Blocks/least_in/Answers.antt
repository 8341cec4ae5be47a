use Rattle.std.proofs.Common.{◌≤◌, length, take, arith}
use Rattle.std.specs.List.{list_any}
use Rattle.wb_footprints.specs.Blocks.{in_blocks}
use Rattle.wb_footprints.proofs.AtPoints.{none_least, block_more, blocks_all}
use Rattle.wb_footprints.proofs.marks.blocks.Blocks.least_in.Goals as goal

pub loop-block-preserved : goal.loop-block-preserved
loop-block-preserved c =
    let xs = c.args.self.now.list.items in
    let i = c.loop-block.block-index in
    let ps = c.args.indices.now in
    let is = rw c.deref-block-items.ensures.value at c.block-item.is in
    let below = rw c.deref-block-items.ensures.value at c.loop-block-test.true in
    block_more xs i c.args.after c.block-item.result below c.block-item.result is ps c.or_first_in-first.result
    (c.or_first_in-first.ensures (λ n. list_any (λ p. in_blocks (take i xs) p n) ps) c.loop-block.invariant)

pub loop-block-init : goal.loop-block-init
loop-block-init c = none_least c.args.indices.now c.args.after

pub returns : goal.returns
returns c =
    let xs = c.args.self.now.list.items in
    let test = rw c.deref-block-items.ensures.value at c.loop-block-test.false in
    let high : length xs ≤ c.loop-block.block-index = omega (arith, test) in
    blocks_all xs c.loop-block.block-index c.args.after high c.args.indices.now c.loop-block.first c.loop-block.invariant
