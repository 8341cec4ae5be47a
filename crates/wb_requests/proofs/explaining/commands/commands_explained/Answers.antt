use Rattle.std.proofs.Common.{◌≡◌, ◌<◌, ◌∙◌, ◌-◌, suc, length, option_map, ap, arith}
use Rattle.wb_requests.specs.Explained.{at_place}
use Rattle.wb_requests.proofs.Told.{told_before}
use Rattle.wb_requests.proofs.explaining.commands.commands_explained.Goals as goal

pub loop-left-preserved : goal.loop-left-preserved
loop-left-preserved c =
    let k = c.loop-left.left - 1 in
    let low = c.loop-left-test.true in
    let high = c.loop-left.invariant.within in
    let below : k < length c.args.items.now = omega (arith, low, high) in
    let next : c.loop-left.left ≡ suc k = omega (arith, low) in
    record {
      told = c.least_of-wrong.ensures ∙ told_before c.args.items.now k c.loop-left.left c.index-items-left.result c.placed.result c.loop-left.wrong below next
          c.index-items-left.is (c.placed.ensures ∙ ap (option_map (at_place k)) c.in_ok-one.ensures) c.loop-left.invariant.told;
      within = omega (arith, high);
    }
