use Rattle.std.proofs.Common.{◌≡◌, suc, ◌+◌, ◌-◌, ◌<◌, length, map, drop, arith}
use Rattle.wb_text.specs.Said.{line_of}
use Rattle.wb_reading.proofs.Linewise.{alone, line_more}
use Rattle.wb_reading.proofs.workbook.arrays.arrays_told.Goals as goal

pub loop-done-preserved : goal.loop-done-preserved
loop-done-preserved c =
    let xs = c.args.lines.now in
    let k = length xs - 1 - c.loop-done.done in
    let j = length xs - c.loop-done.done in
    let i = length xs - (c.loop-done.done + 1) in
    let low : k < length xs = omega arith in
    let next : j ≡ suc k = omega arith in
    let same : i ≡ k = omega arith in
    let x = c.index-lines-place.result in
    line_more xs k j i x (map line_of xs) c.put_array.new.arrays.entries low next same c.index-lines-place.is
    (c.in_ok-put_array.ensures (map line_of (drop j xs)) (alone xs k j x low next c.index-lines-place.is c.requires.distinct) c.loop-done.invariant)
