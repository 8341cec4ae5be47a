use Rattle.std.proofs.Common.{◌≡◌, suc, ◌+◌, ◌-◌, ◌<◌, length, sym, ◌∙◌, arith}
use Rattle.wb_text.proofs.FromLines.Steps.{is_read, next_found, next_distinct, name_again}
use Rattle.wb_text.proofs.workbook.finding.places_of.Goals as goal

pub returns-in-Ok-Some-clause-distinct : goal.returns-in-Ok-Some-clause-distinct
returns-in-Ok-Some-clause-distinct c =
    let xs = c.args.lines.now in
    let k = length xs - 1 - c.loop-done.done in
    let j = length xs - c.loop-done.done in
    let low : k < length xs = omega arith in
    let next : j ≡ suc k = omega arith in
    let read = is_read xs k j c.index-lines-place.result c.name_of.result c.loop-done.places low next c.index-lines-place.is c.name_of.ensures
    c.loop-done.invariant.finds in
    sym (name_again xs k j c.in-Ok-Some.field-0-0 c.index-lines-place.result c.name_of.result c.loop-done.places read
    (sym c.in-Ok-Some.ensures.old ∙ c.in-Ok-Some.field-0-is))

pub loop-done-preserved : goal.loop-done-preserved
loop-done-preserved c =
    let xs = c.args.lines.now in
    let k = length xs - 1 - c.loop-done.done in
    let j = length xs - c.loop-done.done in
    let i = length xs - (c.loop-done.done + 1) in
    let low : k < length xs = omega arith in
    let next : j ≡ suc k = omega arith in
    let same : i ≡ k = omega arith in
    let read = is_read xs k j c.index-lines-place.result c.name_of.result c.loop-done.places low next c.index-lines-place.is c.name_of.ensures
    c.loop-done.invariant.finds in
    record {
      finds = next_found xs k j i c.index-lines-place.result c.name_of.result c.loop-done.places c.insert.new.self read same c.in-Ok-None.ensures.updates;
      distinct = next_distinct xs k j i c.index-lines-place.result c.name_of.result c.loop-done.places read same
          (sym c.in-Ok-None.ensures.old ∙ c.in-Ok-None.field-0-is) c.loop-done.invariant.distinct;
    }
