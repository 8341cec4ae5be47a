use Rattle.std.proofs.Common.{map, sym, ◌∙◌, arith}
use Rattle.wb_text.specs.Said.{line_of}
use Rattle.wb_text.specs.FromLines.Told.{is_sound}
use Rattle.wb_text.proofs.FromLines.Steps.{all_pass, one_fails}
use Rattle.wb_text.proofs.value.told.put_lines.Goals as goal

pub returns-then-not-branch-clause-sound : goal.returns-then-not-branch-clause-sound
returns-then-not-branch-clause-sound c =
    sym (one_fails (is_sound (map line_of c.args.lines.now)) c.args.lines.now c.loop-line.line-index c.line-item.result c.loop-line-test.true c.line-item.is
    (sym c.in_ok-put_line.ensures.sound ∙ c.if-not-branch.true))

pub returns-clause-sound : goal.returns-clause-sound
returns-clause-sound c =
    sym (all_pass (is_sound (map line_of c.args.lines.now)) c.args.lines.now c.loop-line.line-index (omega arith) c.loop-line.invariant.sound)
