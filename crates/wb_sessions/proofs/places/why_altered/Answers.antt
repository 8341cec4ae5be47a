use Rattle.std.proofs.Common.{ap, codes, inr, refl}
use Rattle.std.specs.Cmp.Lexicographic.{other_text}
use Rattle.wb_sessions.specs.declared.reasons.Reason.TheVariants as reasons
use Rattle.wb_sessions.proofs.LinesLeft.{before_left, within}
use Rattle.wb_sessions.proofs.places.why_altered.Goals as goal

pub lines_before-requires : goal.lines_before-requires
lines_before-requires g c =
    let left = c.in-Ok.left.now in
    let front = before_left c.args.bytes.now c.in-Some.below.now left c.in-Some.ensures.some c.in-Ok.ensures in
    within c.args.bytes.now front.0 left front.1

pub returns-else-eq : goal.returns-else-eq
returns-else-eq g c =
    let left = c.in-Ok.left.now in
    let front = before_left c.args.bytes.now c.in-Some.below.now left c.in-Some.ensures.some c.in-Ok.ensures in
    let differs = other_text left (codes "end\n") c.if-eq.ensures in
    inr (
      c.in-Some.below.now,
      left,
      c.in-Some.ensures.some,
      c.in-Ok.ensures,
      inr (differs, (front.0, front.1, ap reasons.LineNotGranted (c.lines_before.ensures front.0 left front.1 refl))),
    )
