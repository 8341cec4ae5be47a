use Rattle.std.proofs.Common.{rules, subst}
use Rattle.selective_undo.specs.History.{IsLegal}
use Rattle.wb_history.specs.Past.{Past, meant}
use Rattle.wb_lines.specs.Lines.{IsUnbroken}
use Rattle.wb_sessions.proofs.LinesLeft.{left_next, stops_at_line, stops_unended}
use Rattle.wb_sessions.proofs.Opening.{of_none}
use Rattle.wb_sessions.proofs.places.left_behind.Goals as goal

pub loop-line-preserved : goal.loop-line-preserved
loop-line-preserved g c =
    left_next c.args.below.now c.loop-line.left.now c.in-Some.line.now c.in-Some.rest.now c.loop-line.history.entries c.goes_on.new.history.entries
    c.loop-line.invariant c.in-Some.ensures.some.1 (c.in-Ok-true.ensures.taken c.in-Ok-true.field-0-test)

pub returns-in-Ok-false : goal.returns-in-Ok-false
returns-in-Ok-false g c =
    let left = c.loop-line.invariant in
    let line = c.in-Some.ensures.some in
    let told = c.in-Ok-false.ensures in
    let legal = subst (λ (p : Past). IsLegal (meant p.entries)) (told.stays c.in-Ok-false.field-0-test) c.book-legal.ensures.legal in
    stops_at_line c.args.below.now c.loop-line.left.now c.in-Some.line.now c.in-Some.rest.now c.loop-line.history.entries legal left.are_said left.same
    line.0 line.1 (told.none c.in-Ok-false.field-0-test)

pub returns : goal.returns
returns g c =
    let left = c.loop-line.invariant in
    stops_unended c.args.below.now c.loop-line.left.now c.loop-line.history.entries c.book-legal-2.ensures.legal left.are_said left.same
    (of_none c.first_line.result (IsUnbroken c.loop-line.left.now) (search rules) c.first_line.ensures.none)
