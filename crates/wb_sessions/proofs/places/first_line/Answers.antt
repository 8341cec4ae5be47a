use Rattle.std.proofs.Common.{◌++◌, ◌∙◌, Some, None, ap, sym, take}
use Rattle.wb_lines.specs.Lines.{ended}
use Rattle.wb_lines.proofs.Newlines.{found_end, found_none}
use Rattle.wb_sessions.proofs.places.first_line.Goals as goal

pub returns-in-Some-clause-some : goal.returns-in-Some-clause-some
returns-in-Some-clause-some c =
    let bytes = c.args.bytes.now in
    let found = found_end bytes (Some c.in-Some.at) c.in-Some.ensures in
    (found.1, found.2 ∙ ap (λ rest. ended (take c.in-Some.at bytes) ++ rest) (sym c.behind.ensures))

pub returns-in-None-clause-none : goal.returns-in-None-clause-none
returns-in-None-clause-none c = found_none c.args.bytes.now None c.in-None.ensures
