use Rattle.std.proofs.Common.{sym, ◌+◌, subst}
use Rattle.std.proofs.lemmas.List.{take-append-drop}
use Rattle.wb_sessions.specs.Resuming.{IsUpToEnd}
use Rattle.wb_sessions.proofs.Opening.{up_to_end}
use Rattle.wb_sessions.proofs.resuming.parts.Goals as goal

pub returns-in-Some-clause-some : goal.returns-in-Some-clause-some
returns-in-Some-clause-some c =
    let place = c.in-Some.at in
    let bytes = c.args.bytes.now in (
      rw (c.split_at.ensures.front, c.split_at.ensures.back) (sym (take-append-drop (place + 5) bytes)),
      subst IsUpToEnd (sym c.split_at.ensures.front) (up_to_end bytes place c.in-Some.ensures),
    )
