use Rattle.std.proofs.Common.{◌≤◌, length, ap, ◌∙◌, rules}
use Rattle.std.proofs.lemmas.List.{take_all}
use Rattle.wb_kept_group.specs.Together.{changes_in}
use Rattle.wb_kept_group.proofs.journal.all_of.Goals as goal

pub returns : goal.returns
returns c =
    let done : length c.args.turns.now ≤ c.loop-turn.turn-index = search rules in
    c.loop-turn.invariant ∙ ap changes_in (take_all c.loop-turn.turn-index c.args.turns.now done)
