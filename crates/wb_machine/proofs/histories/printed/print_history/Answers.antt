use Rattle.wb_machine.proofs.HistoryTexts.Asked.{all_proper}
use Rattle.wb_machine.proofs.HistoryTexts.Below.{all_said}
use Rattle.wb_machine.proofs.histories.printed.print_history.Goals as goal
use Rattle.std.proofs.lemmas.Result.{on_ok_weaker}

pub returns-clause-said : goal.returns-clause-said
returns-clause-said c = on_ok_weaker c.print_history.result (all_said c.args.history.now.entries) c.print_history.ensures.json

pub returns-clause-asked : goal.returns-clause-asked
returns-clause-asked c =
    let es = c.args.history.now.entries in
    on_ok_weaker c.print_history.result (λ json asked. (c.book-legal.ensures.legal, all_said es json (all_proper es asked))) c.print_history.ensures.json
