use Rattle.std.proofs.Common.{is_ok}
use Rattle.wb_cells.proofs.Runs.{started_pushed}
use Rattle.wb_cells.proofs.changes.list.add_run.Goals as goal

pub returns-clause-started : goal.returns-clause-started
returns-clause-started c = λ n h e.
    started_pushed (is_ok c.push.result) c.args.runs.now.items c.push.new.self.items (record { start = c.args.start; form = c.args.form }) n
    c.push.ensures.items e h
