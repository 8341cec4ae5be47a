use Rattle.std.proofs.Common.{subst, sym, ◌∙◌, ◌++◌, ◌∷◌, []}
use Rattle.wb_history.specs.Restored.{one_of, BeginsNone}
use Rattle.wb_history.proofs.Restored.{counted_edit, counted_undone, refused_here}
use Rattle.wb_history.proofs.restore.put_in.Goals as goal

pub returns-in-Ok-clause-counted : goal.returns-in-Ok-clause-counted
returns-in-Ok-clause-counted g c =
    counted_edit c.args.history.now c.edit.new.self c.args.edit c.in-Ok.field-0 c.in-Ok.ensures.reply c.in-Ok.ensures.entries c.in-Ok.ensures.writes

pub returns-in-Err-clause-refused : goal.returns-in-Err-clause-refused
returns-in-Err-clause-refused g c = λ is.
    subst (λ b. BeginsNone (c.args.history.now.entries ++ one_of c.args.edit b ∷ [])) (sym c.if-in_force.true)
    (refused_here c.args.history.now.entries c.args.edit c.in-Err.why c.in-Err.ensures.reply (sym c.stopped.ensures ∙ is))

pub returns-in-Ok-append_undone-clause-counted : goal.returns-in-Ok-append_undone-clause-counted
returns-in-Ok-append_undone-clause-counted g c =
    counted_undone c.args.history.now c.append_undone.new.self c.args.edit c.in-Ok-append_undone.ensures.entries c.append_undone.ensures.writes
