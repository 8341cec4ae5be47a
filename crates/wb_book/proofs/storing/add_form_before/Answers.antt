use Rattle.std.proofs.Common.{◌++◌, sym, ap, ◌∙◌}
use Rattle.std.proofs.lemmas.List.{append-nil}
use Rattle.selective_undo.specs.Changes.{inverse, sets}
use Rattle.wb_cells.specs.Cells.{Changes, state_of}
use Rattle.wb_cells.specs.Runs.{changes_in}
use Rattle.wb_book.proofs.storing.add_form_before.Goals as goal

pub returns-then-sets_nothing : goal.returns-then-sets_nothing
returns-then-sets_nothing c =
    let none = ap (λ f. sets (changes_in f)) (sym c.form.ensures) ∙ c.sets_nothing.ensures c.if-sets_nothing.true in
    sym (ap (λ (ys : Changes). c.args.before.now ++ inverse ys (state_of c.args.cells.now)) none ∙ append-nil c.args.before.now)
