use Rattle.std.proofs.Common.{Some, option_map, sym, ap, ◌∙◌}
use Rattle.std.proofs.lemmas.Option.{slice_get-get_or}
use Rattle.wb_log.specs.Records.{lent_kept, lent_cells}
use Rattle.wb_log.proofs.Entries.{refusal_is}
use Rattle.wb_log.proofs.steps.undo.undo_refusal_listed.Goals as goal

pub returns-in-Some-first_to_block_undo-clause-refusal : goal.returns-in-Some-first_to_block_undo-clause-refusal
returns-in-Some-first_to_block_undo-clause-refusal c =
    let es = c.args.entries.now in
    let x = c.index-entries-at.result in (
      x,
      slice_get-get_or es c.args.at x c.requires.in_log ∙ ap Some (sym c.index-entries-at.is),
      refusal_is es c.args.at x (lent_kept c.in-Some.kept) (lent_cells c.cells.result) (Some c.in-Some-first_to_block_undo.by)
          (sym c.kept.ensures ∙ ap (option_map lent_kept) c.in-Some.is) c.cells.ensures c.in-Some-first_to_block_undo.ensures.first,
    )
