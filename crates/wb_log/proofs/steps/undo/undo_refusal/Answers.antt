use Rattle.std.proofs.Common.{Some, None, refl, sym, ap, ◌∙◌}
use Rattle.std.proofs.lemmas.Option.{slice_get-get_or}
use Rattle.wb_cells.specs.declared.cells.cell.Cell.TheVariants.{Element}
use Rattle.wb_footprints.specs.Footprints.{set_footprint}
use Rattle.wb_log.specs.Records.{cell_before, value_before}
use Rattle.wb_log.proofs.Entries.{refusal_is}
use Rattle.wb_log.proofs.steps.undo.undo_refusal.Goals as goal

pub returns-in-Some-first_to_meet-clause-refusal : goal.returns-in-Some-first_to_meet-clause-refusal
returns-in-Some-first_to_meet-clause-refusal c =
    let es = c.args.entries.now in
    let x = c.index-entries-at.result in
    let set = c.in-Some.set.0 in
    let was = c.in-Some.set.1 in
    let back = cell_before (Element set.array set.place) was in
    let kept = set_footprint set.array set.place (value_before was) in (
      x,
      slice_get-get_or es c.args.at x c.requires.in_log ∙ ap Some (sym c.index-entries-at.is),
      refusal_is es c.args.at x kept back (Some c.in-Some-first_to_meet.by) c.in-Some.ensures refl (c.in-Some-first_to_meet.ensures.first was),
    )

pub returns-in-None-first_to_meet-clause-refusal : goal.returns-in-None-first_to_meet-clause-refusal
returns-in-None-first_to_meet-clause-refusal c =
    let es = c.args.entries.now in
    let x = c.index-entries-at.result in
    let set = c.in-Some.set.0 in
    let was = c.in-Some.set.1 in
    let back = cell_before (Element set.array set.place) was in
    let kept = set_footprint set.array set.place (value_before was) in (
      x,
      slice_get-get_or es c.args.at x c.requires.in_log ∙ ap Some (sym c.index-entries-at.is),
      refusal_is es c.args.at x kept back None c.in-Some.ensures refl (c.in-None-first_to_meet.ensures.first was),
    )
