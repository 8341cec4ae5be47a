use Rattle.std.proofs.Common.{map, sym, ap, List, ◌∙◌}
use Rattle.std.specs.List.{slice_get}
use Rattle.wb_cells.specs.declared.changes.labels.LabelEntry.{LabelEntry}
use Rattle.wb_cells.specs.Labelled.{number_in}
use Rattle.wb_cells.proofs.Labels.{numbers_alone}
use Rattle.wb_cells.proofs.changes.labels.LabelChanges.number.Goals as goal

pub returns : goal.returns
returns c =
    ap (λ ns. slice_get ns c.args.at)
    (sym (ap (λ w. map (λ e. e.1) w.1) c.self.view_is)
    ∙ numbers_alone c.self.inside.bytes.items c.self.inside.entries.items
    ∙ ap (λ (es : List LabelEntry). map number_in es) (sym c.as_slice.ensures.value))
    ∙ c.number_at.ensures
