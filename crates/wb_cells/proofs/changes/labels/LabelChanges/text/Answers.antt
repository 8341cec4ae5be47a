use Rattle.std.proofs.Common.{ℕ, List, map, sym, ap, subst, ◌∙◌}
use Rattle.std.specs.List.{All, slice_get}
use Rattle.wb_cells.specs.declared.changes.labels.LabelEntry.{LabelEntry}
use Rattle.wb_cells.specs.Labelled.{label_in, IsKept}
use Rattle.wb_cells.proofs.Labels.{texts_alone}
use Rattle.wb_cells.proofs.changes.labels.LabelChanges.text.Goals as goal

pub text_at-requires-clause-kept : goal.text_at-requires-clause-kept
text_at-requires-clause-kept c =
    subst (λ (xs : List LabelEntry). All (IsKept c.as_slice.result.now) xs) (sym c.as_slice-2.ensures.value)
    (subst (λ (bs : List ℕ). All (IsKept bs) c.self.inside.entries.items) (sym c.as_slice.ensures.value) c.self.invariant)

pub returns-clause-text : goal.returns-clause-text
returns-clause-text c =
    ap (λ ts. slice_get ts c.args.at)
    (sym (ap (λ w. map (λ e. e.0) w.1) c.self.view_is)
    ∙ texts_alone c.self.inside.bytes.items c.self.inside.entries.items
    ∙ ap (λ (bs : List ℕ). map (label_in bs) c.self.inside.entries.items) (sym c.as_slice.ensures.value)
    ∙ ap (λ (es : List LabelEntry). map (label_in c.as_slice.result.now) es) (sym c.as_slice-2.ensures.value))
    ∙ c.text_at.ensures.text
