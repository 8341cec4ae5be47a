use Rattle.std.proofs.Common.{sym, ap, subst, ◌∙◌}
use Rattle.std.specs.FinMap.{retain_keys}
use Rattle.std.proofs.lemmas.Result.{IfOk-weaker}
use Rattle.selective_undo.specs.Changes.{apply, AllOnce}
use Rattle.wb_cells.specs.Cells.{Changes, cell_cmp, matches}
use Rattle.wb_cells.specs.Readers.{seen}
use Rattle.wb_layers.specs.Places.{IsFamily}
use Rattle.wb_layers.proofs.Shown.{seen_family}
use Rattle.wb_layers.proofs.layer.Layer.over.Goals as goal

pub over-requires : goal.over-requires
over-requires c = subst (λ (own : Changes). AllOnce cell_cmp own) (sym c.deref-2.ensures.value) c.in_ok-own.ensures.once

pub returns : goal.returns
returns c = λ s shown.
    let p = c.args.pattern.now in
    let xs = c.self.inside.changes.items in
    let of = subst (λ (own : Changes). IsFamily p xs own) (sym c.deref-2.ensures.value)
    (subst (λ (ys : Changes). IsFamily p ys c.in_ok-own.own.items) c.deref.ensures.value c.in_ok-own.ensures) in
    IfOk-weaker c.over.result _ _
    (λ v is. is ∙ seen_family p s xs _ of ∙ ap (λ (ys : Changes). seen (apply ys s) p) c.self.view_is)
    (c.over.ensures (retain_keys s (matches p)) shown)
