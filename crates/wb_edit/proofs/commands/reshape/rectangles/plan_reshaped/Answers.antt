use Rattle.std.proofs.Common.{◌≡◌, List, Some, slice_get, subst, ◌∙◌}
use Rattle.wb_cells.specs.declared.values.index.Index.{Index}
use Rattle.wb_cells.specs.Shapes.{indices}
use Rattle.wb_reshape.specs.Resized.{without}
use Rattle.wb_edit.proofs.Exchanges.{apart_without}
use Rattle.wb_edit.proofs.commands.reshape.rectangles.plan_reshaped.Goals as goal

pub plan_replaced-requires-clause-apart : goal.plan_replaced-requires-clause-apart
plan_replaced-requires-clause-apart c = λ p q x e f.
    let old : List Index = indices c.args.old.now in
    let new : List Index = indices c.args.new.now in
    let leaving : c.deref.result.now ≡ without new old = c.deref.ensures.value ∙ c.in-Ok.ensures.same in
    let coming : c.deref-2.result.now ≡ without old new = c.deref-2.ensures.value ∙ c.in-Ok-left_out.ensures.same in
    apart_without old new p q x (subst (λ (is : List Index). slice_get is p ≡ Some x) leaving e) (subst (λ (is : List Index). slice_get is q ≡ Some x) coming f)
