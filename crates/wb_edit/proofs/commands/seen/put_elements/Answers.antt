use Rattle.std.proofs.Common.{◌≡◌, ℤ, List, [], ◌∷◌, ◌++◌, Option, option_map, take, sym, ap, subst, ◌∙◌, append_assoc, false}
use Rattle.selective_undo.specs.Changes.{changes}
use Rattle.wb_cells.specs.declared.cells.cell.Cell.TheVariants.{Element}
use Rattle.wb_cells.specs.declared.cells.value.Value.TheVariants.{Number}
use Rattle.wb_cells.specs.declared.values.index.Index.{Index}
use Rattle.wb_cells.specs.Cells.{Changes, cell_cmp}
use Rattle.wb_edit.specs.Commands.{number_cells}
use Rattle.wb_edit.proofs.Becoming.{next_is_new, becomes_more}
use Rattle.wb_edit.proofs.commands.seen.put_elements.Goals as goal

pub change_indexed-requires : goal.change_indexed-requires
change_indexed-requires c =
    let es : List (Index × ℤ) = c.args.elements.now in
    let i = c.loop-e.e-index in
    let e : Index × ℤ = c.e-item.result in
    let a = c.args.array in
    let new = next_is_new a c.args.delta.now es i e c.requires.fresh c.requires.ascending c.loop-e-test.true in
    rw c.loop-e.invariant (subst (λ (x : Index × ℤ). changes cell_cmp (c.args.delta.now ++ number_cells a (take i es)) (Element a x.0) ≡ false)
    (sym c.e-item.is) new)

pub loop-e-preserved : goal.loop-e-preserved
loop-e-preserved c =
    let es : List (Index × ℤ) = c.args.elements.now in
    let i = c.loop-e.e-index in
    let e : Index × ℤ = c.e-item.result in
    let a = c.args.array in
    let old : Changes = c.args.delta.now in
    let before : Changes = number_cells a (take i es) in
    c.in_ok-change_indexed.ensures.ok
    ∙ ap (λ (n : Option ℤ). c.loop-e.delta ++ record { cell = Element a e.0; value = option_map (λ x. Number x) n } ∷ []) c.number_of.ensures
    ∙ rw c.loop-e.invariant (
    append_assoc old before (number_cells a (e ∷ []))
    ∙ ap (λ (x : Index × ℤ). old ++ (before ++ number_cells a (x ∷ []))) c.e-item.is
    ∙ ap (λ xs. old ++ xs) (sym (becomes_more a es i e c.loop-e-test.true)))
