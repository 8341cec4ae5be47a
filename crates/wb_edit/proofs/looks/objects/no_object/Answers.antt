use Rattle.std.proofs.Common.{◌≡◌, List, ◌∷◌, [], ◌++◌, refl, sym, ap, ◌∙◌, append_assoc}
use Rattle.selective_undo.specs.Edit.{seen, reads, look}
use Rattle.wb_cells.specs.declared.cells.pattern.Pattern.{Pattern}
use Rattle.wb_cells.specs.declared.cells.pattern.Pattern.TheVariants.{Objects}
use Rattle.wb_edit.specs.Objects.{is_empty}
use Rattle.wb_cells.specs.Schema.{workbook}
use Rattle.wb_edit.proofs.Trees.{then_judged}
use Rattle.wb_edit.proofs.looks.objects.no_object.Goals as goal

pub returns-in_ok-first-in-Ok : goal.returns-in_ok-first-in-Ok
returns-in_ok-first-in-Ok c =
    let s = c.args.book.now.cells in
    let rs : List Pattern = c.args.footprint.now in
    let ss : List Pattern = c.keep.new.self in
    let kept : ss ≡ rs ++ Objects ∷ [] = c.in-Ok.ensures.ok in
    rw (c.or_refused.ensures, c.is_empty.ensures s c.in_ok-first-in-Ok.ensures.first) (then_judged (λ next. look Objects next) s rs ss is_empty (seen workbook Objects s)
    (λ next. (
      refl,
      sym (append_assoc rs (Objects ∷ []) (reads (next (seen workbook Objects s)) s)) ∙
          ap (λ xs. xs ++ reads (next (seen workbook Objects s)) s) (sym kept),
    )))
