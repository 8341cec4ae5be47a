use Rattle.std.proofs.Common.{◌≡◌, ℤ, List, Ok, Err, length, sym, ap, subst, ◌∙◌}
use Rattle.std.proofs.lemmas.Result.{err_from_is_err_and}
use Rattle.std.specs.List.{zip}
use Rattle.std.specs.Map.{keys_of}
use Rattle.wb_cells.specs.declared.values.index.Index.{Index}
use Rattle.wb_cells.specs.Cells.{Name}
use Rattle.wb_cells.specs.Readers.{elements}
use Rattle.wb_edit.specs.declared.operation.Operation.{Operation}
use Rattle.wb_edit.specs.Changed.{Judges, made_of, numbers_within}
use Rattle.wb_edit.specs.Commands.{number_cells}
use Rattle.wb_edit.specs.Elements.{results, all_within}
use Rattle.wb_edit.specs.Plans.{Makes}
use Rattle.wb_edit.proofs.Elements.{elements_ascend}
use Rattle.wb_edit.proofs.Numbered.{numbers_of, same_length, refused, kept, numbers_kept, numbers_refused}
use Rattle.wb_edit.proofs.commands.all.changes_by_numbers.Goals as goal

pub numbers_made-requires : goal.numbers_made-requires
numbers_made-requires c =
    let s = c.args.book.now.cells in
    ap length c.in-Ok.ensures ∙ same_length (elements s c.args.array) (elements s c.args.other) c.requires.alike
    ∙ sym (ap length (c.deref.ensures.value ∙ c.in-Ok-numbers.ensures))

pub returns-in_err-zs : goal.returns-in_err-zs
returns-in_err-zs c =
    let p = err_from_is_err_and c.from_residual.result c.from_residual.ensures.1 in
    let s = c.args.book.now.cells in
    let a : Name = c.args.array in
    let how : Operation = c.args.how.now in
    let xs : List (Index × ℤ) = elements s a in
    let ys : List (Index × ℤ) = elements s c.args.other in
    let why = c.in_err-zs.field-0.0 in
    let judged : Judges (numbers_within (made_of how (numbers_of xs) (numbers_of ys))) (Err why) =
    subst (λ (ns : List ℤ). Judges (numbers_within (made_of how ns (numbers_of ys))) (Err why)) c.in-Ok.ensures
    (subst (λ (ns : List ℤ). Judges (numbers_within (made_of how c.in-Ok.xs.items ns)) (Err why)) (c.deref.ensures.value ∙ c.in-Ok-numbers.ensures)
    c.in_err-zs.ensures) in
    rw (p.1, p.2) (refused a (all_within (results how xs ys)) why (numbers_refused how xs ys c.requires.alike (elements_ascend s a) why judged))

pub returns : goal.returns
returns c =
    let s = c.args.book.now.cells in
    let a : Name = c.args.array in
    let how : Operation = c.args.how.now in
    let xs : List (Index × ℤ) = elements s a in
    let ys : List (Index × ℤ) = elements s c.args.other in
    let zs : List ℤ = c.in_ok-zs.zs.items in
    let r = c.rectangle_changes.result in
    let made : numbers_within (made_of how (numbers_of xs) (numbers_of ys)) ≡ Ok zs =
    subst (λ (ns : List ℤ). numbers_within (made_of how ns (numbers_of ys)) ≡ Ok zs) c.in-Ok.ensures
    (subst (λ (ns : List ℤ). numbers_within (made_of how c.in-Ok.xs.items ns) ≡ Ok zs) (c.deref.ensures.value ∙ c.in-Ok-numbers.ensures)
    c.in_ok-zs.ensures) in
    kept a (all_within (results how xs ys)) (zip (keys_of xs) zs) r (numbers_kept how xs ys c.requires.alike (elements_ascend s a) zs made)
    (subst (λ (is : List Index). Makes (number_cells a (zip is zs)) r) (sym c.requires.within) c.rectangle_changes.ensures)
