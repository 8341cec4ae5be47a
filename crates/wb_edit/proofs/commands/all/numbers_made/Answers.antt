use Rattle.std.proofs.Common.{◌≡◌, ◌<◌, ℤ, pos, List, length, Ok, get_or, set, refl, sym, ap, ◌∙◌, arith}
use Rattle.std.proofs.lemmas.Int.{to_z-of_z}
use Rattle.std.proofs.lemmas.Result.{err_from_is_err_and}
use Rattle.std.specs.Int.{w64}
use Rattle.wb_edit.specs.declared.operation.Operation.{Operation}
use Rattle.wb_edit.specs.Elements.{result_of}
use Rattle.wb_edit.specs.Numbers.{fits_integer}
use Rattle.wb_edit.specs.Plans.{or_refused}
use Rattle.wb_edit.proofs.Numbered.{not_made, next_number, halted, all_made}
use Rattle.wb_edit.proofs.SideBySide.{fits_after}
use Rattle.wb_edit.proofs.commands.all.numbers_made.Goals as goal

pub returns : goal.returns
returns c =
    all_made c.args.how.now c.args.xs.items c.args.ys.now c.loop-p.made.items c.loop-p.p c.requires (omega (arith, c.loop-p-test.false))
    c.loop-p.invariant.made c.loop-p.invariant.within

pub returns-in_err-made : goal.returns-in_err-made
returns-in_err-made c =
    let p = err_from_is_err_and c.from_residual.result c.from_residual.ensures.1 in
    let how : Operation = c.args.how.now in
    let xs : List ℤ = c.args.xs.items in
    let ys : List ℤ = c.args.ys.now in
    let k = c.loop-p.p in
    let x : ℤ = c.index.result.now in
    let low : k < length xs = omega (arith, c.loop-p-test.true, c.requires) in
    let here : x ≡ get_or xs k x = c.index.ensures ∙ ap (λ ms. get_or ms k x) c.loop-p.invariant.made ∙ not_made how k xs ys x c.requires in
    rw (p.1, p.2) (halted how xs ys c.requires k x (get_or ys k (pos 0)) x (pos 0) low here refl c.in_err-made.field-0.0
    (sym c.number_made.ensures ∙ c.in_err-made.was))

pub loop-p-preserved : goal.loop-p-preserved
loop-p-preserved c =
    let how : Operation = c.args.how.now in
    let xs : List ℤ = c.args.xs.items in
    let ys : List ℤ = c.args.ys.now in
    let made : List ℤ = c.loop-p.made.items in
    let k = c.loop-p.p in
    let x : ℤ = c.index.result.now in
    let y : ℤ = get_or ys k (pos 0) in
    let z : ℤ = c.in_ok-made.field-0 in
    let low : k < length xs = omega (arith, c.loop-p-test.true, c.requires) in
    let here : x ≡ get_or xs k x = c.index.ensures ∙ ap (λ ms. get_or ms k x) c.loop-p.invariant.made ∙ not_made how k xs ys x c.requires in
    let given : or_refused (fits_integer (result_of how x y)) ≡ Ok z = sym c.number_made.ensures ∙ c.in_ok-made.was in
    let clean = ap (λ v. set made k v) (to_z-of_z w64 z (fits_after (result_of how x y) z given)) in
    let next = next_number how xs ys c.requires k x y x (pos 0) low here refl z made _ given c.loop-p.invariant.made c.loop-p.invariant.within clean in
    record { made = next.0; within = next.1 }
