use Rattle.std.proofs.Common.{◌≡◌, ℤ, List, ◌∷◌, [], ◌++◌, Ok, is_ok, if◌then◌else◌, sym, subst, ◌∙◌, arith}
use Rattle.std.proofs.lemmas.Int.{to_z-of_z}
use Rattle.std.specs.Int.{w64}
use Rattle.std.proofs.lemmas.Result.{err_from_is_err_and}
use Rattle.wb_cells.specs.declared.values.index.Index.{Index}
use Rattle.wb_edit.specs.declared.operation.Operation.{Operation}
use Rattle.wb_edit.specs.Elements.{result_of}
use Rattle.wb_edit.specs.Numbers.{fits_integer}
use Rattle.wb_edit.specs.Plans.{or_refused}
use Rattle.wb_edit.proofs.SideBySide.{fits_after, pushed, next_result, halted, results_made}
use Rattle.wb_edit.proofs.commands.all.results.Goals as goal

pub returns-in_err-z : goal.returns-in_err-z
returns-in_err-z c =
    let p = err_from_is_err_and c.from_residual.result c.from_residual.ensures.1 in
    let how : Operation = c.args.how.now in
    let xs : List (Index × ℤ) = c.args.xs.now in
    let ys : List (Index × ℤ) = c.args.ys.now in
    let x : Index × ℤ = c.index-xs-p.result in
    let y : Index × ℤ = c.index-ys-p.result in
    rw (p.1, p.2) (halted how xs ys c.requires.alike c.loop-p.p x y c.loop-p-test.true c.index-xs-p.is c.index-ys-p.is c.in_err-z.field-0.0
    c.requires.ascending (sym c.result_at.ensures ∙ c.in_err-z.was))

pub loop-p-preserved : goal.loop-p-preserved
loop-p-preserved c =
    let how : Operation = c.args.how.now in
    let xs : List (Index × ℤ) = c.args.xs.now in
    let ys : List (Index × ℤ) = c.args.ys.now in
    let x : Index × ℤ = c.index-xs-p.result in
    let y : Index × ℤ = c.index-ys-p.result in
    let made : List (Index × ℤ) = c.loop-p.made.items in
    let more : List (Index × ℤ) = c.push.new.self.items in
    let z : ℤ = c.in_ok-z.z in
    let given : or_refused (fits_integer (result_of how x.1 y.1)) ≡ Ok z = sym c.result_at.ensures ∙ c.in_ok-z.was in
    let within_64 = fits_after (result_of how x.1 y.1) z given in
    let items : more ≡ (if is_ok c.push.result then made ++ (x.0, z) ∷ [] else made) =
    subst (λ (v : ℤ). more ≡ (if is_ok c.push.result then made ++ (x.0, v) ∷ [] else made)) (to_z-of_z w64 z within_64) c.push.ensures.items in
    let grown : more ≡ made ++ (x.0, z) ∷ [] = pushed c.push.result made more (x.0, z) (sym c.is_err.ensures.value ∙ c.if-is_err.false) items in
    let next = next_result how xs ys c.requires.alike c.loop-p.p x y c.loop-p-test.true c.index-xs-p.is c.index-ys-p.is z made more given
    c.loop-p.invariant.made c.loop-p.invariant.within grown in
    record { made = next.0; within = next.1 }

pub returns : goal.returns
returns c =
    results_made c.args.how.now c.args.xs.now c.args.ys.now c.loop-p.made.items c.loop-p.p c.requires.alike c.requires.ascending
    (omega (arith, c.loop-p-test.false)) c.loop-p.invariant.made c.loop-p.invariant.within
