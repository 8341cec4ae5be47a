use Rattle.std.proofs.Common.{◌≡◌, refl, suc, ◌-◌, length, [], ◌∷◌, arith}
use Rattle.std.specs.Vec.{vec_len}
use Rattle.std.proofs.lemmas.Result.{on_err_weaker}
use Rattle.wb_cells.specs.declared.cells.pattern.Pattern.TheVariants.{One}
use Rattle.wb_cells.specs.Reads.{read_in}
use Rattle.wb_cells.proofs.LastRun.{last_more, last_same}
use Rattle.wb_cells.proofs.reads.add_to_last.Goals as goal

pub returns-in-Some-clause-added : goal.returns-in-Some-clause-added
returns-in-Some-clause-added c = λ e.
    let low = c.in-Some.ensures.variant.0 refl in
    let last : suc (vec_len c.args.runs.now - 1) ≡ length c.args.runs.now.items = omega arith in
    last_more read_in c.args.runs.now.items c.in-Some.run'.now c.add.new.self (One c.args.cell.now ∷ []) (vec_len c.args.runs.now - 1) last
    c.in-Some.ensures.value (c.add.ensures.added e)

pub returns-in-Some-clause-other : goal.returns-in-Some-clause-other
returns-in-Some-clause-other c = λ e.
    let low = c.in-Some.ensures.variant.0 refl in
    let last : suc (vec_len c.args.runs.now - 1) ≡ length c.args.runs.now.items = omega arith in
    last_same read_in c.args.runs.now.items c.in-Some.run'.now c.add.new.self (vec_len c.args.runs.now - 1) last c.in-Some.ensures.value
    (c.add.ensures.other e)

pub returns-in-Some-clause-err : goal.returns-in-Some-clause-err
returns-in-Some-clause-err c =
    let low = c.in-Some.ensures.variant.0 refl in
    let last : suc (vec_len c.args.runs.now - 1) ≡ length c.args.runs.now.items = omega arith in
    on_err_weaker c.add.result
    (λ same. last_same read_in c.args.runs.now.items c.in-Some.run'.now c.add.new.self (vec_len c.args.runs.now - 1) last c.in-Some.ensures.value same)
    c.add.ensures.err
