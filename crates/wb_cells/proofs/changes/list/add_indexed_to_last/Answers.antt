use Rattle.std.proofs.Common.{◌≡◌, refl, suc, ◌-◌, length, [], ◌∷◌, arith}
use Rattle.std.specs.Vec.{vec_len}
use Rattle.std.proofs.lemmas.Result.{on_err_weaker}
use Rattle.wb_cells.specs.Runs.{indexed_change}
use Rattle.wb_cells.proofs.Runs.{last_more, last_same, last_started}
use Rattle.wb_cells.proofs.changes.list.add_indexed_to_last.Goals as goal

pub returns-in-Some-clause-added : goal.returns-in-Some-clause-added
returns-in-Some-clause-added c = λ e.
    let low = c.in-Some.ensures.variant.0 refl in
    let last : suc (vec_len c.args.runs.now - 1) ≡ length c.args.runs.now.items = omega arith in
    last_more c.args.runs.now.items c.in-Some.run'.now (record { start = c.in-Some.run'.now.start; form = c.add_indexed.new.self })
    (indexed_change c.args.change.now ∷ [])
    (vec_len c.args.runs.now - 1) last c.in-Some.ensures.value (c.add_indexed.ensures.added e)

pub returns-in-Some-clause-other : goal.returns-in-Some-clause-other
returns-in-Some-clause-other c = λ e.
    let low = c.in-Some.ensures.variant.0 refl in
    let last : suc (vec_len c.args.runs.now - 1) ≡ length c.args.runs.now.items = omega arith in
    last_same c.args.runs.now.items c.in-Some.run'.now (record { start = c.in-Some.run'.now.start; form = c.add_indexed.new.self })
    (vec_len c.args.runs.now - 1) last c.in-Some.ensures.value (c.add_indexed.ensures.other e)

pub returns-in-Some-clause-err : goal.returns-in-Some-clause-err
returns-in-Some-clause-err c =
    let low = c.in-Some.ensures.variant.0 refl in
    let last : suc (vec_len c.args.runs.now - 1) ≡ length c.args.runs.now.items = omega arith in
    on_err_weaker c.add_indexed.result (λ same. last_same c.args.runs.now.items c.in-Some.run'.now
    (record { start = c.in-Some.run'.now.start; form = c.add_indexed.new.self })
    (vec_len c.args.runs.now - 1) last c.in-Some.ensures.value same) c.add_indexed.ensures.err

pub returns-in-Some-clause-started : goal.returns-in-Some-clause-started
returns-in-Some-clause-started c = λ n h.
    let low = c.in-Some.ensures.variant.0 refl in
    let last : suc (vec_len c.args.runs.now - 1) ≡ length c.args.runs.now.items = omega arith in
    last_started c.args.runs.now.items c.in-Some.run'.now (record { start = c.in-Some.run'.now.start; form = c.add_indexed.new.self })
    (vec_len c.args.runs.now - 1) n last c.in-Some.ensures.value refl h
