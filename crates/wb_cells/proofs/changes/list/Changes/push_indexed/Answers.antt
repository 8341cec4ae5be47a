use Rattle.std.proofs.Common.{[], ◌∷◌, ◌+◌, Ok, ap, ◌∙◌, arith}
use Rattle.wb_cells.specs.Runs.{changes_of, indexed_change}
use Rattle.wb_cells.proofs.Runs.{count_few, pushed}
use Rattle.wb_cells.proofs.changes.list.Changes.push_indexed.Goals as goal

pub overflow_add-counted : goal.overflow_add-counted
overflow_add-counted c =
    let few = count_few (changes_of c.self.inside.first c.self.inside.runs) in
    omega (arith, c.in-Some.ensures, few, c.self.invariant.all, c.self.invariant.counted, c.counted_of.ensures.few)

pub invariant_of-self-then-branch : goal.invariant_of-self-then-branch
invariant_of-self-then-branch c =
    let x = c.args.change.now in
    let list = c.self.inside in
    pushed list.first list.runs c.add_indexed.new.runs (indexed_change x ∷ []) list.len list.counted c.in-Some.len (list.counted + c.counted_of.result)
    c.self.invariant (c.add_indexed.ensures.added (c.in_ok-add_indexed.was ∙ ap Ok c.if-branch.true)) (omega (arith, c.in-Some.ensures))
    (ap (λ i. list.counted + i) (c.counted_of.ensures.value x.index x.number))
    (c.add_indexed.ensures.started _ c.self.invariant.started)
