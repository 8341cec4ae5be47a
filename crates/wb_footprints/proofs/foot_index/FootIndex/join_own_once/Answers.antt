use Rattle.std.proofs.Common.{inl}
use Rattle.std.proofs.lemmas.Result.{on_ok_weaker}
use Rattle.wb_footprints.specs.Footprints.{marked_own}
use Rattle.wb_footprints.proofs.Through.{wait_already, swept_more}
use Rattle.wb_footprints.proofs.foot_index.FootIndex.join_own_once.Goals as goal

pub returns-then-has-clause-joined : goal.returns-then-has-clause-joined
returns-then-has-clause-joined c =
    let here = c.has.ensures c.if-has.true in
    wait_already c.args.waiting.now (marked_own c.args.self.now c.args.cell.now) c.args.after
    (λ n up met. c.requires.cells c.args.cell.now here.0 n (inl here.1) up met)

pub returns-clause-joined : goal.returns-clause-joined
returns-clause-joined c = on_ok_weaker c.add.result (λ sets. c.in_ok-join_own.ensures) c.add.ensures.cells

pub returns-clause-swept : goal.returns-clause-swept
returns-clause-swept c =
    on_ok_weaker c.add.result
    (λ sets. swept_more c.args.self.now c.args.swept.now c.add.new.self c.args.waiting.now c.join_own.new.waiting c.args.after c.args.cell.now c.requires
    c.in_ok-join_own.ensures sets c.add.ensures.runs c.add.ensures.families)
    c.add.ensures.cells
