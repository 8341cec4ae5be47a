use Rattle.std.proofs.lemmas.Result.{on_ok_weaker}
use Rattle.wb_footprints.specs.Footprints.{marked_family}
use Rattle.wb_footprints.proofs.Through.{wait_already, asked_more}
use Rattle.wb_footprints.proofs.foot_index.FootIndex.join_family_by.Goals as goal

pub returns-then-has_family-clause-joined : goal.returns-then-has_family-clause-joined
returns-then-has_family-clause-joined c =
    let here = c.has_family.ensures c.if-has_family.true in
    wait_already c.args.waiting.now (marked_family c.args.self.now c.args.cell.now) c.args.after
    (λ n up met. c.requires.families c.args.cell.now here.0 n here.1 up met)

pub returns-clause-joined : goal.returns-clause-joined
returns-clause-joined c = on_ok_weaker c.add_family.result (λ sets. c.in_ok-join_family.ensures) c.add_family.ensures.families

pub returns-clause-swept : goal.returns-clause-swept
returns-clause-swept c =
    on_ok_weaker c.add_family.result
    (λ sets. asked_more c.args.self.now c.args.swept.now c.add_family.new.self c.args.waiting.now c.join_family.new.waiting c.args.after c.args.cell.now
    c.requires c.in_ok-join_family.ensures sets c.add_family.ensures.cells c.add_family.ensures.runs)
    c.add_family.ensures.families
