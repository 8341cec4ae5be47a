use Rattle.std.proofs.Common.{sym, ◌∙◌}
use Rattle.wb_layers.proofs.Families.{first_tells, none_tells}
use Rattle.wb_layers.proofs.overlaid.touches.Goals as goal

pub returns-in-Some-clause-tells : goal.returns-in-Some-clause-tells
returns-in-Some-clause-tells c =
    let p = c.args.pattern.now in
    let m = c.args.places.now in
    c.matches.ensures
    ∙ first_tells p c.first.result c.first.ensures m (c.in-Some.cell.now, c.in-Some.field-0-1.now) _ c.requires c.range.ensures.ordered
    (sym c.in-Some.ensures.steps ∙ c.range.ensures.between tt)

pub returns-in-None-clause-tells : goal.returns-in-None-clause-tells
returns-in-None-clause-tells c =
    none_tells c.args.pattern.now c.first.result c.first.ensures c.args.places.now c.requires c.range.ensures.ordered
    (sym c.in-None.ensures.steps.0 ∙ c.range.ensures.between tt)
