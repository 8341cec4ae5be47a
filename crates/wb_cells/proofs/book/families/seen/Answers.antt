use Rattle.std.proofs.Common.{sym, ap, subst, ◌∙◌}
use Rattle.std.proofs.lemmas.Result.{IfOk-weaker}
use Rattle.wb_cells.specs.declared.cells.pattern.Pattern.{Pattern}
use Rattle.wb_cells.specs.declared.cells.pattern.Pattern.TheVariants.{One}
use Rattle.wb_cells.specs.Cells.{Stored, state_of}
use Rattle.wb_cells.specs.Families.{AreNamed}
use Rattle.wb_cells.specs.Readers.{seen}
use Rattle.wb_cells.proofs.PartsSeen.{seen_at_objects, seen_at_uses, seen_at_elements, low_named, high_named}
use Rattle.wb_cells.proofs.book.families.seen.Goals as goal

pub seen_in-requires : goal.seen_in-requires
seen_in-requires c = low_named c.cells.inside.low c.cells.inside.members c.cells.inside.high c.cells.invariant (subst (λ (m : Stored). AreNamed (state_of m)) (sym c.cells.view_is) c.requires)

pub seen_in-requires-in-Uses : goal.seen_in-requires-in-Uses
seen_in-requires-in-Uses c = high_named c.cells.inside.low c.cells.inside.members c.cells.inside.high c.cells.invariant (subst (λ (m : Stored). AreNamed (state_of m)) (sym c.cells.view_is) c.requires)

pub seen_in-requires-in-Elements : goal.seen_in-requires-in-Elements
seen_in-requires-in-Elements c =
    high_named c.cells.inside.low c.cells.inside.members c.cells.inside.high c.cells.invariant (subst (λ (m : Stored). AreNamed (state_of m)) (sym c.cells.view_is) c.requires)

pub returns-in-Objects : goal.returns-in-Objects
returns-in-Objects c = rw (← c.cells.view_is) (IfOk-weaker c.seen_in.result _ _
    (λ v is. is ∙ sym (seen_at_objects c.cells.inside.low c.cells.inside.members c.cells.inside.high c.cells.invariant c.args.pattern.now c.in-Objects.is))
    c.seen_in.ensures)

pub returns-in-Uses : goal.returns-in-Uses
returns-in-Uses c = rw (← c.cells.view_is) (IfOk-weaker c.seen_in-in-Uses.result _ _
    (λ v is. is ∙ sym (seen_at_uses c.cells.inside.low c.cells.inside.members c.cells.inside.high c.cells.invariant c.args.pattern.now c.in-Uses.field-0
    c.in-Uses.is))
    c.seen_in-in-Uses.ensures)

pub returns-in-Elements : goal.returns-in-Elements
returns-in-Elements c = rw (← c.cells.view_is) (IfOk-weaker c.seen_in-in-Elements.result _ _
    (λ v is. is ∙ sym (seen_at_elements c.cells.inside.low c.cells.inside.members c.cells.inside.high c.cells.invariant c.args.pattern.now
    c.in-Elements.field-0 c.in-Elements.is))
    c.seen_in-in-Elements.ensures)

pub returns-in-Members : goal.returns-in-Members
returns-in-Members c = IfOk-weaker c.seen_members.result _ _
    (λ v is. is ∙ sym (ap (λ (p : Pattern). seen (state_of c.args.cells.now) p) c.in-Members.is)) c.seen_members.ensures

pub returns-in-One : goal.returns-in-One
returns-in-One c = IfOk-weaker c.seen_one.result _ _
    (λ v is. is ∙ ap (λ x. seen (state_of c.args.cells.now) (One x)) c.as_cell.ensures
    ∙ sym (ap (λ (p : Pattern). seen (state_of c.args.cells.now) p) c.in-One.is)) c.seen_one.ensures
