use Rattle.std.proofs.Common.{◌≡◌, IsSome, ◌∷◌, [], ◌++◌, sym, ap, subst, ◌∙◌}
use Rattle.std.specs.Ordering.{eq_by_cmp}
use Rattle.std.specs.Option.{option_map}
use Rattle.std.proofs.lemmas.Result.{on_ok_weaker}
use Rattle.wb_cells.specs.declared.cells.cell.Cell.{Cell}
use Rattle.wb_cells.specs.declared.cells.cell.Cell.TheVariants.{Object, Element}
use Rattle.wb_cells.specs.declared.cells.value.Value.TheVariants.{Number}
use Rattle.wb_cells.specs.Cells.{Name, cell_cmp}
use Rattle.wb_book.specs.Groups.{group_in, is_plain, sets_plain}
use Rattle.wb_book.proofs.Grown.{at_object}
use Rattle.wb_book.proofs.Leads.{same_leads, object_leads, added_leads, no_element_cell}
use Rattle.wb_book.proofs.Written.{one_name, one_cell}
use Rattle.wb_book.proofs.groups.add_change.Goals as goal

pub returns-in_ok-put_group-in-Element-clause-lead : goal.returns-in_ok-put_group-in-Element-clause-lead
returns-in_ok-put_group-in-Element-clause-lead c = λ before lead.
    let gs = c.args.groups.now.entries in
    let x = c.args.change.now in
    let named = c.put_group.new.groups.entries in
    let cell : x.cell ≡ Element c.in-Element.name c.in-Element.index = sym c.as_cell.ensures ∙ c.in-Element.is in
    let value : x.value ≡ option_map Number c.number_of-number.result = sym c.value.ensures ∙ sym c.number_of-number.ensures in
    on_ok_weaker c.add_to.result
    (λ made. added_leads before named c.add_to.new.groups.entries x c.in-Element.name c.in-Element.index c.number_of-number.result cell value made
    (same_leads before gs named c.put_group.ensures.same lead))
    c.add_to.ensures.added

pub number_of-number-requires : goal.number_of-number-requires
number_of-number-requires c =
    let x = c.args.change.now in
    let cell : x.cell ≡ Element c.in-Element.name c.in-Element.index = sym c.as_cell.ensures ∙ c.in-Element.is in
    ap is_plain c.value.ensures ∙ sym (ap (λ (k : Cell). sets_plain k x.value) cell) ∙ c.requires

pub returns-in-Object-clause-lead : goal.returns-in-Object-clause-lead
returns-in-Object-clause-lead c = λ before lead.
    let gs = c.args.groups.now.entries in
    let x = c.args.change.now in
    let cell : x.cell ≡ Object c.in-Object.name = sym c.as_cell.ensures ∙ c.in-Object.is in
    on_ok_weaker c.put_group-in-Object.result
    (λ there. same_leads (before ++ x ∷ []) gs c.put_group-in-Object.new.groups.entries c.put_group-in-Object.ensures.same
    (object_leads before gs x (λ b i. ap (eq_by_cmp cell_cmp (Element b i)) cell) lead))
    c.put_group-in-Object.ensures.there

pub returns-in-Object-clause-object : goal.returns-in-Object-clause-object
returns-in-Object-clause-object c =
    on_ok_weaker c.put_group-in-Object.result
    (λ there b e.
    subst (λ (n : Name). IsSome (group_in c.put_group-in-Object.new.groups.entries n))
    (one_name c.in-Object.name b (sym (at_object c.args.change.now.cell c.in-Object.name b (sym c.as_cell.ensures ∙ c.in-Object.is)) ∙ e)) there)
    c.put_group-in-Object.ensures.there

pub returns-in_default : goal.returns-in_default
returns-in_default c = record {
  lead = λ before lead.
      object_leads before c.args.groups.now.entries c.args.change.now
      (λ b i. no_element_cell c.args.change.now.cell (λ a j e. c.in_default.not-Element a j (c.as_cell.ensures ∙ e)) b i) lead;
  stays = λ b there. there;
  object = λ b e. absurd (c.in_default.not-Object b (c.as_cell.ensures ∙ sym (one_cell (Object b) c.args.change.now.cell e)));
}
