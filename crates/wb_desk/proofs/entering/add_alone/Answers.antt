use Rattle.wb_desk.proofs.entering.add_alone.Goals as goal

pub add-requires-clause-within : goal.add-requires-clause-within
add-requires-clause-within c = c.in-Some-nameless_form.ensures.within _
