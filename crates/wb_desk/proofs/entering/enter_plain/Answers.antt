use Rattle.wb_desk.proofs.entering.enter_plain.Goals as goal

pub add-requires-clause-within : goal.add-requires-clause-within
add-requires-clause-within c = c.in-Some.ensures.within _

pub add-requires-in-Some-nameless_form-clause-within : goal.add-requires-in-Some-nameless_form-clause-within
add-requires-in-Some-nameless_form-clause-within c = c.in-Some-nameless_form.ensures.within _
