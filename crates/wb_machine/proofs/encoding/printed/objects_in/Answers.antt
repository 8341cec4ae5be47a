use Rattle.wb_machine.proofs.encoding.printed.objects_in.Goals as goal

pub returns-in-None : goal.returns-in-None
returns-in-None c = λ objects e. absurd (c.in-None.ensures.cases _ e)
