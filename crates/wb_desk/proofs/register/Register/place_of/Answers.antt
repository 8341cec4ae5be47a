use Rattle.wb_desk.proofs.Registers.{map_front}
use Rattle.wb_desk.proofs.register.Register.place_of.Goals as goal

pub returns-in-Ok-Some-clause-entries : goal.returns-in-Ok-Some-clause-entries
returns-in-Ok-Some-clause-entries c =
    let r = c.args.self.now in
    map_front r.seat r.names.items c.place_in.new.names.items c.place_in.ensures.front r.forms.items c.requires

pub returns-in-Ok-None-clause-entries : goal.returns-in-Ok-None-clause-entries
returns-in-Ok-None-clause-entries c =
    let r = c.args.self.now in
    map_front r.seat r.names.items c.place_in.new.names.items c.place_in.ensures.front r.forms.items c.requires

pub returns-in-Err-clause-entries : goal.returns-in-Err-clause-entries
returns-in-Err-clause-entries c =
    let r = c.args.self.now in
    map_front r.seat r.names.items c.place_in.new.names.items c.place_in.ensures.front r.forms.items c.requires
