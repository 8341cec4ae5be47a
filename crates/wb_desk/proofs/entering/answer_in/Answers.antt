use Rattle.std.proofs.Common.{◌≡◌, ◌∙◌, ◌++◌, ◌∷◌, [], List, ap}
use Rattle.wb_desk.specs.declared.entry.Entry.{Entry}
use Rattle.wb_desk.specs.Serving.{entry}
use Rattle.wb_desk.proofs.Registers.{filled_entries}
use Rattle.wb_desk.proofs.entering.answer_in.Goals as goal

pub returns-clause-entered : goal.returns-clause-entered
returns-clause-entered g c told =
    let list = filled_entries c.args.list.now c.make_room.new.self c.make_room.ensures.same in
    let own = filled_entries c.args.own.now c.make_room-2.new.self c.make_room-2.ensures.same in
    let longer = λ (es : List Entry). es ++ entry c.args.seat c.args.request c.answer_roomy.result ∷ [] in
    let h = c.answer_roomy.ensures.entered told in
    (h.0, record { list_entries = h.1.list_entries ∙ ap longer list; own_entries = h.1.own_entries ∙ ap longer own })

pub returns-clause-stays : goal.returns-clause-stays
returns-clause-stays g c told =
    let list = filled_entries c.args.list.now c.make_room.new.self c.make_room.ensures.same in
    let own = filled_entries c.args.own.now c.make_room-2.new.self c.make_room-2.ensures.same in
    let h = c.answer_roomy.ensures.stays told in
    (h.0, h.1, record { list_entries = h.2.list_entries ∙ list; own_entries = h.2.own_entries ∙ own })
