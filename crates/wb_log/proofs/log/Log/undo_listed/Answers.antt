use Rattle.std.proofs.Common.{◌<◌, ℕ, List, Ok, length, take, drop, arith, sym, subst}
use Rattle.std.proofs.lemmas.List.{take-append-drop}
use Rattle.wb_log.specs.Cascades.{DependentsReply}
use Rattle.wb_log.specs.Past.{meant}
use Rattle.wb_log.proofs.Shortest.{no_shorter}
use Rattle.wb_log.proofs.Undoings.{cascade_reply, cascade_writes}
use Rattle.wb_log.proofs.Whole.{listed_free, others_left, cells_left, some_listed}
use Rattle.wb_log.proofs.log.Log.undo_listed.Goals as goal

pub undo_each-done-requires-after_bounds : goal.undo_each-done-requires-after_bounds
undo_each-done-requires-after_bounds g c = λ _ _. listed_free c.args.self.now.entries c.book-legal.ensures.legal c.args.at c.args.listed.now c.requires

pub returns-clause-reply : goal.returns-clause-reply
returns-clause-reply g c =
    let p = c.args.self.now in
    let u = c.undo_each-done in
    cascade_reply p.entries c.args.at c.args.listed.now u.result.0 p.writes u.result.1 u.new.self.writes u.new.self.entries (omega arith) u.ensures.within
    u.ensures.undone c.requires

pub returns-clause-writes : goal.returns-clause-writes
returns-clause-writes g c =
    let p = c.args.self.now in
    let u = c.undo_each-done in
    cascade_writes p.entries c.args.at c.args.listed.now u.result.0 p.writes u.result.1 u.new.self.writes u.new.self.entries (omega arith) u.ensures.within
    u.ensures.undone

pub returns-clause-others : goal.returns-clause-others
returns-clause-others g c =
    let u = c.undo_each-done in
    others_left c.args.self.now.entries c.book-legal.ensures.legal u.new.self.entries (take u.result.0 c.args.listed.now) u.ensures.undone.granted u.ensures.undone.left

pub returns-clause-cells : goal.returns-clause-cells
returns-clause-cells g c =
    let u = c.undo_each-done in
    cells_left c.args.self.now.entries c.book-legal.ensures.legal u.new.self.entries (take u.result.0 c.args.listed.now) u.ensures.undone.granted u.ensures.undone.left

pub returns-then-done-eq0-clause-wanted : goal.returns-then-done-eq0-clause-wanted
returns-then-done-eq0-clause-wanted g c =
    let some = some_listed (meant c.args.self.now.entries) c.args.at c.args.listed.now c.requires in
    let short : c.undo_each-done.result.0 < length c.args.listed.now = omega (arith, some) in
    c.undo_each-done.ensures.whole short

pub returns-clause-shortest : goal.returns-clause-shortest
returns-clause-shortest g c =
    let es = meant c.args.self.now.entries in
    let all = c.args.listed.now in
    let i = c.undo_each-done.result.0 in
    no_shorter es c.args.at (take i all) (drop i all) c.book-legal.ensures.legal
    (subst (λ (ns : List ℕ). DependentsReply es c.args.at (Ok ns)) (sym (take-append-drop i all)) c.requires)
