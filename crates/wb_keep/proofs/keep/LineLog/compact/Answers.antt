use Rattle.std.proofs.Common.{◌≡◌, ◌-◌, ◌∙◌, Err, ap, refl, length, rules}
use Rattle.std.specs.Prelude.{ℕ, [], ◌∷◌, ◌++◌}
use Rattle.wb_keep.specs.Lines.{lines_of, header, marked}
use Rattle.wb_keep.proofs.InPlace.{unmoved, each_moment, settled, goes_on_settled}
use Rattle.wb_keep.proofs.keep.LineLog.compact.Goals as goal

-- the file was left alone
pub returns-in_default-clause-any_moment : goal.returns-in_default-clause-any_moment
returns-in_default-clause-any_moment g c =
    let D = g.D.Device in
    let d0 = c.args.self.now.device in
    unmoved D.seen D.moment D.left_since D.may_leave d0 d0 c.requires.file c.requires.durable c.args.lines.now (g.met.D.Device.only_now d0)

pub returns-in-Ok-replace-clause-compacted : goal.returns-in-Ok-replace-clause-compacted
returns-in-Ok-replace-clause-compacted g c =
    let D = g.D.Device in
    let lines = c.args.lines.now in
    let file = c.deref.result.now in
    let is : file ≡ header ++ marked (lines_of lines) ++ 35 ∷ [] = c.deref.ensures.value ∙ c.in-Ok.ensures in
    let size : c.len.result ≡ length file = search rules in
    settled D.seen D.may_leave _ lines file is c.in-Ok-replace.ensures.replaced (ap (λ (n : ℕ). n - 1) size) refl c.in-Ok-replace.ensures.durable

pub returns-in-Ok-replace-clause-any_moment : goal.returns-in-Ok-replace-clause-any_moment
returns-in-Ok-replace-clause-any_moment g c =
    let D = g.D.Device in
    let d0 = c.args.self.now.device in
    each_moment D.seen D.moment D.left_since D.may_leave d0 c.replace.new.self c.requires.file c.requires.durable c.args.lines.now c.deref.result.now
    (c.deref.ensures.value ∙ c.in-Ok.ensures) (g.met.D.Device.only_now d0) c.replace.ensures.crash c.replace.ensures.time

pub returns-in-Err-NotMade-clause-any_moment : goal.returns-in-Err-NotMade-clause-any_moment
returns-in-Err-NotMade-clause-any_moment g c =
    let D = g.D.Device in
    let d0 = c.args.self.now.device in
    each_moment D.seen D.moment D.left_since D.may_leave d0 c.replace.new.self c.requires.file c.requires.durable c.args.lines.now c.deref.result.now
    (c.deref.ensures.value ∙ c.in-Ok.ensures) (g.met.D.Device.only_now d0) c.replace.ensures.crash c.replace.ensures.time

pub returns-clause-any_moment : goal.returns-clause-any_moment
returns-clause-any_moment g c =
    let D = g.D.Device in
    let d0 = c.args.self.now.device in
    each_moment D.seen D.moment D.left_since D.may_leave d0 c.replace.new.self c.requires.file c.requires.durable c.args.lines.now c.deref.result.now
    (c.deref.ensures.value ∙ c.in-Ok.ensures) (g.met.D.Device.only_now d0) c.replace.ensures.crash c.replace.ensures.time

pub returns-in-Err-NotMade-clause-not_made : goal.returns-in-Err-NotMade-clause-not_made
returns-in-Err-NotMade-clause-not_made g c _ =
    let D = g.D.Device in
    let why = ap (λ e. Err e) c.in-Err-NotMade.field-0-is in
    goes_on_settled D.seen D.may_leave c.args.self.now _ c.requires refl refl (c.in-Err-NotMade.ensures.seen why) (c.in-Err-NotMade.ensures.stays why)
