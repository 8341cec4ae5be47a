use Rattle.std.proofs.Common.{◌≡◌, refl, rules}
use Rattle.wb_keep.proofs.Closing.{unmoved, moments, settled, cut_closed, ends}
use Rattle.wb_keep.proofs.keep.LineLog.close.Goals as goal

-- it ends with the mark
pub returns-then-self-mark-clause-closed : goal.returns-then-self-mark-clause-closed
returns-then-self-mark-clause-closed g c =
    let here : c.args.self.now.last ≡ c.args.self.now.mark = search rules in
    ends (g.D.Device.seen c.args.self.now.device) c.requires.file c.args.self.now.mark c.requires.mark c.args.self.now.last c.requires.last here

pub returns-then-self-mark-clause-any_moment : goal.returns-then-self-mark-clause-any_moment
returns-then-self-mark-clause-any_moment g c =
    let D = g.D.Device in
    unmoved D.seen D.moment D.left_since D.may_leave c.args.self.now c.requires (g.met.D.Device.only_now c.args.self.now.device)

pub returns-in_err-cut_off-clause-any_moment : goal.returns-in_err-cut_off-clause-any_moment
returns-in_err-cut_off-clause-any_moment g c =
    let D = g.D.Device in
    moments D.seen D.moment D.left_since D.may_leave c.args.self.now c.requires c.cut_off.new.device c.cut_off.ensures.any_moment

pub returns-clause-any_moment : goal.returns-clause-any_moment
returns-clause-any_moment g c =
    let D = g.D.Device in
    moments D.seen D.moment D.left_since D.may_leave c.args.self.now c.requires c.cut_off.new.device c.cut_off.ensures.any_moment

-- the room is cut off
pub returns-clause-closed : goal.returns-clause-closed
returns-clause-closed g c =
    cut_closed (g.D.Device.seen c.args.self.now.device) c.requires.file c.args.self.now.mark c.requires.mark _ c.in_ok-cut_off.ensures.cut

pub returns-clause-settled : goal.returns-clause-settled
returns-clause-settled g c =
    let D = g.D.Device in
    settled D.seen D.moment D.left_since D.may_leave c.args.self.now c.requires _ refl refl c.in_ok-cut_off.ensures.cut c.in_ok-cut_off.ensures.durable
