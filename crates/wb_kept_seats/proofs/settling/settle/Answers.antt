use Rattle.std.proofs.Common.{◌≡◌, ◌<◌, List, Err, sym, ap, ◌∙◌, subst}
use Rattle.wb_keep.specs.declared.keep.LineLog.{LineLog}
use Rattle.wb_desk.proofs.Courses.{ends_with_all}
use Rattle.wb_desk.proofs.Whole.{whole_journal}
use Rattle.wb_desk.specs.Courses.{Course, IsCourse}
use Rattle.wb_desk.specs.Serving.{Held}
use Rattle.wb_desk.specs.Settling.{IsSettled}
use Rattle.wb_kept_seats.specs.Files.{LeavesTurns, LeavesFrontsOf}
use Rattle.wb_kept_seats.specs.KeptCourses.{KeptCourse}
use Rattle.wb_kept_seats.specs.declared.commit.CommitErr.TheVariants.{DiskFault}
use Rattle.wb_kept_seats.proofs.Causes.{none_left}
use Rattle.wb_kept_seats.proofs.Fronts.{fronts_left}
use Rattle.wb_kept_seats.proofs.settling.settle.Goals as goal

pub returns-in-Some-clause-any_moment : goal.returns-in-Some-clause-any_moment
returns-in-Some-clause-any_moment g c =
    let all = c.keep_all-log in
    let left = subst (λ turns. LeavesTurns g.D.Device.moment g.D.Device.left_since g.L.KeptOpening.lines g.L.KeptOpening.begun all.result.0 turns) (sym all.ensures.left.1) all.ensures.any_moment in
    let any = fronts_left g.D.Device.moment g.D.Device.left_since g.L.Opening.opening.history g.L.KeptOpening.lines g.L.KeptOpening.begun all.new.self.course all.new.self.made all.result.0
    c.shared.ensures.fronts left in
    any

pub returns-in-Err-clause-any_moment : goal.returns-in-Err-clause-any_moment
returns-in-Err-clause-any_moment g c =
    let all = c.keep_all-log in
    let left = subst (λ turns. LeavesTurns g.D.Device.moment g.D.Device.left_since g.L.KeptOpening.lines g.L.KeptOpening.begun all.result.0 turns) (sym all.ensures.left.1) all.ensures.any_moment in
    let any = fronts_left g.D.Device.moment g.D.Device.left_since g.L.Opening.opening.history g.L.KeptOpening.lines g.L.KeptOpening.begun all.new.self.course all.new.self.made all.result.0
    c.shared.ensures.fronts left in
    let closed = c.not_kept.ensures in
    subst (λ (k : KeptCourse). LeavesFrontsOf g.D.Device.moment g.D.Device.left_since g.L.Opening.opening.history g.L.KeptOpening.begun k.course c.not_kept.result.log) (sym closed.seats)
    (subst (λ (x : LineLog g.row.D.Denot). LeavesFrontsOf g.D.Device.moment g.D.Device.left_since g.L.Opening.opening.history g.L.KeptOpening.begun all.new.self.course x) (sym closed.log) any)

pub returns-in-Err-clause-disk : goal.returns-in-Err-clause-disk
returns-in-Err-clause-disk g c fault =
    let closed = c.not_kept.ensures in
    let why : c.in-Err.why ≡ DiskFault = cc (closed.cause, fault) in
    let failed = c.keep_all-log.ensures.disk (c.in-Err.is ∙ ap (λ e. Err e) why) in
    (failed.0, subst (λ (x : LineLog g.row.D.Denot). g.D.Device.faults failed.0.device < g.D.Device.faults x.device) (sym closed.log) failed.1)

pub returns-in-Err-ended-clause-any_moment : goal.returns-in-Err-ended-clause-any_moment
returns-in-Err-ended-clause-any_moment g c =
    let all = c.keep_all-log in
    let left = subst (λ turns. LeavesTurns g.D.Device.moment g.D.Device.left_since g.L.KeptOpening.lines g.L.KeptOpening.begun all.result.0 turns) (sym all.ensures.left.1) all.ensures.any_moment in
    let any = fronts_left g.D.Device.moment g.D.Device.left_since g.L.Opening.opening.history g.L.KeptOpening.lines g.L.KeptOpening.begun all.new.self.course all.new.self.made all.result.0
    c.shared.ensures.fronts left in
    let closed = c.not_kept-in-Err-ended.ensures in
    subst (λ (k : KeptCourse). LeavesFrontsOf g.D.Device.moment g.D.Device.left_since g.L.Opening.opening.history g.L.KeptOpening.begun k.course c.not_kept-in-Err-ended.result.log) (sym closed.seats)
    (subst (λ (x : LineLog g.row.D.Denot). LeavesFrontsOf g.D.Device.moment g.D.Device.left_since g.L.Opening.opening.history g.L.KeptOpening.begun all.new.self.course x) (sym closed.log) any)

pub returns-clause-ok : goal.returns-clause-ok
returns-clause-ok g c =
    let shown = c.shared.result.now.course in
    let settled = none_left c.cause.result _ _ c.in_default.not-Some c.cause.ensures.cause in
    subst (λ (x : Course). IsSettled x.seats x.entries c.args.passes.items) c.shared.ensures.course
    (subst (λ (ps : List Held). IsSettled shown.seats shown.entries ps) c.deref.ensures.value settled)

pub returns-clause-whole : goal.returns-clause-whole
returns-clause-whole g c =
    let shown = c.shared.result.now.course in
    let settled = none_left c.cause.result _ _ c.in_default.not-Some c.cause.ensures.cause in
    let agreed = subst (λ (x : Course). IsSettled x.seats x.entries c.args.passes.items) c.shared.ensures.course
    (subst (λ (ps : List Held). IsSettled shown.seats shown.entries ps) c.deref.ensures.value settled) in
    let course = subst (λ (x : Course). IsCourse g.L.Opening.opening x) c.shared.ensures.course c.cause.ensures.course in
    whole_journal c.keep_all-log.new.self.course.seats c.keep_all-log.new.self.course.entries c.args.passes.items course.tells.lists agreed

pub returns-clause-any_moment : goal.returns-clause-any_moment
returns-clause-any_moment g c =
    let all = c.keep_all-log in
    let left = subst (λ turns. LeavesTurns g.D.Device.moment g.D.Device.left_since g.L.KeptOpening.lines g.L.KeptOpening.begun all.result.0 turns) (sym all.ensures.left.1) all.ensures.any_moment in
    let any = fronts_left g.D.Device.moment g.D.Device.left_since g.L.Opening.opening.history g.L.KeptOpening.lines g.L.KeptOpening.begun all.new.self.course all.new.self.made all.result.0
    c.shared.ensures.fronts left in
    any

pub returns-clause-stands : goal.returns-clause-stands
returns-clause-stands g c =
    let shown = c.shared.result.now.course in
    let settled = none_left c.cause.result _ _ c.in_default.not-Some c.cause.ensures.cause in
    let agreed = subst (λ (x : Course). IsSettled x.seats x.entries c.args.passes.items) c.shared.ensures.course
    (subst (λ (ps : List Held). IsSettled shown.seats shown.entries ps) c.deref.ensures.value settled) in
    let course = subst (λ (x : Course). IsCourse g.L.Opening.opening x) c.shared.ensures.course c.cause.ensures.course in
    (course.all, course.tells, ends_with_all g.L.Opening.opening.history course.all c.keep_all-log.new.self.course c.args.passes.items agreed course.tells)
