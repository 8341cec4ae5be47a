use Rattle.std.proofs.Common.{[], false, refl, rules, subst, sym, true}
use Rattle.wb_program.specs.Doing.{Does}
use Rattle.wb_sessions.specs.Keeping.{RunsKept}
use Rattle.wb_sessions.specs.Resuming.{left_in}
use Rattle.wb_program.proofs.Finishing.{desk_fails, desk_finishes, resumed_desk_fails, resumed_desk_finishes}
use Rattle.wb_program.proofs.Hosting.{history_hosted, hosted, resumed, upgraded}
use Rattle.wb_program.proofs.KeptHosting.{wrote}
use Rattle.wb_program.proofs.Telling.{kept_tells, run_tells, serve_tells}
use Rattle.wb_program.proofs.Used.{began, keeps_anew, keeps_begun, keeps_run, nothing_consumed, ran, read_and_wrote, renewed}
use Rattle.wb_program.proofs.doing.do_asked.Goals as goal

pub returns-else-resume-2-clause-does : goal.returns-else-resume-2-clause-does
returns-else-resume-2-clause-does g c =
    let both = read_and_wrote g.D.Device g.J.OpensFiles (RunsKept g.D.Device) (ran g.D.Device) c.as_str-else-resume-2.result.now c.run_kept_at.result c.run_kept_at.new.files _
    c.run_kept_at.ensures.keeps in (
      both.0.0,
      both.0.1,
      (
        both.1.0,
        both.1.1,
        subst (λ a. Does g.I.Source g.O.Sink g.N.Accepts a c.run_kept_at.result both.0.0 (left_in g.S.Source.remaining c.run_kept_at.new.reader) both.1.0) (sym c.in-RunKept.is) tt,
      ),
    )

pub returns-then-resume-clause-does : goal.returns-then-resume-clause-does
returns-then-resume-clause-does g c =
    let asked = c.in-Run in
    let read = c.resume_with.ensures.resumes in
    let told = read.2 in (
      read.0,
      read.1,
      (
        told.0,
        told.1,
        resumed g.I.Source g.O.Sink g.N.Accepts c.args.asked asked.workers asked.resume
            c.resume_with.result read.0 _ told.0 asked.is c.if-resume.true told.2,
      ),
    )

pub returns-in-Check-clause-does : goal.returns-in-Check-clause-does
returns-in-Check-clause-does g c =
    let read = c.check_with.ensures.judged in
    let told = read.2 in (
      read.0,
      read.1,
      (
        told.0,
        told.1,
        subst (λ a. Does g.I.Source g.O.Sink g.N.Accepts a c.check_with.result read.0 (left_in g.S.Source.remaining c.check_with.new.reader) told.0)
            (sym c.in-Check.is) told.2,
      ),
    )

pub returns-in-Upgrade-clause-does : goal.returns-in-Upgrade-clause-does
returns-in-Upgrade-clause-does g c =
    let read = c.upgrade_with.ensures.upgrades in
    let told = read.2 in (
      read.0,
      read.1,
      (told.0, told.1, upgraded g.I.Source g.O.Sink g.N.Accepts c.args.asked c.upgrade_with.result read.0 _ told.0 c.in-Upgrade.is told.2),
    )

pub returns-then-resume-3-clause-does : goal.returns-then-resume-3-clause-does
returns-then-resume-3-clause-does g c =
    let asked = c.in-Serve in
    let read = c.host_input.ensures.hosts in
    let told = read.2 in (
      read.0,
      read.1,
      (
        told.0,
        told.1,
        history_hosted g.I.Source g.O.Sink g.N.Accepts c.args.asked asked.port asked.seats asked.workers asked.resume
            c.host_input.result read.0 _ told.0 asked.is c.if-resume-3.true told.2,
      ),
    )

pub returns-else-resume-3-clause-does : goal.returns-else-resume-3-clause-does
returns-else-resume-3-clause-does g c =
    let asked = c.in-Serve in
    let told = c.host.ensures.hosts in (
      [],
      search rules,
      (
        told.0,
        told.1,
        hosted g.I.Source g.O.Sink g.N.Accepts c.args.asked asked.port asked.seats asked.workers asked.resume
            c.host.result _ told.0 asked.is c.if-resume-3.false told.2,
      ),
    )

pub returns-then-resume-3-clause-done : goal.returns-then-resume-3-clause-done
returns-then-resume-3-clause-done g c =
    let asked = c.in-Serve in
    resumed_desk_finishes c.args.asked asked.port asked.seats asked.workers asked.resume c.host_input.result _ _ asked.is c.if-resume-3.true
    c.host_input.ensures.done

pub returns-then-resume-3-clause-failed : goal.returns-then-resume-3-clause-failed
returns-then-resume-3-clause-failed g c h =
    let asked = c.in-Serve in
    resumed_desk_fails g.I.Source g.O.Sink g.N.Accepts c.args.asked asked.port asked.seats asked.workers asked.resume _ _ _ _ _ _ _ asked.is
    c.if-resume-3.true (c.host_input.ensures.failed h)

pub returns-else-resume-3-clause-done : goal.returns-else-resume-3-clause-done
returns-else-resume-3-clause-done g c =
    let asked = c.in-Serve in
    desk_finishes c.args.asked asked.port asked.seats asked.workers asked.resume c.host.result _ _ asked.is c.if-resume-3.false
    c.host.ensures.flushed

pub returns-else-resume-3-clause-failed : goal.returns-else-resume-3-clause-failed
returns-else-resume-3-clause-failed g c h =
    let asked = c.in-Serve in
    desk_fails g.I.Source g.O.Sink g.N.Accepts c.args.asked asked.port asked.seats asked.workers asked.resume _ _ _ _ _ _ _ asked.is
    c.if-resume-3.false (c.host.ensures.failed h)

pub returns-in-ServeKept-clause-does : goal.returns-in-ServeKept-clause-does
returns-in-ServeKept-clause-does g c =
    let told = wrote g.I.Source g.O.Sink g.N.Accepts g.D.Device g.J.OpensFiles _ c.in-ServeKept.seats c.serve_kept.result _ c.serve_kept.new.files _
    c.serve_kept.ensures.keeps in (
      [],
      search rules,
      (
        told.0,
        told.1,
        subst (λ a. Does g.I.Source g.O.Sink g.N.Accepts a c.serve_kept.result [] (left_in g.S.Source.remaining c.args.reader.now) told.0)
            (sym c.in-ServeKept.is) tt,
      ),
    )

pub returns-else-resume-2-clause-keeps : goal.returns-else-resume-2-clause-keeps
returns-else-resume-2-clause-keeps g c =
    let asked = c.in-RunKept in
    keeps_run g.D.Device g.J.OpensFiles c.args.asked asked.journal c.as_str-else-resume-2.result.now asked.workers asked.resume c.run_kept_at.result c.args.files.now
    c.run_kept_at.new.files _ asked.is c.if-resume-2.false c.as_str-else-resume-2.ensures c.run_kept_at.ensures.keeps

pub returns-then-resume-2-clause-keeps : goal.returns-then-resume-2-clause-keeps
returns-then-resume-2-clause-keeps g c =
    let asked = c.in-RunKept in
    keeps_begun g.D.Device g.J.OpensFiles c.args.asked asked.journal c.as_str.result.now asked.workers asked.resume c.resume_kept_at.result c.args.files.now
    c.resume_kept_at.new.files _ asked.is c.if-resume-2.true c.as_str.ensures c.resume_kept_at.ensures.keeps

pub returns-then-resume-2-clause-does : goal.returns-then-resume-2-clause-does
returns-then-resume-2-clause-does g c =
    let both = began g.D.Device g.J.OpensFiles c.as_str.result.now c.resume_kept_at.result c.args.files.now c.resume_kept_at.new.files _ c.resume_kept_at.ensures.keeps in (
      both.0.0,
      both.0.1,
      (
        both.1.0,
        both.1.1,
        subst (λ a. Does g.I.Source g.O.Sink g.N.Accepts a c.resume_kept_at.result both.0.0 (left_in g.S.Source.remaining c.resume_kept_at.new.reader) both.1.0)
            (sym c.in-RunKept.is) tt,
      ),
    )

pub returns-in-Compact-clause-keeps : goal.returns-in-Compact-clause-keeps
returns-in-Compact-clause-keeps g c =
    let asked = c.in-Compact in
    keeps_anew g.D.Device g.J.OpensFiles c.args.asked asked.journal c.as_str-in-Compact.result.now c.compact_at.result c.args.files.now
    c.compact_at.new.files _ asked.is c.as_str-in-Compact.ensures (refl, refl) c.compact_at.ensures.keeps

pub returns-in-Compact-clause-does : goal.returns-in-Compact-clause-does
returns-in-Compact-clause-does g c =
    let told = (renewed g.D.Device g.J.OpensFiles c.as_str-in-Compact.result.now c.compact_at.result c.compact_at.new.files _ c.compact_at.ensures.keeps).1 in (
      [],
      nothing_consumed (left_in g.S.Source.remaining c.args.reader.now),
      (
        told.0,
        told.1,
        subst (λ a. Does g.I.Source g.O.Sink g.N.Accepts a c.compact_at.result [] (left_in g.S.Source.remaining c.args.reader.now) told.0)
            (sym c.in-Compact.is) tt,
      ),
    )

pub returns-then-resume-clause-why : goal.returns-then-resume-clause-why
returns-then-resume-clause-why g c one =
    let asked = c.in-Run in run_tells c.args.asked asked.workers asked.resume true _ _ _ asked.is c.if-resume.true (c.resume_with.ensures.why one)

pub returns-then-resume-2-clause-why : goal.returns-then-resume-2-clause-why
returns-then-resume-2-clause-why g c one =
    let asked = c.in-RunKept in
    kept_tells c.args.asked asked.journal asked.workers asked.resume true _ _ _ asked.is c.if-resume-2.true (c.resume_kept_at.ensures.why one)

pub returns-else-resume-2-clause-why : goal.returns-else-resume-2-clause-why
returns-else-resume-2-clause-why g c one =
    let asked = c.in-RunKept in kept_tells c.args.asked asked.journal asked.workers asked.resume false _ _ _ asked.is c.if-resume-2.false tt

pub returns-then-resume-3-clause-why : goal.returns-then-resume-3-clause-why
returns-then-resume-3-clause-why g c one =
    let asked = c.in-Serve in
    serve_tells c.args.asked asked.port asked.seats asked.workers asked.resume true _ _ _ asked.is c.if-resume-3.true (c.host_input.ensures.why one)

pub returns-else-resume-clause-why : goal.returns-else-resume-clause-why
returns-else-resume-clause-why g c one =
    let asked = c.in-Run in run_tells c.args.asked asked.workers asked.resume false _ _ _ asked.is c.if-resume.false tt

pub returns-else-resume-3-clause-why : goal.returns-else-resume-3-clause-why
returns-else-resume-3-clause-why g c one =
    let asked = c.in-Serve in
    serve_tells c.args.asked asked.port asked.seats asked.workers asked.resume false _ _ _ asked.is c.if-resume-3.false tt
