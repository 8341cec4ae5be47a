use Rattle.std.proofs.Common.{◌≡◌, ◌≢◌, ◌∙◌, ◌++◌, ◌∷◌, [], ap, length, refl, rules, string_bytes}
use Rattle.wb_keep.specs.Lines.{recovered}
use Rattle.wb_keep.specs.declared.keep.OpenErr.TheVariants as errs
use Rattle.wb_keeping.proofs.Opened.{begun_moments, leads_alone, line_alone, no_lines, not_moved, ours_read, repaired, some_lines}
use Rattle.wb_keeping.proofs.opening.begin_kept.Goals as goal

pub returns-in-Err : goal.returns-in-Err
returns-in-Err g c =
    let D = g.D.Device in
    let line = string_bytes c.args.opening.line in
    let still = not_moved D.seen D.moment D.left_since D.may_leave c.args.held.now line c.args.device (g.met.D.Device.only_now c.args.device)
    c.requires.durable c.requires.read in
    record { kept = tt; begun = tt; empty = tt; any_moment = tt; err = still }

pub returns-then-not-is_empty-clause-err : goal.returns-then-not-is_empty-clause-err
returns-then-not-is_empty-clause-err g c =
    let some : length c.in-Ok.read.0.items ≢ 0 = search rules in
    (ours_read c.args.held.now c.read.result c.in-Ok.read errs.NotOurs c.in-Ok.is c.read.ensures.foreign, some_lines _ c.in-Ok.read.0.items (recovered c.args.held.now) c.in-Ok.ensures.lines some, refl)

pub returns-then-is_err-clause-err : goal.returns-then-is_err-clause-err
returns-then-is_err-clause-err g c =
    let D = g.D.Device in
    not_moved D.seen D.moment D.left_since D.may_leave c.args.held.now (string_bytes c.args.opening.line) c.args.device (g.met.D.Device.only_now c.args.device)
    c.requires.durable c.requires.read

pub returns-in-Err-resume-clause-err : goal.returns-in-Err-resume-clause-err
returns-in-Err-resume-clause-err g c =
    let D = g.D.Device in
    let held = c.args.held.now in
    let line = string_bytes c.args.opening.line in
    let device = c.args.device in (
      repaired D.seen D.moment D.left_since D.may_leave held line device c.in-Err-resume.device c.requires.read c.in-Err-resume.ensures.any_moment_err,
      (
        device,
        not_moved D.seen D.moment D.left_since D.may_leave held line device (g.met.D.Device.only_now device) c.requires.durable c.requires.read,
        c.in-Err-resume.ensures.failed,
      ),
    )

pub returns-in-Ok-append-clause-empty : goal.returns-in-Ok-append-clause-empty
returns-in-Ok-append-clause-empty g c =
    let none : length c.in-Ok.read.0.items ≡ 0 = search rules in
    (ours_read c.args.held.now c.read.result c.in-Ok.read errs.NotOurs c.in-Ok.is c.read.ensures.foreign, no_lines _ c.in-Ok.read.0.items (recovered c.args.held.now) c.in-Ok.ensures.lines none)

pub returns-in-Ok-append-clause-begun : goal.returns-in-Ok-append-clause-begun
returns-in-Ok-append-clause-begun g c =
    let line = string_bytes c.args.opening.line in
    let D = g.D.Device in
    let none : length c.in-Ok.read.0.items ≡ 0 = search rules in
    let empty = no_lines _ c.in-Ok.read.0.items (recovered c.args.held.now) c.in-Ok.ensures.lines none in
    let ends : c.deref.result.now ≡ line ++ 10 ∷ [] = search rules in
    let before : recovered (D.seen c.in-Ok-resume.log.device) ≡ recovered c.args.held.now = c.in-Ok-resume.ensures.settled.1 ∙ ap recovered c.requires.read in (
      refl,
      line_alone (recovered (D.seen c.in-Ok-resume.log.device)) line c.deref.result.now (recovered (D.seen c.append.new.self.device)) (before ∙ empty) ends
          c.requires.opening.unbroken c.in-Ok-append.ensures.acknowledged.1,
    )

pub returns-in-Ok-append-clause-kept : goal.returns-in-Ok-append-clause-kept
returns-in-Ok-append-clause-kept g c = record {
  settled = c.in-Ok-append.ensures.acknowledged.0;
  leads =
      leads_alone c.args.opening (recovered (g.D.Device.seen c.append.new.self.device)) c.requires.opening (returns-in-Ok-append-clause-begun g c).1;
}

pub returns-in-Ok-append-clause-any_moment : goal.returns-in-Ok-append-clause-any_moment
returns-in-Ok-append-clause-any_moment g c =
    let D = g.D.Device in
    let line = string_bytes c.args.opening.line in
    let none : length c.in-Ok.read.0.items ≡ 0 = search rules in
    let empty = no_lines _ c.in-Ok.read.0.items (recovered c.args.held.now) c.in-Ok.ensures.lines none in
    let ends : c.deref.result.now ≡ line ++ 10 ∷ [] = search rules in
    begun_moments D.seen D.moment D.left_since D.may_leave c.args.held.now line c.args.device c.in-Ok-resume.log.device c.append.new.self.device
    c.deref.result.now c.requires.read empty ends c.requires.opening.unbroken c.in-Ok-resume.ensures.settled.1 c.in-Ok-resume.ensures.any_moment
    c.append.ensures.any_moment

pub returns-in-Err-Failed-clause-err : goal.returns-in-Err-Failed-clause-err
returns-in-Err-Failed-clause-err g c =
    let D = g.D.Device in
    let held = c.args.held.now in
    let line = string_bytes c.args.opening.line in
    let mid = c.in-Ok-resume.log.device in
    let none : length c.in-Ok.read.0.items ≡ 0 = search rules in
    let empty = no_lines _ c.in-Ok.read.0.items (recovered held) c.in-Ok.ensures.lines none in
    let ends : c.deref.result.now ≡ line ++ 10 ∷ [] = search rules in (
      begun_moments D.seen D.moment D.left_since D.may_leave held line c.args.device mid c.append.new.self.device c.deref.result.now c.requires.read empty
          ends c.requires.opening.unbroken c.in-Ok-resume.ensures.settled.1 c.in-Ok-resume.ensures.any_moment c.append.ensures.any_moment,
      (
        mid,
        repaired D.seen D.moment D.left_since D.may_leave held line c.args.device mid c.requires.read c.in-Ok-resume.ensures.any_moment,
        search rules,
      ),
    )

pub returns : goal.returns
returns g c =
    let D = g.D.Device in
    let line = string_bytes c.args.opening.line in
    let none : length c.in-Ok.read.0.items ≡ 0 = search rules in
    let empty = no_lines _ c.in-Ok.read.0.items (recovered c.args.held.now) c.in-Ok.ensures.lines none in
    let ends : c.deref.result.now ≡ line ++ 10 ∷ [] = search rules in
    let moments =
    begun_moments D.seen D.moment D.left_since D.may_leave c.args.held.now line c.args.device c.in-Ok-resume.log.device c.append.new.self.device
    c.deref.result.now c.requires.read empty ends c.requires.opening.unbroken c.in-Ok-resume.ensures.settled.1 c.in-Ok-resume.ensures.any_moment
    c.append.ensures.any_moment in
    record { kept = tt; begun = tt; empty = tt; any_moment = tt; err = moments }
