use Rattle.std.proofs.Common.{◌≡◌, false, rules, subst}
use Rattle.wb_statuses.specs.Statuses.{IsPrinted}
use Rattle.wb_seats.specs.Early.{entries_of}
use Rattle.wb_seats.specs.Serving.{settled_text}
use Rattle.wb_seats.proofs.serving.print_all.Goals as goal

pub returns-clause-prints : goal.returns-clause-prints
returns-clause-prints g c =
    let course = c.args.shared.now.course in
    let told = c.tell_settled.ensures.prints in
    let status = c.tell_settled.result in
    let count : c.saturating_add-count.result ≡ entries_of course =
    search (rules, c.entries-kept.ensures.count, c.settled.ensures, c.saturating_add-count.ensures) in (
      told.0,
      told.1,
      subst (λ h. IsPrinted (settled_text false (entries_of course) h.entries) status told.0) c.history.ensures.history
          (subst (λ n. IsPrinted (settled_text false n c.history.result.now.entries) status told.0) count told.2),
    )
