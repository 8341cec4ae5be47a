use Rattle.std.proofs.Common.{◌≡◌, ap, sym, ◌∙◌, rules}
use Rattle.wb_desk.specs.Courses.{Course}
use Rattle.wb_desk.proofs.Opened.{opened_course, opened_count}
use Rattle.wb_desk.proofs.shared.Shared.open_at.Goals as goal

-- the ledger counts none, and the journal is that of a desk that is opened
pub invariant_of-shared : goal.invariant_of-shared
invariant_of-shared g c =
    let is = c.in-Ok-at.ensures.ok in
    let journal = c.in-Ok-at.journal in
    let so_many : journal.seats ≡ c.args.seats = ap (λ (x : Course). x.seats) is in (
      opened_count c.args.history c.args.seats journal c.open-calls.result.0.total c.open-calls.ensures.total is,
      search rules,
      search rules,
      so_many ∙ sym c.requires.seats,
      opened_course g.L.Opening.opening c.args.history c.args.seats journal c.requires.opening is,
    )
