use Rattle.std.proofs.Common.{◌≡◌, inl, inr, length, refl, rules, subst}
use Rattle.std.proofs.lemmas.Result.{IfOk-weaker}
use Rattle.wb_cells.specs.Readers.{objects}
use Rattle.wb_reading.specs.Reading.{IsNoBook}
use Rattle.wb_sessions.specs.Upgrading.{HasNoBook}
use Rattle.wb_sessions.proofs.reasons.why_no_history.Goals as goal

pub returns-in-Ok-read_book : goal.returns-in-Ok-read_book
returns-in-Ok-read_book g c =
    let cells = c.in-Ok-read_book.book.cells in
    inl ((length (objects cells), record { cells = cells; well_formed = search rules; same = search rules; counted = refl }), refl)

pub returns-in_default : goal.returns-in_default
returns-in_default g c =
    let none : HasNoBook c.args.bytes.now = search rules in
    IfOk-weaker c.why_no_text.result _ _ (λ why h. inr (none, h)) c.why_no_text.ensures

pub returns-in-Err-Bad : goal.returns-in-Err-Bad
returns-in-Err-Bad g c =
    let same : c.in-Ok.text.now ≡ c.args.bytes.now = search rules in
    let none = inr (subst IsNoBook same (c.in-Err-Bad.ensures.bad c.in-Err-Bad.field-0-is)) in
    IfOk-weaker c.why_no_text-in-Err-Bad.result _ _ (λ why h. inr (none, h)) c.why_no_text-in-Err-Bad.ensures
