use Rattle.std.proofs.Common.{◌≡◌, ◌+◌, ◌∙◌, ap, sym, length}
use Rattle.wb_company.specs.Doings.{counted}
use Rattle.wb_company.proofs.Notes.{emptied, not_kept}
use Rattle.wb_company.proofs.doings.Doings.note.Goals as goal

pub returns-then-is_err : goal.returns-then-is_err
returns-then-is_err c =
    let kept = c.make_room-gone.new.kept in
    let now = c.push_back.new.self in
    let same : now.items ≡ kept.items = not_kept c.push_back.result _ kept.items now.items (sym c.is_err.ensures.value ∙ c.if-is_err.true) c.push_back.ensures.items in
    let gone : c.len-gone.result ≡ length kept.items = c.len-gone.ensures ∙ now.ok.0 ∙ ap length same in
    emptied c.args.self.now.first c.saturating_add-self.result c.saturating_add-self-then-is_err.result c.make_room-gone.result
    c.args.self.now.kept.items kept.items c.args.doing c.clear.new.self.items c.make_room-gone.ensures c.saturating_add-self.ensures c.clear.ensures.items
    (c.saturating_add-self-then-is_err.ensures ∙ ap (λ n. counted (n + 1)) (c.saturating_add.ensures ∙ ap (λ n. counted (c.saturating_add-self.result + n)) gone))
