use Rattle.std.proofs.Common.{Some, option_map, ap, sym, ◌∙◌, slice_get}
use Rattle.std.proofs.lemmas.Option.{slice_get-get_or}
use Rattle.wb_log.specs.Records.{lent_edit}
use Rattle.wb_log.proofs.Seen.{seen_at, place_in, same_if_ok}
use Rattle.wb_log.proofs.log.Log.edit_at.Goals as goal

pub returns : goal.returns
returns c =
    let es = c.self.inside.entries.items in
    let at = c.args.at in
    let x = c.index.result.now in
    let low = place_in es c.self.inside.book.writes at c.args.self.now c.self.view_is c.requires in
    let is = slice_get-get_or es at x low ∙ ap Some (sym c.index.ensures) in
    same_if_ok lent_edit c.edit.result x.edit c.edit.ensures
    (sym (ap (option_map (λ y. y.edit)) (seen_at es at x is)) ∙ ap (λ p. option_map (λ y. y.edit) (slice_get p.entries at)) c.self.view_is)
