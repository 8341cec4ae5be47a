use Rattle.std.proofs.Common.{◌≡◌, ℕ, List, take, sym, ap, subst, ◌∙◌}
use Rattle.wb_log.specs.Cascades.{NoShorter, OthersStay, places}
use Rattle.wb_log.specs.Past.{meant}
use Rattle.wb_log.proofs.log.Log.cascade_at.Goals as goal

pub returns-in-Ok-undo_listed-clause-others : goal.returns-in-Ok-undo_listed-clause-others
returns-in-Ok-undo_listed-clause-others g c =
    let i = c.in-Ok-undo_listed.done in
    let fs = c.undo_listed.new.self.entries in
    let now : take i c.deref.result.now ≡ c.truncate.new.self.items = ap (λ (ns : List ℕ). take i ns) c.deref.ensures.value ∙ sym c.truncate.ensures.items in
    subst (λ (ns : List ℕ). OthersStay (meant c.args.self.now.entries) (places ns) (meant fs)) now
    (subst (λ p. OthersStay (meant p.entries) (places (take i c.deref.result.now)) (meant fs)) c.in-Ok.ensures.stays c.in-Ok-undo_listed.ensures.others)

pub returns-in-Ok-undo_listed-clause-shortest : goal.returns-in-Ok-undo_listed-clause-shortest
returns-in-Ok-undo_listed-clause-shortest g c =
    let i = c.in-Ok-undo_listed.done in
    let now : take i c.deref.result.now ≡ c.truncate.new.self.items = ap (λ (ns : List ℕ). take i ns) c.deref.ensures.value ∙ sym c.truncate.ensures.items in
    subst (λ (ns : List ℕ). NoShorter (meant c.args.self.now.entries) c.args.at ns) now
    (subst (λ p. NoShorter (meant p.entries) c.args.at (take i c.deref.result.now)) c.in-Ok.ensures.stays c.in-Ok-undo_listed.ensures.shortest)
