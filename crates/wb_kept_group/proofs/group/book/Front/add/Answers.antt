use Rattle.std.proofs.Common.{◌≡◌, ◌+◌, sym, ap, ◌∙◌}
use Rattle.wb_kept_group.proofs.Groups.Adding.{adds}
use Rattle.wb_kept_group.proofs.group.book.Front.add.Goals as goal

pub compare_exchange-found-requires : goal.compare_exchange-found-requires
compare_exchange-found-requires g c =
    let named = c.args.count.now.named in
    let offer = c.plain-offer.ensures in
    let pen = c.no_pen-pen.ensures in
    let seen = c.again-seen.ensures in
    let of_book = c.self.invariant.1 ∙ sym (ap (λ w. w.book) named) in
    let next : c.in-Some.new ≡ c.self.inside.count + 1 = c.in-Some.ensures.1 in (
      ap (λ w. w.tracked) named,
      ap (λ s. s.book) seen ∙ of_book,
      pen.0 ∙ of_book,
      offer.0 ∙ sym (ap (λ s. s.names) seen),
      rw (ap (λ w. w.key) named, pen.1, offer.1, offer.3, ap (λ s. s.log) seen) (adds c.self.inside.seen.log c.args.turn.now c.self.inside.count c.in-Some.new (sym c.self.invariant.0) next),
    )
