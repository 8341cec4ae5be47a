use Rattle.std.proofs.Common.{sym, ◌∙◌}
use Rattle.wb_footprints.proofs.InCommon.{none_shared}
use Rattle.wb_footprints.proofs.places.areas.have_common_across.Goals as goal

pub returns : goal.returns
returns g c = none_shared c.args.rect.now c.args.other.now
    (λ e. c.requires (sym c.rank-rank.ensures.kept.dimensions ∙ e ∙ c.rank-other.ensures.kept.dimensions))
