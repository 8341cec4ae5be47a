use Rattle.std.proofs.Common.{◌≡◌, ◌-◌, ap, ◌∙◌, arith}
use Rattle.std.proofs.lemmas.Nat.{leading_top}
use lib.Count.{count_leading_zeros}
use Rattle.wb_footprints.specs.Numbers.{in_word}
use Rattle.wb_footprints.proofs.InWords.{top_set, top_highest}
use Rattle.wb_footprints.proofs.marks.word.highest.Goals as goal

pub returns-clause-set : goal.returns-clause-set
returns-clause-set c =
    let t = leading_top 64 c.args.word c.requires c.ranges.word.fits in
    let e : 63 - count_leading_zeros 64 c.args.word ≡ t.0 = omega (arith, t.1) in
    ap (in_word c.args.word) e ∙ top_set c.args.word t.0 t.2 t.3

pub returns-clause-highest : goal.returns-clause-highest
returns-clause-highest c = λ i up.
    let t = leading_top 64 c.args.word c.requires c.ranges.word.fits in
    top_highest c.args.word t.0 i t.3 (omega (arith, t.1, up))
