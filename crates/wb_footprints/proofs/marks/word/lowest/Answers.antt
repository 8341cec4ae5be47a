use Rattle.std.proofs.Common.{w64}
use Rattle.std.proofs.lemmas.Nat.Bits.{bit_at-trailing_zeros}
use Rattle.wb_footprints.proofs.InWords.{is_set, is_clear}
use Rattle.wb_footprints.proofs.marks.word.lowest.Goals as goal

pub returns : goal.returns
returns c =
    let t = bit_at-trailing_zeros w64 c.args.word c.requires c.ranges.word.fits in
    record { below = t.0; set = is_set c.args.word _ t.1; lowest = λ i down. is_clear c.args.word i (t.2 i down) }
