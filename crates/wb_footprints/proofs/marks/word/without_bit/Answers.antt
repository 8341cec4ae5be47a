use Rattle.std.proofs.Common.{w64, false}
use Rattle.std.proofs.lemmas.Nat.Bits.{bit_at_clear_same, bit_at_clear_other}
use Rattle.wb_footprints.proofs.InWords.{is_clear, one_bit}
use Rattle.wb_footprints.proofs.marks.word.without_bit.Goals as goal

pub returns : goal.returns
returns c = λ i below.
    one_bit c.args.word _ c.args.at i false (is_clear _ c.args.at (bit_at_clear_same w64 c.args.word c.args.at c.requires))
    (λ apart. bit_at_clear_other w64 c.args.word c.args.at c.requires i below apart)
