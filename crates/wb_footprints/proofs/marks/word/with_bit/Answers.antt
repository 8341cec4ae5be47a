use Rattle.std.proofs.Common.{◌*◌, ◌%◌, ◌^◌, w64, true, arith}
use Rattle.std.proofs.lemmas.Nat.{one_shl, pow_pos, le_or_r}
use Rattle.std.proofs.lemmas.Nat.Bits.{bit_at_set_same, bit_at_set_other}
use Rattle.wb_footprints.proofs.InWords.{is_set, one_bit}
use Rattle.wb_footprints.proofs.marks.word.with_bit.Goals as goal

pub returns-clause-bits : goal.returns-clause-bits
returns-clause-bits c = λ i.
    one_bit c.args.word _ c.args.at i true (is_set _ c.args.at (bit_at_set_same w64 c.args.word c.args.at c.requires))
    (λ apart. bit_at_set_other w64 c.args.word c.args.at c.requires i apart)

pub returns-clause-some : goal.returns-clause-some
returns-clause-some c = omega (arith, le_or_r c.args.word (1 * 2 ^ c.args.at % 2 ^ 64), one_shl c.args.at 64 c.requires, pow_pos c.args.at)
