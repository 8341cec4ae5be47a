-- What a workbook makes of the elements of an array is what is to be answered.
use Rattle.std.proofs.Common.{◌≡◌, ◌^◌, ℤ, pos, negsuc, Bool, true, false, Option, Some, None, Result, Ok, Err, refl, ap, arith}
use Rattle.std.specs.Prelude.{FitsSigned, OkIff, IfErr, MatchOption}
use Rattle.std.specs.Int.{w64}
use Rattle.std.proofs.lemmas.Bool.{lt-ltb}
use Rattle.std.proofs.lemmas.Int.{ints}
use Rattle.wb_edit.specs.Numbers.{is_i64, fits_integer}
use Rattle.wb_edit.proofs.Sums.{is_i64-fits}
use Rattle.wb_history.specs.Queries.{value_answer}
use Rattle.wb_history.specs.Reductions.{reduced, made_answer}
use Rattle.wb_arrays.specs.declared.reduction.ReduceErr.{ReduceErr}
use Rattle.wb_arrays.specs.declared.reduction.ReduceErr.TheVariants.{Empty, Overflow, NoMemory}

fits-is_i64 : (z : ℤ) → FitsSigned w64 z → is_i64 z ≡ true
fits-is_i64 (pos n) h = lt-ltb n (2 ^ 63) (omega (arith, ints))
fits-is_i64 (negsuc n) h = lt-ltb n (2 ^ 63) (omega (arith, ints))

beyond : (z : ℤ) (b : Bool) → is_i64 z ≡ b → (FitsSigned w64 z → ⊥) → is_i64 z ≡ false
beyond z true e apart = absurd (apart (is_i64-fits z e))
beyond z false e apart = e

whole_answer : (z : ℤ) (r : Result ℤ ReduceErr) → OkIff r (FitsSigned w64 z) z → IfErr r (λ e. e ≡ Overflow) → made_answer r ≡ value_answer (fits_integer z)
whole_answer z (Ok v) h over = rw (fits-is_i64 z h.0, h.1) refl
whole_answer z (Err Empty) h over = cc
whole_answer z (Err Overflow) h over = rw (beyond z (is_i64 z) refl h) refl
whole_answer z (Err NoMemory) h over = cc

pub made_is : (due : Option ℤ) (r : Result ℤ ReduceErr) → MatchOption due (r ≡ Err Empty) (λ z. OkIff r (FitsSigned w64 z) z × IfErr r (λ e. e ≡ Overflow)) →
    made_answer r ≡ value_answer (reduced due)
made_is None r h = ap made_answer h
made_is (Some z) r h = whole_answer z r h.0 h.1
