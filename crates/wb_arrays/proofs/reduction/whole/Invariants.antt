use Rattle.std.proofs.Common.{◌≡◌, ℕ, ◌<◌}
use Rattle.wb_arrays.specs.Pieces.{piece_of}
use Rattle.wb_arrays.specs.Reductions.{of_locales_in_128, AreSmall}
use Rattle.wb_arrays.proofs.reduction.whole.Given as goal

-- the pieces so far are reduced, and their elements are small
abbrev pub invariant-loop-locale : goal.invariant-loop-locale
invariant-loop-locale g l =
    let locale = g.M.Mapping.locale l.of.1 in
    record {
      value : l.done ≡ of_locales_in_128 l.op locale l.of.0 l.locale;
      small : (k : ℕ) → k < l.locale → AreSmall (piece_of locale l.of.0 k);
    }
