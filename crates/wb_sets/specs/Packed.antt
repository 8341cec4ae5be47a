-- How a label is kept: its bytes in a field of `size` bytes, with zeros behind them.
use Rattle.std.specs.Prelude.{◌≡◌, ℕ, ◌≤◌, ◌-◌, List, length, take, drop, replicate}
use Rattle.std.proofs.Common.{arith}
use Rattle.std.proofs.lemmas.List.{length-take-le, take-append-drop}
use Rattle.wb_sets.specs.Labels.{IsLabel, padded}

pub record IsPacked (size : ℕ) (bytes : List ℕ) (len : ℕ) : Type 0 where
  pub within : len ≤ size
  pub zeros : drop len bytes ≡ replicate (size - len) 0
  pub whole : length bytes ≡ size
  pub text : IsLabel (take len bytes)

pub length-take : (size : ℕ) (bytes : List ℕ) (len : ℕ) → IsPacked size bytes len → length (take len bytes) ≡ len
length-take size bytes len h = length-take-le len bytes (omega (arith, h.within, h.whole))

-- the field comes back from the text
pub padded-take : (size : ℕ) (bytes : List ℕ) (len : ℕ) → IsPacked size bytes len → padded size (take len bytes) ≡ bytes
padded-take size bytes len h = rw (length-take size bytes len h, ← h.zeros) (take-append-drop len bytes)
