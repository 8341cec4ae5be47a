-- Where indices stand: blocks are found by it.
use Rattle.std.specs.Prelude.{ℕ, ◌+◌, ◌-◌, ◌*◌, ◌^◌, max, suc, zero, ℤ, pos, negsuc, List, [], ◌∷◌}
use Rattle.wb_cells.specs.declared.values.index.Index.{Index}
use Rattle.wb_cells.specs.declared.values.index.Index.TheVariants as the
use Rattle.wb_footprints.specs.Points.{Coordinates}
use Rattle.wb_footprints.specs.Texts.{Text}

-- how far a number is above -2^63, and 0 below that
abbrev pub above_least : ℤ → ℕ
above_least (pos n) = n + 2 ^ 63
above_least (negsuc n) = 2 ^ 63 - suc n

-- the key of a point goes by its first coordinate: it is never less than those of the points below it, and 1 at least
abbrev pub key_of : Coordinates → ℕ
key_of [] = 1
key_of (x ∷ xs) = max 1 (above_least x)

-- a number with so many bytes behind it, zeros where there are fewer
abbrev pub with_bytes : ℕ → ℕ → List ℕ → ℕ
with_bytes a zero bs = a
with_bytes a (suc n) [] = with_bytes (a * 256) n []
with_bytes a (suc n) (b ∷ bs) = with_bytes (a * 256 + b) n bs

-- the key of a label goes by its first seven bytes: it is never less than those of the labels below it, and 1 at least
abbrev pub text_key : Text → ℕ
text_key t = 1 + with_bytes 0 7 t

-- the key of an index
abbrev pub index_key : Index → ℕ
index_key (the.Point p) = key_of p
index_key (the.Text t) = text_key t
