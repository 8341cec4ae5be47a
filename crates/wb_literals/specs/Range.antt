-- Ranges at the front of a text.
use Rattle.std.specs.Prelude.{ℕ, ℤ, pos, List, codes, Option, Some, None, option_map, option_and_then, if◌then◌else◌}
use Rattle.std.specs.Ordering.{int_eq}
use Rattle.std.specs.Option.{option_map_or}
use Rattle.wb_literals.specs.Integer.{integer_at, natural_at}
use Rattle.wb_literals.specs.Tokens.{skip_spaces, after_token, after_word, whole}
use Rattle.wb_literals.specs.declared.range.Upper.{Upper}
use Rattle.wb_literals.specs.declared.range.Upper.TheVariants.{To, Below, Count}
use Rattle.wb_literals.specs.declared.range.Stride.{Stride}
use Rattle.wb_literals.specs.declared.range.RangeLiteral.{RangeLiteral}

abbrev pub to_at : List ℕ → Option (Upper × List ℕ)
to_at bytes = option_map (λ n. (To n.0, n.1)) (integer_at bytes)

abbrev pub below_at : List ℕ → Option (Upper × List ℕ)
below_at bytes = option_map (λ n. (Below n.0, n.1)) (integer_at bytes)

abbrev pub count_at : List ℕ → Option (Upper × List ℕ)
count_at bytes = option_map (λ n. (Count n.0, n.1)) (natural_at bytes)

-- `..<` and the bound above, or `..#` and a count, or `..` and the last bound
abbrev pub upper_at : List ℕ → Option (Upper × List ℕ)
upper_at bytes = option_map_or below_at (after_token (codes "..<") bytes)
    (option_map_or count_at (after_token (codes "..#") bytes) (option_and_then to_at (after_token (codes "..") bytes)))

-- after a stride, an alignment where there is one
abbrev pub align_at : ℤ → List ℕ → Option (Option Stride × List ℕ)
align_at stride bytes = option_map_or (λ rest. option_map (λ t. (Some (record { stride = stride; align = Some t.0 }), t.1)) (integer_at rest))
    (after_word (codes "align") bytes)
    (Some (Some (record { stride = stride; align = None }), bytes))

abbrev pub nonzero_at : List ℕ → Option (ℤ × List ℕ)
nonzero_at bytes = option_and_then (λ s. if int_eq s.0 (pos 0) then None else Some s) (integer_at bytes)

-- `by` and a stride other than 0, where it is there
abbrev pub stride_at : List ℕ → Option (Option Stride × List ℕ)
stride_at bytes = option_map_or (λ rest. option_and_then (λ s. align_at s.0 s.1) (nonzero_at rest)) (after_word (codes "by") bytes) (Some (None, bytes))

abbrev pub range_at : List ℕ → Option (RangeLiteral × List ℕ)
range_at bytes = option_and_then (λ low. option_and_then (λ up. option_map (λ s. (record { low = low.0; upper = up.0; stride = s.0 }, s.1)) (stride_at up.1))
    (upper_at (skip_spaces low.1))) (integer_at bytes)

abbrev pub range_of : List ℕ → Option RangeLiteral
range_of text = whole range_at text
