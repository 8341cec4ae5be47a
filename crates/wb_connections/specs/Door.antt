-- What is heard of a connection: all of it where its first line begins as a JSON object, and else that line alone.
use Rattle.std.specs.Prelude.{ℕ, ◌+◌, Bool, false, ◌==◌, ◌||◌, List, [], ◌∷◌, if◌then◌else◌, Option, Some, option_map}
use Rattle.wb_connections.specs.declared.door.Way.{Way}
use Rattle.wb_connections.specs.declared.door.Way.TheVariants as ways
use Rattle.wb_connections.specs.declared.door.Door.{Door}

-- a space, a tab or a CR: the white space of JSON that ends no line
abbrev pub is_blank : ℕ → Bool
is_blank b = b == 32 || (b == 9 || b == 13)

-- The first byte that isn't blank is `{`.
abbrev pub begins_object : List ℕ → Bool
begins_object [] = false
begins_object (b ∷ bs) = if is_blank b then begins_object bs else b == 123

-- the bytes up to the first line end, with it
abbrev pub first_line : List ℕ → List ℕ
first_line [] = []
first_line (b ∷ bs) = b ∷ (if b == 10 then [] else first_line bs)

-- What is heard of these bytes.
abbrev pub heard : List ℕ → List ℕ
heard bs = if begins_object bs then bs else first_line bs

-- what a door lets through of the bytes that come next
abbrev pub through : Way → List ℕ → List ℕ
through ways.Unread bs = heard bs
through ways.Open bs = bs
through ways.Closing bs = first_line bs
through (ways.Shut past) bs = []

module _ {R : Type 0} where
  -- what is left to be heard: of what the reader has left, where that is known, and nothing behind a door that is shut
  abbrev pub left_behind : (R → Option (List ℕ)) → Way → R → Option (List ℕ)
  left_behind left ways.Unread r = option_map heard (left r)
  left_behind left ways.Open r = left r
  left_behind left ways.Closing r = option_map first_line (left r)
  left_behind left (ways.Shut past) r = Some []

  -- whether the reader's latest read failed, which no read of a door does that is shut
  abbrev pub failed_behind : (R → Bool) → Way → R → Bool
  failed_behind failed ways.Unread r = failed r
  failed_behind failed ways.Open r = failed r
  failed_behind failed ways.Closing r = failed r
  failed_behind failed (ways.Shut past) r = false

  -- how many reads of the reader were made, and of a door that is shut
  abbrev pub reads_behind : (R → ℕ) → Way → R → ℕ
  reads_behind reads ways.Unread r = reads r
  reads_behind reads ways.Open r = reads r
  reads_behind reads ways.Closing r = reads r
  reads_behind reads (ways.Shut past) r = reads r + past

  -- the same of a door
  abbrev pub left_at : (R → Option (List ℕ)) → Door R → Option (List ℕ)
  left_at left d = left_behind left d.way d.reader

  abbrev pub failed_at : (R → Bool) → Door R → Bool
  failed_at failed d = failed_behind failed d.way d.reader

  abbrev pub reads_at : (R → ℕ) → Door R → ℕ
  reads_at reads d = reads_behind reads d.way d.reader
