-- The elements on a locale as a JSON value, each after its index, and the text of that, which is written straight.
use Rattle.std.specs.Prelude.{ℕ, ℤ, List, [], ◌∷◌, ◌++◌, map, codes}
use Rattle.std.specs.Fmt.{signed_decimal}
use Rattle.std.specs.List.{join_by}
use Rattle.serde_json.specs.Data.{Data, string, array, object, no_items, item, member, no_members}
use Rattle.serde_json.specs.View.{items_of}
use Rattle.serde_json.specs.Written.{compact_text}
use Rattle.wb_cells.specs.declared.values.index.Index.{Index}
use Rattle.wb_cells.specs.declared.values.index.Index.TheVariants.{Point, Text}
use Rattle.wb_requests.specs.Encoding.Values.{integer_data, index_data}

-- ---- as JSON values

-- an element after its index
abbrev pub pair_data : Index × ℤ → Data
pair_data x = array (item (index_data x.0) (item (integer_data x.1) no_items))

abbrev pub piece_data : List (Index × ℤ) → Data
piece_data xs = object (member (codes "piece") (array (items_of (map pair_data xs))) no_members)

-- ---- as texts

-- a further item, after a comma
abbrev pub further : {X : Type 0} → (X → List ℕ) → X → List ℕ
further text x = codes "," ++ text x

-- items in brackets, separated by commas
abbrev pub bracketed : {X : Type 0} → (X → List ℕ) → List X → List ℕ
bracketed text xs = codes "[" ++ (join_by text (codes ",") xs ++ codes "]")

unfoldable pub point_text : List ℤ → List ℕ
point_text [] = bracketed signed_decimal []
point_text (i ∷ []) = signed_decimal i
point_text (i ∷ (j ∷ is)) = bracketed signed_decimal (i ∷ (j ∷ is))

abbrev pub index_text : Index → List ℕ
index_text (Point is) = point_text is
index_text (Text t) = compact_text (string t)

abbrev pub pair_text : Index × ℤ → List ℕ
pair_text x = codes "[" ++ (index_text x.0 ++ (codes "," ++ (signed_decimal x.1 ++ codes "]")))

abbrev pub piece_text : List (Index × ℤ) → List ℕ
piece_text xs = codes "{\"piece\":" ++ (bracketed pair_text xs ++ codes "}")
