-- Integers and indices as JSON values, in requests and in replies.
use Rattle.std.specs.Prelude.{ℤ, List, [], ◌∷◌, map}
use Rattle.serde_json.specs.Data.{Data, number, string, array, no_items}
use Rattle.serde_json.specs.Find.{of_integer}
use Rattle.serde_json.specs.View.{items_of}
use Rattle.wb_cells.specs.declared.values.index.Index.{Index}
use Rattle.wb_cells.specs.declared.values.index.Index.TheVariants.{Point, Text}

abbrev pub integer_data : ℤ → Data
integer_data z = number (of_integer z)

-- an integer stands alone, two or three of them in an array
unfoldable pub point_data : List ℤ → Data
point_data [] = array no_items
point_data (i ∷ []) = integer_data i
point_data (i ∷ (j ∷ is)) = array (items_of (map integer_data (i ∷ (j ∷ is))))

-- an index, as requests have it
abbrev pub index_data : Index → Data
index_data (Point is) = point_data is
index_data (Text t) = string t
