-- Where the new value of a domain comes from: a literal, a domain by its name, or offsets (Chapel Language Specification,
-- Domains: assignment, slicing, translate, expand, and set operations on associative domains).
use Rattle.std.specs.Prelude.{ℕ, ℤ, List, [], ◌∷◌, codes, Bool, false, nat_eq, Option, Some, None, option_and_then, Result, Ok, Err, if◌then◌else◌}
use Rattle.std.specs.Option.{ok_or, option_map_or}
use Rattle.serde_json.specs.Data.{Data}
use Rattle.serde_json.specs.Find.{get, as_str}
use Rattle.wb_cells.specs.declared.values.index.Index.{Index}
use Rattle.wb_cells.specs.declared.values.index.Index.TheVariants.{Point, Text}
use Rattle.wb_edit.specs.declared.refusal.Refusal.{Refusal}
use Rattle.wb_edit.specs.declared.refusal.Refusal.TheVariants.{BadRequest}
use Rattle.wb_literals.specs.Domain.{Domain, rectangle, set}
use Rattle.wb_requests.specs.Fields.{◌>>=◌, name_of, index_of}
use Rattle.wb_literals.specs.Limits.Literals.{listed_in}
use Rattle.wb_requests.specs.Literals.{literal_domain, domain_within}
use Rattle.wb_reshape.specs.Sources.{ascending}
use Rattle.wb_reshape.specs.declared.operand.Operand.{Operand}
use Rattle.wb_reshape.specs.declared.operand.Operand.TheVariants.{Rectangle, Items, Named}
use Rattle.wb_reshape.specs.declared.new_indices.Displacement.{Displacement}
use Rattle.wb_reshape.specs.declared.new_indices.Displacement.TheVariants.{Translate, Expand}
use Rattle.wb_reshape.specs.declared.new_indices.SetOperation.{SetOperation}
use Rattle.wb_reshape.specs.declared.new_indices.SetOperation.TheVariants.{Union, Intersection, Difference, SymmetricDifference}
use Rattle.wb_reshape.specs.declared.new_indices.NewIndices.{NewIndices}
use Rattle.wb_reshape.specs.declared.new_indices.NewIndices.TheVariants.{To, Slice, Displace, Combine}

-- A text that begins with a brace is a literal, any other is a name.
abbrev pub is_braced : List ℕ → Bool
is_braced [] = false
is_braced (b ∷ bytes) = nat_eq b 123

-- what a literal stands for: a rectangle within its limits, or a set, ascending, each index once
abbrev pub given_within : Domain → Result Operand Refusal
given_within (rectangle r) = do
  ranges ← domain_within r
  Ok (Rectangle ranges)
given_within (set items) = Ok (Items (ascending (listed_in items)))

-- what a literal gives
abbrev pub given_literal : List ℕ → Result Operand Refusal
given_literal text = do
  literal ← literal_domain text
  given_within literal

-- what a name gives
abbrev pub given_name : List ℕ → Result Operand Refusal
given_name text = do
  name ← name_of text
  Ok (Named name)

-- what a text gives
abbrev pub given_text : List ℕ → Result Operand Refusal
given_text text = if is_braced text then given_literal text else given_name text

-- what a field gives, which is a text
abbrev pub given_by : Data → Result Operand Refusal
given_by field = do
  text ← ok_or (as_str field) BadRequest
  given_text text

-- the coordinates of a point
abbrev pub point_in : Index → Option (List ℤ)
point_in (Point is) = Some is
point_in (Text text) = None

-- a field that is an offset for each dimension: an integer, or an array of two or three of them
abbrev pub offsets_by : Data → Result (List ℤ) Refusal
offsets_by field = ok_or (option_and_then point_in (index_of field)) BadRequest

-- the new value itself
abbrev pub to_by : Data → Result NewIndices Refusal
to_by field = do
  given ← given_by field
  Ok (To given)

-- what a rectangular domain is sliced by
abbrev pub slice_by : Data → Result NewIndices Refusal
slice_by field = do
  given ← given_by field
  Ok (Slice given)

-- by how much the ranges are displaced
abbrev pub displace_by : Displacement → Data → Result NewIndices Refusal
displace_by how field = do
  offsets ← offsets_by field
  Ok (Displace how offsets)

-- the other of two sets
abbrev pub combine_by : SetOperation → Data → Result NewIndices Refusal
combine_by how field = do
  given ← given_by field
  Ok (Combine how given)

-- the set operation that a request has a field for
abbrev pub combination_of : Data → Result NewIndices Refusal
combination_of d =
    option_map_or (combine_by Union) (get (codes "or") d) (
    option_map_or (combine_by Intersection) (get (codes "and") d) (
    option_map_or (combine_by Difference) (get (codes "minus") d) (
    option_map_or (combine_by SymmetricDifference) (get (codes "xor") d) (
    Err BadRequest))))

-- the source that a request has a field for
abbrev pub source_of : Data → Result NewIndices Refusal
source_of d =
    option_map_or to_by (get (codes "to") d) (
    option_map_or slice_by (get (codes "slice") d) (
    option_map_or (displace_by Translate) (get (codes "translate") d) (
    option_map_or (displace_by Expand) (get (codes "expand") d) (
    combination_of d))))
