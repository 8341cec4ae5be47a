-- What is asked of an array or a domain, as a request.
use Rattle.std.specs.Prelude.{Bool, true, false, ℤ, List, [], ◌∷◌}
use Rattle.wb_cells.specs.Cells.{Name}
use Rattle.wb_cells.specs.declared.values.index.Index.{Index}
use Rattle.wb_cells.specs.declared.values.index.Index.TheVariants.{Point}
use Rattle.wb_edit.specs.declared.command.Command.TheVariants as commands
use Rattle.wb_edit.specs.declared.edit.Edit.TheVariants as edits
use Rattle.wb_edit.specs.declared.query.Query.TheVariants as queries
use Rattle.wb_requests.specs.declared.requests.request.Request.{Request}
use Rattle.wb_requests.specs.declared.requests.request.Request.TheVariants.{Change, Ask}
use Rattle.wb_desk.specs.declared.brief.Brief.{Brief}
use Rattle.wb_desk.specs.declared.brief.Spot.{Spot}
use Rattle.wb_desk.specs.declared.brief.Spot.TheVariants.{Single, Pair, Triple}
use Rattle.wb_desk.specs.declared.brief.Brief.TheVariants.{Set, SetPair, Get, GetPair, GetTriple, Where, WherePair, WhereTriple, Size, Reduce, Piece}

-- the index with these coordinates
abbrev pub point_of : List ℤ → Index
point_of k = Point k

-- one to three coordinates
abbrev pub coordinates_in : Spot → List ℤ
coordinates_in (Single i) = i ∷ []
coordinates_in (Pair i j) = i ∷ j ∷ []
coordinates_in (Triple i j k) = i ∷ j ∷ k ∷ []

-- a new value of an element, and a question for one or for its locale
abbrev pub set_of : Name → List ℤ → ℤ → Request
set_of a k v = Change (edits.Command (commands.Set a (point_of k) v))

abbrev pub get_of : Name → List ℤ → Request
get_of a k = Ask (queries.Get a (point_of k))

abbrev pub where_of : Name → List ℤ → Request
where_of d k = Ask (queries.Where d (point_of k))

-- the request of a name and of the rest of it
abbrev pub request_of : Name → Brief → Request
request_of a (Set i v) = set_of a (i ∷ []) v
request_of a (SetPair i j v) = set_of a (i ∷ j ∷ []) v
request_of a (Get i) = get_of a (i ∷ [])
request_of a (GetPair i j) = get_of a (i ∷ j ∷ [])
request_of a (GetTriple i j k) = get_of a (i ∷ j ∷ k ∷ [])
request_of d (Where i) = where_of d (i ∷ [])
request_of d (WherePair i j) = where_of d (i ∷ j ∷ [])
request_of d (WhereTriple i j k) = where_of d (i ∷ j ∷ k ∷ [])
request_of d Size = Ask (queries.Size d)
request_of a (Reduce op) = Ask (queries.Reduce a op)
request_of a (Piece l) = Ask (queries.Piece a l)

-- whether it is a new value of an element
abbrev pub is_new_value : Brief → Bool
is_new_value (Set i v) = true
is_new_value (SetPair i j v) = true
is_new_value (Get i) = false
is_new_value (GetPair i j) = false
is_new_value (GetTriple i j k) = false
is_new_value (Where i) = false
is_new_value (WherePair i j) = false
is_new_value (WhereTriple i j k) = false
is_new_value Size = false
is_new_value (Reduce op) = false
is_new_value (Piece l) = false
