-- Labels in one list of bytes.
use Rattle.std.specs.Prelude.{ℕ, ◌+◌, ◌≤◌, List, length, map, take, drop}
use Rattle.wb_sets.specs.Labels.{IsLabel}
use Rattle.wb_footprints.specs.declared.places.label_list.LabelPlace.{LabelPlace}

-- the bytes of a label: so many, from where it begins
abbrev pub label_in : List ℕ → LabelPlace → List ℕ
label_in bytes e = take e.len (drop e.start bytes)

abbrev pub labels_in : List ℕ → List LabelPlace → List (List ℕ)
labels_in bytes es = map (label_in bytes) es

-- a label stands there
pub record IsKept (bytes : List ℕ) (e : LabelPlace) : Type 0 where
  pub within : e.start + e.len ≤ length bytes
  pub text : IsLabel (label_in bytes e)
