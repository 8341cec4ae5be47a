-- The canonical object of a request is written as its canonical line, which is read back.
use Rattle.std.proofs.Common.{◌≡◌, ◌∙◌, ◌≤◌, ℕ, ℤ, pos, negsuc, true, false, List, [], ◌∷◌, map, Some, refl, sym, ap, subst, arith}
use Rattle.std.specs.Str.{is_utf8}
use Rattle.serde_json.specs.Data.{Data, null, object, depth, items_depth, members_depth}
use Rattle.serde_json.specs.Read.{read, max_depth}
use Rattle.serde_json.specs.View.{view, items_of}
use Rattle.serde_json.specs.Written.{compact_text, has_float, items_have_float, members_have_float}
use Rattle.serde_json.specs.declared.value.Value.{Value}
use Rattle.wb_cells.specs.declared.values.index.Index.TheVariants.{Point, Text}
use Rattle.wb_requests.specs.Encoding.Values.{integer_data, point_data}
use Rattle.wb_requests.specs.Encoding.Table.{Meaning, word, name, integer, number, index, given, mapping, optional_mapping, book, numbers}
use Rattle.wb_requests.specs.Encoding.Table.{some_set, some_numbers, note, edits, Fields, command_table}
use Rattle.wb_edit.specs.declared.command.Command.{Command}
use Rattle.wb_requests.specs.Encoding.Encoded.{data_by, members_by, command_data, commands_data, members_of}

-- ---- no number in it is a float

whole_integer : (z : ℤ) → has_float (integer_data z) ≡ false
whole_integer (pos n) = refl
whole_integer (negsuc n) = refl

whole_integers : (is : List ℤ) → items_have_float (items_of (map integer_data is)) ≡ false
whole_integers [] = refl
whole_integers (i ∷ is) = rw (whole_integer i, whole_integers is) refl

whole_point : (is : List ℤ) → has_float (point_data is) ≡ false
unfolding point_data
whole_point [] = refl
whole_point (i ∷ []) = whole_integer i
whole_point (i ∷ (j ∷ is)) = whole_integers (i ∷ (j ∷ is))

module _ (several : List Command → Data) (none : (cs : List Command) → has_float (several cs) ≡ false) where
  whole_data : (x : Meaning) → has_float (data_by several x) ≡ false
  whole_data (word w) = refl
  whole_data (name n) = refl
  whole_data (integer z) = whole_integer z
  whole_data (number k) = refl
  whole_data (index (Point is)) = whole_point is
  whole_data (index (Text t)) = refl
  whole_data (given g) = refl
  whole_data (mapping m) = refl
  whole_data (optional_mapping m) = refl
  whole_data (book text) = refl
  whole_data (numbers on vs) = whole_integers vs
  whole_data some_set = refl
  whole_data some_numbers = refl
  whole_data (note n) = refl
  whole_data (edits cs) = none cs

  whole_by : (fs : Fields) → members_have_float (members_by several fs) ≡ false
  whole_by [] = refl
  whole_by (f ∷ fs) = rw (whole_data f.1, whole_by fs) refl

whole_commands : (cs : List Command) → items_have_float (items_of (map command_data cs)) ≡ false
whole_commands [] = refl
whole_commands (c ∷ cs) = rw (whole_by (λ cs. null) (λ cs. refl) (command_table c), whole_commands cs) refl

whole_members : (fs : Fields) → members_have_float (members_of fs) ≡ false
whole_members fs = whole_by commands_data whole_commands fs

-- ---- it is shallow

flat_integer : (z : ℤ) → depth (integer_data z) ≡ 0
flat_integer (pos n) = refl
flat_integer (negsuc n) = refl

flat_integers : (is : List ℤ) → items_depth (items_of (map integer_data is)) ≡ 0
flat_integers [] = refl
flat_integers (i ∷ is) = rw (flat_integer i, flat_integers is) refl

flat_point : (is : List ℤ) → depth (point_data is) ≤ 1
unfolding point_data
flat_point [] = omega arith
flat_point (i ∷ []) = let e = flat_integer i in omega (arith, e)
flat_point (i ∷ (j ∷ is)) = let e = flat_integers (i ∷ (j ∷ is)) in omega (arith, e)

module _ (several : List Command → Data) (deep : ℕ) (least : 1 ≤ deep) (low : (cs : List Command) → depth (several cs) ≤ deep) where
  flat_data : (x : Meaning) → depth (data_by several x) ≤ deep
  flat_data (word w) = omega arith
  flat_data (name n) = omega arith
  flat_data (integer z) = let e = flat_integer z in omega (arith, e)
  flat_data (number k) = omega arith
  flat_data (index (Point is)) = let e = flat_point is in omega (arith, e, least)
  flat_data (index (Text t)) = omega arith
  flat_data (given g) = omega arith
  flat_data (mapping m) = omega arith
  flat_data (optional_mapping m) = omega arith
  flat_data (book text) = omega arith
  flat_data (numbers on vs) = let e = flat_integers vs in omega (arith, e, least)
  flat_data some_set = omega arith
  flat_data some_numbers = omega (arith, least)
  flat_data (note n) = omega arith
  flat_data (edits cs) = low cs

  flat_by : (fs : Fields) → members_depth (members_by several fs) ≤ deep
  flat_by [] = omega arith
  flat_by (f ∷ fs) = let d = flat_data f.1 in let m = flat_by fs in omega (arith, d, m)

-- a command's members, its object, and several in an array
flat_commands : (cs : List Command) → items_depth (items_of (map command_data cs)) ≤ 2
flat_commands [] = omega arith
flat_commands (c ∷ cs) =
    let m = flat_by (λ cs. null) 1 (omega arith) (λ cs. omega arith) (command_table c) in let more = flat_commands cs in
    omega (arith, m, more)

flat_edits : (cs : List Command) → depth (commands_data cs) ≤ 3
flat_edits cs = let m = flat_commands cs in omega (arith, m)

flat_members : (fs : Fields) → members_depth (members_of fs) ≤ 3
flat_members fs = flat_by commands_data 3 (omega arith) flat_edits fs

-- ---- its text

abbrev pub object_of : Fields → Data
object_of fs = object (members_of fs)

shallow : (fs : Fields) → depth (object_of fs) ≤ max_depth
shallow fs = let m = flat_members fs in omega (arith, m)

pub line_is : (v : Value) (fs : Fields) (s : List ℕ) → view v ≡ object_of fs → (has_float (view v) ≡ false → s ≡ compact_text (view v)) →
    s ≡ compact_text (object_of fs)
line_is v fs s e h = h (ap has_float e ∙ whole_members fs) ∙ ap compact_text e

pub line_json : (v : Value) (fs : Fields) (s : List ℕ) → view v ≡ object_of fs → (depth (view v) ≤ max_depth → (is_utf8 s ≡ true) × (read s ≡ Some (view v))) →
    (is_utf8 s ≡ true) × (read s ≡ Some (object_of fs))
line_json v fs s e h = let k = h (subst (λ d. depth d ≤ max_depth) (sym e) (shallow fs)) in (k.0, k.1 ∙ ap Some e)
