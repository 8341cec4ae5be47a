-- The fields of a request, which is a JSON object (RFC 8259, section 4): its members, looked up by their names. A field
-- that isn't there, or isn't of its type, makes the request bad.
use Rattle.std.specs.Prelude.{ℕ, suc, ℤ, List, [], ◌∷◌, Option, Some, None, option_map, option_and_then, Result, Ok, Err, codes, bytes_eq, nat_eq}
use Rattle.std.specs.Prelude.{if◌then◌else◌, ◌&&◌, Bool, true, false, nat_le}
use Rattle.std.specs.Option.{ok_or}
use Rattle.serde_json.specs.Data.{Data, null, boolean, number, string, array, object, Items, no_items, item, Members, no_members, member}
use Rattle.serde_json.specs.Events.{items_len}
use Rattle.serde_json.specs.Find.{get, as_number, as_str, as_i64, as_u64}
use Rattle.wb_sets.specs.Labels.{is_label}
use Rattle.wb_cells.specs.Cells.{Name}
use Rattle.wb_cells.specs.Names.{is_name}
use Rattle.wb_cells.specs.declared.values.index.Index.{Index}
use Rattle.wb_cells.specs.declared.values.index.Index.TheVariants.{Point, Text}
use Rattle.wb_cells.specs.declared.cells.kind.KeyType.{KeyType}
use Rattle.wb_cells.specs.declared.cells.kind.KeyType.TheVariants.{Int, Text as TextKeys}
use Rattle.wb_edit.specs.Transactions.{is_note}
use Rattle.wb_edit.specs.declared.operation.Operation.{Operation}
use Rattle.wb_edit.specs.declared.operation.Operation.TheVariants.{Assign, Sum, Difference, Product}
use Rattle.wb_arrays.specs.declared.reduction.Op.{Op}
use Rattle.wb_arrays.specs.declared.reduction.Op.TheVariants as reductions
use Rattle.wb_edit.specs.declared.refusal.Refusal.{Refusal}
use Rattle.wb_edit.specs.declared.refusal.Refusal.TheVariants.{BadRequest}

-- "by r, get x, and go on", unless r refuses
infixr 10 ◌>>=◌
abbrev pub ◌>>=◌ : {X Y : Type 0} → Result X Refusal → (X → Result Y Refusal) → Result Y Refusal
Ok x >>= next = next x
Err why >>= next = Err why

-- how many members there are
abbrev pub member_count : Members → ℕ
member_count no_members = 0
member_count (member k d ms) = suc (member_count ms)

-- how many fields an object has; each name stands once
abbrev pub field_count : Data → ℕ
field_count (object ms) = member_count ms
field_count null = 0
field_count (boolean b) = 0
field_count (number n) = 0
field_count (string s) = 0
field_count (array ds) = 0

-- So many fields: with that many names looked up, these and no others.
abbrev pub has_fields : ℕ → Data → Result (Unit {0}) Refusal
has_fields n d = if nat_eq (field_count d) n then Ok tt else Err BadRequest

-- a field that is a text
abbrev pub text_field : List ℕ → Data → Result (List ℕ) Refusal
text_field key d = ok_or (option_and_then as_str (get key d)) BadRequest

-- the text that a field is, if there is a field
abbrev pub text_if_there : Option Data → Result (Option (List ℕ)) Refusal
text_if_there None = Ok None
text_if_there (Some field) = ok_or (option_map Some (as_str field)) BadRequest

-- a field that is a text, or that isn't there
abbrev pub optional_text : List ℕ → Data → Result (Option (List ℕ)) Refusal
optional_text key d = text_if_there (get key d)

-- So many fields, and one more where that one is there.
abbrev pub has_fields_and : {X : Type 0} → ℕ → Option X → Data → Result (Unit {0}) Refusal
has_fields_and n None d = has_fields n d
has_fields_and n (Some x) d = has_fields (suc n) d

-- a field that is an integer of 64 bits with a sign; a fraction or an exponent makes a number none
abbrev pub i64_field : List ℕ → Data → Result ℤ Refusal
i64_field key d = ok_or (option_and_then as_i64 (option_and_then as_number (get key d))) BadRequest

-- a field that is an integer of 64 bits without a sign
abbrev pub u64_field : List ℕ → Data → Result ℕ Refusal
u64_field key d = ok_or (option_and_then as_u64 (option_and_then as_number (get key d))) BadRequest

-- the text, where it is a name
abbrev pub name_of : List ℕ → Result Name Refusal
name_of text = if is_name text then Ok text else Err BadRequest

-- a field that is a name
abbrev pub name_field : List ℕ → Data → Result Name Refusal
name_field key d = do
  text ← text_field key d
  name_of text

-- an integer of 64 bits with a sign
abbrev pub integer_of : Data → Option ℤ
integer_of d = option_and_then as_i64 (as_number d)

-- a pair of integers
abbrev pub pair_of : Data → Data → Option Index
pair_of c d = option_and_then (λ i. option_map (λ j. Point (i ∷ j ∷ [])) (integer_of d)) (integer_of c)

-- a triple of integers
abbrev pub triple_of : Data → Data → Data → Option Index
triple_of c d e = option_and_then (λ i. option_and_then (λ j. option_map (λ k. Point (i ∷ j ∷ k ∷ [])) (integer_of e)) (integer_of d)) (integer_of c)

-- two or three integers
abbrev pub tuple_of : Items → Option Index
tuple_of (item c (item d no_items)) = pair_of c d
tuple_of (item c (item d (item e no_items))) = triple_of c d e
tuple_of _ = None

-- the text, where it is short and plain
abbrev pub label_of : List ℕ → Option Index
label_of text = if is_label text then Some (Text text) else None

-- an index: an integer, an array of two or three of them, or a text
abbrev pub index_of : Data → Option Index
index_of (number n) = option_map (λ i. Point (i ∷ [])) (as_i64 n)
index_of (array ds) = tuple_of ds
index_of (string text) = label_of text
index_of null = None
index_of (boolean b) = None
index_of (object ms) = None

-- integers of 64 bits with a sign
abbrev pub integers_listed : Items → Option (List ℤ)
integers_listed no_items = Some []
integers_listed (item d ds) = option_and_then (λ z. option_map (λ zs. z ∷ zs) (integers_listed ds)) (integer_of d)

-- an array of such integers
abbrev pub integers_of : Data → Option (List ℤ)
integers_of (array ds) = integers_listed ds
integers_of null = None
integers_of (boolean b) = None
integers_of (number n) = None
integers_of (string text) = None
integers_of (object ms) = None

-- a field that is such an array
abbrev pub integers_field : List ℕ → Data → Result (List ℤ) Refusal
integers_field key d = ok_or (option_and_then integers_of (get key d)) BadRequest

-- a field that is an index
abbrev pub index_field : List ℕ → Data → Result Index Refusal
index_field key d = ok_or (option_and_then index_of (get key d)) BadRequest

-- the type of an associative domain's indices
abbrev pub key_type_of : List ℕ → Result KeyType Refusal
key_type_of text =
    if bytes_eq text (codes "int") then Ok Int else
    if bytes_eq text (codes "text") then Ok TextKeys else
    Err BadRequest

-- a field that is such a type
abbrev pub key_type_field : List ℕ → Data → Result KeyType Refusal
key_type_field key d = do
  text ← text_field key d
  key_type_of text

-- what becomes of each element of an array beside one of another
abbrev pub operation_of : List ℕ → Result Operation Refusal
operation_of text =
    if bytes_eq text (codes "=") then Ok Assign else
    if bytes_eq text (codes "+") then Ok Sum else
    if bytes_eq text (codes "-") then Ok Difference else
    if bytes_eq text (codes "*") then Ok Product else
    Err BadRequest

-- a field that is such an operation
abbrev pub operation_field : List ℕ → Data → Result Operation Refusal
operation_field key d = do
  text ← text_field key d
  operation_of text

-- what a reduction makes of all elements of an array
abbrev pub reduction_of : List ℕ → Result Op Refusal
reduction_of text =
    if bytes_eq text (codes "+") then Ok reductions.Sum else
    if bytes_eq text (codes "min") then Ok reductions.Min else
    if bytes_eq text (codes "max") then Ok reductions.Max else
    Err BadRequest

-- a field that is such a reduction
abbrev pub reduction_field : List ℕ → Data → Result Op Refusal
reduction_field key d = do
  text ← text_field key d
  reduction_of text

-- the text, where it is a note
abbrev pub note_in : List ℕ → Result (List ℕ) Refusal
note_in text = if is_note text then Ok text else Err BadRequest

-- the note that a text is, if there is a text
abbrev pub note_if_there : Option (List ℕ) → Result (Option (List ℕ)) Refusal
note_if_there None = Ok None
note_if_there (Some text) = do
  note ← note_in text
  Ok (Some note)

-- a field that is a note, or that isn't there
abbrev pub optional_note : List ℕ → Data → Result (Option (List ℕ)) Refusal
optional_note key d = do
  text ← optional_text key d
  note_if_there text

-- 1 to 4,096
abbrev pub is_several : ℕ → Bool
is_several n = nat_le 1 n && nat_le n 4096

-- an array of so many values, whatever they are
abbrev pub several_of : Data → Option Items
several_of (array ds) = if is_several (items_len ds) then Some ds else None
several_of null = None
several_of (boolean b) = None
several_of (number n) = None
several_of (string text) = None
several_of (object ms) = None

-- a field that is such an array
abbrev pub several_field : List ℕ → Data → Result Items Refusal
several_field key d = ok_or (option_and_then several_of (get key d)) BadRequest

-- whether a key is among these
abbrev pub is_among : List (List ℕ) → List ℕ → Bool
is_among [] key = false
is_among (k ∷ ks) key = if bytes_eq key k then true else is_among ks key
