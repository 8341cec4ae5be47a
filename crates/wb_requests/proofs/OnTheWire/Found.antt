-- What is read as a request is that request.
use Rattle.std.proofs.Common.{◌≡◌, ◌≤◌, ◌+◌, ℕ, ℤ, true, false, List, [], ◌∷◌, ◌++◌, codes, length, Option, Some, None, Result, Ok, Err, refl, sym, ap, ◌∙◌, subst, nat_eq}
use Rattle.std.proofs.Common.{if◌then◌else◌, arith, eqb-true, option_map}
use Rattle.std.proofs.lemmas.List.{append-nil, append_assoc}
use Rattle.std.specs.Prelude.{bytes_eq}
use Rattle.std.specs.Option.{option_map_or}
use Rattle.std.proofs.lemmas.Slice.Eq.{bytes_eq-Decides}
use Rattle.serde_json.specs.Data.{Data, null, boolean, number as json_number, string, array, object, Items, no_items, item, Members}
use Rattle.serde_json.specs.Events.{items_len}
use Rattle.serde_json.specs.Find.{get, get_member, as_str}
use Rattle.wb_cells.specs.Cells.{Name}
use Rattle.wb_cells.specs.declared.values.index.Index.TheVariants.{Point}
use Rattle.wb_cells.specs.Shapes.{indices}
use Rattle.wb_edit.specs.declared.asked_numbers.AskedNumbers.TheVariants.{Rectangle as numbered, Indices as not_numbered}
use Rattle.wb_edit.specs.declared.asked_rectangle.AskedRectangle.TheVariants.{Ranges, Indices}
use Rattle.wb_edit.specs.declared.command.Command.TheVariants.{Domain, Remap, Reshape, Sparse, Assoc}
use Rattle.wb_edit.specs.declared.command.Command.TheVariants.{DropDomain, Add, Remove, Array, Set, Irv, Copy}
use Rattle.wb_edit.specs.declared.command.Command.TheVariants.{Fill, Put, FillAll, DropArray, All}
use Rattle.wb_edit.specs.declared.edit.Edit.TheVariants.{Load}
use Rattle.wb_edit.specs.declared.command.Command.{Command}
use Rattle.wb_edit.specs.declared.edit.Edit.TheVariants.{Command as OneCommand, Transaction}
use Rattle.wb_edit.specs.Transactions.{AreSeveral, is_note}
use Rattle.wb_edit.specs.declared.query.Query.TheVariants.{Get, Size, Where, Piece, Reduce, State, Note}
use Rattle.wb_edit.specs.declared.refusal.Refusal.{Refusal}
use Rattle.wb_edit.specs.declared.refusal.Refusal.TheVariants.{BadRequest}
use Rattle.wb_literals.specs.Domain as literals
use Rattle.wb_literals.specs.Grammar as grammar
use Rattle.wb_literals.specs.declared.mapping.MappingLiteral.{MappingLiteral}
use Rattle.wb_reshape.specs.declared.operand.Operand.{Operand}
use Rattle.wb_reshape.specs.declared.operand.Operand.TheVariants.{Rectangle}
use Rattle.wb_reshape.specs.declared.new_indices.Displacement.{Displacement}
use Rattle.wb_reshape.specs.declared.new_indices.Displacement.TheVariants.{Translate, Expand}
use Rattle.wb_reshape.specs.declared.new_indices.SetOperation.{SetOperation}
use Rattle.wb_reshape.specs.declared.new_indices.SetOperation.TheVariants.{Union, Intersection, Difference, SymmetricDifference}
use Rattle.wb_reshape.specs.declared.new_indices.NewIndices.{NewIndices}
use Rattle.wb_reshape.specs.declared.new_indices.NewIndices.TheVariants.{To, Slice, Displace, Combine}
use Rattle.wb_requests.specs.Fields.{◌>>=◌, member_count, has_fields, has_fields_and, text_field, optional_text, text_if_there, name_field, index_field, i64_field}
use Rattle.wb_requests.specs.Fields.{integers_field, u64_field, key_type_field, operation_field, reduction_field}
use Rattle.wb_requests.specs.Fields.{note_in, note_if_there, optional_note, several_field, is_among}
use Rattle.wb_requests.specs.Literals.{literal_domain, literal_mapping, optional_mapping as mapping_if_there, text_of_book, domain_within, mapping_within}
use Rattle.wb_requests.specs.Sources.{given_by, offsets_by, to_by, slice_by, displace_by, combine_by, combination_of, source_of}
use Rattle.wb_requests.specs.Requests.{of_command, domain_with, domain_by, domain_of, remap_of, reshape_of, fill_over, fill_of, put_on, put_over, put_of, load_of}
use Rattle.wb_requests.specs.Requests.{undo_by_number, undo_of, print_of, history_from, history_of, edits_of, explain_of, by_single_op, as_command, command_by, command_of, lesser_refusal, one_more, commands_after, transaction_of, by_op, request_of, array_of, drop_array_of, set_of, fill_all_of, copy_of}
use Rattle.wb_requests.specs.Requests.{irv_of, all_of, sparse_of, assoc_of, add_of, remove_of, drop_domain_of, redo_of, cascade_of, dependents_of, get_of, where_of, size_of, piece_of}
use Rattle.wb_requests.specs.Requests.{reduce_of, state_of, note_of}
use Rattle.wb_requests.specs.declared.requests.request.Request.{Request}
use Rattle.wb_requests.specs.declared.requests.request.Request.TheVariants.{Change, Undo, Redo, Cascade, Dependents, Ask, Print, History, Edits, Explain}
use Rattle.wb_requests.specs.Wire.Table.{Meaning, word, name, integer, index, given, mapping, optional_mapping, book, numbers, some_set, some_numbers, note, edits}
use Rattle.wb_requests.specs.Wire.Table.{Fields, op, command_ops, table}
use Rattle.wb_requests.specs.Wire.Spelled.{IsIntegers, IsIndex, IsOperand, Says, HasFields, IsCommand, AreCommands, IsRequest}
use Rattle.wb_requests.proofs.OnTheWire.Parts.{within_several}
use Rattle.wb_requests.proofs.OnTheWire.Read.{as_many}
use Rattle.wb_requests.proofs.OnTheWire.Several.{several_found, several_holds}
use Rattle.wb_requests.proofs.OnTheWire.Members.{are_apart, is_needed, are_needed, AllSay, there, is_there, exactly, has_fields as has_fields_of}
use Rattle.wb_requests.proofs.OnTheWire.Values.{step, ok_same, no_ok, text_found, says_text, valued, word_found, name_found, index_found, integer_found, natural_found}
use Rattle.wb_requests.proofs.OnTheWire.Values.{some_of_ok, some_same, no_some, str_found, mapped, chosen, type_found, operation_found, reduction_found, integers_found}
use Rattle.wb_requests.proofs.OnTheWire.Spellings.{count_found, domain_found, rectangle_found, given_found, offsets_found, mapping_found, book_found, optional_found}
use Rattle.wb_requests.proofs.OnTheWire.Spellings.{optional_count}
use Rattle.wb_requests.proofs.OnTheWire.Steps.{one, two, two_of, three, five}

-- what a reader reads of an object that names the op
abbrev pub IsFound : List ℕ → (Data → Result Request Refusal) → Type 0
IsFound op read = (ms : Members) (r : Request) → Says (get_member (codes "op") ms) (word op) → read (object ms) ≡ Ok r → HasFields ms (table r)

-- as many members as the table has, which all say what they have to
pub as_table : (ms : Members) (q r : Request) → ◌≡◌ {A = Result Request Refusal} (Ok q) (Ok r) → are_apart (table q) ≡ true → are_needed (table q) ≡ true →
    member_count ms ≡ length (table q) → AllSay (table q) ms → HasFields ms (table r)
as_table ms q r e h k n a = subst (λ r. HasFields ms (table r)) (ok_same q r e) (exactly (table q) ms h k n a)

sparse_found : IsFound (codes "sparse") sparse_of
sparse_found ms r s e =
    let x = two (has_fields 3 (object ms)) (name_field (codes "d") (object ms)) (name_field (codes "of") (object ms))
    (λ d parent. Ok (of_command (Sparse d parent))) r e in
    as_table ms (of_command (Sparse x.0 x.1)) r x.5 refl refl (count_found ms 3 tt x.2)
    (name_found (get_member (codes "d") ms) x.0 x.3, (name_found (get_member (codes "of") ms) x.1 x.4, (s, tt)))

assoc_found : IsFound (codes "assoc") assoc_of
assoc_found ms r s e =
    let x = two (has_fields 3 (object ms)) (name_field (codes "d") (object ms)) (key_type_field (codes "of") (object ms))
    (λ d type. Ok (of_command (Assoc d type))) r e in
    as_table ms (of_command (Assoc x.0 x.1)) r x.5 refl refl (count_found ms 3 tt x.2)
    (name_found (get_member (codes "d") ms) x.0 x.3, (type_found (get_member (codes "of") ms) x.1 x.4, (s, tt)))

drop_domain_found : IsFound (codes "drop_domain") drop_domain_of
drop_domain_found ms r s e =
    let x = one (has_fields 2 (object ms)) (name_field (codes "d") (object ms)) (λ d. Ok (of_command (DropDomain d))) r e in
    as_table ms (of_command (DropDomain x.0)) r x.3 refl refl (count_found ms 2 tt x.1) (name_found (get_member (codes "d") ms) x.0 x.2, (s, tt))

add_found : IsFound (codes "add") add_of
add_found ms r s e =
    let x = two (has_fields 3 (object ms)) (name_field (codes "d") (object ms)) (index_field (codes "i") (object ms)) (λ d i. Ok (of_command (Add d i))) r e in
    as_table ms (of_command (Add x.0 x.1)) r x.5 refl refl (count_found ms 3 tt x.2)
    (name_found (get_member (codes "d") ms) x.0 x.3, (index_found (get_member (codes "i") ms) x.1 x.4, (s, tt)))

remove_found : IsFound (codes "remove") remove_of
remove_found ms r s e =
    let x = two (has_fields 3 (object ms)) (name_field (codes "d") (object ms)) (index_field (codes "i") (object ms)) (λ d i. Ok (of_command (Remove d i))) r e in
    as_table ms (of_command (Remove x.0 x.1)) r x.5 refl refl (count_found ms 3 tt x.2)
    (name_found (get_member (codes "d") ms) x.0 x.3, (index_found (get_member (codes "i") ms) x.1 x.4, (s, tt)))

array_found : IsFound (codes "array") array_of
array_found ms r s e =
    let x = two (has_fields 3 (object ms)) (name_field (codes "a") (object ms)) (name_field (codes "d") (object ms)) (λ a d. Ok (of_command (Array a d))) r e in
    as_table ms (of_command (Array x.0 x.1)) r x.5 refl refl (count_found ms 3 tt x.2)
    (name_found (get_member (codes "a") ms) x.0 x.3, (name_found (get_member (codes "d") ms) x.1 x.4, (s, tt)))

drop_array_found : IsFound (codes "drop_array") drop_array_of
drop_array_found ms r s e =
    let x = one (has_fields 2 (object ms)) (name_field (codes "a") (object ms)) (λ a. Ok (of_command (DropArray a))) r e in
    as_table ms (of_command (DropArray x.0)) r x.3 refl refl (count_found ms 2 tt x.1) (name_found (get_member (codes "a") ms) x.0 x.2, (s, tt))

set_found : IsFound (codes "set") set_of
set_found ms r s e =
    let x = three (has_fields 4 (object ms)) (name_field (codes "a") (object ms)) (index_field (codes "i") (object ms)) (i64_field (codes "v") (object ms))
    (λ a i v. Ok (of_command (Set a i v))) r e in
    as_table ms (of_command (Set x.0 x.1 x.2)) r x.7 refl refl (count_found ms 4 tt x.3) (
      name_found (get_member (codes "a") ms) x.0 x.4,
      (
        index_found (get_member (codes "i") ms) x.1 x.5,
        (s, (integer_found (get_member (codes "v") ms) x.2 x.6, tt)),
      ),
    )

fill_all_found : IsFound (codes "fill_all") fill_all_of
fill_all_found ms r s e =
    let x = two (has_fields 3 (object ms)) (name_field (codes "a") (object ms)) (i64_field (codes "v") (object ms)) (λ a v. Ok (of_command (FillAll a v))) r e in
    as_table ms (of_command (FillAll x.0 x.1)) r x.5 refl refl (count_found ms 3 tt x.2)
    (name_found (get_member (codes "a") ms) x.0 x.3, (s, (integer_found (get_member (codes "v") ms) x.1 x.4, tt)))

irv_found : IsFound (codes "irv") irv_of
irv_found ms r s e =
    let x = two (has_fields 3 (object ms)) (name_field (codes "a") (object ms)) (i64_field (codes "v") (object ms)) (λ a v. Ok (of_command (Irv a v))) r e in
    as_table ms (of_command (Irv x.0 x.1)) r x.5 refl refl (count_found ms 3 tt x.2)
    (name_found (get_member (codes "a") ms) x.0 x.3, (s, (integer_found (get_member (codes "v") ms) x.1 x.4, tt)))

copy_found : IsFound (codes "copy") copy_of
copy_found ms r s e =
    let x = five (has_fields 6 (object ms)) (name_field (codes "a") (object ms)) (index_field (codes "i") (object ms)) (name_field (codes "b") (object ms))
    (index_field (codes "j") (object ms)) (i64_field (codes "c") (object ms)) (λ a i b j c. Ok (of_command (Copy a i b j c))) r e in
    as_table ms (of_command (Copy x.0 x.1 x.2 x.3 x.4)) r x.11 refl refl (count_found ms 6 tt x.5) (
      name_found (get_member (codes "a") ms) x.0 x.6,
      (
        name_found (get_member (codes "b") ms) x.2 x.8,
        (
          integer_found (get_member (codes "c") ms) x.4 x.10,
          (
            index_found (get_member (codes "i") ms) x.1 x.7,
            (index_found (get_member (codes "j") ms) x.3 x.9, (s, tt)),
          ),
        ),
      ),
    )

all_found_of : IsFound (codes "all") all_of
all_found_of ms r s e =
    let x = three (has_fields 4 (object ms)) (name_field (codes "a") (object ms)) (operation_field (codes "how") (object ms))
    (name_field (codes "b") (object ms)) (λ a how b. Ok (of_command (All a how b))) r e in
    as_table ms (of_command (All x.0 x.1 x.2)) r x.7 refl refl (count_found ms 4 tt x.3) (
      name_found (get_member (codes "a") ms) x.0 x.4,
      (
        name_found (get_member (codes "b") ms) x.2 x.6,
        (operation_found (get_member (codes "how") ms) x.1 x.5, (s, tt)),
      ),
    )

redo_found : IsFound (codes "redo") redo_of
redo_found ms r s e =
    let x = one (has_fields 2 (object ms)) (u64_field (codes "k") (object ms)) (λ k. Ok (Redo k)) r e in
    as_table ms (Redo x.0) r x.3 refl refl (count_found ms 2 tt x.1) (natural_found (get_member (codes "k") ms) x.0 x.2, (s, tt))

cascade_found : IsFound (codes "cascade") cascade_of
cascade_found ms r s e =
    let x = one (has_fields 2 (object ms)) (u64_field (codes "k") (object ms)) (λ k. Ok (Cascade k)) r e in
    as_table ms (Cascade x.0) r x.3 refl refl (count_found ms 2 tt x.1) (natural_found (get_member (codes "k") ms) x.0 x.2, (s, tt))

dependents_found : IsFound (codes "dependents") dependents_of
dependents_found ms r s e =
    let x = one (has_fields 2 (object ms)) (u64_field (codes "k") (object ms)) (λ k. Ok (Dependents k)) r e in
    as_table ms (Dependents x.0) r x.3 refl refl (count_found ms 2 tt x.1) (natural_found (get_member (codes "k") ms) x.0 x.2, (s, tt))

get_found : IsFound (codes "get") get_of
get_found ms r s e =
    let x = two (has_fields 3 (object ms)) (name_field (codes "a") (object ms)) (index_field (codes "i") (object ms)) (λ a i. Ok (Ask (Get a i))) r e in
    as_table ms (Ask (Get x.0 x.1)) r x.5 refl refl (count_found ms 3 tt x.2)
    (name_found (get_member (codes "a") ms) x.0 x.3, (index_found (get_member (codes "i") ms) x.1 x.4, (s, tt)))

where_found : IsFound (codes "where") where_of
where_found ms r s e =
    let x = two (has_fields 3 (object ms)) (name_field (codes "d") (object ms)) (index_field (codes "i") (object ms)) (λ d i. Ok (Ask (Where d i))) r e in
    as_table ms (Ask (Where x.0 x.1)) r x.5 refl refl (count_found ms 3 tt x.2)
    (name_found (get_member (codes "d") ms) x.0 x.3, (index_found (get_member (codes "i") ms) x.1 x.4, (s, tt)))

size_found : IsFound (codes "size") size_of
size_found ms r s e =
    let x = one (has_fields 2 (object ms)) (name_field (codes "d") (object ms)) (λ d. Ok (Ask (Size d))) r e in
    as_table ms (Ask (Size x.0)) r x.3 refl refl (count_found ms 2 tt x.1) (name_found (get_member (codes "d") ms) x.0 x.2, (s, tt))

piece_found : IsFound (codes "piece") piece_of
piece_found ms r s e =
    let x = two (has_fields 3 (object ms)) (name_field (codes "a") (object ms)) (u64_field (codes "l") (object ms)) (λ a l. Ok (Ask (Piece a l))) r e in
    as_table ms (Ask (Piece x.0 x.1)) r x.5 refl refl (count_found ms 3 tt x.2)
    (name_found (get_member (codes "a") ms) x.0 x.3, (natural_found (get_member (codes "l") ms) x.1 x.4, (s, tt)))

reduce_found : IsFound (codes "reduce") reduce_of
reduce_found ms r s e =
    let x = two (has_fields 3 (object ms)) (name_field (codes "a") (object ms)) (reduction_field (codes "how") (object ms)) (λ a how. Ok (Ask (Reduce a how)))
    r e in
    as_table ms (Ask (Reduce x.0 x.1)) r x.5 refl refl (count_found ms 3 tt x.2)
    (name_found (get_member (codes "a") ms) x.0 x.3, (reduction_found (get_member (codes "how") ms) x.1 x.4, (s, tt)))

state_found : IsFound (codes "state") state_of
state_found ms r s e =
    let x = one (has_fields 2 (object ms)) (u64_field (codes "k") (object ms)) (λ k. Ok (Ask (State k))) r e in
    as_table ms (Ask (State x.0)) r x.3 refl refl (count_found ms 2 tt x.1) (natural_found (get_member (codes "k") ms) x.0 x.2, (s, tt))

note_found_of : IsFound (codes "note") note_of
note_found_of ms r s e =
    let x = one (has_fields 2 (object ms)) (u64_field (codes "k") (object ms)) (λ k. Ok (Ask (Note k))) r e in
    as_table ms (Ask (Note x.0)) r x.3 refl refl (count_found ms 2 tt x.1) (natural_found (get_member (codes "k") ms) x.0 x.2, (s, tt))

-- ---- the ops with literals

remap_found : IsFound (codes "remap") remap_of
remap_found ms r s e =
    let x = two (has_fields 3 (object ms)) (name_field (codes "d") (object ms)) (text_field (codes "map") (object ms))
    (λ d text. literal_mapping text >>= (λ spelled. mapping_within spelled >>= (λ m. Ok (of_command (Remap d m))))) r e in
    let l = step (literal_mapping x.1) (λ spelled. mapping_within spelled >>= (λ m. Ok (of_command (Remap x.0 m)))) r x.5 in
    let m = step (mapping_within l.0) (λ m. Ok (of_command (Remap x.0 m))) r l.2 in
    as_table ms (of_command (Remap x.0 m.0)) r m.2 refl refl (count_found ms 3 tt x.2) (
      name_found (get_member (codes "d") ms) x.0 x.3,
      (
        says_text (get_member (codes "map") ms) (mapping m.0) x.1
            (text_found (get_member (codes "map") ms) x.1 x.4) (mapping_found x.1 l.0 m.0 l.1 m.1),
        (s, tt),
      ),
    )

fill_over_found : (ms : Members) (a : Name) (text : List ℕ) (v : ℤ) (l : literals.Domain) (r : Request) →
    Says (get_member (codes "op") ms) (word (codes "fill")) → member_count ms ≡ 4
    → Says (get_member (codes "a") ms) (name a) → get_member (codes "on") ms ≡ Some (string text) → Says (get_member (codes "v") ms) (integer v) →
    grammar.IsDomain text l → fill_over a l v ≡ Ok r → HasFields ms (table r)
fill_over_found ms a text v (literals.rectangle l) r s n named on value spelled e =
    let x = step (domain_within l) (λ ranges. Ok (of_command (Fill a (Ranges ranges) v))) r e in
    as_table ms (of_command (Fill a (Ranges x.0) v)) r x.2 refl refl n (
      named,
      (says_text (get_member (codes "on") ms) (given (Rectangle x.0)) text on (text, l, refl, spelled, rectangle_found l x.0 x.1), (s, (value, tt))),
    )
fill_over_found ms a text v (literals.set listed) r s n named on value spelled e =
    as_table ms (of_command (Fill a Indices v)) r e refl refl n (
      named,
      (says_text (get_member (codes "on") ms) some_set text on (text, listed, refl, spelled), (s, (value, tt))),
    )

fill_found : IsFound (codes "fill") fill_of
fill_found ms r s e =
    let x = three (has_fields 4 (object ms)) (name_field (codes "a") (object ms)) (text_field (codes "on") (object ms)) (i64_field (codes "v") (object ms))
    (λ a text v. literal_domain text >>= (λ l. fill_over a l v)) r e in
    let l = step (literal_domain x.1) (λ l. fill_over x.0 l x.2) r x.7 in
    fill_over_found ms x.0 x.1 x.2 l.0 r s (count_found ms 4 tt x.3) (name_found (get_member (codes "a") ms) x.0 x.4)
    (text_found (get_member (codes "on") ms) x.1 x.5) (integer_found (get_member (codes "v") ms) x.2 x.6) (domain_found x.1 l.0 l.1) l.2

put_over_found : (ms : Members) (a : Name) (text : List ℕ) (v : Data) (vs : List ℤ) (l : literals.Domain) (r : Request) →
    Says (get_member (codes "op") ms) (word (codes "put")) → member_count ms ≡ 4
    → Says (get_member (codes "a") ms) (name a) → get_member (codes "on") ms ≡ Some (string text) → get_member (codes "vs") ms ≡ Some v → IsIntegers v vs →
    grammar.IsDomain text l → put_over a l vs ≡ Ok r → HasFields ms (table r)
put_over_found ms a text v vs (literals.rectangle l) r s n named on at integral spelled e =
    let x = step (domain_within l) (λ ranges. put_on a ranges vs) r e in
    let k = chosen (nat_eq (length vs) (length (indices x.0))) (of_command (Put a (numbered (x.0, vs)))) r x.2 in
    as_table ms (of_command (Put a (numbered (x.0, vs)))) r (ap Ok k.1) refl refl n (
      named,
      (
        says_text (get_member (codes "on") ms) (given (Rectangle x.0)) text on (text, l, refl, spelled, rectangle_found l x.0 x.1),
        (s, (valued (get_member (codes "vs") ms) v (numbers x.0 vs) at (integral, eqb-true (length vs) (length (indices x.0)) k.0), tt)),
      ),
    )
put_over_found ms a text v vs (literals.set listed) r s n named on at integral spelled e =
    as_table ms (of_command (Put a not_numbered)) r e refl refl n (
      named,
      (
        says_text (get_member (codes "on") ms) some_set text on (text, listed, refl, spelled),
        (s, (valued (get_member (codes "vs") ms) v some_numbers at (vs, integral), tt)),
      ),
    )

put_found : IsFound (codes "put") put_of
put_found ms r s e =
    let x = three (has_fields 4 (object ms)) (name_field (codes "a") (object ms)) (text_field (codes "on") (object ms)) (integers_field (codes "vs") (object ms))
    (λ a text vs. literal_domain text >>= (λ l. put_over a l vs)) r e in
    let l = step (literal_domain x.1) (λ l. put_over x.0 l x.2) r x.7 in
    let v = integers_found (get_member (codes "vs") ms) x.2 x.6 in
    put_over_found ms x.0 x.1 v.0 x.2 l.0 r s (count_found ms 4 tt x.3) (name_found (get_member (codes "a") ms) x.0 x.4)
    (text_found (get_member (codes "on") ms) x.1 x.5) v.1 v.2 (domain_found x.1 l.0 l.1) l.2

load_found : IsFound (codes "load") load_of
load_found ms r s e =
    let x = one (has_fields 2 (object ms)) (text_field (codes "text") (object ms)) (λ text. text_of_book text >>= (λ t. Ok (Change (Load t)))) r e in
    let t = step (text_of_book x.0) (λ t. Ok (Change (Load t))) r x.3 in
    as_table ms (Change (Load t.0)) r t.2 refl refl (count_found ms 2 tt x.1)
    (s, (says_text (get_member (codes "text") ms) (book t.0) x.0 (text_found (get_member (codes "text") ms) x.0 x.2) (book_found x.0 t.0 t.1), tt))

-- ---- domains, whose mapping may be missing

-- all members but the mapping have to be there
domain_fields : (ms : Members) (q r : Request) (d : Name) (is map : Meaning) →
    table q ≡ (codes "d", name d) ∷ (codes "is", is) ∷ (codes "map", map) ∷ op (codes "domain") ∷ [] → is_needed is ≡ true
    → ◌≡◌ {A = Result Request Refusal} (Ok q) (Ok r) → 3 + there (get_member (codes "map") ms) ≡ member_count ms
    → Says (get_member (codes "d") ms) (name d) → Says (get_member (codes "is") ms) is → Says (get_member (codes "map") ms) map →
    Says (get_member (codes "op") ms) (word (codes "domain")) → HasFields ms (table r)
domain_fields ms q r d is map t needed e n named spelled mapped s =
    let fs : Fields = (codes "d", name d) ∷ (codes "is", is) ∷ (codes "map", map) ∷ op (codes "domain") ∷ [] in
    let one = is_there (get_member (codes "d") ms) (name d) refl named in
    let two = is_there (get_member (codes "is") ms) is needed spelled in
    let three = is_there (get_member (codes "op") ms) (word (codes "domain")) refl s in
    subst (λ r. HasFields ms (table r)) (ok_same q r e) (subst (HasFields ms) (sym t)
    (has_fields_of fs ms refl (omega (arith, n, one, two, three)) (named, (spelled, (mapped, (s, tt))))))

domain_with_found : (ms : Members) (d : Name) (text : List ℕ) (t : Option (List ℕ)) (l : literals.Domain) (m : MappingLiteral) (r : Request) →
    Says (get_member (codes "op") ms) (word (codes "domain"))
    → 3 + there (get_member (codes "map") ms) ≡ member_count ms → Says (get_member (codes "d") ms) (name d) → get_member (codes "is") ms ≡ Some (string text) →
    grammar.IsDomain text l
    → text_if_there (get_member (codes "map") ms) ≡ Ok t → mapping_if_there t ≡ Ok m → domain_with d l m ≡ Ok r → HasFields ms (table r)
domain_with_found ms d text t (literals.rectangle l) m r s n named is spelled there mapped e =
    let x = step (domain_within l) (λ ranges. mapping_within m >>= (λ map. Ok (of_command (Domain d (Ranges ranges) map)))) r e in
    let y = step (mapping_within m) (λ map. Ok (of_command (Domain d (Ranges x.0) map))) r x.2 in
    domain_fields ms (of_command (Domain d (Ranges x.0) y.0)) r d (given (Rectangle x.0)) (optional_mapping y.0) refl refl y.2 n named
    (says_text (get_member (codes "is") ms) (given (Rectangle x.0)) text is (text, l, refl, spelled, rectangle_found l x.0 x.1))
    (optional_found (get_member (codes "map") ms) t m y.0 there mapped y.1) s
domain_with_found ms d text t (literals.set listed) m r s n named is spelled there mapped e =
    let y = step (mapping_within m) (λ map. Ok (of_command (Domain d Indices map))) r e in
    domain_fields ms (of_command (Domain d Indices y.0)) r d some_set (optional_mapping y.0) refl refl y.2 n named
    (says_text (get_member (codes "is") ms) some_set text is (text, listed, refl, spelled))
    (optional_found (get_member (codes "map") ms) t m y.0 there mapped y.1) s

domain_found_of : IsFound (codes "domain") domain_of
domain_found_of ms r s e =
    let t = step (optional_text (codes "map") (object ms)) (λ map. two_of (has_fields_and 3 map (object ms)) (name_field (codes "d") (object ms))
    (text_field (codes "is") (object ms)) (λ d text. domain_by d text map)) r e in
    let x = two (has_fields_and 3 t.0 (object ms)) (name_field (codes "d") (object ms)) (text_field (codes "is") (object ms)) (λ d text. domain_by d text t.0)
    r t.2 in
    let l = step (literal_domain x.1) (λ l. mapping_if_there t.0 >>= (λ m. domain_with x.0 l m)) r x.5 in
    let m = step (mapping_if_there t.0) (λ m. domain_with x.0 l.0 m) r l.2 in
    domain_with_found ms x.0 x.1 t.0 l.0 m.0 r s (optional_count (get_member (codes "map") ms) t.0 ms tt t.1 x.2)
    (name_found (get_member (codes "d") ms) x.0 x.3) (text_found (get_member (codes "is") ms) x.1 x.4)
    (domain_found x.1 l.0 l.1) t.1 m.1 m.2

-- ---- reshape, by which source there is

-- the one that is there, or the next ones
source_by : (o : Option Data) (by : Data → Result NewIndices Refusal) (more : Result NewIndices Refusal) (s : NewIndices) (P : Type 0) →
    option_map_or by o more ≡ Ok s
    → ((v : Data) → o ≡ Some v → by v ≡ Ok s → P) → (more ≡ Ok s → P) → P
source_by None by more s P e here on = on e
source_by (Some v) by more s P e here on = here v refl e

to_found : (v : Data) (s : NewIndices) → to_by v ≡ Ok s → (g : Operand) × (IsOperand v g) × (To g ≡ s)
to_found v s e = let x = step (given_by v) (λ g. Ok (To g)) s e in (x.0, given_found v x.0 x.1, ok_same (To x.0) s x.2)

slice_found : (v : Data) (s : NewIndices) → slice_by v ≡ Ok s → (g : Operand) × (IsOperand v g) × (Slice g ≡ s)
slice_found v s e = let x = step (given_by v) (λ g. Ok (Slice g)) s e in (x.0, given_found v x.0 x.1, ok_same (Slice x.0) s x.2)

combine_found : (how : SetOperation) (v : Data) (s : NewIndices) → combine_by how v ≡ Ok s → (g : Operand) × (IsOperand v g) × (Combine how g ≡ s)
combine_found how v s e = let x = step (given_by v) (λ g. Ok (Combine how g)) s e in (x.0, given_found v x.0 x.1, ok_same (Combine how x.0) s x.2)

displace_found : (how : Displacement) (v : Data) (s : NewIndices) → displace_by how v ≡ Ok s → (is : List ℤ) × (IsIndex v (Point is)) × (Displace how is ≡ s)
displace_found how v s e = let x = step (offsets_by v) (λ is. Ok (Displace how is)) s e in (x.0, offsets_found v x.0 x.1, ok_same (Displace how x.0) s x.2)

module _ (ms : Members) (d : Name) (s : Says (get_member (codes "op") ms) (word (codes "reshape"))) (n : member_count ms ≡ 3)
    (named : Says (get_member (codes "d") ms) (name d)) where
  here : (x : NewIndices) (y : NewIndices) → are_apart (table (of_command (Reshape d x))) ≡ true → are_needed (table (of_command (Reshape d x))) ≡ true →
      3 ≡ length (table (of_command (Reshape d x)))
      → x ≡ y → AllSay (table (of_command (Reshape d x))) ms → HasFields ms (table (of_command (Reshape d y)))
  here x y h k l e a = subst (λ y. HasFields ms (table (of_command (Reshape d y)))) e (exactly (table (of_command (Reshape d x))) ms h k (n ∙ l) a)

  combination_found : (y : NewIndices) → combination_of (object ms) ≡ Ok y → HasFields ms (table (of_command (Reshape d y)))
  combination_found y e =
      let P : Type 0 = HasFields ms (table (of_command (Reshape d y))) in
      source_by (get_member (codes "or") ms) (combine_by Union) _ y P e
      (λ v at by. let g = combine_found Union v y by in here (Combine Union g.0) y refl refl refl g.2
      (named, (s, (valued (get_member (codes "or") ms) v (given g.0) at g.1, tt)))) (λ e.
      source_by (get_member (codes "and") ms) (combine_by Intersection) _ y P e
      (λ v at by. let g = combine_found Intersection v y by in here (Combine Intersection g.0) y refl refl refl g.2
      (valued (get_member (codes "and") ms) v (given g.0) at g.1, (named, (s, tt)))) (λ e.
      source_by (get_member (codes "minus") ms) (combine_by Difference) _ y P e
      (λ v at by. let g = combine_found Difference v y by in here (Combine Difference g.0) y refl refl refl g.2
      (named, (valued (get_member (codes "minus") ms) v (given g.0) at g.1, (s, tt)))) (λ e.
      source_by (get_member (codes "xor") ms) (combine_by SymmetricDifference) _ y P e
      (λ v at by. let g = combine_found SymmetricDifference v y by in
      here (Combine SymmetricDifference g.0) y refl refl refl g.2 (named, (s, (valued (get_member (codes "xor") ms) v (given g.0) at g.1, tt)))) (λ e.
      no_ok BadRequest y e))))

  source_found : (y : NewIndices) → source_of (object ms) ≡ Ok y → HasFields ms (table (of_command (Reshape d y)))
  source_found y e =
      let P : Type 0 = HasFields ms (table (of_command (Reshape d y))) in
      source_by (get_member (codes "to") ms) to_by _ y P e (λ v at by. let g = to_found v y by in
      here (To g.0) y refl refl refl g.2 (named, (s, (valued (get_member (codes "to") ms) v (given g.0) at g.1, tt)))) (λ e.
      source_by (get_member (codes "slice") ms) slice_by _ y P e (λ v at by. let g = slice_found v y by in
      here (Slice g.0) y refl refl refl g.2 (named, (s, (valued (get_member (codes "slice") ms) v (given g.0) at g.1, tt)))) (λ e.
      source_by (get_member (codes "translate") ms) (displace_by Translate) _ y P e
      (λ v at by. let g = displace_found Translate v y by in here (Displace Translate g.0) y refl refl refl g.2
      (named, (s, (valued (get_member (codes "translate") ms) v (index (Point g.0)) at g.1, tt)))) (λ e.
      source_by (get_member (codes "expand") ms) (displace_by Expand) _ y P e
      (λ v at by. let g = displace_found Expand v y by in here (Displace Expand g.0) y refl refl refl g.2
      (named, (valued (get_member (codes "expand") ms) v (index (Point g.0)) at g.1, (s, tt)))) (λ e.
      combination_found y e))))

reshape_found : IsFound (codes "reshape") reshape_of
reshape_found ms r s e =
    let x = two (has_fields 3 (object ms)) (name_field (codes "d") (object ms)) (source_of (object ms)) (λ d y. Ok (of_command (Reshape d y))) r e in
    subst (λ r. HasFields ms (table r)) (ok_same (of_command (Reshape x.0 x.1)) r x.5)
    (source_found ms x.0 s (count_found ms 3 tt x.2) (name_found (get_member (codes "d") ms) x.0 x.3) x.1 x.4)

-- ---- the ops without a field, or with one that may be missing

print_found : IsFound (codes "print") print_of
print_found ms r s e =
    let x = step (has_fields 1 (object ms)) (λ u. Ok Print) r e in
    as_table ms Print r x.2 refl refl (count_found ms 1 tt x.1) (s, tt)

history_found : IsFound (codes "history") history_of
history_found ms r s e = elim (nat_eq (member_count ms) 1) as (λ b. nat_eq (member_count ms) 1 ≡ b →
    (if b then Ok (History None) else history_from (object ms)) ≡ Ok r → HasFields ms (table r)) [
      | true ↦ λ h f. as_table ms (History None) r f refl refl (eqb-true (member_count ms) 1 h) (s, tt)
      | false ↦ λ h f.
          let x = one (has_fields 2 (object ms)) (u64_field (codes "from") (object ms)) (λ k. Ok (History (Some k))) r f in
          as_table ms (History (Some x.0)) r x.3 refl refl (count_found ms 2 tt x.1) (natural_found (get_member (codes "from") ms) x.0 x.2, (s, tt))
    ] refl e

edits_found : IsFound (codes "edits") edits_of
edits_found ms r s e =
    let x = step (has_fields 1 (object ms)) (λ u. Ok Edits) r e in
    as_table ms Edits r x.2 refl refl (count_found ms 1 tt x.1) (s, tt)

explain_found : IsFound (codes "explain") explain_of
explain_found ms r s e =
    let x = one (has_fields 2 (object ms)) (text_field (codes "line") (object ms)) (λ line. Ok (Explain line)) r e in
    as_table ms (Explain x.0) r x.3 refl refl (count_found ms 2 tt x.1) (word_found (get_member (codes "line") ms) x.0 x.2, (s, tt))

undo_found : IsFound (codes "undo") undo_of
undo_found ms r s e = elim (nat_eq (member_count ms) 1) as (λ b. nat_eq (member_count ms) 1 ≡ b →
    (if b then Ok (Undo None) else undo_by_number (object ms)) ≡ Ok r → HasFields ms (table r)) [
      | true ↦ λ h f. as_table ms (Undo None) r f refl refl (eqb-true (member_count ms) 1 h) (s, tt)
      | false ↦ λ h f.
          let x = one (has_fields 2 (object ms)) (u64_field (codes "k") (object ms)) (λ k. Ok (Undo (Some k))) r f in
          as_table ms (Undo (Some x.0)) r x.3 refl refl (count_found ms 2 tt x.1) (natural_found (get_member (codes "k") ms) x.0 x.2, (s, tt))
    ] refl e

-- ---- by the op

-- an op and its reader
abbrev pub Reader : Type 0
Reader = List ℕ × (Data → Result Request Refusal)

-- by the first reader of the op
abbrev pub by_first : List Reader → List ℕ → Data → Result Request Refusal
by_first [] op d = Err BadRequest
by_first (x ∷ xs) op d = if bytes_eq op x.0 then x.1 d else by_first xs op d

abbrev AllFound : List Reader → Type 0
AllFound [] = Unit {0}
AllFound (x ∷ xs) = IsFound x.0 x.1 × AllFound xs

first_found : (xs : List Reader) → AllFound xs → (ms : Members) (op : List ℕ) (r : Request) → Says (get_member (codes "op") ms) (word op) →
    by_first xs op (object ms) ≡ Ok r → HasFields ms (table r)
first_found [] h ms op r s e = no_ok BadRequest r e
first_found (x ∷ xs) h ms op r s e = elim (bytes_eq op x.0) as
    (λ b. bytes_eq op x.0 ≡ b → (if b then x.1 (object ms) else by_first xs op (object ms)) ≡ Ok r → HasFields ms (table r)) [
      | true ↦ λ is f. h.0 ms r (subst (λ w. Says (get_member (codes "op") ms) (word w)) ((bytes_eq-Decides op x.0).0 is) s) f
      | false ↦ λ is f. first_found xs h.1 ms op r s f
    ] refl e

-- the readers of anything but a transaction
abbrev pub singles : List Reader
singles = (codes "domain", domain_of) ∷ (codes "remap", remap_of) ∷ (codes "sparse", sparse_of) ∷ (codes "assoc", assoc_of) ∷
    (codes "drop_domain", drop_domain_of) ∷ (codes "reshape", reshape_of) ∷ (codes "add", add_of)
    ∷ (codes "remove", remove_of) ∷ (codes "load", load_of) ∷ (codes "explain", explain_of) ∷ (codes "array", array_of) ∷ (codes "drop_array", drop_array_of) ∷ (codes "set", set_of) ∷
    (codes "fill", fill_of) ∷ (codes "put", put_of) ∷ (codes "fill_all", fill_all_of) ∷ (codes "irv", irv_of)
    ∷ (codes "copy", copy_of) ∷ (codes "all", all_of) ∷ (codes "undo", undo_of) ∷ (codes "redo", redo_of) ∷ (codes "cascade", cascade_of) ∷
    (codes "dependents", dependents_of) ∷ (codes "get", get_of) ∷ (codes "where", where_of) ∷ (codes "size", size_of) ∷ (codes "piece", piece_of)
    ∷ (codes "reduce", reduce_of) ∷ (codes "state", state_of) ∷ (codes "note", note_of) ∷ (codes "print", print_of) ∷ (codes "history", history_of) ∷ (codes "edits", edits_of) ∷ []

singles_found : AllFound singles
singles_found = (
  domain_found_of,
  (
    remap_found,
    (
      sparse_found,
      (
        assoc_found,
        (
          drop_domain_found,
          (
            reshape_found,
            (
              add_found,
              (
                remove_found,
                (
                  load_found,
                  (
                    explain_found,
                    (
                      array_found,
                      (
                        drop_array_found,
                        (
                          set_found,
                          (
                            fill_found,
                            (
                              put_found,
                              (
                                fill_all_found,
                                (
                                  irv_found,
                                  (
                                    copy_found,
                                    (
                                      all_found_of,
                                      (
                                        undo_found,
                                        (
                                          redo_found,
                                          (
                                            cascade_found,
                                            (
                                              dependents_found,
                                              (
                                                get_found,
                                                (
                                                  where_found,
                                                  (size_found, (piece_found, (reduce_found, (state_found, (note_found_of, (print_found, (history_found, (edits_found, tt)))))))),
                                                ),
                                              ),
                                            ),
                                          ),
                                        ),
                                      ),
                                    ),
                                  ),
                                ),
                              ),
                            ),
                          ),
                        ),
                      ),
                    ),
                  ),
                ),
              ),
            ),
          ),
        ),
      ),
    ),
  ),
)

-- ---- commands

as_command_is : (r : Request) (c : Command) → as_command r ≡ Ok c → r ≡ of_command c
as_command_is (Change (OneCommand k)) c e = ap of_command (ok_same k c e)
as_command_is (Change (Transaction t)) c e = no_ok BadRequest c e
as_command_is (Change (Load text)) c e = no_ok BadRequest c e
as_command_is (Undo k) c e = no_ok BadRequest c e
as_command_is (Redo k) c e = no_ok BadRequest c e
as_command_is (Cascade k) c e = no_ok BadRequest c e
as_command_is (Dependents k) c e = no_ok BadRequest c e
as_command_is (Ask q) c e = no_ok BadRequest c e
as_command_is Print c e = no_ok BadRequest c e
as_command_is (History from) c e = no_ok BadRequest c e
as_command_is Edits c e = no_ok BadRequest c e
as_command_is (Explain line) c e = no_ok BadRequest c e

pub single_found : (ms : Members) (op : List ℕ) (r : Request) → Says (get_member (codes "op") ms) (word op) → by_single_op op (object ms) ≡ Ok r →
    HasFields ms (table r)
single_found ms op r s e = first_found singles singles_found ms op r s e

by_command_found : (ms : Members) (op : List ℕ) (c : Command) → Says (get_member (codes "op") ms) (word op) → command_by op (object ms) ≡ Ok c →
    IsCommand (object ms) c
by_command_found ms op c s e = elim (is_among command_ops op) as
    (λ b. (if b then by_single_op op (object ms) >>= as_command else Err BadRequest) ≡ Ok c → IsCommand (object ms) c) [
      | true ↦ λ f.
          let r = step (by_single_op op (object ms)) as_command c f in
          let h = subst (λ r. HasFields ms (table r)) (as_command_is r.0 c r.2) (single_found ms op r.0 s r.1) in
          (ms, refl, within_several ms c h)
      | false ↦ λ f. no_ok BadRequest c f
    ] e

-- what is read as a command is it
pub one_command_found : (d : Data) (c : Command) → command_of d ≡ Ok c → IsCommand d c
one_command_found (object ms) c e =
    let x = step (text_field (codes "op") (object ms)) (λ op. command_by op (object ms)) c e in
    by_command_found ms x.0 c (word_found (get_member (codes "op") ms) x.0 x.1) x.2
one_command_found null c e = no_ok BadRequest c e
one_command_found (boolean b) c e = no_ok BadRequest c e
one_command_found (json_number n) c e = no_ok BadRequest c e
one_command_found (string s) c e = no_ok BadRequest c e
one_command_found (array ds) c e = no_ok BadRequest c e

one_more_found : (r : Result (List Command) Refusal) (q : Result Command Refusal) (cs : List Command) → one_more r q ≡ Ok cs →
    (before : List Command) × (c : Command) × (r ≡ Ok before) × (q ≡ Ok c) × (before ++ c ∷ [] ≡ cs)
one_more_found (Ok before) (Ok c) cs e = (before, c, refl, refl, ok_same (before ++ c ∷ []) cs e)
one_more_found (Ok before) (Err why) cs e = no_ok why cs e
one_more_found (Err one) (Ok c) cs e = no_ok one cs e
one_more_found (Err one) (Err more) cs e = no_ok (lesser_refusal one more) cs e

pub commands_found : (ds : Items) (r : Result (List Command) Refusal) (cs : List Command) → commands_after r ds ≡ Ok cs →
    (before more : List Command) × (r ≡ Ok before) × AreCommands ds more × (before ++ more ≡ cs)
commands_found no_items r cs e = (cs, [], e, tt, append-nil cs)
commands_found (item d ds) r cs e =
    let x = commands_found ds (one_more r (command_of d)) cs e in
    let y = one_more_found r (command_of d) x.0 x.2 in (
      y.0,
      y.1 ∷ x.1,
      y.2,
      (one_command_found d y.1 y.3, x.3),
      sym (append_assoc y.0 (y.1 ∷ []) x.1) ∙ ap (λ zs. zs ++ x.1) y.4 ∙ x.4,
    )

-- ---- transactions

-- what is read of values is commands, as many as the values
listed_are : (ds : Items) (cs : List Command) → commands_after (Ok []) ds ≡ Ok cs → AreCommands ds cs
listed_are ds cs f =
    let x = commands_found ds (Ok []) cs f in
    let none : [] ≡ x.0 = ok_same [] x.0 x.2 in
    subst (AreCommands ds) (ap (λ zs. zs ++ x.1) none ∙ x.4) x.3

-- commands that are read of 1 to 4,096 values are as many
pub several_commands : (d : Data) (ds : Items) (cs : List Command) → several_field (codes "edits") d ≡ Ok ds → commands_after (Ok []) ds ≡ Ok cs →
    AreSeveral cs
several_commands d ds cs e f =
    let v = several_found (get (codes "edits") d) ds e in
    let few = several_holds (items_len ds) v.1 in
    let many = as_many ds cs (listed_are ds cs f) in
    (subst (λ k. 1 ≤ k) many few.0, subst (λ k. k ≤ 4096) many few.1)

listed_found : (ms : Members) (ds : Items) (cs : List Command) → several_field (codes "edits") (object ms) ≡ Ok ds → commands_after (Ok []) ds ≡ Ok cs →
    Says (get_member (codes "edits") ms) (edits cs)
listed_found ms ds cs e f =
    let v = several_found (get_member (codes "edits") ms) ds e in
    valued (get_member (codes "edits") ms) (array ds) (edits cs) v.0 (ds, refl, listed_are ds cs f, several_commands (object ms) ds cs e f)

-- what an optional note is read of
pub note_is : (o : Option Data) (t : List ℕ) → (text_if_there o >>= note_if_there) ≡ Ok (Some t) → (o ≡ Some (string t)) × (is_note t ≡ true)
note_is None t e = absurd (cc)
note_is (Some v) t e =
    let x = step (text_if_there (Some v)) note_if_there (Some t) e in
    let y = mapped Some (as_str v) x.0 (some_of_ok (option_map Some (as_str v)) BadRequest x.0 x.1) in
    let z : note_if_there (Some y.0) ≡ Ok (Some t) = ap note_if_there y.2 ∙ x.2 in
    let n = step (note_in y.0) (λ n. Ok (Some n)) (Some t) z in
    let k = chosen (is_note y.0) y.0 n.0 n.1 in
    let same : y.0 ≡ t = k.1 ∙ some_same n.0 t (ok_same (Some n.0) (Some t) n.2) in
    (ap Some (str_found v y.0 y.1 ∙ ap string same), ap is_note (sym same) ∙ k.0)

pub no_note_is : (o : Option Data) → (text_if_there o >>= note_if_there) ≡ Ok None → o ≡ None
no_note_is None e = refl
no_note_is (Some v) e =
    let x = step (text_if_there (Some v)) note_if_there None e in
    let y = mapped Some (as_str v) x.0 (some_of_ok (option_map Some (as_str v)) BadRequest x.0 x.1) in
    let z : note_if_there (Some y.0) ≡ Ok None = ap note_if_there y.2 ∙ x.2 in
    let n = step (note_in y.0) (λ n. Ok (Some n)) None z in
    no_some n.0 (sym (ok_same (Some n.0) None n.2))

transaction_fields : (ms : Members) (cs : List Command) (n : Option (List ℕ)) (r : Request) → Says (get_member (codes "op") ms) (word (codes "transaction")) →
    optional_note (codes "note") (object ms) ≡ Ok n → has_fields_and 2 n (object ms) ≡ Ok tt → Says (get_member (codes "edits") ms) (edits cs) →
    ◌≡◌ {A = Result Request Refusal} (Ok (Change (Transaction (cs, n)))) (Ok r) → HasFields ms (table r)
transaction_fields ms cs None r s e u says f = as_table ms (Change (Transaction (cs, None))) r f refl refl (count_found ms 2 tt u) (says, (s, tt))
transaction_fields ms cs (Some t) r s e u says f =
    let n = note_is (get_member (codes "note") ms) t e in
    as_table ms (Change (Transaction (cs, Some t))) r f refl refl (count_found ms 3 tt u)
    (says, (says_text (get_member (codes "note") ms) (note t) t n.0 (refl, n.1), (s, tt)))

transaction_found : IsFound (codes "transaction") transaction_of
transaction_found ms r s e =
    let n = step (optional_note (codes "note") (object ms)) (λ note. has_fields_and 2 note (object ms) >>= (λ u. several_field (codes "edits") (object ms) >>=
    (λ ds. commands_after (Ok []) ds >>= (λ cs. Ok (Change (Transaction (cs, note))))))) r e in
    let x = one (has_fields_and 2 n.0 (object ms)) (several_field (codes "edits") (object ms))
    (λ ds. commands_after (Ok []) ds >>= (λ cs. Ok (Change (Transaction (cs, n.0))))) r n.2 in
    let c = step (commands_after (Ok []) x.0) (λ cs. Ok (Change (Transaction (cs, n.0)))) r x.3 in
    transaction_fields ms c.0 n.0 r s n.1 x.1 (listed_found ms x.0 c.0 x.2 c.1) c.2

-- ---- every request

abbrev pub readers : List Reader
readers = (codes "transaction", transaction_of) ∷ singles

all_found : AllFound readers
all_found = (transaction_found, singles_found)

by_object : (ms : Members) (r : Request) → request_of (object ms) ≡ Ok r → HasFields ms (table r)
by_object ms r e =
    let x = step (text_field (codes "op") (object ms)) (λ op. by_op op (object ms)) r e in
    first_found readers all_found ms x.0 r (word_found (get_member (codes "op") ms) x.0 x.1) x.2

pub request_found : (d : Data) (r : Request) → request_of d ≡ Ok r → IsRequest d r
request_found (object ms) r e = (ms, refl, by_object ms r e)
request_found null r e = no_ok BadRequest r e
request_found (boolean b) r e = no_ok BadRequest r e
request_found (json_number n) r e = no_ok BadRequest r e
request_found (string s) r e = no_ok BadRequest r e
request_found (array ds) r e = no_ok BadRequest r e
