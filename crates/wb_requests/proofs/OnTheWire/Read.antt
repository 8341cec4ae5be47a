-- What is a request is read as that request.
use Rattle.std.proofs.Common.{◌≡◌, ◌≤◌, ◌+◌, ℕ, ℤ, Bool, true, false, List, [], ◌∷◌, ◌++◌, length, codes, Option, Some, None, Result, Ok, Err, refl, sym, ap, ◌∙◌, subst, arith, eq-eqb}
use Rattle.std.proofs.Common.{if◌then◌else◌}
use Rattle.std.specs.Prelude.{bytes_eq, option_and_then}
use Rattle.std.specs.Option.{ok_or}
use Rattle.std.proofs.lemmas.List.{append-nil, append_assoc}
use Rattle.serde_json.specs.Data.{Data, string, array, object, Items, no_items, item, Members}
use Rattle.serde_json.specs.Events.{items_len}
use Rattle.serde_json.specs.Find.{get_member}
use Rattle.wb_dist.specs.Maps.{LayoutMap}
use Rattle.wb_cells.specs.Cells.{Name}
use Rattle.wb_cells.specs.declared.values.index.Index.{Index}
use Rattle.wb_cells.specs.declared.values.index.Index.TheVariants.{Point}
use Rattle.wb_cells.specs.declared.cells.kind.KeyType.{KeyType}
use Rattle.wb_edit.specs.declared.operation.Operation.{Operation}
use Rattle.wb_arrays.specs.declared.reduction.Op.{Op}
use Rattle.wb_cells.specs.Shapes.{indices}
use Rattle.wb_edit.specs.declared.asked_numbers.AskedNumbers.{AskedNumbers}
use Rattle.wb_edit.specs.declared.asked_numbers.AskedNumbers.TheVariants.{Rectangle as numbered, Indices as not_numbered}
use Rattle.wb_edit.specs.declared.asked_rectangle.AskedRectangle.{AskedRectangle}
use Rattle.wb_edit.specs.declared.asked_rectangle.AskedRectangle.TheVariants.{Ranges, Indices}
use Rattle.wb_edit.specs.declared.command.Command.{Command}
use Rattle.wb_edit.specs.declared.edit.Edit.{Edit}
use Rattle.wb_edit.specs.declared.edit.Edit.TheVariants.{Command as OneCommand, Transaction}
use Rattle.wb_edit.specs.declared.command.Command.TheVariants.{Domain, Remap, Reshape, Sparse, Assoc}
use Rattle.wb_edit.specs.declared.command.Command.TheVariants.{DropDomain, Add, Remove, Array, Set, Irv, Copy}
use Rattle.wb_edit.specs.declared.command.Command.TheVariants.{Fill, Put, FillAll, DropArray, All}
use Rattle.wb_edit.specs.declared.edit.Edit.TheVariants.{Load}
use Rattle.wb_edit.specs.declared.query.Query.{Query}
use Rattle.wb_edit.specs.declared.query.Query.TheVariants.{Get, Size, Where, Piece, Reduce, State, Note}
use Rattle.wb_edit.specs.Transactions.{AreSeveral}
use Rattle.wb_edit.specs.declared.refusal.Refusal.{Refusal}
use Rattle.wb_edit.specs.declared.refusal.Refusal.TheVariants.{BadRequest}
use Rattle.wb_literals.specs.Domain as literals
use Rattle.wb_literals.specs.Grammar as grammar
use Rattle.wb_literals.specs.declared.mapping.MappingLiteral.{MappingLiteral}
use Rattle.wb_reshape.specs.declared.operand.Operand.TheVariants.{Rectangle}
use Rattle.wb_reshape.specs.declared.new_indices.Displacement.TheVariants.{Translate, Expand}
use Rattle.wb_reshape.specs.declared.new_indices.SetOperation.TheVariants.{Union, Intersection, Difference, SymmetricDifference}
use Rattle.wb_reshape.specs.declared.new_indices.NewIndices.{NewIndices}
use Rattle.wb_reshape.specs.declared.new_indices.NewIndices.TheVariants.{To, Slice, Displace, Combine}
use Rattle.wb_requests.specs.Fields.{◌>>=◌, member_count, has_fields, has_fields_and, text_field, optional_text, name_field, index_field, i64_field, u64_field}
use Rattle.wb_requests.specs.Fields.{integers_field, key_type_field, operation_field, reduction_field, text_if_there, note_if_there, optional_note, is_several, several_of, several_field}
use Rattle.wb_requests.specs.Literals.{literal_domain, literal_mapping, optional_mapping as mapping_if_there, text_of_book, mapping_within}
use Rattle.wb_requests.specs.Sources.{source_of}
use Rattle.wb_requests.specs.Requests.{of_command, domain_with, domain_by, fill_over, put_over, by_single_op, as_command, command_by, command_of, one_more, commands_after, transaction_of}
use Rattle.wb_requests.specs.Requests.{by_op, request_of}
use Rattle.wb_requests.specs.declared.requests.request.Request.{Request}
use Rattle.wb_requests.specs.declared.requests.request.Request.TheVariants.{Change, Undo, Redo, Cascade, Dependents, Ask, Print, History, Edits, Explain}
use Rattle.wb_requests.specs.Wire.Table.{Meaning, word, name, integer, index, given, mapping, optional_mapping, book, numbers}
use Rattle.wb_requests.specs.Wire.Table.{some_set, some_numbers, note, edits, Fields, op, command_table, transaction_table}
use Rattle.wb_requests.specs.Wire.Table.{table}
use Rattle.wb_requests.specs.Wire.Spelled.{IsIntegers, Spells, Says, HasFields, IsCommand, AreCommands, IsRequest}
use Rattle.wb_requests.proofs.OnTheWire.Several.{several_is, several_told}
use Rattle.wb_requests.proofs.OnTheWire.Parts.{on_its_own, op_of, op_said, op_among}
use Rattle.wb_requests.proofs.OnTheWire.Members.{is_free, is_needed, is_there, there, all_say, all_counted, counted, no_other}
use Rattle.wb_requests.proofs.OnTheWire.Values.{step, ok_same, text_read, word_read, name_read, index_read, integer_read, integers_read, natural_read, type_read}
use Rattle.wb_requests.proofs.OnTheWire.Values.{operation_read, reduction_read}
use Rattle.wb_requests.proofs.OnTheWire.Spellings.{count_read, domain_read, rectangle_read, given_read, offsets_read, literal_read, mapping_read, optional_read}
use Rattle.wb_requests.proofs.OnTheWire.Steps.{one_read, two_of, two_read, three_read, five_read}

step_read : {X Y : Type 0} (r : Result X Refusal) (next : X → Result Y Refusal) (x : X) (y : Result Y Refusal) → r ≡ Ok x → next x ≡ y → (r >>= next) ≡ y
step_read r next x y e f = rw e f

op_read : (ms : Members) (w : List ℕ) (r : Request) → Says (get_member (codes "op") ms) (word w) → by_op w (object ms) ≡ Ok r → request_of (object ms) ≡ Ok r
op_read ms w r s e = step_read (text_field (codes "op") (object ms)) (λ op. by_op op (object ms)) w (Ok r) (word_read (get_member (codes "op") ms) w s) e

-- ---- the ops without literals

sparse_read : (ms : Members) (d : Name) (parent : Name) → HasFields ms (table (of_command (Sparse d parent))) →
    request_of (object ms) ≡ Ok (of_command (Sparse d parent))
sparse_read ms d parent h =
    let s = all_say (table (of_command (Sparse d parent))) ms refl h in
    op_read ms (codes "sparse") (of_command (Sparse d parent)) s.1.1.0
    (two_read (has_fields 3 (object ms)) (name_field (codes "d") (object ms)) (name_field (codes "of") (object ms))
    (λ d parent. Ok (of_command (Sparse d parent))) d parent (of_command (Sparse d parent))
    (count_read ms 3 (counted (table (of_command (Sparse d parent))) ms refl refl h)) (name_read (get_member (codes "d") ms) d s.0)
    (name_read (get_member (codes "of") ms) parent s.1.0) refl)

assoc_read : (ms : Members) (d : Name) (type : KeyType) → HasFields ms (table (of_command (Assoc d type))) → request_of (object ms) ≡ Ok (of_command (Assoc d type))
assoc_read ms d type h =
    let s = all_say (table (of_command (Assoc d type))) ms refl h in
    op_read ms (codes "assoc") (of_command (Assoc d type)) s.1.1.0 (two_read (has_fields 3 (object ms)) (name_field (codes "d") (object ms))
    (key_type_field (codes "of") (object ms)) (λ d type. Ok (of_command (Assoc d type))) d type (of_command (Assoc d type))
    (count_read ms 3 (counted (table (of_command (Assoc d type))) ms refl refl h)) (name_read (get_member (codes "d") ms) d s.0)
    (type_read (get_member (codes "of") ms) type s.1.0) refl)

drop_domain_read : (ms : Members) (d : Name) → HasFields ms (table (of_command (DropDomain d))) → request_of (object ms) ≡ Ok (of_command (DropDomain d))
drop_domain_read ms d h =
    let s = all_say (table (of_command (DropDomain d))) ms refl h in
    op_read ms (codes "drop_domain") (of_command (DropDomain d)) s.1.0
    (one_read (has_fields 2 (object ms)) (name_field (codes "d") (object ms)) (λ d. Ok (of_command (DropDomain d))) d (of_command (DropDomain d))
    (count_read ms 2 (counted (table (of_command (DropDomain d))) ms refl refl h)) (name_read (get_member (codes "d") ms) d s.0) refl)

add_read : (ms : Members) (d : Name) (i : Index) → HasFields ms (table (of_command (Add d i))) → request_of (object ms) ≡ Ok (of_command (Add d i))
add_read ms d i h =
    let s = all_say (table (of_command (Add d i))) ms refl h in
    op_read ms (codes "add") (of_command (Add d i)) s.1.1.0 (two_read (has_fields 3 (object ms)) (name_field (codes "d") (object ms))
    (index_field (codes "i") (object ms)) (λ d i. Ok (of_command (Add d i))) d i (of_command (Add d i))
    (count_read ms 3 (counted (table (of_command (Add d i))) ms refl refl h)) (name_read (get_member (codes "d") ms) d s.0)
    (index_read (get_member (codes "i") ms) i s.1.0) refl)

remove_read : (ms : Members) (d : Name) (i : Index) → HasFields ms (table (of_command (Remove d i))) → request_of (object ms) ≡ Ok (of_command (Remove d i))
remove_read ms d i h =
    let s = all_say (table (of_command (Remove d i))) ms refl h in
    op_read ms (codes "remove") (of_command (Remove d i)) s.1.1.0 (two_read (has_fields 3 (object ms)) (name_field (codes "d") (object ms))
    (index_field (codes "i") (object ms)) (λ d i. Ok (of_command (Remove d i))) d i (of_command (Remove d i))
    (count_read ms 3 (counted (table (of_command (Remove d i))) ms refl refl h)) (name_read (get_member (codes "d") ms) d s.0)
    (index_read (get_member (codes "i") ms) i s.1.0) refl)

array_read : (ms : Members) (a : Name) (d : Name) → HasFields ms (table (of_command (Array a d))) → request_of (object ms) ≡ Ok (of_command (Array a d))
array_read ms a d h =
    let s = all_say (table (of_command (Array a d))) ms refl h in
    op_read ms (codes "array") (of_command (Array a d)) s.1.1.0 (two_read (has_fields 3 (object ms)) (name_field (codes "a") (object ms))
    (name_field (codes "d") (object ms)) (λ a d. Ok (of_command (Array a d))) a d (of_command (Array a d))
    (count_read ms 3 (counted (table (of_command (Array a d))) ms refl refl h)) (name_read (get_member (codes "a") ms) a s.0)
    (name_read (get_member (codes "d") ms) d s.1.0) refl)

drop_array_read : (ms : Members) (a : Name) → HasFields ms (table (of_command (DropArray a))) → request_of (object ms) ≡ Ok (of_command (DropArray a))
drop_array_read ms a h =
    let s = all_say (table (of_command (DropArray a))) ms refl h in
    op_read ms (codes "drop_array") (of_command (DropArray a)) s.1.0
    (one_read (has_fields 2 (object ms)) (name_field (codes "a") (object ms)) (λ a. Ok (of_command (DropArray a))) a (of_command (DropArray a))
    (count_read ms 2 (counted (table (of_command (DropArray a))) ms refl refl h)) (name_read (get_member (codes "a") ms) a s.0) refl)

set_read : (ms : Members) (a : Name) (i : Index) (v : ℤ) → HasFields ms (table (of_command (Set a i v))) → request_of (object ms) ≡ Ok (of_command (Set a i v))
set_read ms a i v h =
    let s = all_say (table (of_command (Set a i v))) ms refl h in
    op_read ms (codes "set") (of_command (Set a i v)) s.1.1.0 (three_read (has_fields 4 (object ms)) (name_field (codes "a") (object ms))
    (index_field (codes "i") (object ms)) (i64_field (codes "v") (object ms)) (λ a i v. Ok (of_command (Set a i v))) a i v (of_command (Set a i v))
    (count_read ms 4 (counted (table (of_command (Set a i v))) ms refl refl h)) (name_read (get_member (codes "a") ms) a s.0)
    (index_read (get_member (codes "i") ms) i s.1.0) (integer_read (get_member (codes "v") ms) v s.1.1.1.0) refl)

fill_all_read : (ms : Members) (a : Name) (v : ℤ) → HasFields ms (table (of_command (FillAll a v))) → request_of (object ms) ≡ Ok (of_command (FillAll a v))
fill_all_read ms a v h =
    let s = all_say (table (of_command (FillAll a v))) ms refl h in
    op_read ms (codes "fill_all") (of_command (FillAll a v)) s.1.0 (two_read (has_fields 3 (object ms)) (name_field (codes "a") (object ms))
    (i64_field (codes "v") (object ms)) (λ a v. Ok (of_command (FillAll a v))) a v (of_command (FillAll a v))
    (count_read ms 3 (counted (table (of_command (FillAll a v))) ms refl refl h)) (name_read (get_member (codes "a") ms) a s.0)
    (integer_read (get_member (codes "v") ms) v s.1.1.0) refl)

irv_read : (ms : Members) (a : Name) (v : ℤ) → HasFields ms (table (of_command (Irv a v))) → request_of (object ms) ≡ Ok (of_command (Irv a v))
irv_read ms a v h =
    let s = all_say (table (of_command (Irv a v))) ms refl h in
    op_read ms (codes "irv") (of_command (Irv a v)) s.1.0 (two_read (has_fields 3 (object ms)) (name_field (codes "a") (object ms))
    (i64_field (codes "v") (object ms)) (λ a v. Ok (of_command (Irv a v))) a v (of_command (Irv a v))
    (count_read ms 3 (counted (table (of_command (Irv a v))) ms refl refl h)) (name_read (get_member (codes "a") ms) a s.0)
    (integer_read (get_member (codes "v") ms) v s.1.1.0) refl)

copy_read : (ms : Members) (a : Name) (i : Index) (b : Name) (j : Index) (c : ℤ) → HasFields ms (table (of_command (Copy a i b j c))) →
    request_of (object ms) ≡ Ok (of_command (Copy a i b j c))
copy_read ms a i b j c h =
    let s = all_say (table (of_command (Copy a i b j c))) ms refl h in
    op_read ms (codes "copy") (of_command (Copy a i b j c)) s.1.1.1.1.1.0
    (five_read (has_fields 6 (object ms)) (name_field (codes "a") (object ms)) (index_field (codes "i") (object ms)) (name_field (codes "b") (object ms))
    (index_field (codes "j") (object ms)) (i64_field (codes "c") (object ms)) (λ a i b j c. Ok (of_command (Copy a i b j c))) a i b j c
    (of_command (Copy a i b j c)) (count_read ms 6 (counted (table (of_command (Copy a i b j c))) ms refl refl h))
    (name_read (get_member (codes "a") ms) a s.0) (index_read (get_member (codes "i") ms) i s.1.1.1.0)
    (name_read (get_member (codes "b") ms) b s.1.0) (index_read (get_member (codes "j") ms) j s.1.1.1.1.0)
    (integer_read (get_member (codes "c") ms) c s.1.1.0) refl)

all_read : (ms : Members) (a : Name) (how : Operation) (b : Name) → HasFields ms (table (of_command (All a how b))) →
    request_of (object ms) ≡ Ok (of_command (All a how b))
all_read ms a how b h =
    let s = all_say (table (of_command (All a how b))) ms refl h in
    op_read ms (codes "all") (of_command (All a how b)) s.1.1.1.0 (three_read (has_fields 4 (object ms)) (name_field (codes "a") (object ms))
    (operation_field (codes "how") (object ms)) (name_field (codes "b") (object ms)) (λ a how b. Ok (of_command (All a how b))) a how b (of_command (All a how b))
    (count_read ms 4 (counted (table (of_command (All a how b))) ms refl refl h)) (name_read (get_member (codes "a") ms) a s.0)
    (operation_read (get_member (codes "how") ms) how s.1.1.0) (name_read (get_member (codes "b") ms) b s.1.0) refl)

redo_read : (ms : Members) (k : ℕ) → HasFields ms (table (Redo k)) → request_of (object ms) ≡ Ok (Redo k)
redo_read ms k h =
    let s = all_say (table (Redo k)) ms refl h in
    op_read ms (codes "redo") (Redo k) s.1.0 (one_read (has_fields 2 (object ms)) (u64_field (codes "k") (object ms)) (λ k. Ok (Redo k)) k (Redo k)
    (count_read ms 2 (counted (table (Redo k)) ms refl refl h)) (natural_read (get_member (codes "k") ms) k s.0) refl)

cascade_read : (ms : Members) (k : ℕ) → HasFields ms (table (Cascade k)) → request_of (object ms) ≡ Ok (Cascade k)
cascade_read ms k h =
    let s = all_say (table (Cascade k)) ms refl h in
    op_read ms (codes "cascade") (Cascade k) s.1.0 (one_read (has_fields 2 (object ms)) (u64_field (codes "k") (object ms)) (λ k. Ok (Cascade k)) k (Cascade k)
    (count_read ms 2 (counted (table (Cascade k)) ms refl refl h)) (natural_read (get_member (codes "k") ms) k s.0) refl)

dependents_read : (ms : Members) (k : ℕ) → HasFields ms (table (Dependents k)) → request_of (object ms) ≡ Ok (Dependents k)
dependents_read ms k h =
    let s = all_say (table (Dependents k)) ms refl h in
    op_read ms (codes "dependents") (Dependents k) s.1.0 (one_read (has_fields 2 (object ms)) (u64_field (codes "k") (object ms)) (λ k. Ok (Dependents k)) k
    (Dependents k) (count_read ms 2 (counted (table (Dependents k)) ms refl refl h)) (natural_read (get_member (codes "k") ms) k s.0) refl)

get_read : (ms : Members) (a : Name) (i : Index) → HasFields ms (table (Ask (Get a i))) → request_of (object ms) ≡ Ok (Ask (Get a i))
get_read ms a i h =
    let s = all_say (table (Ask (Get a i))) ms refl h in
    op_read ms (codes "get") (Ask (Get a i)) s.1.1.0 (two_read (has_fields 3 (object ms)) (name_field (codes "a") (object ms))
    (index_field (codes "i") (object ms)) (λ a i. Ok (Ask (Get a i))) a i (Ask (Get a i))
    (count_read ms 3 (counted (table (Ask (Get a i))) ms refl refl h)) (name_read (get_member (codes "a") ms) a s.0)
    (index_read (get_member (codes "i") ms) i s.1.0) refl)

where_read : (ms : Members) (d : Name) (i : Index) → HasFields ms (table (Ask (Where d i))) → request_of (object ms) ≡ Ok (Ask (Where d i))
where_read ms d i h =
    let s = all_say (table (Ask (Where d i))) ms refl h in
    op_read ms (codes "where") (Ask (Where d i)) s.1.1.0 (two_read (has_fields 3 (object ms)) (name_field (codes "d") (object ms))
    (index_field (codes "i") (object ms)) (λ d i. Ok (Ask (Where d i))) d i (Ask (Where d i))
    (count_read ms 3 (counted (table (Ask (Where d i))) ms refl refl h)) (name_read (get_member (codes "d") ms) d s.0)
    (index_read (get_member (codes "i") ms) i s.1.0) refl)

size_read : (ms : Members) (d : Name) → HasFields ms (table (Ask (Size d))) → request_of (object ms) ≡ Ok (Ask (Size d))
size_read ms d h =
    let s = all_say (table (Ask (Size d))) ms refl h in
    op_read ms (codes "size") (Ask (Size d)) s.1.0 (one_read (has_fields 2 (object ms)) (name_field (codes "d") (object ms)) (λ d. Ok (Ask (Size d))) d
    (Ask (Size d)) (count_read ms 2 (counted (table (Ask (Size d))) ms refl refl h)) (name_read (get_member (codes "d") ms) d s.0) refl)

piece_read : (ms : Members) (a : Name) (l : ℕ) → HasFields ms (table (Ask (Piece a l))) → request_of (object ms) ≡ Ok (Ask (Piece a l))
piece_read ms a l h =
    let s = all_say (table (Ask (Piece a l))) ms refl h in
    op_read ms (codes "piece") (Ask (Piece a l)) s.1.1.0 (two_read (has_fields 3 (object ms)) (name_field (codes "a") (object ms))
    (u64_field (codes "l") (object ms)) (λ a l. Ok (Ask (Piece a l))) a l (Ask (Piece a l))
    (count_read ms 3 (counted (table (Ask (Piece a l))) ms refl refl h)) (name_read (get_member (codes "a") ms) a s.0)
    (natural_read (get_member (codes "l") ms) l s.1.0) refl)

reduce_read : (ms : Members) (a : Name) (how : Op) → HasFields ms (table (Ask (Reduce a how))) → request_of (object ms) ≡ Ok (Ask (Reduce a how))
reduce_read ms a how h =
    let s = all_say (table (Ask (Reduce a how))) ms refl h in
    op_read ms (codes "reduce") (Ask (Reduce a how)) s.1.1.0 (two_read (has_fields 3 (object ms)) (name_field (codes "a") (object ms))
    (reduction_field (codes "how") (object ms)) (λ a how. Ok (Ask (Reduce a how))) a how (Ask (Reduce a how))
    (count_read ms 3 (counted (table (Ask (Reduce a how))) ms refl refl h)) (name_read (get_member (codes "a") ms) a s.0)
    (reduction_read (get_member (codes "how") ms) how s.1.0) refl)

state_read : (ms : Members) (k : ℕ) → HasFields ms (table (Ask (State k))) → request_of (object ms) ≡ Ok (Ask (State k))
state_read ms k h =
    let s = all_say (table (Ask (State k))) ms refl h in
    op_read ms (codes "state") (Ask (State k)) s.1.0 (one_read (has_fields 2 (object ms)) (u64_field (codes "k") (object ms)) (λ k. Ok (Ask (State k))) k
    (Ask (State k)) (count_read ms 2 (counted (table (Ask (State k))) ms refl refl h)) (natural_read (get_member (codes "k") ms) k s.0) refl)

note_read : (ms : Members) (k : ℕ) → HasFields ms (table (Ask (Note k))) → request_of (object ms) ≡ Ok (Ask (Note k))
note_read ms k h =
    let s = all_say (table (Ask (Note k))) ms refl h in
    op_read ms (codes "note") (Ask (Note k)) s.1.0 (one_read (has_fields 2 (object ms)) (u64_field (codes "k") (object ms)) (λ k. Ok (Ask (Note k))) k
    (Ask (Note k)) (count_read ms 2 (counted (table (Ask (Note k))) ms refl refl h)) (natural_read (get_member (codes "k") ms) k s.0) refl)

-- ---- the ops with literals

-- a member that has to be there
said : (o : Option Data) (x : Meaning) → is_needed x ≡ true → Says o x → (v : Data) × (o ≡ Some v) × Spells v x
said (Some v) x h s = (v, refl, s)
said None x h s = let n = is_there None x h s in absurd (omega (arith, n))

remap_read : (ms : Members) (d : Name) (m : LayoutMap) → HasFields ms (table (of_command (Remap d m))) → request_of (object ms) ≡ Ok (of_command (Remap d m))
remap_read ms d m h =
    let s = all_say (table (of_command (Remap d m))) ms refl h in
    let v = said (get_member (codes "map") ms) (mapping m) refl s.1.0 in
    op_read ms (codes "remap") (of_command (Remap d m)) s.1.1.0 (two_read (has_fields 3 (object ms)) (name_field (codes "d") (object ms))
    (text_field (codes "map") (object ms))
    (λ d text. literal_mapping text >>= (λ spelled. mapping_within spelled >>= (λ m. Ok (of_command (Remap d m))))) d v.2.0 (of_command (Remap d m))
    (count_read ms 3 (counted (table (of_command (Remap d m))) ms refl refl h))
    (name_read (get_member (codes "d") ms) d s.0) (text_read (get_member (codes "map") ms) v.2.0 (v.1 ∙ ap Some v.2.2))
    (rw (literal_read v.2.0 v.2.1 v.2.3, mapping_read v.2.1 m v.2.4) refl))

fill_by : (ms : Members) (a : Name) (text : List ℕ) (v : ℤ) (l : literals.Domain) (r : Request) → member_count ms ≡ 4 →
    Says (get_member (codes "op") ms) (word (codes "fill")) → Says (get_member (codes "a") ms) (name a)
    → get_member (codes "on") ms ≡ Some (string text) → Says (get_member (codes "v") ms) (integer v) → grammar.IsDomain text l → fill_over a l v ≡ Ok r →
    request_of (object ms) ≡ Ok r
fill_by ms a text v l r n s named on value spelled e =
    op_read ms (codes "fill") r s (three_read (has_fields 4 (object ms)) (name_field (codes "a") (object ms)) (text_field (codes "on") (object ms))
    (i64_field (codes "v") (object ms))
    (λ a text v. literal_domain text >>= (λ l. fill_over a l v)) a text v r (count_read ms 4 n) (name_read (get_member (codes "a") ms) a named)
    (text_read (get_member (codes "on") ms) text on)
    (integer_read (get_member (codes "v") ms) v value) (step_read (literal_domain text) (λ l. fill_over a l v) l (Ok r) (domain_read text l spelled) e))

fill_read : (ms : Members) (a : Name) (on : AskedRectangle) (v : ℤ) → HasFields ms (table (of_command (Fill a on v))) →
    request_of (object ms) ≡ Ok (of_command (Fill a on v))
fill_read ms a (Ranges on) v h =
    let r : Request = of_command (Fill a (Ranges on) v) in
    let s = all_say (table r) ms refl h in
    let x = said (get_member (codes "on") ms) (given (Rectangle on)) refl s.1.0 in
    fill_by ms a x.2.0 v (literals.rectangle x.2.1) r (counted (table r) ms refl refl h) s.1.1.0 s.0 (x.1 ∙ ap Some x.2.2) s.1.1.1.0 x.2.3
    (rw (rectangle_read x.2.1 on x.2.4) refl)
fill_read ms a Indices v h =
    let r : Request = of_command (Fill a Indices v) in
    let s = all_say (table r) ms refl h in
    let x = said (get_member (codes "on") ms) some_set refl s.1.0 in
    fill_by ms a x.2.0 v (literals.set x.2.1) r (counted (table r) ms refl refl h) s.1.1.0 s.0 (x.1 ∙ ap Some x.2.2) s.1.1.1.0 x.2.3 refl

put_by : (ms : Members) (a : Name) (text : List ℕ) (v : Data) (vs : List ℤ) (l : literals.Domain) (r : Request) → member_count ms ≡ 4 →
    Says (get_member (codes "op") ms) (word (codes "put")) → Says (get_member (codes "a") ms) (name a)
    → get_member (codes "on") ms ≡ Some (string text) → get_member (codes "vs") ms ≡ Some v → IsIntegers v vs → grammar.IsDomain text l →
    put_over a l vs ≡ Ok r → request_of (object ms) ≡ Ok r
put_by ms a text v vs l r n s named on at integral spelled e =
    op_read ms (codes "put") r s (three_read (has_fields 4 (object ms)) (name_field (codes "a") (object ms)) (text_field (codes "on") (object ms))
    (integers_field (codes "vs") (object ms))
    (λ a text vs. literal_domain text >>= (λ l. put_over a l vs)) a text vs r (count_read ms 4 n) (name_read (get_member (codes "a") ms) a named)
    (text_read (get_member (codes "on") ms) text on) (integers_read (get_member (codes "vs") ms) v vs at integral)
    (step_read (literal_domain text) (λ l. put_over a l vs) l (Ok r) (domain_read text l spelled) e))

put_read : (ms : Members) (a : Name) (asked : AskedNumbers) → HasFields ms (table (of_command (Put a asked))) →
    request_of (object ms) ≡ Ok (of_command (Put a asked))
put_read ms a (numbered (on, vs)) h =
    let r : Request = of_command (Put a (numbered (on, vs))) in
    let s = all_say (table r) ms refl h in
    let x = said (get_member (codes "on") ms) (given (Rectangle on)) refl s.1.0 in
    let y = said (get_member (codes "vs") ms) (numbers on vs) refl s.1.1.1.0 in
    put_by ms a x.2.0 y.0 vs (literals.rectangle x.2.1) r (counted (table r) ms refl refl h) s.1.1.0 s.0 (x.1 ∙ ap Some x.2.2) y.1 y.2.0 x.2.3
    (rw (rectangle_read x.2.1 on x.2.4, eq-eqb (length vs) (length (indices on)) y.2.1) refl)
put_read ms a not_numbered h =
    let r : Request = of_command (Put a not_numbered) in
    let s = all_say (table r) ms refl h in
    let x = said (get_member (codes "on") ms) some_set refl s.1.0 in
    let y = said (get_member (codes "vs") ms) some_numbers refl s.1.1.1.0 in
    put_by ms a x.2.0 y.0 y.2.0 (literals.set x.2.1) r (counted (table r) ms refl refl h) s.1.1.0 s.0 (x.1 ∙ ap Some x.2.2) y.1 y.2.1 x.2.3 refl

load_read : (ms : Members) (text : List ℕ) → HasFields ms (table (Change (Load text))) → request_of (object ms) ≡ Ok (Change (Load text))
load_read ms text h =
    let s = all_say (table (Change (Load text))) ms refl h in
    let v = said (get_member (codes "text") ms) (book text) refl s.1.0 in
    op_read ms (codes "load") (Change (Load text)) s.0 (one_read (has_fields 2 (object ms)) (text_field (codes "text") (object ms))
    (λ text. text_of_book text >>= (λ t. Ok (Change (Load t)))) text (Change (Load text))
    (count_read ms 2 (counted (table (Change (Load text))) ms refl refl h)) (text_read (get_member (codes "text") ms) text (v.1 ∙ ap Some v.2.0))
    (rw v.2.1 refl))

-- ---- domains

domain_by_read : (ms : Members) (d : Name) (text : List ℕ) (l : literals.Domain) (m : LayoutMap) (r : Request) →
    3 + there (get_member (codes "map") ms) ≡ member_count ms → Says (get_member (codes "op") ms) (word (codes "domain"))
    → Says (get_member (codes "d") ms) (name d) → get_member (codes "is") ms ≡ Some (string text) → grammar.IsDomain text l →
    Says (get_member (codes "map") ms) (optional_mapping m)
    → ((x : MappingLiteral) → mapping_within x ≡ Ok m → domain_with d l x ≡ Ok r) → request_of (object ms) ≡ Ok r
domain_by_read ms d text l m r n s named is spelled mapped e =
    let o = optional_read (get_member (codes "map") ms) ms m mapped in
    op_read ms (codes "domain") r s (step_read (optional_text (codes "map") (object ms))
    (λ map. two_of (has_fields_and 3 map (object ms)) (name_field (codes "d") (object ms)) (text_field (codes "is") (object ms))
    (λ d text. domain_by d text map)) o.text (Ok r) o.found
    (two_read (has_fields_and 3 o.text (object ms)) (name_field (codes "d") (object ms)) (text_field (codes "is") (object ms))
    (λ d text. domain_by d text o.text) d text r (o.counted n) (name_read (get_member (codes "d") ms) d named)
    (text_read (get_member (codes "is") ms) text is)
    (step_read (literal_domain text) (λ l. mapping_if_there o.text >>= (λ x. domain_with d l x)) l (Ok r) (domain_read text l spelled)
    (step_read (mapping_if_there o.text) (λ x. domain_with d l x) o.literal (Ok r) o.spelled (e o.literal o.within)))))

-- all but the mapping are there
domain_counted : (ms : Members) (d : Name) (is map : Meaning) → is_needed is ≡ true →
    HasFields ms ((codes "d", name d) ∷ (codes "is", is) ∷ (codes "map", map) ∷ op (codes "domain") ∷ []) →
    3 + there (get_member (codes "map") ms) ≡ member_count ms
domain_counted ms d is map needed h =
    let fs : Fields = (codes "d", name d) ∷ (codes "is", is) ∷ (codes "map", map) ∷ op (codes "domain") ∷ [] in
    let s = all_say fs ms refl h in
    let n = all_counted fs ms refl h in
    let one = is_there (get_member (codes "d") ms) (name d) refl s.0 in
    let two = is_there (get_member (codes "is") ms) is needed s.1.0 in
    let three = is_there (get_member (codes "op") ms) (word (codes "domain")) refl s.1.1.1.0 in
    omega (arith, n, one, two, three)

new_domain_read : (ms : Members) (d : Name) (is : AskedRectangle) (m : LayoutMap) → HasFields ms (table (of_command (Domain d is m))) →
    request_of (object ms) ≡ Ok (of_command (Domain d is m))
new_domain_read ms d (Ranges is) m h =
    let r : Request = of_command (Domain d (Ranges is) m) in
    let s = all_say (table r) ms refl h in
    let x = said (get_member (codes "is") ms) (given (Rectangle is)) refl s.1.0 in
    domain_by_read ms d x.2.0 (literals.rectangle x.2.1) m r (domain_counted ms d (given (Rectangle is)) (optional_mapping m) refl h) s.1.1.1.0 s.0
    (x.1 ∙ ap Some x.2.2) x.2.3 s.1.1.0 (λ l e. rw (rectangle_read x.2.1 is x.2.4, e) refl)
new_domain_read ms d Indices m h =
    let r : Request = of_command (Domain d Indices m) in
    let s = all_say (table r) ms refl h in
    let x = said (get_member (codes "is") ms) some_set refl s.1.0 in
    domain_by_read ms d x.2.0 (literals.set x.2.1) m r (domain_counted ms d some_set (optional_mapping m) refl h) s.1.1.1.0 s.0
    (x.1 ∙ ap Some x.2.2) x.2.3 s.1.1.0 (λ l e. rw e refl)

-- ---- reshape

reshape_by : (ms : Members) (d : Name) (x : NewIndices) → member_count ms ≡ 3 → Says (get_member (codes "op") ms) (word (codes "reshape")) →
    Says (get_member (codes "d") ms) (name d) → source_of (object ms) ≡ Ok x
    → request_of (object ms) ≡ Ok (of_command (Reshape d x))
reshape_by ms d x n s named e =
    op_read ms (codes "reshape") (of_command (Reshape d x)) s (two_read (has_fields 3 (object ms)) (name_field (codes "d") (object ms)) (source_of (object ms))
    (λ d x. Ok (of_command (Reshape d x))) d x (of_command (Reshape d x)) (count_read ms 3 n)
    (name_read (get_member (codes "d") ms) d named) e refl)

module _ (ms : Members) (d : Name) where
  -- no other source is there
  lacks : (k : List ℕ) (x : NewIndices) → is_free k (table (of_command (Reshape d x))) ≡ true → HasFields ms (table (of_command (Reshape d x))) → get_member k ms ≡ None
  lacks k x h a = no_other k (table (of_command (Reshape d x))) ms h a

  reshape_read : (x : NewIndices) → HasFields ms (table (of_command (Reshape d x))) → request_of (object ms) ≡ Ok (of_command (Reshape d x))
  reshape_read (To g) h =
      let s = all_say (table (of_command (Reshape d (To g)))) ms refl h in
      let v = said (get_member (codes "to") ms) (given g) refl s.1.1.0 in
      reshape_by ms d (To g) (counted (table (of_command (Reshape d (To g)))) ms refl refl h) s.1.0 s.0 (rw (v.1, given_read v.0 g v.2) refl)
  reshape_read (Slice g) h =
      let s = all_say (table (of_command (Reshape d (Slice g)))) ms refl h in
      let v = said (get_member (codes "slice") ms) (given g) refl s.1.1.0 in
      reshape_by ms d (Slice g) (counted (table (of_command (Reshape d (Slice g)))) ms refl refl h) s.1.0 s.0
      (rw (lacks (codes "to") (Slice g) refl h, v.1, given_read v.0 g v.2) refl)
  reshape_read (Displace Translate is) h =
      let x : NewIndices = Displace Translate is in
      let s = all_say (table (of_command (Reshape d x))) ms refl h in
      let v = said (get_member (codes "translate") ms) (index (Point is)) refl s.1.1.0 in
      reshape_by ms d x (counted (table (of_command (Reshape d x))) ms refl refl h) s.1.0 s.0
      (rw (lacks (codes "to") x refl h, lacks (codes "slice") x refl h, v.1, offsets_read v.0 is v.2) refl)
  reshape_read (Displace Expand is) h =
      let x : NewIndices = Displace Expand is in
      let s = all_say (table (of_command (Reshape d x))) ms refl h in
      let v = said (get_member (codes "expand") ms) (index (Point is)) refl s.1.0 in
      reshape_by ms d x (counted (table (of_command (Reshape d x))) ms refl refl h) s.1.1.0 s.0
      (rw (lacks (codes "to") x refl h, lacks (codes "slice") x refl h, lacks (codes "translate") x refl h, v.1, offsets_read v.0 is v.2) refl)
  reshape_read (Combine Union g) h =
      let x : NewIndices = Combine Union g in
      let s = all_say (table (of_command (Reshape d x))) ms refl h in
      let v = said (get_member (codes "or") ms) (given g) refl s.1.1.0 in
      reshape_by ms d x (counted (table (of_command (Reshape d x))) ms refl refl h) s.1.0 s.0
      (rw (
        lacks (codes "to") x refl h,
        lacks (codes "slice") x refl h,
        lacks (codes "translate") x refl h,
        lacks (codes "expand") x refl h,
        v.1,
        given_read v.0 g v.2,
      ) refl)
  reshape_read (Combine Intersection g) h =
      let x : NewIndices = Combine Intersection g in
      let s = all_say (table (of_command (Reshape d x))) ms refl h in
      let v = said (get_member (codes "and") ms) (given g) refl s.0 in
      reshape_by ms d x (counted (table (of_command (Reshape d x))) ms refl refl h) s.1.1.0 s.1.0
      (rw (
        lacks (codes "to") x refl h,
        lacks (codes "slice") x refl h,
        lacks (codes "translate") x refl h,
        lacks (codes "expand") x refl h,
        lacks (codes "or") x refl h,
        v.1,
        given_read v.0 g v.2,
      ) refl)
  reshape_read (Combine Difference g) h =
      let x : NewIndices = Combine Difference g in
      let s = all_say (table (of_command (Reshape d x))) ms refl h in
      let v = said (get_member (codes "minus") ms) (given g) refl s.1.0 in
      reshape_by ms d x (counted (table (of_command (Reshape d x))) ms refl refl h) s.1.1.0 s.0
      (rw (
        lacks (codes "to") x refl h,
        lacks (codes "slice") x refl h,
        lacks (codes "translate") x refl h,
        lacks (codes "expand") x refl h,
        lacks (codes "or") x refl h,
        lacks (codes "and") x refl h,
        v.1,
        given_read v.0 g v.2,
      ) refl)
  reshape_read (Combine SymmetricDifference g) h =
      let x : NewIndices = Combine SymmetricDifference g in
      let s = all_say (table (of_command (Reshape d x))) ms refl h in
      let v = said (get_member (codes "xor") ms) (given g) refl s.1.1.0 in
      reshape_by ms d x (counted (table (of_command (Reshape d x))) ms refl refl h) s.1.0 s.0
      (rw (
        lacks (codes "to") x refl h,
        lacks (codes "slice") x refl h,
        lacks (codes "translate") x refl h,
        lacks (codes "expand") x refl h,
        lacks (codes "or") x refl h,
        lacks (codes "and") x refl h,
        lacks (codes "minus") x refl h,
        v.1,
        given_read v.0 g v.2,
      ) refl)

-- ---- the ops without a field, or with one that may be missing

print_read : (ms : Members) → HasFields ms (table Print) → request_of (object ms) ≡ Ok Print
print_read ms h =
    let s = all_say (table Print) ms refl h in
    op_read ms (codes "print") Print s.0 (rw (count_read ms 1 (counted (table Print) ms refl refl h)) refl)

history_read : (ms : Members) (from : Option ℕ) → HasFields ms (table (History from)) → request_of (object ms) ≡ Ok (History from)
history_read ms None h =
    let s = all_say (table (History None)) ms refl h in
    op_read ms (codes "history") (History None) s.0 (rw (counted (table (History None)) ms refl refl h) refl)
history_read ms (Some k) h =
    let s = all_say (table (History (Some k))) ms refl h in
    let n = counted (table (History (Some k))) ms refl refl h in
    op_read ms (codes "history") (History (Some k)) s.1.0 (rw (n, natural_read (get_member (codes "from") ms) k s.0) refl)

edits_read : (ms : Members) → HasFields ms (table Edits) → request_of (object ms) ≡ Ok Edits
edits_read ms h =
    let s = all_say (table Edits) ms refl h in
    op_read ms (codes "edits") Edits s.0 (rw (count_read ms 1 (counted (table Edits) ms refl refl h)) refl)

explain_read : (ms : Members) (line : List ℕ) → HasFields ms (table (Explain line)) → request_of (object ms) ≡ Ok (Explain line)
explain_read ms line h =
    let s = all_say (table (Explain line)) ms refl h in
    op_read ms (codes "explain") (Explain line) s.1.0 (one_read (has_fields 2 (object ms)) (text_field (codes "line") (object ms)) (λ line. Ok (Explain line))
    line (Explain line) (count_read ms 2 (counted (table (Explain line)) ms refl refl h)) (word_read (get_member (codes "line") ms) line s.0) refl)

undo_read : (ms : Members) (k : Option ℕ) → HasFields ms (table (Undo k)) → request_of (object ms) ≡ Ok (Undo k)
undo_read ms None h =
    let s = all_say (table (Undo None)) ms refl h in
    op_read ms (codes "undo") (Undo None) s.0 (rw (counted (table (Undo None)) ms refl refl h) refl)
undo_read ms (Some k) h =
    let s = all_say (table (Undo (Some k))) ms refl h in
    let n = counted (table (Undo (Some k))) ms refl refl h in
    op_read ms (codes "undo") (Undo (Some k)) s.1.0 (rw (n, natural_read (get_member (codes "k") ms) k s.0) refl)

-- ---- commands

command_read : (ms : Members) (c : Command) → HasFields ms (command_table c) → request_of (object ms) ≡ Ok (of_command c)
command_read ms (Domain d is m) h = new_domain_read ms d is m h
command_read ms (Remap d m) h = remap_read ms d m h
command_read ms (Sparse d parent) h = sparse_read ms d parent h
command_read ms (Assoc d type) h = assoc_read ms d type h
command_read ms (DropDomain d) h = drop_domain_read ms d h
command_read ms (Reshape d x) h = reshape_read ms d x h
command_read ms (Add d i) h = add_read ms d i h
command_read ms (Remove d i) h = remove_read ms d i h
command_read ms (Array a d) h = array_read ms a d h
command_read ms (DropArray a) h = drop_array_read ms a h
command_read ms (Set a i v) h = set_read ms a i v h
command_read ms (Fill a on v) h = fill_read ms a on v h
command_read ms (Put a asked) h = put_read ms a asked h
command_read ms (FillAll a v) h = fill_all_read ms a v h
command_read ms (Irv a v) h = irv_read ms a v h
command_read ms (Copy a i b j c) h = copy_read ms a i b j c h
command_read ms (All a how b) h = all_read ms a how b h

other_op : (c : Command) → bytes_eq (op_of c) (codes "transaction") ≡ false
other_op (Domain d is m) = refl
other_op (Remap d m) = refl
other_op (Sparse d parent) = refl
other_op (Assoc d type) = refl
other_op (DropDomain d) = refl
other_op (Reshape d x) = refl
other_op (Add d i) = refl
other_op (Remove d i) = refl
other_op (Array a d) = refl
other_op (DropArray a) = refl
other_op (Set a i v) = refl
other_op (Fill a on v) = refl
other_op (Put a asked) = refl
other_op (FillAll a v) = refl
other_op (Irv a v) = refl
other_op (Copy a i b j c) = refl
other_op (All a how b) = refl

-- what is read by its op, where that is no transaction's
single_read : (ms : Members) (w : List ℕ) (r : Request) → Says (get_member (codes "op") ms) (word w) → bytes_eq w (codes "transaction") ≡ false →
    request_of (object ms) ≡ Ok r → by_single_op w (object ms) ≡ Ok r
single_read ms w r s other e =
    let x = step (text_field (codes "op") (object ms)) (λ op. by_op op (object ms)) r e in
    let same : w ≡ x.0 = ok_same w x.0 (sym (word_read (get_member (codes "op") ms) w s) ∙ x.1) in
    sym (ap (λ (b : Bool). if b then transaction_of (object ms) else by_single_op w (object ms)) other) ∙ ap (λ op. by_op op (object ms)) same ∙ x.2

by_command_read : (ms : Members) (c : Command) → HasFields ms (command_table c) → command_by (op_of c) (object ms) ≡ Ok c
by_command_read ms c h =
    ap (λ (b : Bool). if b then by_single_op (op_of c) (object ms) >>= as_command else Err BadRequest) (op_among c)
    ∙ ap (λ r. r >>= as_command) (single_read ms (op_of c) (of_command c) (op_said ms c h) (other_op c) (command_read ms c h))

-- what is a command is read as it
pub one_command_read : (d : Data) (c : Command) → IsCommand d c → command_of d ≡ Ok c
one_command_read d c h =
    let ms = h.0 in
    let f : HasFields ms (command_table c) = on_its_own ms c h.2 in
    ap command_of h.1 ∙ step_read (text_field (codes "op") (object ms)) (λ op. command_by op (object ms)) (op_of c) (Ok c)
    (word_read (get_member (codes "op") ms) (op_of c) (op_said ms c f)) (by_command_read ms c f)

commands_read : (ds : Items) (cs before : List Command) → AreCommands ds cs → commands_after (Ok before) ds ≡ Ok (before ++ cs)
commands_read no_items [] before h = ap Ok (sym (append-nil before))
commands_read (item d ds) (c ∷ cs) before h =
    ap (λ r. commands_after (one_more (Ok before) r) ds) (one_command_read d c h.0) ∙ commands_read ds cs (before ++ c ∷ []) h.1
    ∙ ap Ok (append_assoc before (c ∷ []) cs)
commands_read no_items (c ∷ cs) before h = absurd h
commands_read (item d ds) [] before h = absurd h

pub as_many : (ds : Items) (cs : List Command) → AreCommands ds cs → items_len ds ≡ length cs
as_many no_items [] h = refl
as_many (item d ds) (c ∷ cs) h = let more = as_many ds cs h.1 in omega (arith, more)
as_many no_items (c ∷ cs) h = absurd h
as_many (item d ds) [] h = absurd h

-- ---- transactions

-- steps that read a note, how many members there are, values, and commands
four_read : {A B C R : Type 0} (a : Result A Refusal) (u : A → Result (Unit {0}) Refusal) (b : Result B Refusal) (f : B → Result C Refusal) (K : A → C → Result R Refusal)
    (x : A) (y : B) (z : C) (r : R) → a ≡ Ok x → u x ≡ Ok tt → b ≡ Ok y → f y ≡ Ok z → K x z ≡ Ok r →
    (a >>= (λ x. u x >>= (λ i. b >>= (λ y. f y >>= K x)))) ≡ Ok r
four_read a u b f K x y z r p q s t e = rw (p, q, s, t) e

by_note_read : (ms : Members) (cs : List Command) (n : Option (List ℕ)) (v : Data) (ds : Items) → Says (get_member (codes "op") ms) (word (codes "transaction")) →
    optional_note (codes "note") (object ms) ≡ Ok n → has_fields_and 2 n (object ms) ≡ Ok tt → get_member (codes "edits") ms ≡ Some v → v ≡ array ds →
    AreCommands ds cs → AreSeveral cs → request_of (object ms) ≡ Ok (Change (Transaction (cs, n)))
by_note_read ms cs n v ds s a u at is h few =
    let r : Request = Change (Transaction (cs, n)) in
    let many : items_len ds ≡ length cs = as_many ds cs h in
    let counted : is_several (items_len ds) ≡ true = several_is (items_len ds) (subst (λ k. 1 ≤ k) (sym many) few.0) (subst (λ k. k ≤ 4096) (sym many) few.1) in
    let listed : several_field (codes "edits") (object ms) ≡ Ok ds =
    ap (λ o. ok_or (option_and_then several_of o) BadRequest) at ∙ ap (λ o. ok_or o BadRequest) (several_told v ds is counted) in
    op_read ms (codes "transaction") r s
    (four_read (optional_note (codes "note") (object ms)) (λ note. has_fields_and 2 note (object ms)) (several_field (codes "edits") (object ms))
    (λ ds. commands_after (Ok []) ds) (λ note cs. Ok (Change (Transaction (cs, note)))) n ds cs r a u listed (commands_read ds cs [] h) refl)

transaction_read : (ms : Members) (cs : List Command) (n : Option (List ℕ)) → HasFields ms (transaction_table cs n) →
    request_of (object ms) ≡ Ok (Change (Transaction (cs, n)))
transaction_read ms cs None h =
    let fs : Fields = transaction_table cs None in
    let s = all_say fs ms refl h in
    let v = said (get_member (codes "edits") ms) (edits cs) refl s.0 in
    by_note_read ms cs None v.0 v.2.0 s.1.0 (ap (λ o. text_if_there o >>= note_if_there) (no_other (codes "note") fs ms refl h)) (count_read ms 2 (counted fs ms refl refl h)) v.1 v.2.1 v.2.2 v.2.3
transaction_read ms cs (Some n) h =
    let fs : Fields = transaction_table cs (Some n) in
    let s = all_say fs ms refl h in
    let v = said (get_member (codes "edits") ms) (edits cs) refl s.0 in
    let w = said (get_member (codes "note") ms) (note n) refl s.1.0 in
    by_note_read ms cs (Some n) v.0 v.2.0 s.1.1.0
    (ap (λ o. text_if_there o >>= note_if_there) (w.1 ∙ ap Some w.2.0)
    ∙ ap (λ (b : Bool). (if b then Ok n else Err BadRequest) >>= (λ m. Ok (Some m))) w.2.1) (count_read ms 3 (counted fs ms refl refl h)) v.1 v.2.1 v.2.2 v.2.3

-- ---- every request

edit_read : (ms : Members) (e : Edit) → HasFields ms (table (Change e)) → request_of (object ms) ≡ Ok (Change e)
edit_read ms (OneCommand c) h = command_read ms c h
edit_read ms (Transaction (cs, n)) h = transaction_read ms cs n h
edit_read ms (Load text) h = load_read ms text h

query_read : (ms : Members) (q : Query) → HasFields ms (table (Ask q)) → request_of (object ms) ≡ Ok (Ask q)
query_read ms (Get a i) h = get_read ms a i h
query_read ms (Where d i) h = where_read ms d i h
query_read ms (Size d) h = size_read ms d h
query_read ms (Piece a l) h = piece_read ms a l h
query_read ms (Reduce a how) h = reduce_read ms a how h
query_read ms (State k) h = state_read ms k h
query_read ms (Note k) h = note_read ms k h

members_read : (ms : Members) (r : Request) → HasFields ms (table r) → request_of (object ms) ≡ Ok r
members_read ms (Change e) h = edit_read ms e h
members_read ms (Undo k) h = undo_read ms k h
members_read ms (Redo k) h = redo_read ms k h
members_read ms (Cascade k) h = cascade_read ms k h
members_read ms (Dependents k) h = dependents_read ms k h
members_read ms (Ask q) h = query_read ms q h
members_read ms Print h = print_read ms h
members_read ms (History from) h = history_read ms from h
members_read ms Edits h = edits_read ms h
members_read ms (Explain line) h = explain_read ms line h

pub request_read : (d : Data) (r : Request) → IsRequest d r → request_of d ≡ Ok r
request_read d r h = ap request_of h.1 ∙ members_read h.0 r h.2
