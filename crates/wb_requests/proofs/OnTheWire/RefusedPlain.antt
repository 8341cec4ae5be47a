-- Each op that has no literal among its fields: what its reader reads is without a fault, and what it refuses is refused with the least.
use Rattle.std.proofs.Common.{[], ◌∷◌, codes, Ok, refl}
use Rattle.serde_json.specs.Data.{object}
use Rattle.wb_edit.specs.declared.command.Command.TheVariants.{Sparse, Assoc, DropDomain, Add, Remove, Array, Set, Irv, Copy, FillAll, DropArray, All}
use Rattle.wb_edit.specs.declared.query.Query.TheVariants.{Get, Size, Where, Piece, Reduce, State, Note}
use Rattle.wb_requests.specs.Fields.{has_fields, text_field, name_field, index_field, i64_field, u64_field, key_type_field, operation_field, reduction_field}
use Rattle.wb_requests.specs.Requests.{of_command, array_of, drop_array_of, set_of, fill_all_of, copy_of, irv_of, all_of, sparse_of, assoc_of, add_of, remove_of}
use Rattle.wb_requests.specs.Requests.{drop_domain_of, redo_of, cascade_of, dependents_of, get_of, where_of, size_of, piece_of, reduce_of, state_of, note_of, explain_of}
use Rattle.wb_requests.specs.declared.requests.request.Request.TheVariants.{Redo, Cascade, Dependents, Ask, Explain}
use Rattle.wb_requests.proofs.OnTheWire.Spellings.{count_found}
use Rattle.wb_requests.proofs.OnTheWire.Keys.{form_at}
use Rattle.wb_requests.proofs.OnTheWire.Failing.{name_reader, key_type_reader, operation_reader, reduction_reader, integer_reader, number_reader, index_reader, text_reader}
use Rattle.wb_requests.proofs.OnTheWire.Judged.{Judged, IsJudged, one_judged, two_judged, three_judged, five_judged, fine, field_bad, count_bad, all_fine}

pub sparse_judged : IsJudged (codes "sparse") sparse_of
sparse_judged ms s =
    let o = codes "sparse" in
    two_judged (Judged ms) (has_fields 3 (object ms)) (name_field (codes "d") (object ms)) (name_field (codes "of") (object ms))
    (λ d parent. Ok (of_command (Sparse d parent))) (λ why. count_bad ms o 2 s refl why) (λ why. field_bad ms o (codes "d") s name_reader refl refl why)
    (λ why. field_bad ms o (codes "of") s name_reader refl refl why)
    (λ a b n p q. all_fine ms o (codes "d" ∷ codes "of" ∷ []) s (form_at 2 (o, codes "d" ∷ codes "of" ∷ []) refl refl refl) refl (count_found ms 3 tt n)
    (fine ms o (codes "d") name_reader refl a p, (fine ms o (codes "of") name_reader refl b q, tt)))

pub assoc_judged : IsJudged (codes "assoc") assoc_of
assoc_judged ms s =
    let o = codes "assoc" in
    two_judged (Judged ms) (has_fields 3 (object ms)) (name_field (codes "d") (object ms)) (key_type_field (codes "of") (object ms))
    (λ d type. Ok (of_command (Assoc d type))) (λ why. count_bad ms o 2 s refl why) (λ why. field_bad ms o (codes "d") s name_reader refl refl why)
    (λ why. field_bad ms o (codes "of") s key_type_reader refl refl why)
    (λ a b n p q. all_fine ms o (codes "d" ∷ codes "of" ∷ []) s (form_at 3 (o, codes "d" ∷ codes "of" ∷ []) refl refl refl) refl (count_found ms 3 tt n)
    (fine ms o (codes "d") name_reader refl a p, (fine ms o (codes "of") key_type_reader refl b q, tt)))

pub drop_domain_judged : IsJudged (codes "drop_domain") drop_domain_of
drop_domain_judged ms s =
    let o = codes "drop_domain" in
    one_judged (Judged ms) (has_fields 2 (object ms)) (name_field (codes "d") (object ms)) (λ d. Ok (of_command (DropDomain d)))
    (λ why. count_bad ms o 1 s refl why) (λ why. field_bad ms o (codes "d") s name_reader refl refl why)
    (λ a n p. all_fine ms o (codes "d" ∷ []) s (form_at 4 (o, codes "d" ∷ []) refl refl refl) refl (count_found ms 2 tt n)
    (fine ms o (codes "d") name_reader refl a p, tt))

pub add_judged : IsJudged (codes "add") add_of
add_judged ms s =
    let o = codes "add" in
    two_judged (Judged ms) (has_fields 3 (object ms)) (name_field (codes "d") (object ms)) (index_field (codes "i") (object ms)) (λ d i. Ok (of_command (Add d i)))
    (λ why. count_bad ms o 2 s refl why) (λ why. field_bad ms o (codes "d") s name_reader refl refl why)
    (λ why. field_bad ms o (codes "i") s index_reader refl refl why)
    (λ a b n p q. all_fine ms o (codes "d" ∷ codes "i" ∷ []) s (form_at 13 (o, codes "d" ∷ codes "i" ∷ []) refl refl refl) refl (count_found ms 3 tt n)
    (fine ms o (codes "d") name_reader refl a p, (fine ms o (codes "i") index_reader refl b q, tt)))

pub remove_judged : IsJudged (codes "remove") remove_of
remove_judged ms s =
    let o = codes "remove" in
    two_judged (Judged ms) (has_fields 3 (object ms)) (name_field (codes "d") (object ms)) (index_field (codes "i") (object ms))
    (λ d i. Ok (of_command (Remove d i))) (λ why. count_bad ms o 2 s refl why) (λ why. field_bad ms o (codes "d") s name_reader refl refl why)
    (λ why. field_bad ms o (codes "i") s index_reader refl refl why)
    (λ a b n p q. all_fine ms o (codes "d" ∷ codes "i" ∷ []) s (form_at 14 (o, codes "d" ∷ codes "i" ∷ []) refl refl refl) refl (count_found ms 3 tt n)
    (fine ms o (codes "d") name_reader refl a p, (fine ms o (codes "i") index_reader refl b q, tt)))

pub array_judged : IsJudged (codes "array") array_of
array_judged ms s =
    let o = codes "array" in
    two_judged (Judged ms) (has_fields 3 (object ms)) (name_field (codes "a") (object ms)) (name_field (codes "d") (object ms))
    (λ a d. Ok (of_command (Array a d))) (λ why. count_bad ms o 2 s refl why) (λ why. field_bad ms o (codes "a") s name_reader refl refl why)
    (λ why. field_bad ms o (codes "d") s name_reader refl refl why)
    (λ a b n p q. all_fine ms o (codes "a" ∷ codes "d" ∷ []) s (form_at 16 (o, codes "a" ∷ codes "d" ∷ []) refl refl refl) refl (count_found ms 3 tt n)
    (fine ms o (codes "a") name_reader refl a p, (fine ms o (codes "d") name_reader refl b q, tt)))

pub drop_array_judged : IsJudged (codes "drop_array") drop_array_of
drop_array_judged ms s =
    let o = codes "drop_array" in
    one_judged (Judged ms) (has_fields 2 (object ms)) (name_field (codes "a") (object ms)) (λ a. Ok (of_command (DropArray a)))
    (λ why. count_bad ms o 1 s refl why) (λ why. field_bad ms o (codes "a") s name_reader refl refl why)
    (λ a n p. all_fine ms o (codes "a" ∷ []) s (form_at 17 (o, codes "a" ∷ []) refl refl refl) refl (count_found ms 2 tt n)
    (fine ms o (codes "a") name_reader refl a p, tt))

pub set_judged : IsJudged (codes "set") set_of
set_judged ms s =
    let o = codes "set" in
    three_judged (Judged ms) (has_fields 4 (object ms)) (name_field (codes "a") (object ms)) (index_field (codes "i") (object ms))
    (i64_field (codes "v") (object ms)) (λ a i v. Ok (of_command (Set a i v))) (λ why. count_bad ms o 3 s refl why)
    (λ why. field_bad ms o (codes "a") s name_reader refl refl why) (λ why. field_bad ms o (codes "i") s index_reader refl refl why)
    (λ why. field_bad ms o (codes "v") s integer_reader refl refl why)
    (λ a b c n p q r. all_fine ms o (codes "a" ∷ codes "i" ∷ codes "v" ∷ []) s (form_at 18 (o, codes "a" ∷ codes "i" ∷ codes "v" ∷ []) refl refl refl) refl
    (count_found ms 4 tt n) (
      fine ms o (codes "a") name_reader refl a p,
      (fine ms o (codes "i") index_reader refl b q, (fine ms o (codes "v") integer_reader refl c r, tt)),
    ))

pub fill_all_judged : IsJudged (codes "fill_all") fill_all_of
fill_all_judged ms s =
    let o = codes "fill_all" in
    two_judged (Judged ms) (has_fields 3 (object ms)) (name_field (codes "a") (object ms)) (i64_field (codes "v") (object ms))
    (λ a v. Ok (of_command (FillAll a v))) (λ why. count_bad ms o 2 s refl why) (λ why. field_bad ms o (codes "a") s name_reader refl refl why)
    (λ why. field_bad ms o (codes "v") s integer_reader refl refl why)
    (λ a b n p q. all_fine ms o (codes "a" ∷ codes "v" ∷ []) s (form_at 20 (o, codes "a" ∷ codes "v" ∷ []) refl refl refl) refl (count_found ms 3 tt n)
    (fine ms o (codes "a") name_reader refl a p, (fine ms o (codes "v") integer_reader refl b q, tt)))

pub irv_judged : IsJudged (codes "irv") irv_of
irv_judged ms s =
    let o = codes "irv" in
    two_judged (Judged ms) (has_fields 3 (object ms)) (name_field (codes "a") (object ms)) (i64_field (codes "v") (object ms)) (λ a v. Ok (of_command (Irv a v)))
    (λ why. count_bad ms o 2 s refl why) (λ why. field_bad ms o (codes "a") s name_reader refl refl why)
    (λ why. field_bad ms o (codes "v") s integer_reader refl refl why)
    (λ a b n p q. all_fine ms o (codes "a" ∷ codes "v" ∷ []) s (form_at 21 (o, codes "a" ∷ codes "v" ∷ []) refl refl refl) refl (count_found ms 3 tt n)
    (fine ms o (codes "a") name_reader refl a p, (fine ms o (codes "v") integer_reader refl b q, tt)))

pub copy_judged : IsJudged (codes "copy") copy_of
copy_judged ms s =
    let o = codes "copy" in
    five_judged (Judged ms) (has_fields 6 (object ms)) (name_field (codes "a") (object ms)) (index_field (codes "i") (object ms))
    (name_field (codes "b") (object ms)) (index_field (codes "j") (object ms)) (i64_field (codes "c") (object ms))
    (λ a i b j c. Ok (of_command (Copy a i b j c))) (λ why. count_bad ms o 5 s refl why) (λ why. field_bad ms o (codes "a") s name_reader refl refl why)
    (λ why. field_bad ms o (codes "i") s index_reader refl refl why) (λ why. field_bad ms o (codes "b") s name_reader refl refl why)
    (λ why. field_bad ms o (codes "j") s index_reader refl refl why) (λ why. field_bad ms o (codes "c") s integer_reader refl refl why)
    (λ a b c d e n p q r t w. all_fine ms o (codes "a" ∷ codes "i" ∷ codes "b" ∷ codes "j" ∷ codes "c" ∷ []) s
    (form_at 22 (o, codes "a" ∷ codes "i" ∷ codes "b" ∷ codes "j" ∷ codes "c" ∷ []) refl refl refl) refl (count_found ms 6 tt n) (
      fine ms o (codes "a") name_reader refl a p,
      (
        fine ms o (codes "i") index_reader refl b q,
        (
          fine ms o (codes "b") name_reader refl c r,
          (
            fine ms o (codes "j") index_reader refl d t,
            (fine ms o (codes "c") integer_reader refl e w, tt),
          ),
        ),
      ),
    ))

pub all_judged : IsJudged (codes "all") all_of
all_judged ms s =
    let o = codes "all" in
    three_judged (Judged ms) (has_fields 4 (object ms)) (name_field (codes "a") (object ms)) (operation_field (codes "how") (object ms))
    (name_field (codes "b") (object ms)) (λ a how b. Ok (of_command (All a how b))) (λ why. count_bad ms o 3 s refl why)
    (λ why. field_bad ms o (codes "a") s name_reader refl refl why) (λ why. field_bad ms o (codes "how") s operation_reader refl refl why)
    (λ why. field_bad ms o (codes "b") s name_reader refl refl why)
    (λ a b c n p q r. all_fine ms o (codes "a" ∷ codes "how" ∷ codes "b" ∷ []) s (form_at 23 (o, codes "a" ∷ codes "how" ∷ codes "b" ∷ []) refl refl refl) refl
    (count_found ms 4 tt n) (
      fine ms o (codes "a") name_reader refl a p,
      (fine ms o (codes "how") operation_reader refl b q, (fine ms o (codes "b") name_reader refl c r, tt)),
    ))

pub redo_judged : IsJudged (codes "redo") redo_of
redo_judged ms s =
    let o = codes "redo" in
    one_judged (Judged ms) (has_fields 2 (object ms)) (u64_field (codes "k") (object ms)) (λ k. Ok (Redo k)) (λ why. count_bad ms o 1 s refl why)
    (λ why. field_bad ms o (codes "k") s number_reader refl refl why)
    (λ a n p. all_fine ms o (codes "k" ∷ []) s (form_at 26 (o, codes "k" ∷ []) refl refl refl) refl (count_found ms 2 tt n)
    (fine ms o (codes "k") number_reader refl a p, tt))

pub cascade_judged : IsJudged (codes "cascade") cascade_of
cascade_judged ms s =
    let o = codes "cascade" in
    one_judged (Judged ms) (has_fields 2 (object ms)) (u64_field (codes "k") (object ms)) (λ k. Ok (Cascade k)) (λ why. count_bad ms o 1 s refl why)
    (λ why. field_bad ms o (codes "k") s number_reader refl refl why)
    (λ a n p. all_fine ms o (codes "k" ∷ []) s (form_at 37 (o, codes "k" ∷ []) refl refl refl) refl (count_found ms 2 tt n)
    (fine ms o (codes "k") number_reader refl a p, tt))

pub dependents_judged : IsJudged (codes "dependents") dependents_of
dependents_judged ms s =
    let o = codes "dependents" in
    one_judged (Judged ms) (has_fields 2 (object ms)) (u64_field (codes "k") (object ms)) (λ k. Ok (Dependents k)) (λ why. count_bad ms o 1 s refl why)
    (λ why. field_bad ms o (codes "k") s number_reader refl refl why)
    (λ a n p. all_fine ms o (codes "k" ∷ []) s (form_at 38 (o, codes "k" ∷ []) refl refl refl) refl (count_found ms 2 tt n)
    (fine ms o (codes "k") number_reader refl a p, tt))

pub get_judged : IsJudged (codes "get") get_of
get_judged ms s =
    let o = codes "get" in
    two_judged (Judged ms) (has_fields 3 (object ms)) (name_field (codes "a") (object ms)) (index_field (codes "i") (object ms)) (λ a i. Ok (Ask (Get a i)))
    (λ why. count_bad ms o 2 s refl why) (λ why. field_bad ms o (codes "a") s name_reader refl refl why)
    (λ why. field_bad ms o (codes "i") s index_reader refl refl why)
    (λ a b n p q. all_fine ms o (codes "a" ∷ codes "i" ∷ []) s (form_at 27 (o, codes "a" ∷ codes "i" ∷ []) refl refl refl) refl (count_found ms 3 tt n)
    (fine ms o (codes "a") name_reader refl a p, (fine ms o (codes "i") index_reader refl b q, tt)))

pub where_judged : IsJudged (codes "where") where_of
where_judged ms s =
    let o = codes "where" in
    two_judged (Judged ms) (has_fields 3 (object ms)) (name_field (codes "d") (object ms)) (index_field (codes "i") (object ms)) (λ d i. Ok (Ask (Where d i)))
    (λ why. count_bad ms o 2 s refl why) (λ why. field_bad ms o (codes "d") s name_reader refl refl why)
    (λ why. field_bad ms o (codes "i") s index_reader refl refl why)
    (λ a b n p q. all_fine ms o (codes "d" ∷ codes "i" ∷ []) s (form_at 28 (o, codes "d" ∷ codes "i" ∷ []) refl refl refl) refl (count_found ms 3 tt n)
    (fine ms o (codes "d") name_reader refl a p, (fine ms o (codes "i") index_reader refl b q, tt)))

pub size_judged : IsJudged (codes "size") size_of
size_judged ms s =
    let o = codes "size" in
    one_judged (Judged ms) (has_fields 2 (object ms)) (name_field (codes "d") (object ms)) (λ d. Ok (Ask (Size d))) (λ why. count_bad ms o 1 s refl why)
    (λ why. field_bad ms o (codes "d") s name_reader refl refl why)
    (λ a n p. all_fine ms o (codes "d" ∷ []) s (form_at 29 (o, codes "d" ∷ []) refl refl refl) refl (count_found ms 2 tt n)
    (fine ms o (codes "d") name_reader refl a p, tt))

pub piece_judged : IsJudged (codes "piece") piece_of
piece_judged ms s =
    let o = codes "piece" in
    two_judged (Judged ms) (has_fields 3 (object ms)) (name_field (codes "a") (object ms)) (u64_field (codes "l") (object ms)) (λ a l. Ok (Ask (Piece a l)))
    (λ why. count_bad ms o 2 s refl why) (λ why. field_bad ms o (codes "a") s name_reader refl refl why)
    (λ why. field_bad ms o (codes "l") s number_reader refl refl why)
    (λ a b n p q. all_fine ms o (codes "a" ∷ codes "l" ∷ []) s (form_at 30 (o, codes "a" ∷ codes "l" ∷ []) refl refl refl) refl (count_found ms 3 tt n)
    (fine ms o (codes "a") name_reader refl a p, (fine ms o (codes "l") number_reader refl b q, tt)))

pub reduce_judged : IsJudged (codes "reduce") reduce_of
reduce_judged ms s =
    let o = codes "reduce" in
    two_judged (Judged ms) (has_fields 3 (object ms)) (name_field (codes "a") (object ms)) (reduction_field (codes "how") (object ms))
    (λ a how. Ok (Ask (Reduce a how)))
    (λ why. count_bad ms o 2 s refl why) (λ why. field_bad ms o (codes "a") s name_reader refl refl why)
    (λ why. field_bad ms o (codes "how") s reduction_reader refl refl why)
    (λ a b n p q. all_fine ms o (codes "a" ∷ codes "how" ∷ []) s (form_at 35 (o, codes "a" ∷ codes "how" ∷ []) refl refl refl) refl (count_found ms 3 tt n)
    (fine ms o (codes "a") name_reader refl a p, (fine ms o (codes "how") reduction_reader refl b q, tt)))

pub state_judged : IsJudged (codes "state") state_of
state_judged ms s =
    let o = codes "state" in
    one_judged (Judged ms) (has_fields 2 (object ms)) (u64_field (codes "k") (object ms)) (λ k. Ok (Ask (State k))) (λ why. count_bad ms o 1 s refl why)
    (λ why. field_bad ms o (codes "k") s number_reader refl refl why)
    (λ a n p. all_fine ms o (codes "k" ∷ []) s (form_at 31 (o, codes "k" ∷ []) refl refl refl) refl (count_found ms 2 tt n)
    (fine ms o (codes "k") number_reader refl a p, tt))

pub note_judged : IsJudged (codes "note") note_of
note_judged ms s =
    let o = codes "note" in
    one_judged (Judged ms) (has_fields 2 (object ms)) (u64_field (codes "k") (object ms)) (λ k. Ok (Ask (Note k))) (λ why. count_bad ms o 1 s refl why)
    (λ why. field_bad ms o (codes "k") s number_reader refl refl why)
    (λ a n p. all_fine ms o (codes "k" ∷ []) s (form_at 42 (o, codes "k" ∷ []) refl refl refl) refl (count_found ms 2 tt n)
    (fine ms o (codes "k") number_reader refl a p, tt))

pub explain_judged : IsJudged (codes "explain") explain_of
explain_judged ms s =
    let o = codes "explain" in
    one_judged (Judged ms) (has_fields 2 (object ms)) (text_field (codes "line") (object ms)) (λ line. Ok (Explain line)) (λ why. count_bad ms o 1 s refl why)
    (λ why. field_bad ms o (codes "line") s text_reader refl refl why)
    (λ a n p. all_fine ms o (codes "line" ∷ []) s (form_at 41 (o, codes "line" ∷ []) refl refl refl) refl (count_found ms 2 tt n)
    (fine ms o (codes "line") text_reader refl a p, tt))
