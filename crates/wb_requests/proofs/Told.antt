-- The members of a JSON value that may be no object, and lines by what the JSON crate said of them.
use Rattle.std.proofs.Common.{◌≡◌, ◌<◌, ◌+◌, ℕ, suc, Bool, true, false, List, ◌∷◌, length, drop, codes, Option, Some, None, option_map, option_and_then, is_some, Result, Ok, Err, IfOk, refl, sym, ap, ◌∙◌, arith}
use Rattle.std.specs.Prelude.{get_or}
use Rattle.std.proofs.lemmas.List.{drop_more}
use Rattle.std.specs.Str.{IsUtf8, is_utf8}
use Rattle.std.proofs.lemmas.Str.{IsUtf8-from_is_utf8, is_utf8-from_IsUtf8}
use Rattle.serde_json.specs.Data.{Data, null, boolean, number, string, array, object}
use Rattle.serde_json.specs.Find.{get, get_member, as_object, as_str}
use Rattle.serde_json.specs.Read.{read}
use Rattle.serde_json.specs.View.{view, items_view}
use Rattle.serde_json.specs.declared.value.Value.{Value}
use Rattle.wb_requests.specs.Fields.{member_count, field_count}
use Rattle.wb_requests.specs.Explained.{Explanation, is_json, of_whole, members_in, op_named, data_explained, json_explained, explained}
use Rattle.wb_requests.specs.Explained.{least_of, command_named, command_explained, at_place, commands_explained}

pub got : (k : List ℕ) (d : Data) → get k d ≡ get_member k (members_in d)
got k (object ms) = refl
got k null = refl
got k (boolean b) = refl
got k (number n) = refl
got k (string s) = refl
got k (array ds) = refl

pub counted_in : (d : Data) → field_count d ≡ member_count (members_in d)
counted_in (object ms) = refl
counted_in null = refl
counted_in (boolean b) = refl
counted_in (number n) = refl
counted_in (string s) = refl
counted_in (array ds) = refl

-- ---- a JSON value

pub object_told : (d : Data) → is_some (as_object d) ≡ true →
    data_explained d ≡ op_named (members_in d) (option_and_then as_str (get_member (codes "op") (members_in d)))
object_told (object ms) e = refl
object_told null e = cc
object_told (boolean b) e = cc
object_told (number n) e = cc
object_told (string s) e = cc
object_told (array ds) e = cc

pub named_told : {E : Type 0} (d : Data) (op : List ℕ) (r : Result (Option Explanation) E) → is_some (as_object d) ≡ true →
    Some op ≡ option_and_then as_str (get_member (codes "op") (members_in d)) → IfOk r (λ x. x ≡ op_named (members_in d) (Some op)) →
    IfOk r (λ x. x ≡ data_explained d)
named_told d op (Ok x) e f h = h ∙ ap (op_named (members_in d)) f ∙ sym (object_told d e)
named_told d op (Err why) e f h = tt

-- ---- a command within a transaction

command_told : (d : Data) → is_some (as_object d) ≡ true →
    command_explained d ≡ command_named (members_in d) (option_and_then as_str (get_member (codes "op") (members_in d)))
command_told (object ms) e = refl
command_told null e = cc
command_told (boolean b) e = cc
command_told (number n) e = cc
command_told (string s) e = cc
command_told (array ds) e = cc

pub named_command_told : {E : Type 0} (d : Data) (op : List ℕ) (r : Result (Option Explanation) E) → is_some (as_object d) ≡ true →
    Some op ≡ option_and_then as_str (get_member (codes "op") (members_in d)) → IfOk r (λ x. x ≡ command_named (members_in d) (Some op)) →
    IfOk r (λ x. x ≡ command_explained d)
named_command_told d op (Ok x) e f h = h ∙ ap (command_named (members_in d)) f ∙ sym (command_told d e)
named_command_told d op (Err why) e f h = tt

-- one command before those of which it was told
pub told_before : (vs : List Value) (k left : ℕ) (v : Value) (placed more : Option Explanation) → k < length vs → left ≡ suc k → v ≡ get_or vs k v →
    placed ≡ option_map (at_place k) (command_explained (view v)) → more ≡ commands_explained left (items_view (drop left vs)) →
    least_of placed more ≡ commands_explained k (items_view (drop k vs))
told_before vs k left v placed more l n e p m =
    let next : drop k vs ≡ v ∷ drop (k + 1) vs = drop_more vs k v l ∙ ap (λ w. w ∷ drop (k + 1) vs) (sym e) in
    ap (λ o. least_of o more) p ∙ ap (λ o. least_of (option_map (at_place k) (command_explained (view v))) o) m
    ∙ ap (λ j. least_of (option_map (at_place k) (command_explained (view v))) (commands_explained j (items_view (drop left vs)))) n
    ∙ ap (λ j. least_of (option_map (at_place k) (command_explained (view v))) (commands_explained (suc k) (items_view (drop j vs)))) (omega (arith, n))
    ∙ ap (λ ws. commands_explained k (items_view ws)) (sym next)

-- ---- a line

pub json_told : (line : List ℕ) (d : Data) → IsUtf8 line → read line ≡ Some d → explained line ≡ data_explained d
json_told line d u e = rw (is_utf8-from_IsUtf8 line u) (ap json_explained e)

by_utf8 : (b : Bool) (line : List ℕ) → is_utf8 line ≡ b → (IsUtf8 line → read line ≡ None) → explained line ≡ Some (of_whole is_json)
by_utf8 true line e h = rw e (ap json_explained (h (IsUtf8-from_is_utf8 line e)))
by_utf8 false line e h = rw e refl

pub no_json_told : (line : List ℕ) → (IsUtf8 line → read line ≡ None) → explained line ≡ Some (of_whole is_json)
no_json_told line h = by_utf8 (is_utf8 line) line refl h

-- where what is told of the value is told of the line
pub line_told : (line : List ℕ) (d : Data) (x : Option Explanation) → IsUtf8 line → read line ≡ Some d → x ≡ data_explained d → x ≡ explained line
line_told line d x u e told = told ∙ sym (json_told line d u e)

pub not_both : (b : Bool) → b ≡ false → b ≡ true → ⊥
not_both b f t = let both : true ≡ false = sym t ∙ f in cc
