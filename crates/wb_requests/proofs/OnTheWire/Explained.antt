-- What is told of a JSON value that is no request is the least of all that is wrong with it, at the field where it is.
use Rattle.std.proofs.Common.{◌≡◌, ◌≤◌, ◌+◌, ◌&&◌, ℕ, zero, suc, ℤ, Bool, true, false, List, [], ◌∷◌, codes, length, Option, Some, None, is_some, option_map}
use Rattle.std.proofs.Common.{option_and_then, Result, Ok, Err, refl, sym, ap, ◌∙◌, subst, nat_eq, nat_lt, if◌then◌else◌, arith, eqb-true, eq-eqb, ltb-true}
use Rattle.std.specs.Prelude.{bytes_eq, Contains}
use Rattle.std.specs.List.{list_all}
use Rattle.std.proofs.lemmas.List.Elements.{All-contains}
use Rattle.std.proofs.lemmas.List.Sums.{AllPass-from_list_all}
use Rattle.serde_json.specs.Data.{Data, null, boolean, number as json_number, string, array, object, Items, no_items, item, Members}
use Rattle.serde_json.specs.Find.{get_item, get_member, as_str}
use Rattle.wb_sets.proofs.Members.{first_contains, cons_contains}
use Rattle.wb_cells.specs.Shapes.{Range, indices}
use Rattle.wb_edit.specs.declared.refusal.Refusal.{Refusal}
use Rattle.wb_edit.specs.declared.refusal.Refusal.TheVariants.{BadRequest}
use Rattle.wb_literals.specs.Domain.{Domain, rectangle, set}
use Rattle.wb_literals.specs.Set.{Items as Listed}
use Rattle.wb_literals.specs.declared.rectangle.RectangleLiteral.{RectangleLiteral}
use Rattle.wb_requests.specs.Fields.{◌>>=◌, member_count, integers_of, is_among}
use Rattle.wb_requests.specs.Wire.Table.{command_ops}
use Rattle.wb_requests.specs.Literals.{literal_domain, domain_within}
use Rattle.wb_requests.specs.Wire.Faults.{Fault, bad_request, bad_literal, too_large, bad_mapping, code, refusal_of, forms, HasKeys, NamesOp, IsWhole, Kind, plain}
use Rattle.wb_requests.specs.Wire.Faults.{fault_told, kind_of, Fails, IsMiscounted, IsOwnFault, not_whole, of_member, of_count, NamesCommand, IsCommandFault, no_command}
use Rattle.wb_requests.specs.Wire.Faults.{of_command as of_own_command, EditFails, IsFault, of_own, of_edit}
use Rattle.wb_requests.specs.Wire.Faults as kinds
use Rattle.wb_requests.specs.Wire.Spelled.{IsIntegers}
use Rattle.wb_requests.specs.Explained.{is_object, names_op, spells, are_counted, names_command, Explanation, of_whole, of_field}
use Rattle.wb_requests.specs.Explained.{fault_in, text_in as text_of, within, fault_of, is_there, forms_of, is_form, form_in, foreign_in, missing_in}
use Rattle.wb_requests.specs.Explained.{formless_by, formless, value_explained, least_of, values_explained, counted_on, counted_over, counted_by}
use Rattle.wb_requests.specs.Explained.{count_explained, formed, op_explained, command_named, command_explained, at_place, commands_explained, listed_explained, edits_explained, before_edits}
use Rattle.wb_requests.specs.Explained.{op_named, NamesNone, AtField, AtPlaceOr, Tells, TellsTheLeast}
use Rattle.wb_requests.proofs.OnTheWire.Members.{true_false, equal_key, same_key}
use Rattle.wb_requests.proofs.OnTheWire.Values.{no_ok, no_some, some_same, ok_same, str_found, some_of_ok, integers_found_of, integers_read}
use Rattle.wb_requests.proofs.OnTheWire.Spellings.{domain_found, domain_read, rectangle_found, rectangle_read}
use Rattle.wb_requests.proofs.OnTheWire.Keys.{has, apart, IsThere, AllKeys, keys_counted, keys_made, key_there, members_same, not_whole_by, uncounted_op, FailsAt}
use Rattle.wb_requests.proofs.OnTheWire.Keys.{all_faults}
use Rattle.wb_requests.proofs.OnTheWire.Failing.{err_same, no_err, IsReader, name_reader, key_type_reader, operation_reader, reduction_reader, integer_reader, number_reader}
use Rattle.wb_requests.proofs.OnTheWire.Failing.{index_reader, integers_reader, offsets_reader, text_reader, note_reader, several_reader, domain_judged, domain_reader, mapping_reader, source_reader, workbook_reader}
use Rattle.wb_requests.proofs.OnTheWire.Judged.{told_back, IsLeastOf, IsLeastOwn, NoFault, IsAbove, fails_there, member_fault, least_code}
use Rattle.wb_requests.proofs.OnTheWire.Found.{request_found}
use Rattle.wb_requests.proofs.OnTheWire.RefusedSeveral.{contains_among, one_op, named, WithinFault, no_edits, own_first, faultless_read}
use Rattle.wb_requests.proofs.OnTheWire.Which.{foreign_told, missing_told, form_there, formless_op}

-- ---- the fault of a value

-- that of a reader's answer: none where nothing fails, and else the one that fails
abbrev Judged : Option Fault → (Fault → Type 0) → Type 0
Judged None F = (f : Fault) → F f → ⊥
Judged (Some g) F = F g × ((f : Fault) → F f → f ≡ g)

by_answer : {A : Type 0} (kind : Kind) (v : Data) (r : Result A Refusal) → ((why : Refusal) → r ≡ Err why → (f : Fault) × (why ≡ refusal_of f) × Fails kind v f)
    → ((f : Fault) → Fails kind v f → r ≡ Err (refusal_of f)) → Judged (fault_in r) (Fails kind v)
by_answer kind v (Ok a) bad failing = λ f h. no_err (failing f h)
by_answer kind v (Err why) bad failing =
    let x = bad why refl in
    let told : x.0 ≡ fault_told why = sym (ap fault_told x.1 ∙ told_back x.0) in
    (subst (Fails kind v) told x.2, λ f h. sym (ap fault_told (err_same why (refusal_of f) (failing f h)) ∙ told_back f))

judged_by : {A : Type 0} (kind : Kind) {read : Option Data → Result A Refusal} → IsReader kind read → (v : Data) → Judged (fault_in (read (Some v))) (Fails kind v)
judged_by kind {read} r v = by_answer kind v (read (Some v)) (r.bad v) (r.failing v)

-- two ways to say what a rectangle has to be
same_steps : {X Y : Type 0} (r : Result X Refusal) (f g : X → Result Y Refusal) → ((x : X) → f x ≡ g x) → (r >>= f) ≡ (r >>= g)
same_steps (Ok x) f g h = h x
same_steps (Err why) f g h = refl

within_same : (l : Domain) → within l ≡ domain_judged l
within_same (rectangle r) = refl
within_same (set items) = refl

value_judged : (kind : Kind) (v : Data) → Judged (fault_of kind v) (Fails kind v)
value_judged (plain kinds.name) v = judged_by (plain kinds.name) name_reader v
value_judged (plain kinds.integer) v = judged_by (plain kinds.integer) integer_reader v
value_judged (plain kinds.number) v = judged_by (plain kinds.number) number_reader v
value_judged (plain kinds.index) v = judged_by (plain kinds.index) index_reader v
value_judged (plain kinds.integers) v = judged_by (plain kinds.integers) integers_reader v
value_judged (plain kinds.offsets) v = judged_by (plain kinds.offsets) offsets_reader v
value_judged (plain kinds.key_type) v = judged_by (plain kinds.key_type) key_type_reader v
value_judged (plain kinds.operation) v = judged_by (plain kinds.operation) operation_reader v
value_judged (plain kinds.reduction) v = judged_by (plain kinds.reduction) reduction_reader v
value_judged (plain kinds.any_text) v = judged_by (plain kinds.any_text) text_reader v
value_judged (plain kinds.note) v = judged_by (plain kinds.note) note_reader v
value_judged (plain kinds.several) v = judged_by (plain kinds.several) several_reader v
value_judged kinds.domain v =
    subst (λ r. Judged (fault_in r) (Fails kinds.domain v))
    (sym (same_steps (text_of v) (λ text. literal_domain text >>= within) (λ text. literal_domain text >>= domain_judged)
    (λ text. same_steps (literal_domain text) within domain_judged within_same)))
    (judged_by kinds.domain domain_reader v)
value_judged kinds.mapping v = judged_by kinds.mapping mapping_reader v
value_judged kinds.source v = judged_by kinds.source source_reader v
value_judged kinds.workbook v = judged_by kinds.workbook workbook_reader v

-- ---- what is told of the value of a key

-- where something is wrong with the object itself
abbrev AtOwn : Data → Explanation → Type 0
AtOwn d x = (x.at ≡ None) × AtField d x.field x.rule x.fault

abbrev Told : Members → List ℕ → List ℕ → Option Explanation → Type 0
Told ms op k None = (f : Fault) → FailsAt ms op k f → ⊥
Told ms op k (Some x) = FailsAt ms op k x.fault × AtOwn (object ms) x × ((f : Fault) → FailsAt ms op k f → f ≡ x.fault)

abbrev failed : List ℕ → Kind → Fault → Explanation
failed k kind f = record { fault = f; field = Some k; rule = spells kind; at = None }

with_fault : (ms : Members) (op k : List ℕ) (kind : Kind) (v : Data) → kind_of op k ≡ Some kind → get_member k ms ≡ Some v → (o : Option Fault) →
    Judged o (Fails kind v) → Told ms op k (option_map (failed k kind) o)
with_fault ms op k kind v e g None h = λ f x. h f (fails_there ms op k kind v f e g x)
with_fault ms op k kind v e g (Some f) h = ((kind, v, e, g, h.0), (refl, (ms, v, refl, g, h.0)), λ f x. h.1 f (fails_there ms op k kind v f e g x))

value_told_by : (ms : Members) (op k : List ℕ) (kind : Option Kind) (v : Option Data) → kind_of op k ≡ kind → get_member k ms ≡ v →
    Told ms op k (option_and_then (λ kind. option_and_then (λ d. option_map (failed k kind) (fault_of kind d)) v) kind)
value_told_by ms op k None v e g = λ f x. no_some x.0 (sym e ∙ x.2)
value_told_by ms op k (Some kind) None e g = λ f x. no_some x.1 (sym g ∙ x.3)
value_told_by ms op k (Some kind) (Some v) e g = with_fault ms op k kind v e g (fault_of kind v) (value_judged kind v)

value_told : (ms : Members) (op k : List ℕ) → Told ms op k (value_explained op ms k)
value_told ms op k = value_told_by ms op k (kind_of op k) (get_member k ms) refl refl

-- ---- the least of several keys

abbrev ToldOf : Members → List ℕ → List (List ℕ) → Option Explanation → Type 0
ToldOf ms op ks None = AllKeys ks (λ k. (f : Fault) → FailsAt ms op k f → ⊥)
ToldOf ms op ks (Some x) = ((k : List ℕ) × FailsAt ms op k x.fault) × AtOwn (object ms) x × AllKeys ks (IsAbove ms op x.fault)

no_above : (ms : Members) (op : List ℕ) (ks : List (List ℕ)) (g : Fault) → AllKeys ks (λ k. (f : Fault) → FailsAt ms op k f → ⊥) → AllKeys ks (IsAbove ms op g)
no_above ms op [] g h = tt
no_above ms op (k ∷ ks) g h = ((λ f x. absurd (h.0 f x)), no_above ms op ks g h.1)

above_less : (ms : Members) (op : List ℕ) (ks : List (List ℕ)) (f g : Fault) → code f ≤ code g → AllKeys ks (IsAbove ms op g) → AllKeys ks (IsAbove ms op f)
above_less ms op [] f g l h = tt
above_less ms op (k ∷ ks) f g l h = ((λ q x. let m = h.0 q x in omega (arith, l, m)), above_less ms op ks f g l h.1)

above_one : (ms : Members) (op k : List ℕ) (g : Fault) → ((f : Fault) → FailsAt ms op k f → f ≡ g) → IsAbove ms op g k
above_one ms op k g h = λ f x. let same = ap code (h f x) in omega (arith, same)

not_less : (a b : ℕ) → nat_lt a b ≡ false → b ≤ a
not_less a b e = search (arith)

join : (ms : Members) (op k : List ℕ) (ks : List (List ℕ)) (one more : Option Explanation) → Told ms op k one → ToldOf ms op ks more →
    ToldOf ms op (k ∷ ks) (least_of one more)
join ms op k ks None None h t = (h, t)
join ms op k ks None (Some y) h t = (t.0, t.1, ((λ f x. absurd (h f x)), t.2))
join ms op k ks (Some x) None h t = ((k, h.0), h.1, (above_one ms op k x.fault h.2, no_above ms op ks x.fault t))
join ms op k ks (Some x) (Some y) h t = elim (nat_lt (code y.fault) (code x.fault)) as
    (λ b. nat_lt (code y.fault) (code x.fault) ≡ b → ToldOf ms op (k ∷ ks) (if b then Some y else Some x)) [
      | true ↦ λ e.
          let l = ltb-true (code y.fault) (code x.fault) e in
          (t.0, t.1, ((λ f z. let same = ap code (h.2 f z) in omega (arith, l, same)), t.2))
      | false ↦ λ e.
          let l = not_less (code y.fault) (code x.fault) e in
          ((k, h.0), h.1, (above_one ms op k x.fault h.2, above_less ms op ks x.fault y.fault l t.2))
    ] refl

values_told : (ms : Members) (op : List ℕ) (ks : List (List ℕ)) → ToldOf ms op ks (values_explained op ms ks)
values_told ms op [] = tt
values_told ms op (k ∷ ks) = join ms op k ks (value_explained op ms k) (values_explained op ms ks) (value_told ms op k) (values_told ms op ks)

-- ---- which form an object has

and_parts : (b c : Bool) → b && c ≡ true → (b ≡ true) × (c ≡ true)
and_parts true c e = (refl, e)
and_parts false c e = true_false (sym e)

some_there : (o : Option Data) → is_some o ≡ true → (v : Data) × (o ≡ Some v)
some_there (Some v) e = (v, refl)
some_there None e = true_false (sym e)

list_all_there : (ms : Members) (ks : List (List ℕ)) → list_all (is_there ms) ks ≡ true → AllKeys ks (IsThere ms)
list_all_there ms [] e = tt
list_all_there ms (k ∷ ks) e =
    let p = and_parts (is_there ms k) (list_all (is_there ms) ks) e in
    (some_there (get_member k ms) p.0, list_all_there ms ks p.1)

both_parts : (b c : Bool) → (if b then c else false) ≡ true → (b ≡ true) × (c ≡ true)
both_parts true c e = (refl, e)
both_parts false c e = true_false (sym e)

-- each form has each of its keys once
forms_apart : (op : List ℕ) (ks : List (List ℕ)) → Contains forms (op, ks) → apart (codes "op" ∷ ks) ≡ true
forms_apart op ks c = All-contains (λ x. apart (codes "op" ∷ x.1) ≡ true) forms (op, ks)
    (AllPass-from_list_all (λ x. apart (codes "op" ∷ x.1)) forms refl) c

form_keys : (ms : Members) (op : List ℕ) (ks : List (List ℕ)) → NamesOp ms op → Contains forms (op, ks) → is_form ms ks ≡ true → HasKeys ms (codes "op" ∷ ks)
form_keys ms op ks s c e =
    let p = both_parts (list_all (is_there ms) ks) (nat_eq (member_count ms) (length (codes "op" ∷ ks))) e in
    keys_made (codes "op" ∷ ks) ms (forms_apart op ks c) (eqb-true (member_count ms) (length (codes "op" ∷ ks)) p.1) ((string op, s), list_all_there ms ks p.0)

pair_is : (a b : List ℕ) (c d : List (List ℕ)) → a ≡ b → c ≡ d → ◌≡◌ {A = List ℕ × List (List ℕ)} (a, c) (b, d)
pair_is a b c d e f = cc

-- a form that is found is one of the op's
found_form : (ms : Members) (op : List ℕ) (xs : List (List ℕ × List (List ℕ))) (ks : List (List ℕ)) → form_in ms (forms_of op xs) ≡ Some ks →
    Contains xs (op, ks) × (is_form ms ks ≡ true)
found_form ms op [] ks e = no_some ks e
found_form ms op ((o, l) ∷ xs) ks e = elim (bytes_eq o op) as
    (λ b. bytes_eq o op ≡ b → form_in ms (if b then l ∷ forms_of op xs else forms_of op xs) ≡ Some ks → Contains ((o, l) ∷ xs) (op, ks) × (is_form ms ks ≡ true)) [
      | true ↦ λ s f. elim (is_form ms l) as
          (λ b. is_form ms l ≡ b → (if b then Some l else form_in ms (forms_of op xs)) ≡ Some ks → Contains ((o, l) ∷ xs) (op, ks) × (is_form ms ks ≡ true)) [
            | true ↦ λ t g.
                let same : l ≡ ks = some_same l ks g in
                (first_contains (o, l) xs (op, ks) (pair_is op o ks l (sym (equal_key o op s)) (sym same)), ap (is_form ms) (sym same) ∙ t)
            | false ↦ λ t g. let more = found_form ms op xs ks g in (cons_contains (o, l) xs (op, ks) more.0, more.1)
          ] refl f
      | false ↦ λ s f. let more = found_form ms op xs ks f in (cons_contains (o, l) xs (op, ks) more.0, more.1)
    ] refl e

-- and where none is found the object has none
abbrev is_missed : Members → List ℕ → List ℕ × List (List ℕ) → Bool
is_missed ms op x = if bytes_eq x.0 op then (if is_form ms x.1 then false else true) else true

no_form : (ms : Members) (op : List ℕ) (xs : List (List ℕ × List (List ℕ))) → form_in ms (forms_of op xs) ≡ None → list_all (is_missed ms op) xs ≡ true
no_form ms op [] e = refl
no_form ms op (x ∷ xs) e = elim (bytes_eq x.0 op) as
    (λ b. bytes_eq x.0 op ≡ b → form_in ms (if b then x.1 ∷ forms_of op xs else forms_of op xs) ≡ None →
    (if b then (if is_form ms x.1 then false else true) else true) && list_all (is_missed ms op) xs ≡ true) [
      | true ↦ λ s f. elim (is_form ms x.1) as
          (λ b. is_form ms x.1 ≡ b → (if b then Some x.1 else form_in ms (forms_of op xs)) ≡ None →
          (if b then false else true) && list_all (is_missed ms op) xs ≡ true) [
            | true ↦ λ t g. no_some x.1 (sym g)
            | false ↦ λ t g. no_form ms op xs g
          ] refl f
      | false ↦ λ s f. no_form ms op xs f
    ] refl e

all_there : (ms : Members) (ks ls : List (List ℕ)) → HasKeys ms (codes "op" ∷ ls) → ((k : List ℕ) → has k ks ≡ true → has k ls ≡ true) →
    list_all (is_there ms) ks ≡ true
all_there ms [] ls h sub = refl
all_there ms (k ∷ ks) ls h sub =
    let x = key_there k ls ms (sub k (ap (λ (b : Bool). if b then true else has k ks) (same_key k))) h in
    let here : is_there ms k ≡ true = ap is_some x.1 in
    let rest = all_there ms ks ls h (λ l e. sub l (later (bytes_eq l k) (has l ks) e)) in
    ap (λ (b : Bool). b && list_all (is_there ms) ks) here ∙ rest
  where
    later : (b c : Bool) → c ≡ true → (if b then true else c) ≡ true
    later true c e = refl
    later false c e = e

has_form : (ms : Members) (ks : List (List ℕ)) → HasKeys ms (codes "op" ∷ ks) → is_form ms ks ≡ true
has_form ms ks h =
    let there = all_there ms ks ks h (λ k e. e) in
    let n = keys_counted (codes "op" ∷ ks) ms h in
    ap (λ (b : Bool). if b then nat_eq (member_count ms) (length (codes "op" ∷ ks)) else false) there ∙ eq-eqb (member_count ms) (length (codes "op" ∷ ks)) n

formless_whole : (ms : Members) (op : List ℕ) → NamesOp ms op → form_in ms (forms_of op forms) ≡ None → IsWhole (object ms) → ⊥
formless_whole ms op s e = not_whole_by ms op s (λ ks c h.
    let missed = All-contains (λ x. is_missed ms op x ≡ true) forms (op, ks) (AllPass-from_list_all (is_missed ms op) forms (no_form ms op forms e)) c in
    true_false (sym (is (bytes_eq op op) (same_key op) missed) ∙ ap (λ (b : Bool). if b then false else true) (has_form ms ks h)))
  where
    is : (b : Bool) {c : Bool} → b ≡ true → (if b then c else true) ≡ true → c ≡ true
    is true e h = h
    is false e h = true_false (sym e)

-- ---- as many numbers as indices

abbrev CountTold : Members → Option Explanation → Type 0
CountTold ms None = IsMiscounted (object ms) → ⊥
CountTold ms (Some x) = IsMiscounted (object ms) × (x.fault ≡ bad_request) × AtOwn (object ms) x

rectangle_is : (k r : RectangleLiteral) → rectangle k ≡ rectangle r → k ≡ r
rectangle_is k r e = cc

no_rectangle : (k : RectangleLiteral) (items : Listed) → rectangle k ≡ set items → ⊥
no_rectangle k items e = cc

some_text : (o : Option Data) (t : List ℕ) → option_and_then as_str o ≡ Some t → o ≡ Some (string t)
some_text None t e = no_some t e
some_text (Some d) t e = ap Some (str_found d t e)

some_integers : (o : Option Data) (zs : List ℤ) → option_and_then integers_of o ≡ Some zs → (v : Data) × (o ≡ Some v) × IsIntegers v zs
some_integers None zs e = no_some zs e
some_integers (Some v) zs e = (v, refl, integers_found_of v zs e)

module _ (ms : Members) where
  on_there : (m : IsMiscounted (object ms)) → option_and_then as_str (get_member (codes "on") ms) ≡ Some m.rectangle.0
  on_there m =
      let g = subst (λ ms. get_member (codes "on") ms ≡ Some m.on) (sym (members_same ms m.members m.is_object)) m.is_on in
      ap (option_and_then as_str) (g ∙ ap Some m.rectangle.2)

  vs_there : (m : IsMiscounted (object ms)) → option_and_then integers_of (get_member (codes "vs") ms) ≡ Some m.found
  vs_there m =
      let g = subst (λ ms. get_member (codes "vs") ms ≡ Some m.vs) (sym (members_same ms m.members m.is_object)) m.is_vs in
      some_of_ok (option_and_then integers_of (get_member (codes "vs") ms)) BadRequest m.found
      (integers_read (get_member (codes "vs") ms) m.vs m.found g m.integral)

  literal_there : (m : IsMiscounted (object ms)) → literal_domain m.rectangle.0 ≡ Ok (rectangle m.rectangle.1)
  literal_there m = domain_read m.rectangle.0 (rectangle m.rectangle.1) m.rectangle.3

  within_there : (m : IsMiscounted (object ms)) → domain_within m.rectangle.1 ≡ Ok m.ranges
  within_there m = rectangle_read m.rectangle.1 m.ranges m.rectangle.4

  module _ (s : NamesOp ms (codes "put")) (vs : List ℤ) (text : List ℕ) (is_vs : option_and_then integers_of (get_member (codes "vs") ms) ≡ Some vs)
      (is_on : option_and_then as_str (get_member (codes "on") ms) ≡ Some text) where
    literal_of : (m : IsMiscounted (object ms)) → literal_domain text ≡ Ok (rectangle m.rectangle.1)
    literal_of m = ap literal_domain (some_same text m.rectangle.0 (sym is_on ∙ on_there m)) ∙ literal_there m

    found_is : (m : IsMiscounted (object ms)) → m.found ≡ vs
    found_is m = some_same m.found vs (sym (vs_there m) ∙ is_vs)

    module _ (l : RectangleLiteral) (is_l : literal_domain text ≡ Ok (rectangle l)) where
      within_of : (m : IsMiscounted (object ms)) → domain_within l ≡ Ok m.ranges
      within_of m = ap domain_within (rectangle_is l m.rectangle.1 (ok_same (rectangle l) (rectangle m.rectangle.1) (sym is_l ∙ literal_of m))) ∙ within_there m

      counted : (ranges : List Range) → domain_within l ≡ Ok ranges → CountTold ms (counted_on vs (Ok ranges))
      counted ranges f = elim (nat_eq (length vs) (length (indices ranges))) as (λ b. nat_eq (length vs) (length (indices ranges)) ≡ b →
          CountTold ms (if b then None else Some (of_field (codes "vs") are_counted))) [
            | true ↦ λ k m. m.differ (ap length (found_is m) ∙ eqb-true (length vs) (length (indices ranges)) k ∙
                ap (λ is. length (indices is)) (ok_same ranges m.ranges (sym f ∙ within_of m)))
            | false ↦ λ k.
                let v = some_integers (get_member (codes "vs") ms) vs is_vs in
                let m : IsMiscounted (object ms) = record {
                  members = ms;
                  on = string text;
                  vs = v.0;
                  ranges = ranges;
                  found = vs;
                  is_object = refl;
                  names_op = s;
                  is_on = some_text (get_member (codes "on") ms) text is_on;
                  is_vs = v.1;
                  rectangle = (text, l, refl, domain_found text (rectangle l) is_l, rectangle_found l ranges f);
                  integral = v.2;
                  differ = λ same. true_false (sym (eq-eqb (length vs) (length (indices ranges)) same) ∙ k);
                } in
                (m, refl, (refl, (refl, m)))
          ] refl

      on_told : (r : Result (List Range) Refusal) → domain_within l ≡ r → CountTold ms (counted_on vs r)
      on_told (Ok ranges) f = counted ranges f
      on_told (Err why) f = λ m. no_ok why m.ranges (sym f ∙ within_of m)

    over_told : (r : Result Domain Refusal) → literal_domain text ≡ r → CountTold ms (counted_over vs r)
    over_told (Ok (rectangle l)) e = on_told l e (domain_within l) refl
    over_told (Ok (set items)) e = λ m. no_rectangle m.rectangle.1 items (ok_same (rectangle m.rectangle.1) (set items) (sym (literal_of m) ∙ e))
    over_told (Err why) e = λ m. no_ok why (rectangle m.rectangle.1) (sym e ∙ literal_of m)

  by_told : NamesOp ms (codes "put") → (vs : Option (List ℤ)) (on : Option (List ℕ)) → option_and_then integers_of (get_member (codes "vs") ms) ≡ vs →
      option_and_then as_str (get_member (codes "on") ms) ≡ on → CountTold ms (counted_by vs on)
  by_told s (Some vs) (Some text) e g = over_told s vs text e g (literal_domain text) refl
  by_told s (Some vs) None e g = λ m. no_some m.rectangle.0 (sym g ∙ on_there m)
  by_told s None on e g = λ m. no_some m.found (sym e ∙ vs_there m)

count_told : (ms : Members) (op : List ℕ) → NamesOp ms op → CountTold ms (if bytes_eq op (codes "put") then count_explained ms else None)
count_told ms op s = elim (bytes_eq op (codes "put")) as
    (λ b. bytes_eq op (codes "put") ≡ b → CountTold ms (if b then count_explained ms else None)) [
      | true ↦ λ e. by_told ms (subst (NamesOp ms) (equal_key op (codes "put") e) s) (option_and_then integers_of (get_member (codes "vs") ms))
          (option_and_then as_str (get_member (codes "on") ms)) refl refl
      | false ↦ λ e. uncounted_op ms op s e
    ] refl

-- ---- an object itself

-- nothing is wrong with it, or what is told is the least that is
abbrev TellsOwn : Data → Option Explanation → Type 0
TellsOwn d None = NoFault d
TellsOwn d (Some x) = IsLeastOwn d x.fault × AtOwn d x

bad : (d : Data) → (IsWhole d → ⊥) → IsLeastOwn d bad_request
bad d w = (not_whole refl w, λ g x. least_code g)

module _ (ms : Members) (op : List ℕ) (s : NamesOp ms op) where
  member_is : (f : Fault) → (k : List ℕ) × FailsAt ms op k f → IsOwnFault (object ms) f
  member_is f (k, x) = member_fault ms op k x.0 x.1 f s x.2 x.3 x.4

  miscount_least : (y : Explanation) → CountTold ms (Some y) → IsLeastOwn (object ms) y.fault
  miscount_least y (m, is, at) = (of_count is m, λ g x. let one : code y.fault ≡ 1 = ap code is in let l = least_code g in omega (arith, one, l))

  whole_told : (ks : List (List ℕ)) → Contains forms (op, ks) → HasKeys ms (codes "op" ∷ ks) → (values count : Option Explanation) → ToldOf ms op ks values →
      CountTold ms count → TellsOwn (object ms) (least_of values count)
  whole_told ks c h None None t n = all_faults ms op ks (λ f. ⊥) s c h t n
  whole_told ks c h None (Some y) t n = (miscount_least y n, n.2)
  whole_told ks c h (Some x) None t n =
      ((member_is x.fault t.0, all_faults ms op ks (λ g. code x.fault ≤ code g) s c h t.2 (λ m. absurd (n m))), t.1)
  whole_told ks c h (Some x) (Some y) t n = elim (nat_lt (code y.fault) (code x.fault)) as
      (λ b. nat_lt (code y.fault) (code x.fault) ≡ b → TellsOwn (object ms) (if b then Some y else Some x)) [
        | true ↦ λ e. (miscount_least y n, n.2)
        | false ↦ λ e.
            let l = not_less (code y.fault) (code x.fault) e in let one : code y.fault ≡ 1 = ap code n.1 in
            ((member_is x.fault t.0, λ g z. let low = least_code g in omega (arith, l, one, low)), t.1)
      ] refl

  formless_told : (fs : List (List (List ℕ))) (first : List (List ℕ)) → forms_of op forms ≡ fs → Contains forms (op, first) → (IsWhole (object ms) → ⊥) →
      (foreign missing : Option (List ℕ)) → foreign_in fs ms ≡ foreign → missing_in fs ms first ≡ missing → TellsOwn (object ms) (Some (formless_by foreign missing))
  formless_told fs first is c w (Some key) missing f m =
      (bad (object ms) w, (refl, foreign_told ms op key first s c (ap (λ (gs : List (List (List ℕ))). foreign_in gs ms) is ∙ f)))
  formless_told fs first is c w None (Some key) f m =
      (bad (object ms) w, (refl, missing_told ms op key first first s c (ap (λ (gs : List (List (List ℕ))). missing_in gs ms first) is ∙ m)))
  formless_told fs first is c w None None f m = (bad (object ms) w, (refl, w))

  formed_told : (first : List (List ℕ)) (more : List (List (List ℕ))) → forms_of op forms ≡ first ∷ more → (o : Option (List (List ℕ))) →
      form_in ms (forms_of op forms) ≡ o → TellsOwn (object ms) (formed ms op o (formless ms first more))
  formed_told first more is None e = formless_told (first ∷ more) first is (form_there op first more forms is) (formless_whole ms op s e)
      (foreign_in (first ∷ more) ms) (missing_in (first ∷ more) ms first) refl refl
  formed_told first more is (Some ks) e =
      let p = found_form ms op forms ks e in
      whole_told ks p.0 (form_keys ms op ks s p.0 p.1) (values_explained op ms ks) (if bytes_eq op (codes "put") then count_explained ms else None)
      (values_told ms op ks) (count_told ms op s)

  none_named : forms_of op forms ≡ [] → NamesNone (object ms)
  none_named e other named keys same t c =
      let u : NamesOp ms named = subst (λ os. NamesOp os named) (sym (members_same ms other same)) t in
      formless_op named keys (ap (λ (o : List ℕ). forms_of o forms) (text_same named op (some_same (string named) (string op) (sym u ∙ s))) ∙ e) c
    where
      text_same : (a b : List ℕ) → string a ≡ string b → a ≡ b
      text_same a b f = cc

  op_told : (fs : List (List (List ℕ))) → forms_of op forms ≡ fs → TellsOwn (object ms) (op_explained ms op fs)
  op_told [] e = (bad (object ms) (formless_whole ms op s (ap (form_in ms) e)), (refl, (refl, none_named e)))
  op_told (f ∷ fs) e = formed_told f fs e (form_in ms (f ∷ fs)) (ap (form_in ms) e)

no_op : (ms : Members) → option_and_then as_str (get_member (codes "op") ms) ≡ None → NamesNone (object ms)
no_op ms e other op keys same t c =
    let g = subst (λ ms. NamesOp ms op) (sym (members_same ms other same)) t in
    no_some op (sym e ∙ ap (option_and_then as_str) g)

-- ---- a command within a transaction

-- nothing is wrong with it as a command, or what is told is the least that is
abbrev TellsCommand : Data → Option Explanation → Type 0
TellsCommand d None = (f : Fault) → IsCommandFault d f → ⊥
TellsCommand d (Some x) = IsLeastOf (IsCommandFault d) x.fault × AtOwn d x

no_command_told : (d : Data) → (NamesCommand d → ⊥) → TellsCommand d (Some (of_field (codes "op") names_command))
no_command_told d other = ((no_command refl other, λ g x. least_code g), (refl, (refl, other)))

own_told : (d : Data) → NamesCommand d → (o : Option Explanation) → TellsOwn d o → TellsCommand d o
own_told d named None t = none
  where
    none : (f : Fault) → IsCommandFault d f → ⊥
    none f (no_command e other) = other named
    none f (of_own_command x) = t f x
own_told d named (Some x) t = ((of_own_command t.0.0, above), t.1)
  where
    above : (g : Fault) → IsCommandFault d g → code x.fault ≤ code g
    above g (no_command e other) = absurd (other named)
    above g (of_own_command y) = t.0.1 g y

command_named_told : (ms : Members) (o : Option (List ℕ)) → option_and_then as_str (get_member (codes "op") ms) ≡ o → TellsCommand (object ms) (command_named ms o)
command_named_told ms None e = no_command_told (object ms) (λ n.
    no_some n.1 (sym e ∙ ap (option_and_then as_str) (subst (λ ns. NamesOp ns n.1) (sym (members_same ms n.0 n.2)) n.3)))
command_named_told ms (Some op) e =
    let s : NamesOp ms op = some_text (get_member (codes "op") ms) op e in
    elim (is_among command_ops op) as (λ b. is_among command_ops op ≡ b →
    TellsCommand (object ms) (if b then op_explained ms op (forms_of op forms) else Some (of_field (codes "op") names_command))) [
      | true ↦ λ f. own_told (object ms) (named ms op s f) (op_explained ms op (forms_of op forms)) (op_told ms op s (forms_of op forms) refl)
      | false ↦ λ f. no_command_told (object ms) (λ n.
          let same = one_op ms n.0 op n.1 n.2 s n.3 in
          true_false (sym (ap (is_among command_ops) same ∙ contains_among command_ops n.1 n.4) ∙ f))
    ] refl

other_command_told : (d : Data) → ((ms : Members) → d ≡ object ms → ⊥) → TellsCommand d (Some (of_whole is_object))
other_command_told d h = ((no_command refl (λ n. h n.0 n.2), λ g x. least_code g), (refl, h))

command_told : (d : Data) → TellsCommand d (command_explained d)
command_told (object ms) = command_named_told ms (option_and_then as_str (get_member (codes "op") ms)) refl
command_told null = other_command_told null (λ ms e. cc)
command_told (boolean b) = other_command_told (boolean b) (λ ms e. cc)
command_told (json_number n) = other_command_told (json_number n) (λ ms e. cc)
command_told (string t) = other_command_told (string t) (λ ms e. cc)
command_told (array ds) = other_command_told (array ds) (λ ms e. cc)

-- ---- several, of which the first has a place

abbrev TellsWithin : ℕ → Items → Option Explanation → Type 0
TellsWithin k ds None = (f : Fault) → WithinFault ds f → ⊥
TellsWithin k ds (Some x) =
    IsLeastOf (WithinFault ds) x.fault × ((j : ℕ) × (v : Data) × (x.at ≡ Some (k + j)) × (get_item j ds ≡ Some v) × AtField v x.field x.rule x.fault)

module _ (k : ℕ) (d : Data) (ds : Items) where
  by_item : (P : Fault → Type 0) → ((f : Fault) → IsCommandFault d f → P f) → ((f : Fault) → WithinFault ds f → P f) → (f : Fault) →
      (j : ℕ) (v : Data) → get_item j (item d ds) ≡ Some v → IsCommandFault v f → P f
  by_item P here there f zero v g c = here f (subst (λ v. IsCommandFault v f) (sym (some_same d v g)) c)
  by_item P here there f (suc j) v g c = there f (j, v, g, c)

  within_item : (P : Fault → Type 0) → ((f : Fault) → IsCommandFault d f → P f) → ((f : Fault) → WithinFault ds f → P f) → (f : Fault) →
      WithinFault (item d ds) f → P f
  within_item P here there f w = by_item P here there f w.0 w.1 w.2 w.3

  first_told : (x : Explanation) → TellsCommand d (Some x) → ((f : Fault) → WithinFault ds f → code x.fault ≤ code f) →
      TellsWithin k (item d ds) (Some (at_place k x))
  first_told x h above = (
    ((zero, d, refl, h.0.0), within_item (λ f. code x.fault ≤ code f) h.0.1 above),
    (zero, d, ap Some (omega arith), refl, h.1.1),
  )

  later_told : (y : Explanation) → TellsWithin (suc k) ds (Some y) → ((f : Fault) → IsCommandFault d f → code y.fault ≤ code f) →
      TellsWithin k (item d ds) (Some y)
  later_told y t above = (
    ((suc t.0.0.0, t.0.0.1, t.0.0.2, t.0.0.3), within_item (λ f. code y.fault ≤ code f) above t.0.1),
    (suc t.1.0, t.1.1, t.1.2 ∙ ap Some (omega arith), t.1.3, t.1.4),
  )

  join_within : (one more : Option Explanation) → TellsCommand d one → TellsWithin (suc k) ds more → TellsWithin k (item d ds) (least_of (option_map (at_place k) one) more)
  join_within None None h t = within_item (λ f. ⊥) h t
  join_within None (Some y) h t = later_told y t (λ f c. absurd (h f c))
  join_within (Some x) None h t = first_told x h (λ f w. absurd (t f w))
  join_within (Some x) (Some y) h t = elim (nat_lt (code y.fault) (code x.fault)) as
      (λ b. nat_lt (code y.fault) (code x.fault) ≡ b → TellsWithin k (item d ds) (if b then Some y else Some (at_place k x))) [
        | true ↦ λ e. let l = ltb-true (code y.fault) (code x.fault) e in later_told y t (λ f c. let m = h.0.1 f c in omega (arith, l, m))
        | false ↦ λ e. let l = not_less (code y.fault) (code x.fault) e in first_told x h (λ f w. let m = t.0.1 f w in omega (arith, l, m))
      ] refl

within_told : (k : ℕ) (ds : Items) → TellsWithin k ds (commands_explained k ds)
within_told k no_items = λ f w. no_some w.1 w.2
within_told k (item d ds) = join_within k d ds (command_explained d) (commands_explained (suc k) ds) (command_told d) (within_told (suc k) ds)

-- ---- an object with what is within it

faultless_told : (d : Data) → ((f : Fault) → IsFault d f → ⊥) → Tells d None
faultless_told d none = let r = faultless_read d none in (r.0, request_found d r.0 r.1)

fault_by : (d : Data) (P : Type 0) (f : Fault) → (IsOwnFault d f → P) → (EditFails d f → P) → IsFault d f → P
fault_by d P f own edit (of_own x) = own x
fault_by d P f own edit (of_edit x) = edit x

-- something is wrong with the object itself, and nothing else has a lower code
own_first_told : (d : Data) (x : Explanation) → TellsOwn d (Some x) → ((f : Fault) → EditFails d f → code x.fault ≤ code f) → Tells d (Some x)
own_first_told d x t above = (
  (of_own t.0.0, λ f. fault_by d (code x.fault ≤ code f) f (t.0.1 f) (above f)),
  subst (λ a. AtPlaceOr d a x.field x.rule x.fault) (sym t.1.0) t.1.1,
)

module _ (ms : Members) (none : NoFault (object ms)) where
  none_told : ((f : Fault) → EditFails (object ms) f → ⊥) → Tells (object ms) None
  none_told edit = faultless_told (object ms) (λ f. fault_by (object ms) ⊥ f (none f) (edit f))

  module _ (s : NamesOp ms (codes "transaction")) where
    items_same : (a b : Items) → array a ≡ array b → a ≡ b
    items_same a b e = cc

    -- one of these values is what is wrong
    in_listed : (ds : Items) → get_member (codes "edits") ms ≡ Some (array ds) → (f : Fault) → EditFails (object ms) f → WithinFault ds f
    in_listed ds at f x =
        let here : get_member (codes "edits") ms ≡ Some (array x.listed) =
        subst (λ ns. get_member (codes "edits") ns ≡ Some (array x.listed)) (sym (members_same ms x.members x.is_object)) x.is_edits in
        let same : x.listed ≡ ds = items_same x.listed ds (some_same (array x.listed) (array ds) (sym here ∙ at)) in
        (x.place, x.value, subst (λ es. get_item x.place es ≡ Some x.value) same x.is_value, x.fails)

    as_edit : (ds : Items) → get_member (codes "edits") ms ≡ Some (array ds) → (f : Fault) → WithinFault ds f → EditFails (object ms) f
    as_edit ds at f w = record {
      members = ms;
      listed = ds;
      place = w.0;
      value = w.1;
      is_object = refl;
      names_op = s;
      is_edits = at;
      is_value = w.2;
      fails = w.3;
    }

    array_told : (ds : Items) → get_member (codes "edits") ms ≡ Some (array ds) → (o : Option Explanation) → TellsWithin 0 ds o → Tells (object ms) o
    array_told ds at None t = none_told (λ f x. t f (in_listed ds at f x))
    array_told ds at (Some x) t =
        let place_is : x.at ≡ Some t.1.0 = t.1.2 ∙ ap Some (omega arith) in (
          (of_edit (as_edit ds at x.fault t.0.0), λ f. fault_by (object ms) (code x.fault ≤ code f) f (λ y. absurd (none f y)) (λ y. t.0.1 f (in_listed ds at f y))),
          subst (λ a. AtPlaceOr (object ms) a x.field x.rule x.fault) (sym place_is)
              (record { members = ms; listed = ds; value = t.1.1; object_is = refl; op_is = s; edits_are = at; value_is = t.1.3; told = t.1.4 }),
        )

    no_listed : (o : Option Data) → get_member (codes "edits") ms ≡ o → ((ds : Items) → o ≡ Some (array ds) → ⊥) → Tells (object ms) None
    no_listed o e other = none_told (λ f x. other x.listed (sym e ∙
        subst (λ ns. get_member (codes "edits") ns ≡ Some (array x.listed)) (sym (members_same ms x.members x.is_object)) x.is_edits))

    listed_told : (o : Option Data) → get_member (codes "edits") ms ≡ o → Tells (object ms) (listed_explained o)
    listed_told (Some (array ds)) e = array_told ds e (commands_explained 0 ds) (within_told 0 ds)
    listed_told (Some null) e = no_listed (Some null) e (λ ds f. cc)
    listed_told (Some (boolean b)) e = no_listed (Some (boolean b)) e (λ ds f. cc)
    listed_told (Some (json_number n)) e = no_listed (Some (json_number n)) e (λ ds f. cc)
    listed_told (Some (string t)) e = no_listed (Some (string t)) e (λ ds f. cc)
    listed_told (Some (object ns)) e = no_listed (Some (object ns)) e (λ ds f. cc)
    listed_told None e = no_listed None e (λ ds f. cc)

  edits_told : (op : List ℕ) → NamesOp ms op → Tells (object ms) (edits_explained op ms)
  edits_told op s = elim (bytes_eq op (codes "transaction")) as (λ b. bytes_eq op (codes "transaction") ≡ b →
      Tells (object ms) (if b then listed_explained (get_member (codes "edits") ms) else None)) [
        | true ↦ λ e. listed_told (subst (NamesOp ms) (equal_key op (codes "transaction") e) s) (get_member (codes "edits") ms) refl
        | false ↦ λ e. none_told (no_edits ms op s e)
      ] refl

-- what is wrong with the object of an op itself has no greater code than what is wrong with its commands
own_above : (ms : Members) (op : List ℕ) → NamesOp ms op → (x : Explanation) → IsLeastOwn (object ms) x.fault → (f : Fault) → EditFails (object ms) f →
    code x.fault ≤ code f
own_above ms op s x least f y = elim (bytes_eq op (codes "transaction")) as (λ b. bytes_eq op (codes "transaction") ≡ b → code x.fault ≤ code f) [
  | true ↦ λ e.
      let g = own_first ms (subst (NamesOp ms) (equal_key op (codes "transaction") e) s) x.fault least.0 in
      let l = least.1 g.0 g.1 in let m = g.2 in let low = least_code f in
      omega (arith, l, m, low)
  | false ↦ λ e. absurd (no_edits ms op s e f y)
] refl

before_told : (ms : Members) (op : List ℕ) → NamesOp ms op → (o : Option Explanation) → TellsOwn (object ms) o → Tells (object ms) (before_edits o (edits_explained op ms))
before_told ms op s None t = edits_told ms t op s
before_told ms op s (Some x) t = own_first_told (object ms) x t (own_above ms op s x t.0)

named_told : (ms : Members) (o : Option (List ℕ)) → option_and_then as_str (get_member (codes "op") ms) ≡ o → Tells (object ms) (op_named ms o)
named_told ms None e = own_first_told (object ms) (of_field (codes "op") names_op)
    (bad (object ms) (λ w. no_op ms e w.0 w.1 w.2 w.3 w.4 w.5), (refl, (refl, no_op ms e)))
    (λ f x. least_code f)
named_told ms (Some op) e =
    let s : NamesOp ms op = some_text (get_member (codes "op") ms) op e in
    before_told ms op s (op_explained ms op (forms_of op forms)) (op_told ms op s (forms_of op forms) refl)

other_told : (d : Data) → ((ms : Members) → d ≡ object ms → ⊥) → Tells d (Some (of_whole is_object))
other_told d h = own_first_told d (of_whole is_object) (bad d (λ w. h w.0 w.3), (refl, h)) (λ f x. least_code f)

pub tells_the_least : TellsTheLeast
tells_the_least (object ms) = named_told ms (option_and_then as_str (get_member (codes "op") ms)) refl
tells_the_least null = other_told null (λ ms e. cc)
tells_the_least (boolean b) = other_told (boolean b) (λ ms e. cc)
tells_the_least (json_number n) = other_told (json_number n) (λ ms e. cc)
tells_the_least (string t) = other_told (string t) (λ ms e. cc)
tells_the_least (array ds) = other_told (array ds) (λ ms e. cc)
