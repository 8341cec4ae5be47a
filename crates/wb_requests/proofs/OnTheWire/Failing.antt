-- Each kind of member: what is wrong with its value is what its reader answers.
use Rattle.std.proofs.Common.{◌≡◌, ◌⊎◌, inl, inr, ℕ, ℤ, Bool, true, false, List, [], ◌∷◌, codes, Option, Some, None, option_and_then, Result, Ok, Err, refl}
use Rattle.std.proofs.Common.{sym, ap, ◌∙◌, if◌then◌else◌, eqb-true}
use Rattle.std.specs.Prelude.{bytes_eq}
use Rattle.std.specs.Option.{ok_or}
use Rattle.serde_json.specs.Data.{Data, null, boolean, number as json_number, string, array, object, Items}
use Rattle.serde_json.specs.Find.{as_number, as_str, as_i64, as_u64}
use Rattle.wb_dist.specs.Maps.{LayoutMap}
use Rattle.wb_cells.specs.Cells.{Name}
use Rattle.wb_cells.specs.Names.{is_name}
use Rattle.wb_cells.specs.declared.cells.kind.KeyType.{KeyType}
use Rattle.wb_cells.specs.declared.cells.kind.KeyType.TheVariants as types
use Rattle.wb_edit.specs.declared.operation.Operation.{Operation}
use Rattle.wb_edit.specs.declared.operation.Operation.TheVariants as operations
use Rattle.wb_arrays.specs.declared.reduction.Op.{Op}
use Rattle.wb_arrays.specs.declared.reduction.Op.TheVariants as reductions
use Rattle.wb_edit.specs.declared.refusal.Refusal.{Refusal}
use Rattle.wb_edit.specs.declared.refusal.Refusal.TheVariants.{BadRequest, BadLiteral}
use Rattle.wb_literals.specs.Domain.{Domain, rectangle, set, domain_of}
use Rattle.wb_literals.specs.Mapping.{mapping_of}
use Rattle.wb_literals.specs.Grammar as grammar
use Rattle.wb_literals.specs.declared.mapping.MappingLiteral.{MappingLiteral}
use Rattle.wb_literals.specs.declared.rectangle.RectangleLiteral.{RectangleLiteral}
use Rattle.wb_literals.proofs.SetGrammar.{domain_exact}
use Rattle.wb_literals.proofs.MappingGrammar.{mapping_exact}
use Rattle.wb_literals.specs.Limits.Literals as limits
use Rattle.wb_literals.specs.Limits.Mappings as mapping_limits
use Rattle.wb_literals.specs.declared.limits.limit.LimitErr.{LimitErr}
use Rattle.wb_literals.specs.declared.limits.limit.LimitErr.TheVariants.{TooLarge, BadMapping}
use Rattle.wb_reshape.specs.declared.operand.Operand.{Operand}
use Rattle.wb_reshape.specs.declared.operand.Operand.TheVariants.{Named}
use Rattle.wb_requests.specs.Fields.{◌>>=◌, name_of, key_type_of, operation_of, reduction_of, integers_of, index_of, note_in, several_of}
use Rattle.wb_edit.specs.Transactions.{is_note}
use Rattle.serde_json.specs.Events.{items_len}
use Rattle.wb_requests.specs.Literals.{literal_domain, literal_mapping, text_of_book, refusal_of_limit, within, domain_within, mapping_within}
use Rattle.wb_requests.specs.Sources.{is_braced, given_within, given_literal, given_name, given_text, given_by, point_in, offsets_by}
use Rattle.wb_text.specs.Texts.Books.{is_book_text}
use Rattle.wb_requests.specs.Wire.Faults.{Fault, bad_request, bad_literal, too_large, bad_mapping, refusal_of, Plain, Kind, plain, IsBraced, IsBad, Fails}
use Rattle.wb_requests.specs.Wire.Faults as kinds
use Rattle.wb_requests.proofs.OnTheWire.Several.{several_is, several_holds, several_told, several_found}
use Rattle.wb_requests.proofs.OnTheWire.Values.{step, some_same, chosen, no_ok, some_of_ok, text_in, text_read, str_found, name_found, name_read, type_found, type_read, operation_found}
use Rattle.wb_requests.proofs.OnTheWire.Values.{operation_read, reduction_found, reduction_read, integer_in, integer_found, integer_read, number_in, natural_found}
use Rattle.wb_requests.proofs.OnTheWire.Values.{natural_read, index_in, index_found, index_read, integers_in, integers_found_of, integers_read}
use Rattle.wb_requests.proofs.OnTheWire.Spellings.{domain_found, domain_read, literal_read, offsets_found, offsets_read}
use Rattle.wb_requests.proofs.OnTheWire.TooLarge.{domain_large}

-- ---- refusals

pub err_same : {X : Type 0} (v w : Refusal) → ◌≡◌ {A = Result X Refusal} (Err v) (Err w) → v ≡ w
err_same v w e = cc

pub no_err : {X Y : Type 0} {x : X} {why : Refusal} → ◌≡◌ {A = Result X Refusal} (Ok x) (Err why) → Y
no_err e = cc

pub step_err : {X Y P : Type 0} (r : Result X Refusal) (next : X → Result Y Refusal) (why : Refusal) → (r >>= next) ≡ Err why → (r ≡ Err why → P) →
    ((x : X) → r ≡ Ok x → next x ≡ Err why → P) → P
step_err (Ok x) next why e h k = k x refl e
step_err (Err w) next why e h k = h (ap Err (err_same w why e))

pub or_only : {X : Type 0} (o : Option X) (w why : Refusal) → ok_or o w ≡ Err why → why ≡ w
or_only None w why e = sym (err_same w why e)
or_only (Some x) w why e = no_err e

if_only : {X : Type 0} (b : Bool) (x : X) (more : Result X Refusal) (why : Refusal) → (if b then Ok x else more) ≡ Err why →
    (more ≡ Err why → why ≡ BadRequest) → why ≡ BadRequest
if_only true x more why e h = no_err e
if_only false x more why e h = h e

then_only : {X Y : Type 0} (r : Result X Refusal) (next : X → Result Y Refusal) (why : Refusal) → (r >>= next) ≡ Err why → (r ≡ Err why → why ≡ BadRequest) →
    ((x : X) → next x ≡ Err why → why ≡ BadRequest) → why ≡ BadRequest
then_only r next why e h k = step_err r next why e h (λ x q f. k x f)

-- ---- a kind and its reader

pub record IsReader (kind : Kind) {A : Type 0} (read : Option Data → Result A Refusal) : Type 0 where
  pub none : read None ≡ Err BadRequest
  pub bad : (v : Data) (why : Refusal) → read (Some v) ≡ Err why → (f : Fault) × (why ≡ refusal_of f) × Fails kind v f
  pub failing : (v : Data) (f : Fault) → Fails kind v f → read (Some v) ≡ Err (refusal_of f)

plain_failing : (p : Plain) {A : Type 0} (read : Option Data → Result A Refusal) → ((v : Data) (why : Refusal) → read (Some v) ≡ Err why → why ≡ BadRequest)
    → ((v : Data) (x : A) → read (Some v) ≡ Ok x → IsBad (plain p) v → ⊥) → (v : Data) (f : Fault) → Fails (plain p) v f → read (Some v) ≡ Err (refusal_of f)
plain_failing p {A} read only found v bad_request h = elim (read (Some v)) as (λ r. read (Some v) ≡ r → r ≡ Err BadRequest) [
  | Ok x ↦ λ e. absurd (found v x e h)
  | Err why ↦ λ e. ap Err (only v why e)
] refl
plain_failing p read only found v bad_literal h = absurd h
plain_failing p read only found v too_large h = absurd h
plain_failing p read only found v bad_mapping h = absurd h

plain_reader : (p : Plain) {A : Type 0} (read : Option Data → Result A Refusal) → read None ≡ Err BadRequest →
    ((v : Data) (why : Refusal) → read (Some v) ≡ Err why → why ≡ BadRequest)
    → ((v : Data) (x : A) → read (Some v) ≡ Ok x → IsBad (plain p) v → ⊥) → ((v : Data) → read (Some v) ≡ Err BadRequest → IsBad (plain p) v) →
    IsReader (plain p) read
plain_reader p read n only found back = record {
  none = n;
  bad = λ v why e. (bad_request, only v why e, back v (e ∙ ap Err (only v why e)));
  failing = plain_failing p read only found;
}

abbrev pub name_in : Option Data → Result Name Refusal
name_in o = text_in o >>= name_of

abbrev pub key_type_in : Option Data → Result KeyType Refusal
key_type_in o = text_in o >>= key_type_of

abbrev pub operation_in : Option Data → Result Operation Refusal
operation_in o = text_in o >>= operation_of

abbrev pub reduction_in : Option Data → Result Op Refusal
reduction_in o = text_in o >>= reduction_of

abbrev pub offsets_in : Option Data → Result (List ℤ) Refusal
offsets_in None = Err BadRequest
offsets_in (Some v) = offsets_by v

text_only : (v : Data) (why : Refusal) → text_in (Some v) ≡ Err why → why ≡ BadRequest
text_only v why e = or_only (as_str v) BadRequest why e

text_is : (v : Data) (t : List ℕ) → text_in (Some v) ≡ Ok t → v ≡ string t
text_is v t e = str_found v t (some_of_ok (as_str v) BadRequest t e)

name_only : (t : List ℕ) (why : Refusal) → name_of t ≡ Err why → why ≡ BadRequest
name_only t why e = if_only (is_name t) t (Err BadRequest) why e (λ f. sym (err_same BadRequest why f))

key_type_only : (t : List ℕ) (why : Refusal) → key_type_of t ≡ Err why → why ≡ BadRequest
key_type_only t why e =
    if_only (bytes_eq t (codes "int")) types.Int _ why e (λ e.
    if_only (bytes_eq t (codes "text")) types.Text _ why e (λ e.
    sym (err_same BadRequest why e)))

operation_only : (t : List ℕ) (why : Refusal) → operation_of t ≡ Err why → why ≡ BadRequest
operation_only t why e =
    if_only (bytes_eq t (codes "=")) operations.Assign _ why e (λ e.
    if_only (bytes_eq t (codes "+")) operations.Sum _ why e (λ e.
    if_only (bytes_eq t (codes "-")) operations.Difference _ why e (λ e.
    if_only (bytes_eq t (codes "*")) operations.Product _ why e (λ e.
    sym (err_same BadRequest why e)))))

reduction_only : (t : List ℕ) (why : Refusal) → reduction_of t ≡ Err why → why ≡ BadRequest
reduction_only t why e =
    if_only (bytes_eq t (codes "+")) reductions.Sum _ why e (λ e.
    if_only (bytes_eq t (codes "min")) reductions.Min _ why e (λ e.
    if_only (bytes_eq t (codes "max")) reductions.Max _ why e (λ e.
    sym (err_same BadRequest why e))))

pub name_reader : IsReader (plain kinds.name) name_in
name_reader = plain_reader kinds.name name_in refl (λ v why e. then_only (text_in (Some v)) name_of why e (text_only v why) (λ t. name_only t why))
    (λ v n e bad. bad n (name_found (Some v) n e)) (λ v e n s. no_ok BadRequest n (sym e ∙ name_read (Some v) n s))

pub key_type_reader : IsReader (plain kinds.key_type) key_type_in
key_type_reader = plain_reader kinds.key_type key_type_in refl
    (λ v why e. then_only (text_in (Some v)) key_type_of why e (text_only v why) (λ t. key_type_only t why))
    (λ v n e bad. bad n (type_found (Some v) n e)) (λ v e n s. no_ok BadRequest n (sym e ∙ type_read (Some v) n s))

pub operation_reader : IsReader (plain kinds.operation) operation_in
operation_reader = plain_reader kinds.operation operation_in refl
    (λ v why e. then_only (text_in (Some v)) operation_of why e (text_only v why) (λ t. operation_only t why))
    (λ v n e bad. bad n (operation_found (Some v) n e)) (λ v e n s. no_ok BadRequest n (sym e ∙ operation_read (Some v) n s))

pub reduction_reader : IsReader (plain kinds.reduction) reduction_in
reduction_reader = plain_reader kinds.reduction reduction_in refl
    (λ v why e. then_only (text_in (Some v)) reduction_of why e (text_only v why) (λ t. reduction_only t why))
    (λ v n e bad. bad n (reduction_found (Some v) n e)) (λ v e n s. no_ok BadRequest n (sym e ∙ reduction_read (Some v) n s))

pub integer_reader : IsReader (plain kinds.integer) integer_in
integer_reader = plain_reader kinds.integer integer_in refl (λ v why e. or_only (option_and_then as_i64 (as_number v)) BadRequest why e)
    (λ v n e bad. bad n (integer_found (Some v) n e)) (λ v e n s. no_ok BadRequest n (sym e ∙ integer_read (Some v) n s))

pub number_reader : IsReader (plain kinds.number) number_in
number_reader = plain_reader kinds.number number_in refl (λ v why e. or_only (option_and_then as_u64 (as_number v)) BadRequest why e)
    (λ v n e bad. bad n (natural_found (Some v) n e)) (λ v e n s. no_ok BadRequest n (sym e ∙ natural_read (Some v) n s))

pub index_reader : IsReader (plain kinds.index) index_in
index_reader = plain_reader kinds.index index_in refl (λ v why e. or_only (index_of v) BadRequest why e)
    (λ v n e bad. bad n (index_found (Some v) n e)) (λ v e n s. no_ok BadRequest n (sym e ∙ index_read (Some v) n s))

pub integers_reader : IsReader (plain kinds.integers) integers_in
integers_reader = plain_reader kinds.integers integers_in refl (λ v why e. or_only (integers_of v) BadRequest why e)
    (λ v zs e bad. bad (zs, integers_found_of v zs (some_of_ok (integers_of v) BadRequest zs e)))
    (λ v e s. no_ok BadRequest s.0 (sym e ∙ integers_read (Some v) v s.0 refl s.1))

pub text_reader : IsReader (plain kinds.any_text) text_in
text_reader = plain_reader kinds.any_text text_in refl (λ v why e. text_only v why e)
    (λ v t e bad. bad t (text_is v t e)) (λ v e t s. no_ok BadRequest t (sym e ∙ text_read (Some v) t (ap Some s)))

pub offsets_reader : IsReader (plain kinds.offsets) offsets_in
offsets_reader = plain_reader kinds.offsets offsets_in refl (λ v why e. or_only (option_and_then point_in (index_of v)) BadRequest why e)
    (λ v is e bad. bad is (offsets_found v is e)) (λ v e is s. no_ok BadRequest is (sym e ∙ offsets_read v is s))

-- ---- a note, and 1 to 4,096 values

abbrev pub note_text_in : Option Data → Result (List ℕ) Refusal
note_text_in o = text_in o >>= note_in

note_only : (t : List ℕ) (why : Refusal) → note_in t ≡ Err why → why ≡ BadRequest
note_only t why e = if_only (is_note t) t (Err BadRequest) why e (λ f. sym (err_same BadRequest why f))

note_spelled : (v : Data) (n : List ℕ) → note_text_in (Some v) ≡ Ok n → (v ≡ string n) × (is_note n ≡ true)
note_spelled v n e =
    let t = step (text_in (Some v)) note_in n e in
    let k = chosen (is_note t.0) t.0 n t.2 in
    (text_is v t.0 t.1 ∙ ap string k.1, ap is_note (sym k.1) ∙ k.0)

note_told : (v : Data) (n : List ℕ) → (v ≡ string n) × (is_note n ≡ true) → note_text_in (Some v) ≡ Ok n
note_told v n s = rw (s.0, s.1) refl

pub note_reader : IsReader (plain kinds.note) note_text_in
note_reader = plain_reader kinds.note note_text_in refl (λ v why e. then_only (text_in (Some v)) note_in why e (text_only v why) (λ t. note_only t why))
    (λ v n e bad. bad n (note_spelled v n e)) (λ v e n s. no_ok BadRequest n (sym e ∙ note_told v n s))

abbrev pub several_in : Option Data → Result Items Refusal
several_in o = ok_or (option_and_then several_of o) BadRequest

several_spelled : (v : Data) (ds : Items) → several_in (Some v) ≡ Ok ds → IsBad (plain kinds.several) v → ⊥
several_spelled v ds e bad =
    let x = several_found (Some v) ds e in
    bad ds (some_same v (array ds) x.0) (several_holds (items_len ds) x.1)

pub several_reader : IsReader (plain kinds.several) several_in
several_reader = plain_reader kinds.several several_in refl (λ v why e. or_only (several_of v) BadRequest why e)
    several_spelled (λ v e ds s few. no_ok BadRequest ds (sym e ∙
    ap (λ o. ok_or o BadRequest) (several_told v ds s (several_is (items_len ds) few.0 few.1))))

-- ---- literals

pub text_bad : (v : Data) (why : Refusal) → text_in (Some v) ≡ Err why → (why ≡ BadRequest) × ((t : List ℕ) → v ≡ string t → ⊥)
text_bad v why e = (text_only v why e, λ t q. no_err (sym (text_read (Some v) t (ap Some q)) ∙ e))

text_none : (v : Data) → ((t : List ℕ) → v ≡ string t → ⊥) → text_in (Some v) ≡ Err BadRequest
text_none (string t) h = absurd (h t refl)
text_none null h = refl
text_none (boolean b) h = refl
text_none (json_number n) h = refl
text_none (array ds) h = refl
text_none (object ms) h = refl

pub unspelled_domain : (t : List ℕ) → ((l : Domain) → grammar.IsDomain t l → ⊥) → literal_domain t ≡ Err BadLiteral
unspelled_domain t none = elim (domain_of t) as (λ o. domain_of t ≡ o → ok_or o BadLiteral ≡ Err BadLiteral)
    [ None ↦ λ e. refl | Some l ↦ λ e. absurd (none l ((domain_exact t l).0 e)) ] refl

pub unspelled_mapping : (t : List ℕ) → ((l : MappingLiteral) → grammar.IsMapping t l → ⊥) → literal_mapping t ≡ Err BadLiteral
unspelled_mapping t none = elim (mapping_of t) as (λ o. mapping_of t ≡ o → ok_or o BadLiteral ≡ Err BadLiteral)
    [ None ↦ λ e. refl | Some l ↦ λ e. absurd (none l ((mapping_exact t l).0 e)) ] refl

mapping_spelled : (t : List ℕ) (l : MappingLiteral) → literal_mapping t ≡ Ok l → grammar.IsMapping t l
mapping_spelled t l e = (mapping_exact t l).0 (some_of_ok (mapping_of t) BadLiteral l e)

within_err : {X : Type 0} (r : Result X LimitErr) (why : Refusal) → within r ≡ Err why → (w : LimitErr) × (r ≡ Err w) × (why ≡ refusal_of_limit w)
within_err (Ok x) why e = no_err e
within_err (Err w) why e = (w, refl, sym (err_same (refusal_of_limit w) why e))

-- a rectangle is too large, and no other limit is broken
pub rectangle_err : (r : RectangleLiteral) (why : Refusal) → domain_within r ≡ Err why → (why ≡ refusal_of too_large) × (limits.domain_within r ≡ Err TooLarge)
rectangle_err r why e =
    let x = within_err (limits.domain_within r) why e in let w = domain_large r x.0 x.1 in
    (x.2 ∙ ap refusal_of_limit w, x.1 ∙ ap Err w)

-- ---- the literal of a domain

-- what is within the limits, of a set nothing more is wanted
abbrev pub domain_judged : Domain → Result (Unit {0}) Refusal
domain_judged (rectangle r) = domain_within r >>= (λ ranges. Ok tt)
domain_judged (set listed) = Ok tt

abbrev pub domain_in : Option Data → Result (Unit {0}) Refusal
domain_in o = text_in o >>= (λ t. literal_domain t >>= domain_judged)

judged_bad : (v : Data) (t : List ℕ) (l : Domain) (why : Refusal) → v ≡ string t → grammar.IsDomain t l → domain_judged l ≡ Err why → (f : Fault) ×
    (why ≡ refusal_of f) × Fails kinds.domain v f
judged_bad v t (rectangle r) why q h e = step_err (domain_within r) (λ ranges. Ok tt) why e
    (λ m. let x = rectangle_err r why m in (too_large, x.0, (t, r, q, h, x.1))) (λ ranges m e. no_err e)
judged_bad v t (set listed) why q h e = no_err e

domain_bad : (v : Data) (why : Refusal) → domain_in (Some v) ≡ Err why → (f : Fault) × (why ≡ refusal_of f) × Fails kinds.domain v f
domain_bad v why e = step_err (text_in (Some v)) (λ t. literal_domain t >>= domain_judged) why e
    (λ q. let b = text_bad v why q in (bad_request, b.0, b.1))
    (λ t q e. step_err (literal_domain t) domain_judged why e
    (λ m. (bad_literal, or_only (domain_of t) BadLiteral why m, (t, text_is v t q, λ l h. no_err (sym (domain_read t l h) ∙ m))))
    (λ l m e. judged_bad v t l why (text_is v t q) (domain_found t l m) e))

domain_failing : (v : Data) (f : Fault) → Fails kinds.domain v f → domain_in (Some v) ≡ Err (refusal_of f)
domain_failing v bad_request h = rw (text_none v h) refl
domain_failing v bad_literal h = rw (h.1, unspelled_domain h.0 h.2) refl
domain_failing v too_large h = rw (h.2, domain_read h.0 (rectangle h.1) h.3, h.4) refl
domain_failing v bad_mapping h = absurd h

pub domain_reader : IsReader kinds.domain domain_in
domain_reader = record { none = refl; bad = domain_bad; failing = domain_failing }

-- ---- the literal of a mapping

abbrev pub mapping_in : Option Data → Result LayoutMap Refusal
mapping_in o = text_in o >>= (λ t. literal_mapping t >>= mapping_within)

limit_bad : (v : Data) (t : List ℕ) (l : MappingLiteral) (w : LimitErr) (why : Refusal) → v ≡ string t → grammar.IsMapping t l →
    mapping_limits.mapping_within l ≡ Err w → why ≡ refusal_of_limit w
    → (f : Fault) × (why ≡ refusal_of f) × Fails kinds.mapping v f
limit_bad v t l TooLarge why q h m e = (too_large, e, (t, l, q, h, m))
limit_bad v t l BadMapping why q h m e = (bad_mapping, e, (t, l, q, h, m))

mapping_bad : (v : Data) (why : Refusal) → mapping_in (Some v) ≡ Err why → (f : Fault) × (why ≡ refusal_of f) × Fails kinds.mapping v f
mapping_bad v why e = step_err (text_in (Some v)) (λ t. literal_mapping t >>= mapping_within) why e
    (λ q. let b = text_bad v why q in (bad_request, b.0, b.1))
    (λ t q e. step_err (literal_mapping t) mapping_within why e
    (λ m. (bad_literal, or_only (mapping_of t) BadLiteral why m, (t, text_is v t q, λ l h. no_err (sym (literal_read t l h) ∙ m))))
    (λ l m e. let x = within_err (mapping_limits.mapping_within l) why e in limit_bad v t l x.0 why (text_is v t q) (mapping_spelled t l m) x.1 x.2))

mapping_failing : (v : Data) (f : Fault) → Fails kinds.mapping v f → mapping_in (Some v) ≡ Err (refusal_of f)
mapping_failing v bad_request h = rw (text_none v h) refl
mapping_failing v bad_literal h = rw (h.1, unspelled_mapping h.0 h.2) refl
mapping_failing v too_large h = rw (h.2, literal_read h.0 h.1 h.3, h.4) refl
mapping_failing v bad_mapping h = rw (h.2, literal_read h.0 h.1 h.3, h.4) refl

pub mapping_reader : IsReader kinds.mapping mapping_in
mapping_reader = record { none = refl; bad = mapping_bad; failing = mapping_failing }

-- ---- the text of a workbook

abbrev pub workbook_in : Option Data → Result (List ℕ) Refusal
workbook_in o = text_in o >>= text_of_book

no_book : (b : Bool) (t : List ℕ) (why : Refusal) → (if b then Ok t else Err BadLiteral) ≡ Err why → (b ≡ false) × (why ≡ BadLiteral)
no_book true t why e = no_err e
no_book false t why e = (refl, sym (err_same BadLiteral why e))

workbook_bad : (v : Data) (why : Refusal) → workbook_in (Some v) ≡ Err why → (f : Fault) × (why ≡ refusal_of f) × Fails kinds.workbook v f
workbook_bad v why e = step_err (text_in (Some v)) text_of_book why e
    (λ q. let b = text_bad v why q in (bad_request, b.0, b.1))
    (λ t q e. let n = no_book (is_book_text t) t why e in (bad_literal, n.1, (t, text_is v t q, n.0)))

workbook_failing : (v : Data) (f : Fault) → Fails kinds.workbook v f → workbook_in (Some v) ≡ Err (refusal_of f)
workbook_failing v bad_request h = rw (text_none v h) refl
workbook_failing v bad_literal h = rw (h.1, h.2) refl
workbook_failing v too_large h = absurd h
workbook_failing v bad_mapping h = absurd h

pub workbook_reader : IsReader kinds.workbook workbook_in
workbook_reader = record { none = refl; bad = workbook_bad; failing = workbook_failing }

-- ---- a source

abbrev pub source_in : Option Data → Result Operand Refusal
source_in None = Err BadRequest
source_in (Some v) = given_by v

braced : (t : List ℕ) → is_braced t ≡ true → IsBraced t
braced [] e = absurd (cc)
braced (b ∷ bytes) e = (bytes, ap (λ c. c ∷ bytes) (eqb-true b 123 e))

pub string_same : (t s : List ℕ) → string t ≡ string s → t ≡ s
string_same t s e = cc

true_no : {X : Type 0} (b : Bool) → b ≡ true → b ≡ false → X
true_no b e f = cc

-- a text without a brace that is no name
unnamed : (v : Data) (t : List ℕ) (why : Refusal) → v ≡ string t → is_braced t ≡ false → given_name t ≡ Err why → IsBad kinds.source v
unnamed v t why q b e s r (inl h) = true_no (is_braced t) (ap is_braced (string_same t s (sym q ∙ r) ∙ h.1)) b
unnamed v t why q b e s r (inr h) =
    let n : is_name t ≡ true = ap is_name (string_same t s (sym q ∙ r)) ∙ h in
    let named : given_name t ≡ Ok (Named t) = rw n refl in
    no_err (sym named ∙ e)

given_bad : (v : Data) (t : List ℕ) (why : Refusal) (b : Bool) → v ≡ string t → is_braced t ≡ b → (if b then given_literal t else given_name t) ≡ Err why →
    (f : Fault) × (why ≡ refusal_of f) × Fails kinds.source v f
given_bad v t why true q b e = step_err (literal_domain t) given_within why e
    (λ m. (bad_literal, or_only (domain_of t) BadLiteral why m, (t, q, braced t b, λ l h. no_err (sym (domain_read t l h) ∙ m))))
    (λ l m e. within_bad l (domain_found t l m) e)
  where
    within_bad : (l : Domain) → grammar.IsDomain t l → given_within l ≡ Err why → (f : Fault) × (why ≡ refusal_of f) × Fails kinds.source v f
    within_bad (rectangle r) h e = step_err (domain_within r) _ why e (λ m. let x = rectangle_err r why m in (too_large, x.0, (t, r, q, h, x.1)))
        (λ ranges m e. no_err e)
    within_bad (set listed) h e = no_err e
given_bad v t why false q b e =
    (bad_request, then_only (name_of t) (λ n. Ok (Named n)) why e (name_only t why) (λ n e. no_err e), unnamed v t why q b e)

source_bad : (v : Data) (why : Refusal) → source_in (Some v) ≡ Err why → (f : Fault) × (why ≡ refusal_of f) × Fails kinds.source v f
source_bad v why e = step_err (text_in (Some v)) given_text why e
    (λ q. let b = text_bad v why q in (bad_request, b.0, λ t q h. b.1 t q))
    (λ t q e. given_bad v t why (is_braced t) (text_is v t q) refl e)

given_failing : (t : List ℕ) (b c : Bool) → is_braced t ≡ b → is_name t ≡ c → (IsBraced t ⊎ (is_name t ≡ true) → ⊥) →
    (if b then given_literal t else ((if c then Ok t else Err BadRequest) >>= (λ n. Ok (Named n)))) ≡ Err BadRequest
given_failing t true c e f h = absurd (h (inl (braced t e)))
given_failing t false true e f h = absurd (h (inr f))
given_failing t false false e f h = refl

source_failing : (v : Data) (f : Fault) → Fails kinds.source v f → source_in (Some v) ≡ Err (refusal_of f)
source_failing (string t) bad_request h = given_failing t (is_braced t) (is_name t) refl refl (h t refl)
source_failing null bad_request h = refl
source_failing (boolean b) bad_request h = refl
source_failing (json_number n) bad_request h = refl
source_failing (array ds) bad_request h = refl
source_failing (object ms) bad_request h = refl
source_failing v bad_literal h =
    let b : is_braced h.0 ≡ true = ap is_braced h.2.1 in
    rw (h.1, b, unspelled_domain h.0 h.3) refl
source_failing v too_large h = rw (h.2, ap is_braced h.3.6, domain_read h.0 (rectangle h.1) h.3, h.4) refl
source_failing v bad_mapping h = absurd h

pub source_reader : IsReader kinds.source source_in
source_reader = record { none = refl; bad = source_bad; failing = source_failing }
