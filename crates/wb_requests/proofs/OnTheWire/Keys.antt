-- Which members an object has to have, by its op.
use Rattle.std.proofs.Common.{◌≡◌, ℕ, suc, Bool, true, false, List, [], ◌∷◌, codes, length, Some, None, refl, sym, ap, ◌∙◌, subst, nat_eq, nat_lt}
use Rattle.std.proofs.Common.{if◌then◌else◌, arith, eqb-true, ltb-true}
use Rattle.std.specs.Prelude.{bytes_eq, Contains, slice_index_or}
use Rattle.std.specs.List.{list_all}
use Rattle.std.proofs.lemmas.List.Elements.{All-contains}
use Rattle.std.proofs.lemmas.List.Sums.{AllPass-from_list_all}
use Rattle.serde_json.specs.Data.{Data, string, object, Members}
use Rattle.serde_json.specs.Find.{get_member}
use Rattle.wb_requests.specs.Fields.{member_count}
use Rattle.wb_requests.specs.Wire.Spelled.{without}
use Rattle.wb_requests.specs.Wire.Faults.{forms, HasKeys, NamesOp, IsWhole, Kind, kind_of, Fault, bad_request, Fails, IsMiscounted, IsOwnFault, not_whole, of_member, of_count}
use Rattle.wb_requests.proofs.OnTheWire.Members.{true_false, equal_key, same_key, other_same, count_out, there, free_parts, unequal, nothing_there}
use Rattle.wb_requests.proofs.OnTheWire.Values.{no_some}

abbrev pub has : List ℕ → List (List ℕ) → Bool
has k [] = false
has k (l ∷ ls) = if bytes_eq k l then true else has k ls

abbrev pub apart : List (List ℕ) → Bool
apart [] = true
apart (k ∷ ks) = if has k ks then false else apart ks

abbrev pub IsThere : Members → List ℕ → Type 0
IsThere ms k = (v : Data) × (get_member k ms ≡ Some v)

abbrev pub AllKeys : List (List ℕ) → (List ℕ → Type 0) → Type 0
AllKeys [] Q = Unit {0}
AllKeys (k ∷ ks) Q = Q k × AllKeys ks Q

-- ---- the members of these keys and no others

pub keys_counted : (ks : List (List ℕ)) (ms : Members) → HasKeys ms ks → member_count ms ≡ length ks
keys_counted [] ms h = ap member_count h
keys_counted (k ∷ ks) ms h =
    let out = count_out k ms in let one = ap there h.0.1 in let more = keys_counted ks (without k ms) h.1 in
    omega (arith, out, one, more)

pub keys_there : (k : List ℕ) (ks : List (List ℕ)) (ms : Members) → has k ks ≡ true → HasKeys ms ks → IsThere ms k
keys_there k [] ms e h = true_false (sym e)
keys_there k (l ∷ ks) ms e h = elim (bytes_eq k l) as (λ b. bytes_eq k l ≡ b → (if b then true else has k ks) ≡ true → IsThere ms k) [
  | true ↦ λ s f. subst (IsThere ms) (sym (equal_key k l s)) h.0
  | false ↦ λ s f. let x = keys_there k ks (without l ms) f h.1 in (x.0, sym (other_same l k ms (λ q. unequal k l s (sym q))) ∙ x.1)
] refl e

pub no_more : (k : List ℕ) (ks : List (List ℕ)) (ms : Members) → has k ks ≡ false → HasKeys ms ks → get_member k ms ≡ None
no_more k [] ms e h = ap (get_member k) h
no_more k (l ∷ ks) ms e h = elim (bytes_eq k l) as (λ b. bytes_eq k l ≡ b → (if b then true else has k ks) ≡ false → get_member k ms ≡ None) [
  | true ↦ λ s f. true_false f
  | false ↦ λ s f. sym (other_same l k ms (λ q. unequal k l s (sym q))) ∙ no_more k ks (without l ms) f h.1
] refl e

neither : (b c : Bool) → (if b then true else c) ≡ false → (b ≡ false) × (c ≡ false)
neither true c e = true_false e
neither false c e = (refl, e)

there_without : (k : List ℕ) (ks : List (List ℕ)) (ms : Members) → has k ks ≡ false → AllKeys ks (IsThere ms) → AllKeys ks (IsThere (without k ms))
there_without k [] ms e t = tt
there_without k (l ∷ ks) ms e t =
    let p = neither (bytes_eq k l) (has k ks) e in
    ((t.0.0, other_same k l ms (unequal k l p.0) ∙ t.0.1), there_without k ks ms p.1 t.1)

pub keys_made : (ks : List (List ℕ)) (ms : Members) → apart ks ≡ true → member_count ms ≡ length ks → AllKeys ks (IsThere ms) → HasKeys ms ks
keys_made [] ms a n t = nothing_there ms (sym n)
keys_made (k ∷ ks) ms a n t =
    let p = free_parts (has k ks) (apart ks) a in
    let out = count_out k ms in let one = ap there t.0.1 in
    (t.0, keys_made ks (without k ms) p.1 (omega (arith, out, one, n)) (there_without k ks ms p.0 t.1))

-- what holds at each key
pub at_key : (Q : List ℕ → Type 0) (k : List ℕ) (ks : List (List ℕ)) → has k ks ≡ true → AllKeys ks Q → Q k
at_key Q k [] e h = true_false (sym e)
at_key Q k (l ∷ ks) e h = elim (bytes_eq k l) as (λ b. bytes_eq k l ≡ b → (if b then true else has k ks) ≡ true → Q k) [
  | true ↦ λ s f. subst Q (sym (equal_key k l s)) h.0
  | false ↦ λ s f. at_key Q k ks f h.1
] refl e

-- ---- the forms of an op

abbrev pub passes : List ℕ → (List (List ℕ) → Bool) → List ℕ × List (List ℕ) → Bool
passes op p x = if bytes_eq op x.0 then p x.1 else true

pub of_form : (op : List ℕ) (ks : List (List ℕ)) (p : List (List ℕ) → Bool) → list_all (passes op p) forms ≡ true → Contains forms (op, ks) → p ks ≡ true
of_form op ks p a c =
    let h : passes op p (op, ks) ≡ true = All-contains (λ x. passes op p x ≡ true) forms (op, ks) (AllPass-from_list_all (passes op p) forms a) c in
    sym (ap (λ (b : Bool). if b then p ks else true) (same_key op)) ∙ h

pub contained_at : (k : ℕ) (x : List ℕ × List (List ℕ)) → nat_lt k (length forms) ≡ true → slice_index_or forms k x ≡ x → Contains forms x
contained_at k x h e = (k, ltb-true k (length forms) h, e)

-- a form of an op whose numbers nothing counts
abbrev pub IsForm : List ℕ × List (List ℕ) → Type 0
IsForm x = Contains forms x × (bytes_eq x.0 (codes "put") ≡ false)

pub form_at : (k : ℕ) (x : List ℕ × List (List ℕ)) → nat_lt k (length forms) ≡ true → slice_index_or forms k x ≡ x → bytes_eq x.0 (codes "put") ≡ false →
    IsForm x
form_at k x h e other = (contained_at k x h e, other)

pub members_same : (ms ns : Members) → object ms ≡ object ns → ms ≡ ns
members_same ms ns e = cc

op_same : (op other : List ℕ) → Some (string op) ≡ Some (string other) → op ≡ other
op_same op other e = cc

whole_with : (ms : Members) (op : List ℕ) → NamesOp ms op → ((ks : List (List ℕ)) → Contains forms (op, ks) → HasKeys ms (codes "op" ∷ ks) → ⊥)
    → (ns : Members) (other : List ℕ) (ks : List (List ℕ)) → ms ≡ ns → NamesOp ns other → Contains forms (other, ks) → HasKeys ns (codes "op" ∷ ks) → ⊥
whole_with ms op s h ns other ks m t c k =
    let o : op ≡ other = op_same op other (sym s ∙ subst (λ ms. NamesOp ms other) (sym m) t) in
    h ks (subst (λ op. Contains forms (op, ks)) (sym o) c) (subst (λ ms. HasKeys ms (codes "op" ∷ ks)) (sym m) k)

-- An object that names an op isn't whole if it hasn't the members of any form of the op.
pub not_whole_by : (ms : Members) (op : List ℕ) → NamesOp ms op → ((ks : List (List ℕ)) → Contains forms (op, ks) → HasKeys ms (codes "op" ∷ ks) → ⊥) →
    IsWhole (object ms) → ⊥
not_whole_by ms op s h w = whole_with ms op s h w.0 w.1 w.2 (members_same ms w.0 w.3) w.4 w.5 w.6

has_tail : (b c : Bool) → c ≡ true → (if b then true else c) ≡ true
has_tail true c e = refl
has_tail false c e = e

pub key_there : (k : List ℕ) (ks : List (List ℕ)) (ms : Members) → has k ks ≡ true → HasKeys ms (codes "op" ∷ ks) → IsThere ms k
key_there k ks ms e h = keys_there k (codes "op" ∷ ks) ms (has_tail (bytes_eq k (codes "op")) (has k ks) e) h

pub lacks : (ms : Members) (op k : List ℕ) → NamesOp ms op → list_all (passes op (has k)) forms ≡ true → get_member k ms ≡ None → IsWhole (object ms) → ⊥
lacks ms op k s a n = not_whole_by ms op s (λ ks c h. let x = key_there k ks ms (of_form op ks (has k) a c) h in no_some x.0 (sym n ∙ x.1))

pub miscounted : (ms : Members) (op : List ℕ) (n : ℕ) → NamesOp ms op → list_all (passes op (λ ks. nat_eq (length ks) n)) forms ≡ true →
    (member_count ms ≡ suc n → ⊥) → IsWhole (object ms) → ⊥
miscounted ms op n s a other = not_whole_by ms op s (λ ks c h. other
    (keys_counted (codes "op" ∷ ks) ms h ∙ ap suc (eqb-true (length ks) n (of_form op ks (λ ks. nat_eq (length ks) n) a c))))

-- only a put is counted
pub uncounted_op : (ms : Members) (op : List ℕ) → NamesOp ms op → bytes_eq op (codes "put") ≡ false → IsMiscounted (object ms) → ⊥
uncounted_op ms op s other m =
    let o : op ≡ codes "put" = op_same op (codes "put") (sym s ∙ subst (λ ms. NamesOp ms (codes "put")) (sym (members_same ms m.members m.is_object)) m.names_op) in
    true_false (sym (ap (λ op. bytes_eq op (codes "put")) o) ∙ other)

-- ---- all faults of an object that is whole

-- the member of a key fails
abbrev pub FailsAt : Members → List ℕ → List ℕ → Fault → Type 0
FailsAt ms op k fault = (kind : Kind) × (v : Data) × (kind_of op k ≡ Some kind) × (get_member k ms ≡ Some v) × Fails kind v fault

at_member : (ms : Members) (op : List ℕ) (ks : List (List ℕ)) (P : Fault → Type 0) (fault : Fault) → HasKeys ms (codes "op" ∷ ks) →
    AllKeys ks (λ k. (g : Fault) → FailsAt ms op k g → P g)
    → (k : List ℕ) → FailsAt ms op k fault → P fault
at_member ms op ks P fault h all k x = elim (bytes_eq k (codes "op")) as (λ b. bytes_eq k (codes "op") ≡ b → P fault) [
  | true ↦ λ e. let none : kind_of op k ≡ None = ap (kind_of op) (equal_key k (codes "op") e) in no_some x.0 (sym none ∙ x.2)
  | false ↦ λ e. elim (has k ks) as (λ b. has k ks ≡ b → P fault) [
    | true ↦ λ f. at_key (λ k. (g : Fault) → FailsAt ms op k g → P g) k ks f all fault x
    | false ↦ λ f. no_some x.1 (sym (no_more k (codes "op" ∷ ks) ms (ap (λ (b : Bool). if b then true else has k ks) e ∙ f) h) ∙ x.3)
  ] refl
] refl

member_with : (ms : Members) (op : List ℕ) (P : Fault → Type 0) (fault : Fault) → NamesOp ms op → ((k : List ℕ) → FailsAt ms op k fault → P fault)
    → (ns : Members) (other k : List ℕ) (kind : Kind) (v : Data) → ms ≡ ns → NamesOp ns other → kind_of other k ≡ Some kind → get_member k ns ≡ Some v →
    Fails kind v fault → P fault
member_with ms op P fault s h ns other k kind v m t kd g f =
    let o : op ≡ other = op_same op other (sym s ∙ subst (λ ms. NamesOp ms other) (sym m) t) in
    h k (kind, v, subst (λ op. kind_of op k ≡ Some kind) (sym o) kd, subst (λ ms. get_member k ms ≡ Some v) (sym m) g, f)

pub all_faults : (ms : Members) (op : List ℕ) (ks : List (List ℕ)) (P : Fault → Type 0) → NamesOp ms op → Contains forms (op, ks) → HasKeys ms (codes "op" ∷ ks)
    → AllKeys ks (λ k. (g : Fault) → FailsAt ms op k g → P g) → (IsMiscounted (object ms) → P bad_request) → (fault : Fault) → IsOwnFault (object ms) fault →
    P fault
all_faults ms op ks P s c h all count fault (not_whole e other) = absurd (other (ms, op, ks, refl, s, c, h))
all_faults ms op ks P s c h all count fault (of_count e m) = subst P (sym e) (count m)
all_faults ms op ks P s c h all count fault (of_member m) =
    member_with ms op P fault s (at_member ms op ks P fault h all) m.members m.op m.key m.kind m.value (members_same ms m.members m.is_object) m.names_op
    m.is_kind m.is_value m.fails
