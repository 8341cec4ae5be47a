-- What the reader of a transaction answers, by what is wrong with it and with its commands; and so what is wrong with every JSON value.
use Rattle.std.proofs.Common.{◌≡◌, ◌≤◌, ◌⊎◌, inl, inr, ℕ, zero, suc, Bool, true, false, List, [], ◌∷◌, codes, length, Option, Some, None, option_map}
use Rattle.std.proofs.Common.{option_and_then, Result, Ok, Err, refl, sym, ap, ◌∙◌, subst, nat_eq, nat_lt, if◌then◌else◌, arith, eqb-true, ltb-true}
use Rattle.std.specs.Prelude.{bytes_eq, Contains}
use Rattle.std.specs.Option.{ok_or}
use Rattle.serde_json.specs.Data.{Data, null, boolean, number as json_number, string, array, object, Items, no_items, item, Members}
use Rattle.serde_json.specs.Find.{get_item, get_member, as_str}
use Rattle.wb_sets.proofs.Members.{contains_cons, cons_contains, first_contains}
use Rattle.wb_edit.specs.Transactions.{is_note}
use Rattle.wb_edit.specs.declared.command.Command.{Command}
use Rattle.wb_edit.specs.declared.edit.Edit.TheVariants.{Transaction}
use Rattle.wb_edit.specs.declared.refusal.Refusal.{Refusal}
use Rattle.wb_edit.specs.declared.refusal.Refusal.TheVariants.{BadRequest}
use Rattle.wb_requests.specs.Fields.{◌>>=◌, member_count, has_fields_and, text_field, text_if_there, note_in, note_if_there, optional_note, several_of}
use Rattle.wb_requests.specs.Fields.{several_field, is_among}
use Rattle.wb_requests.specs.Requests.{by_single_op, as_command, command_by, command_of, one_more, commands_after, transaction_of}
use Rattle.wb_requests.specs.Requests.{by_op, request_of}
use Rattle.wb_requests.specs.declared.requests.request.Request.{Request}
use Rattle.wb_requests.specs.declared.requests.request.Request.TheVariants.{Change}
use Rattle.wb_requests.specs.Wire.Table.{word, command_ops}
use Rattle.wb_requests.specs.Wire.Faults.{Fault, bad_request, bad_literal, too_large, bad_mapping, code, refusal_of, fault_told, NamesOp, IsWhole, plain, IsOwnFault}
use Rattle.wb_requests.specs.Wire.Faults.{not_whole, NamesCommand, IsCommandFault, no_command, of_command as of_own_command, EditFails, IsFault, of_own, of_edit}
use Rattle.wb_requests.specs.Wire.Faults as kinds
use Rattle.wb_requests.proofs.OnTheWire.Members.{true_false, equal_key, same_key}
use Rattle.wb_requests.proofs.OnTheWire.Values.{no_ok, no_some, ok_same, some_same, text_in, text_found, text_read, word_read, says_text}
use Rattle.wb_requests.proofs.OnTheWire.Spellings.{count_found}
use Rattle.wb_requests.proofs.OnTheWire.Parts.{op_of_other}
use Rattle.wb_requests.proofs.OnTheWire.Several.{several_found}
use Rattle.wb_requests.proofs.OnTheWire.Found.{single_found, note_is, no_note_is}
use Rattle.wb_requests.proofs.OnTheWire.Keys.{has, keys_counted, no_more, of_form, form_at, members_same, not_whole_by, key_there}
use Rattle.wb_requests.proofs.OnTheWire.Failing.{err_same, no_err, step_err, or_only, note_text_in, note_reader, several_reader}
use Rattle.wb_requests.proofs.OnTheWire.Judged.{told_back, code_same, refusal_same, least_code, RefusedBy, JudgedBy, NoFault, Refused, Judges, first, bind_judged, member_fault}
use Rattle.wb_requests.proofs.OnTheWire.Judged.{fine, field_bad, uncounted, all_fine}
use Rattle.wb_requests.proofs.OnTheWire.Refused.{no_op, no_object, single_judged}

-- ---- by which faults there are

judged_as : {X : Type 0} (P Q : Fault → Type 0) → ((f : Fault) → P f → Q f) → ((f : Fault) → Q f → P f) → (r : Result X Refusal) → JudgedBy P r → JudgedBy Q r
judged_as P Q there back (Ok x) j = λ f q. j f (back f q)
judged_as P Q there back (Err why) j = (j.0, j.1, (there j.0 j.2.0, λ g q. j.2.1 g (back g q)))

-- what is made of what is read
made_by : {X Y : Type 0} (P : Fault → Type 0) (r : Result X Refusal) (K : X → Y) → JudgedBy P r → JudgedBy P (r >>= (λ x. Ok (K x)))
made_by P (Ok x) K j = j
made_by P (Err why) K j = j

module _ (P Q : Fault → Type 0) where
  both_not : ((f : Fault) → P f → ⊥) → ((f : Fault) → Q f → ⊥) → (f : Fault) → P f ⊎ Q f → ⊥
  both_not j k f (inl p) = j f p
  both_not j k f (inr q) = k f q

  both_above : (c : ℕ) → ((f : Fault) → P f → c ≤ code f) → ((f : Fault) → Q f → c ≤ code f) → (f : Fault) → P f ⊎ Q f → c ≤ code f
  both_above c j k f (inl p) = j f p
  both_above c j k f (inr q) = k f q

  one_more_judged : (r : Result (List Command) Refusal) (q : Result Command Refusal) → JudgedBy P r → JudgedBy Q q → JudgedBy (λ f. P f ⊎ Q f) (one_more r q)
  one_more_judged (Ok cs) (Ok c) j k = both_not j k
  one_more_judged (Ok cs) (Err why) j k = (k.0, k.1, (inr k.2.0, both_above (code k.0) (λ f p. absurd (j f p)) k.2.1))
  one_more_judged (Err one) (Ok c) j k = (j.0, j.1, (inl j.2.0, both_above (code j.0) j.2.1 (λ f q. absurd (k f q))))
  one_more_judged (Err one) (Err more) j k =
      let first_is : fault_told one ≡ j.0 = ap fault_told j.1 ∙ told_back j.0 in
      let more_is : fault_told more ≡ k.0 = ap fault_told k.1 ∙ told_back k.0 in
      let a = ap code first_is in let b = ap code more_is in
      elim (nat_lt (code (fault_told more)) (code (fault_told one))) as
      (λ t. nat_lt (code (fault_told more)) (code (fault_told one)) ≡ t → RefusedBy (λ f. P f ⊎ Q f) (if t then more else one)) [
        | true ↦ λ e.
            let l = ltb-true (code (fault_told more)) (code (fault_told one)) e in
            (k.0, k.1, (inr k.2.0, both_above (code k.0) (λ f p. let m = j.2.1 f p in omega (arith, a, b, l, m)) k.2.1))
        | false ↦ λ e.
            let l = not_less (code (fault_told more)) (code (fault_told one)) e in
            (j.0, j.1, (inl j.2.0, both_above (code j.0) j.2.1 (λ f q. let m = k.2.1 f q in omega (arith, a, b, l, m))))
      ] refl
    where
      not_less : (a b : ℕ) → nat_lt a b ≡ false → b ≤ a
      not_less a b e = search (arith)

-- ---- a command

pub among_contains : (ks : List (List ℕ)) (k : List ℕ) → is_among ks k ≡ true → Contains ks k
among_contains [] k e = true_false (sym e)
among_contains (l ∷ ks) k e = elim (bytes_eq k l) as (λ b. bytes_eq k l ≡ b → (if b then true else is_among ks k) ≡ true → Contains (l ∷ ks) k) [
  | true ↦ λ s f. first_contains l ks k (equal_key k l s)
  | false ↦ λ s f. cons_contains l ks k (among_contains ks k f)
] refl e

pub contains_among : (ks : List (List ℕ)) (k : List ℕ) → Contains ks k → is_among ks k ≡ true
contains_among [] k c = absurd (let l = c.1 in omega (arith, l))
contains_among (l ∷ ks) k c = by (λ more. contains_among ks k more) (contains_cons l ks k c.0 c.1 c.2)
  where
    later : (b c : Bool) → c ≡ true → (if b then true else c) ≡ true
    later true c e = refl
    later false c e = e

    by : (Contains ks k → is_among ks k ≡ true) → (k ≡ l) ⊎ Contains ks k → is_among (l ∷ ks) k ≡ true
    by rest (inl same) = ap (λ (b : Bool). if b then true else is_among ks k) (subst (λ m. bytes_eq k m ≡ true) same (same_key k))
    by rest (inr more) = later (bytes_eq k l) (is_among ks k) (rest more)

not_command : (d : Data) (why : Refusal) → why ≡ BadRequest → (NamesCommand d → ⊥) → RefusedBy (IsCommandFault d) why
not_command d why e other = (bad_request, e, (no_command refl other, λ g x. least_code g))

-- one object names one op
pub one_op : (ms ns : Members) (op other : List ℕ) → object ms ≡ object ns → NamesOp ms op → NamesOp ns other → op ≡ other
one_op ms ns op other same s t =
    text_same op other (some_same (string op) (string other) (sym s ∙ subst (λ ms. NamesOp ms other) (sym (members_same ms ns same)) t))
  where
    text_same : (a b : List ℕ) → string a ≡ string b → a ≡ b
    text_same a b e = cc

module _ (ms : Members) (op : List ℕ) (s : NamesOp ms op) where
  pub named : is_among command_ops op ≡ true → NamesCommand (object ms)
  named e = (ms, op, refl, s, among_contains command_ops op e)

  own_command : is_among command_ops op ≡ true → (r : Result Request Refusal) → by_single_op op (object ms) ≡ r → Judges (object ms) r →
      JudgedBy (IsCommandFault (object ms)) (r >>= as_command)
  own_command e (Err why) f j = (j.0, j.1, (of_own_command j.2.0, above))
    where
      above : (g : Fault) → IsCommandFault (object ms) g → code j.0 ≤ code g
      above g (no_command is other) = absurd (other (named e))
      above g (of_own_command x) = j.2.1 g x
  own_command e (Ok q) f j = as_read (as_command q) refl
    where
      none : (g : Fault) → IsCommandFault (object ms) g → ⊥
      none g (no_command is other) = other (named e)
      none g (of_own_command x) = j g x

      as_read : (o : Result Command Refusal) → as_command q ≡ o → JudgedBy (IsCommandFault (object ms)) o
      as_read (Ok c) k = none
      as_read (Err why) k =
          let h = single_found ms op q (says_text (get_member (codes "op") ms) (word op) op s refl) f in
          let x = op_of_other ms q (λ c same. no_ok why c (sym k ∙ ap as_command same)) h in
          let same : op ≡ x.0 = ok_same op x.0 (sym (text_read (get_member (codes "op") ms) op s) ∙ word_read (get_member (codes "op") ms) x.0 x.1) in
          true_false (sym (ap (is_among command_ops) (sym same) ∙ e) ∙ x.2)

not_transaction : (op : List ℕ) → is_among command_ops op ≡ true → bytes_eq op (codes "transaction") ≡ false
not_transaction op e = elim (bytes_eq op (codes "transaction")) as (λ b. bytes_eq op (codes "transaction") ≡ b → b ≡ false) [
  | true ↦ λ f. true_false (sym e ∙ ap (is_among command_ops) (equal_key op (codes "transaction") f))
  | false ↦ λ f. refl
] refl

by_command_judged : (ms : Members) (op : List ℕ) → NamesOp ms op → JudgedBy (IsCommandFault (object ms)) (command_by op (object ms))
by_command_judged ms op s = elim (is_among command_ops op) as
    (λ b. is_among command_ops op ≡ b → JudgedBy {X = Command} (IsCommandFault (object ms)) (if b then by_single_op op (object ms) >>= as_command else Err BadRequest)) [
      | true ↦ λ e. own_command ms op s e (by_single_op op (object ms)) refl (single_judged ms op s (not_transaction op e))
      | false ↦ λ e. not_command (object ms) BadRequest refl (λ n.
          let same = one_op ms n.0 op n.1 n.2 s n.3 in
          true_false (sym (ap (is_among command_ops) same ∙ contains_among command_ops n.1 n.4) ∙ e))
    ] refl

other_command : (d : Data) → ((ms : Members) → d ≡ object ms → ⊥) → RefusedBy (IsCommandFault d) BadRequest
other_command d h = not_command d BadRequest refl (λ n. h n.0 n.2)

unnamed : (ms : Members) (why : Refusal) → text_in (get_member (codes "op") ms) ≡ Err why → NamesCommand (object ms) → ⊥
unnamed ms why e n =
    let t : NamesOp ms n.1 = subst (λ ns. NamesOp ns n.1) (sym (members_same ms n.0 n.2)) n.3 in
    no_err (sym (text_read (get_member (codes "op") ms) n.1 t) ∙ e)

pub command_judged : (d : Data) → JudgedBy (IsCommandFault d) (command_of d)
command_judged (object ms) =
    bind_judged (JudgedBy {X = Command} (IsCommandFault (object ms))) (text_field (codes "op") (object ms)) (λ op. command_by op (object ms))
    (λ why e. not_command (object ms) why (or_only (option_and_then as_str (get_member (codes "op") ms)) BadRequest why e) (unnamed ms why e))
    (λ op e. by_command_judged ms op (text_found (get_member (codes "op") ms) op e))
command_judged null = other_command null (λ ms e. cc)
command_judged (boolean b) = other_command (boolean b) (λ ms e. cc)
command_judged (json_number n) = other_command (json_number n) (λ ms e. cc)
command_judged (string t) = other_command (string t) (λ ms e. cc)
command_judged (array ds) = other_command (array ds) (λ ms e. cc)

-- ---- several commands

-- one of the values is wrong
abbrev pub WithinFault : Items → Fault → Type 0
WithinFault ds f = (k : ℕ) × (v : Data) × (get_item k ds ≡ Some v) × IsCommandFault v f

none_within : (P : Fault → Type 0) (f : Fault) → P f ⊎ WithinFault no_items f → P f
none_within P f (inl p) = p
none_within P f (inr w) = no_some w.1 w.2

module _ (P : Fault → Type 0) (d : Data) (ds : Items) where
  one_within : (f : Fault) → (P f ⊎ IsCommandFault d f) ⊎ WithinFault ds f → P f ⊎ WithinFault (item d ds) f
  one_within f (inl (inl p)) = inl p
  one_within f (inl (inr c)) = inr (zero, d, refl, c)
  one_within f (inr w) = inr (suc w.0, w.1, w.2, w.3)

  at_item : (f : Fault) (k : ℕ) (v : Data) → get_item k (item d ds) ≡ Some v → IsCommandFault v f → (P f ⊎ IsCommandFault d f) ⊎ WithinFault ds f
  at_item f zero v g c = inl (inr (subst (λ v. IsCommandFault v f) (sym (some_same d v g)) c))
  at_item f (suc k) v g c = inr (k, v, g, c)

  back_within : (f : Fault) → P f ⊎ WithinFault (item d ds) f → (P f ⊎ IsCommandFault d f) ⊎ WithinFault ds f
  back_within f (inl p) = inl (inl p)
  back_within f (inr w) = at_item f w.0 w.1 w.2 w.3

commands_judged : (ds : Items) (P : Fault → Type 0) (r : Result (List Command) Refusal) → JudgedBy P r →
    JudgedBy (λ f. P f ⊎ WithinFault ds f) (commands_after r ds)
commands_judged no_items P r j = judged_as P (λ f. P f ⊎ WithinFault no_items f) (λ f p. inl p) (none_within P) r j
commands_judged (item d ds) P r j =
    judged_as (λ f. (P f ⊎ IsCommandFault d f) ⊎ WithinFault ds f) (λ f. P f ⊎ WithinFault (item d ds) f) (one_within P d ds) (back_within P d ds)
    (commands_after (one_more r (command_of d)) ds)
    (commands_judged ds (λ f. P f ⊎ IsCommandFault d f) (one_more r (command_of d)) (one_more_judged P (IsCommandFault d) r (command_of d) j (command_judged d)))

-- ---- an object with all that is within it

-- a bad request is the least whatever else is wrong
whole_first : (d : Data) (why : Refusal) → why ≡ BadRequest → Refused d why → RefusedBy (IsFault d) why
whole_first d why e r = (
  r.0,
  r.1,
  (
    of_own r.2.0,
    λ g x. let a = code_same r.0 bad_request (sym r.1 ∙ e) in let b = least_code g in omega (arith, a, b),
  ),
)

own_whole : {X : Type 0} (d : Data) → ((f : Fault) → EditFails d f → ⊥) → (r : Result X Refusal) → Judges d r → JudgedBy (IsFault d) r
own_whole d none r j = judged_as (IsOwnFault d) (IsFault d) (λ f x. of_own x) back r j
  where
    back : (f : Fault) → IsFault d f → IsOwnFault d f
    back f (of_own x) = x
    back f (of_edit x) = absurd (none f x)

pub no_edits : (ms : Members) (op : List ℕ) → NamesOp ms op → bytes_eq op (codes "transaction") ≡ false → (f : Fault) → EditFails (object ms) f → ⊥
no_edits ms op s other f x =
    let same = one_op ms x.members op (codes "transaction") x.is_object s x.names_op in
    true_false (sym (ap (λ op. bytes_eq op (codes "transaction")) same) ∙ other)

-- ---- a transaction

-- a note that is none
note_err : (v : Data) (why : Refusal) → (text_if_there (Some v) >>= note_if_there) ≡ Err why → note_text_in (Some v) ≡ Err why
note_err v why e = elim (as_str v) as (λ o. (ok_or (option_map Some o) BadRequest >>= note_if_there) ≡ Err why → (ok_or o BadRequest >>= note_in) ≡ Err why) [
  | None ↦ λ f. ap Err (err_same BadRequest why f)
  | Some t ↦ λ f. step_err (note_in t) (λ n. Ok (Some n)) why f (λ g. g) (λ n g h. no_err h)
] e

module _ (ms : Members) (s : NamesOp ms (codes "transaction")) where
  note_bad : (why : Refusal) (v : Option Data) → get_member (codes "note") ms ≡ v → (text_if_there v >>= note_if_there) ≡ Err why →
      (why ≡ BadRequest) × Refused (object ms) why
  note_bad why None g e = no_err e
  note_bad why (Some v) g e =
      let x = note_reader.bad v why (note_err v why e) in
      let only = note_only why v e in
      (only, first (object ms) why only (member_fault ms (codes "transaction") (codes "note") (plain kinds.note) v bad_request s refl g (as_bad x.0 x.2)))
    where
      note_only : (why : Refusal) (v : Data) → (text_if_there (Some v) >>= note_if_there) ≡ Err why → why ≡ BadRequest
      note_only why v e = step_err (text_if_there (Some v)) note_if_there why e (λ f. or_only (option_map Some (as_str v)) BadRequest why f)
          (λ o f g. of_text o g)
        where
          of_text : (o : Option (List ℕ)) → note_if_there o ≡ Err why → why ≡ BadRequest
          of_text None g = no_err g
          of_text (Some t) g = step_err (note_in t) (λ n. Ok (Some n)) why g (λ h. of_bool (is_note t) h) (λ n h k. no_err k)
            where
              of_bool : (b : Bool) → (if b then Ok t else Err BadRequest) ≡ Err why → why ≡ BadRequest
              of_bool true h = no_err h
              of_bool false h = sym (err_same BadRequest why h)

      as_bad : (f : Fault) → kinds.Fails (plain kinds.note) v f → kinds.Fails (plain kinds.note) v bad_request
      as_bad bad_request h = h
      as_bad bad_literal h = absurd h
      as_bad too_large h = absurd h
      as_bad bad_mapping h = absurd h

  without_note : get_member (codes "note") ms ≡ None → (member_count ms ≡ 2 → ⊥) → IsWhole (object ms) → ⊥
  without_note none other = not_whole_by ms (codes "transaction") s (λ ks c h.
      let p = of_form (codes "transaction") ks (λ ks. if has (codes "note") ks then true else nat_eq (length ks) 1) refl c in
      elim (has (codes "note") ks) as (λ b. has (codes "note") ks ≡ b → (if b then true else nat_eq (length ks) 1) ≡ true → ⊥) [
        | true ↦ λ e q. let x = key_there (codes "note") ks ms e h in no_some x.0 (sym none ∙ x.1)
        | false ↦ λ e q. other (keys_counted (codes "op" ∷ ks) ms h ∙ ap suc (eqb-true (length ks) 1 q))
      ] refl p)

  with_note : (v : Data) → get_member (codes "note") ms ≡ Some v → (member_count ms ≡ 3 → ⊥) → IsWhole (object ms) → ⊥
  with_note v g other = not_whole_by ms (codes "transaction") s (λ ks c h.
      let p = of_form (codes "transaction") ks (λ ks. if has (codes "note") ks then nat_eq (length ks) 2 else true) refl c in
      elim (has (codes "note") ks) as (λ b. has (codes "note") ks ≡ b → (if b then nat_eq (length ks) 2 else true) ≡ true → ⊥) [
        | true ↦ λ e q. other (keys_counted (codes "op" ∷ ks) ms h ∙ ap suc (eqb-true (length ks) 2 q))
        | false ↦ λ e q. no_some v (sym (no_more (codes "note") (codes "op" ∷ ks) ms e h) ∙ g)
      ] refl p)

  count_bad_by : (n : Option (List ℕ)) → optional_note (codes "note") (object ms) ≡ Ok n → (why : Refusal) → has_fields_and 2 n (object ms) ≡ Err why →
      (why ≡ BadRequest) × Refused (object ms) why
  count_bad_by None e why f =
      let x = uncounted ms 2 why f in
      (x.0, first (object ms) why x.0 (not_whole refl (without_note (no_note_is (get_member (codes "note") ms) e) x.1)))
  count_bad_by (Some t) e why f =
      let x = uncounted ms 3 why f in
      (x.0, first (object ms) why x.0 (not_whole refl (with_note (string t) (note_is (get_member (codes "note") ms) t e).0 x.1)))

  edits_bad : (why : Refusal) → several_field (codes "edits") (object ms) ≡ Err why → (why ≡ BadRequest) × Refused (object ms) why
  edits_bad why e = (
    or_only (option_and_then several_of (get_member (codes "edits") ms)) BadRequest why e,
    field_bad ms (codes "transaction") (codes "edits") s several_reader refl refl why e,
  )

  -- nothing is wrong with the object itself
  own_fine : (n : Option (List ℕ)) (ds : Items) → optional_note (codes "note") (object ms) ≡ Ok n → has_fields_and 2 n (object ms) ≡ Ok tt →
      several_field (codes "edits") (object ms) ≡ Ok ds → NoFault (object ms)
  own_fine None ds e u g =
      let o = codes "transaction" in let ks = codes "edits" ∷ [] in
      all_fine ms o ks s (form_at 43 (o, ks) refl refl refl) refl (count_found ms 2 tt u) (fine ms o (codes "edits") several_reader refl ds g, tt)
  own_fine (Some t) ds e u g =
      let o = codes "transaction" in let ks = codes "edits" ∷ codes "note" ∷ [] in
      let n = note_is (get_member (codes "note") ms) t e in
      all_fine ms o ks s (form_at 44 (o, ks) refl refl refl) refl (count_found ms 3 tt u)
      (fine ms o (codes "edits") several_reader refl ds g, (fine ms o (codes "note") note_reader refl t (ap note_text_in n.0 ∙ ap (λ (b : Bool). if b then Ok t else Err BadRequest) n.1), tt))

  -- what is wrong with the object itself has something wrong with it that is a bad request
  pub own_first : (f : Fault) → IsOwnFault (object ms) f → (g : Fault) × IsOwnFault (object ms) g × (code g ≤ 1)
  own_first f x = by_note (optional_note (codes "note") (object ms)) refl
    where
      bad : (why : Refusal) → (why ≡ BadRequest) × Refused (object ms) why → (g : Fault) × IsOwnFault (object ms) g × (code g ≤ 1)
      bad why r = (r.1.0, r.1.2.0, code_same r.1.0 bad_request (sym r.1.1 ∙ r.0))

      by_edits : (n : Option (List ℕ)) (r : Result Items Refusal) → several_field (codes "edits") (object ms) ≡ r → optional_note (codes "note") (object ms) ≡ Ok n →
          has_fields_and 2 n (object ms) ≡ Ok tt → (g : Fault) × IsOwnFault (object ms) g × (code g ≤ 1)
      by_edits n (Ok ds) e a u = absurd (own_fine n ds a u e f x)
      by_edits n (Err why) e a u = bad why (edits_bad why e)

      by_count : (n : Option (List ℕ)) (r : Result (Unit {0}) Refusal) → has_fields_and 2 n (object ms) ≡ r → optional_note (codes "note") (object ms) ≡ Ok n →
          (g : Fault) × IsOwnFault (object ms) g × (code g ≤ 1)
      by_count n (Ok u) e a = by_edits n (several_field (codes "edits") (object ms)) refl a e
      by_count n (Err why) e a = bad why (count_bad_by n a why e)

      by_note : (r : Result (Option (List ℕ)) Refusal) → optional_note (codes "note") (object ms) ≡ r → (g : Fault) × IsOwnFault (object ms) g × (code g ≤ 1)
      by_note (Ok n) e = by_count n (has_fields_and 2 n (object ms)) refl e
      by_note (Err why) e = bad why (note_bad why (get_member (codes "note") ms) refl e)

  listed_judged : (ds : Items) → NoFault (object ms) → get_member (codes "edits") ms ≡ Some (array ds) →
      JudgedBy (IsFault (object ms)) (commands_after (Ok []) ds)
  listed_judged ds none at =
      judged_as (λ f. ⊥ ⊎ WithinFault ds f) (IsFault (object ms)) there back (commands_after (Ok []) ds) (commands_judged ds (λ f. ⊥) (Ok []) (λ f x. x))
    where
      there : (f : Fault) → ⊥ ⊎ WithinFault ds f → IsFault (object ms) f
      there f (inl x) = absurd x
      there f (inr w) = of_edit (record {
        members = ms;
        listed = ds;
        place = w.0;
        value = w.1;
        is_object = refl;
        names_op = s;
        is_edits = at;
        is_value = w.2;
        fails = w.3;
      })

      items_same : (a b : Items) → array a ≡ array b → a ≡ b
      items_same a b e = cc

      back : (f : Fault) → IsFault (object ms) f → ⊥ ⊎ WithinFault ds f
      back f (of_own x) = inl (none f x)
      back f (of_edit x) =
          let here : get_member (codes "edits") ms ≡ Some (array x.listed) =
          subst (λ ns. get_member (codes "edits") ns ≡ Some (array x.listed)) (sym (members_same ms x.members x.is_object)) x.is_edits in
          let same : x.listed ≡ ds = items_same x.listed ds (some_same (array x.listed) (array ds) (sym here ∙ at)) in
          inr (x.place, x.value, subst (λ es. get_item x.place es ≡ Some x.value) same x.is_value, x.fails)

  pub transaction_judged : JudgedBy (IsFault (object ms)) (transaction_of (object ms))
  transaction_judged =
      let J = JudgedBy {X = Request} (IsFault (object ms)) in
      bind_judged J (optional_note (codes "note") (object ms)) (λ note. has_fields_and 2 note (object ms) >>= (λ u. several_field (codes "edits") (object ms) >>=
      (λ ds. commands_after (Ok []) ds >>= (λ cs. Ok (Change (Transaction (cs, note)))))))
      (λ why e. let b = note_bad why (get_member (codes "note") ms) refl e in whole_first (object ms) why b.0 b.1) (λ note e.
      bind_judged J (has_fields_and 2 note (object ms)) (λ u. several_field (codes "edits") (object ms) >>=
      (λ ds. commands_after (Ok []) ds >>= (λ cs. Ok (Change (Transaction (cs, note))))))
      (λ why f. let b = count_bad_by note e why f in whole_first (object ms) why b.0 b.1) (λ u f.
      bind_judged J (several_field (codes "edits") (object ms)) (λ ds. commands_after (Ok []) ds >>= (λ cs. Ok (Change (Transaction (cs, note)))))
      (λ why g. let b = edits_bad why g in whole_first (object ms) why b.0 b.1) (λ ds g.
      made_by (IsFault (object ms)) (commands_after (Ok []) ds) (λ cs. Change (Transaction (cs, note)))
      (listed_judged ds (own_fine note ds e f g) (several_found (get_member (codes "edits") ms) ds g).0))))

-- ---- every JSON value

by_op_judged : (ms : Members) (op : List ℕ) → NamesOp ms op → JudgedBy (IsFault (object ms)) (by_op op (object ms))
by_op_judged ms op s = elim (bytes_eq op (codes "transaction")) as
    (λ b. bytes_eq op (codes "transaction") ≡ b → JudgedBy (IsFault (object ms)) (if b then transaction_of (object ms) else by_single_op op (object ms))) [
      | true ↦ λ e. transaction_judged ms (subst (NamesOp ms) (equal_key op (codes "transaction") e) s)
      | false ↦ λ e. own_whole (object ms) (no_edits ms op s e) (by_single_op op (object ms)) (single_judged ms op s e)
    ] refl

other_judged : (d : Data) → ((ms : Members) → d ≡ object ms → ⊥) → RefusedBy (IsFault d) BadRequest
other_judged d h = whole_first d BadRequest refl (no_object d h)

pub request_judged : (d : Data) → JudgedBy (IsFault d) (request_of d)
request_judged (object ms) =
    bind_judged (JudgedBy {X = Request} (IsFault (object ms))) (text_field (codes "op") (object ms)) (λ op. by_op op (object ms))
    (λ why e. whole_first (object ms) why (or_only (option_and_then as_str (get_member (codes "op") ms)) BadRequest why e)
    (no_op ms why (get_member (codes "op") ms) refl e))
    (λ op e. by_op_judged ms op (text_found (get_member (codes "op") ms) op e))
request_judged null = other_judged null (λ ms e. cc)
request_judged (boolean b) = other_judged (boolean b) (λ ms e. cc)
request_judged (json_number n) = other_judged (json_number n) (λ ms e. cc)
request_judged (string t) = other_judged (string t) (λ ms e. cc)
request_judged (array ds) = other_judged (array ds) (λ ms e. cc)

-- ---- the laws

refused_by : (d : Data) (r : Result Request Refusal) (why : Refusal) → JudgedBy (IsFault d) r → r ≡ Err why → RefusedBy (IsFault d) why
refused_by d (Ok r) why j e = no_err e
refused_by d (Err w) why j e = subst (RefusedBy (IsFault d)) (err_same w why e) j

pub refused_least : (d : Data) (why : Refusal) → request_of d ≡ Err why → RefusedBy (IsFault d) why
refused_least d why e = refused_by d (request_of d) why (request_judged d) e

least_by : (d : Data) (r : Result Request Refusal) (why : Refusal) → JudgedBy (IsFault d) r → RefusedBy (IsFault d) why → r ≡ Err why
least_by d (Ok r) why j h = absurd (j h.0 h.2.0)
least_by d (Err w) why j h = ap Err (j.1 ∙ refusal_same j.0 h.0 (j.2.1 h.0 h.2.0) (h.2.1 j.0 j.2.0) ∙ sym h.1)

pub least_refused : (d : Data) (why : Refusal) → RefusedBy (IsFault d) why → request_of d ≡ Err why
least_refused d why h = least_by d (request_of d) why (request_judged d) h

faultless_by : (d : Data) (r : Result Request Refusal) (q : Request) → JudgedBy (IsFault d) r → r ≡ Ok q → (f : Fault) → IsFault d f → ⊥
faultless_by d (Ok r) q j e = j
faultless_by d (Err w) q j e = no_ok w q e

pub read_faultless : (d : Data) → ((r : Request) × (request_of d ≡ Ok r)) → (f : Fault) → IsFault d f → ⊥
read_faultless d h = faultless_by d (request_of d) h.0 (request_judged d) h.1

read_by : (d : Data) (r : Result Request Refusal) → JudgedBy (IsFault d) r → ((f : Fault) → IsFault d f → ⊥) → (q : Request) × (r ≡ Ok q)
read_by d (Ok r) j n = (r, refl)
read_by d (Err w) j n = absurd (n j.0 j.2.0)

pub faultless_read : (d : Data) → ((f : Fault) → IsFault d f → ⊥) → (r : Request) × (request_of d ≡ Ok r)
faultless_read d n = read_by d (request_of d) (request_judged d) n
