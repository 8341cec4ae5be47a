-- The members of an object, by their keys.
use Rattle.std.proofs.Common.{◌≡◌, ◌≢◌, ◌+◌, ℕ, suc, Bool, true, false, List, [], ◌∷◌, length, Option, Some, None, refl, sym, ap, ◌∙◌, subst, arith}
use Rattle.std.proofs.Common.{if◌then◌else◌}
use Rattle.std.specs.Prelude.{bytes_eq}
use Rattle.std.specs.Ordering.{is_eq, nat_cmp, match_ordering}
use Rattle.std.specs.Cmp.Lexicographic.{slice_cmp}
use Rattle.std.specs.declared.cmp.Ordering.{Ordering}
use Rattle.std.specs.declared.cmp.Ordering.TheVariants.{Less, Equal, Greater}
use Rattle.std.proofs.lemmas.Map.Text.{is_eq-slice_cmp}
use Rattle.std.proofs.lemmas.Slice.Eq.{bytes_eq-Decides}
use Rattle.serde_json.specs.Data.{Data, Members, no_members, member}
use Rattle.serde_json.specs.Find.{get_member}
use Rattle.wb_requests.specs.Fields.{member_count}
use Rattle.wb_requests.specs.Wire.Table.{Meaning, word, name, integer, number, index, given, mapping, optional_mapping, book, numbers}
use Rattle.wb_requests.specs.Wire.Table.{some_set, some_numbers, note, edits, Fields}
use Rattle.wb_requests.specs.Wire.Spelled.{Says, without, HasFields}

pub true_false : {X : Type 0} → true ≡ false → X
true_false e = cc

-- ---- one member, by whether its key is the one that is sought

by_order : {X : Type 0} (o : Ordering) (x y : X) → match_ordering o x y x ≡ (if is_eq o then y else x)
by_order Less x y = refl
by_order Equal x y = refl
by_order Greater x y = refl

pub found_by : (k l : List ℕ) (d : Data) (ms : Members) → get_member k (member l d ms) ≡ (if bytes_eq k l then Some d else get_member k ms)
found_by k l d ms =
    by_order (slice_cmp nat_cmp k l) (get_member k ms) (Some d)
    ∙ ap (λ (b : Bool). if b then Some d else get_member k ms) (is_eq-slice_cmp k l)

pub same_key : (k : List ℕ) → bytes_eq k k ≡ true
same_key k = (bytes_eq-Decides k k).1 refl

pub equal_key : (k l : List ℕ) → bytes_eq k l ≡ true → k ≡ l
equal_key k l e = (bytes_eq-Decides k l).0 e

other_key : (k l : List ℕ) → k ≢ l → bytes_eq k l ≡ false
other_key k l h = elim (bytes_eq k l) as (λ b. bytes_eq k l ≡ b → b ≡ false) [ true ↦ λ e. absurd (h (equal_key k l e)) | false ↦ λ e. refl ] refl

-- ---- without the member of a key, another key says the same

pub other_same : (k l : List ℕ) (ms : Members) → k ≢ l → get_member l (without k ms) ≡ get_member l ms
other_same k l no_members h = refl
other_same k l (member m d ms) h = elim (bytes_eq k m) as (λ b. bytes_eq k m ≡ b →
    get_member l (if b then ms else member m d (without k ms)) ≡ get_member l (member m d ms)) [
      | true ↦ λ e.
          let apart : l ≢ m = λ f. h (equal_key k m e ∙ sym f) in
          sym (found_by l m d ms ∙ ap (λ (b : Bool). if b then Some d else get_member l ms) (other_key l m apart))
      | false ↦ λ e.
          found_by l m d (without k ms) ∙ ap (λ (o : Option Data). if bytes_eq l m then Some d else o) (other_same k l ms h) ∙ sym (found_by l m d ms)
    ] refl

-- ---- how many members there are

abbrev pub there : Option Data → ℕ
there None = 0
there (Some d) = 1

pub count_out : (k : List ℕ) (ms : Members) → there (get_member k ms) + member_count (without k ms) ≡ member_count ms
count_out k no_members = refl
count_out k (member m d ms) = elim (bytes_eq k m) as (λ b. bytes_eq k m ≡ b →
    there (get_member k (member m d ms)) + member_count (if b then ms else member m d (without k ms)) ≡ suc (member_count ms)) [
      | true ↦ λ e. let f = ap there (found_by k m d ms ∙ ap (λ (b : Bool). if b then Some d else get_member k ms) e) in omega (arith, f)
      | false ↦ λ e. let f = ap there (found_by k m d ms ∙ ap (λ (b : Bool). if b then Some d else get_member k ms) e) in let g = count_out k ms in
          omega (arith, f, g)
    ] refl

-- ---- keys that are apart

-- whether a key is none of these fields'
abbrev pub is_free : List ℕ → Fields → Bool
is_free k [] = true
is_free k (f ∷ fs) = if bytes_eq k f.0 then false else is_free k fs

-- whether each key stands once
abbrev pub are_apart : Fields → Bool
are_apart [] = true
are_apart (f ∷ fs) = if is_free f.0 fs then are_apart fs else false

pub free_parts : (b c : Bool) → (if b then false else c) ≡ true → (b ≡ false) × (c ≡ true)
free_parts true c e = true_false (sym e)
free_parts false c e = (refl, e)

apart_parts : (b c : Bool) → (if b then c else false) ≡ true → (b ≡ true) × (c ≡ true)
apart_parts true c e = (refl, e)
apart_parts false c e = true_false (sym e)

pub unequal : (k l : List ℕ) → bytes_eq k l ≡ false → k ≢ l
unequal k l e f = true_false (sym ((bytes_eq-Decides k l).1 f) ∙ e)

-- ---- what all fields say

abbrev pub AllSay : Fields → Members → Type 0
AllSay [] ms = Unit {0}
AllSay (f ∷ fs) ms = Says (get_member f.0 ms) f.1 × AllSay fs ms

abbrev pub count_there : Fields → Members → ℕ
count_there [] ms = 0
count_there (f ∷ fs) ms = there (get_member f.0 ms) + count_there fs ms

say_without : (k : List ℕ) (fs : Fields) (ms : Members) → is_free k fs ≡ true → AllSay fs ms → AllSay fs (without k ms)
say_without k [] ms h a = tt
say_without k (f ∷ fs) ms h a =
    let p = free_parts (bytes_eq k f.0) (is_free k fs) h in
    (subst (λ o. Says o f.1) (sym (other_same k f.0 ms (unequal k f.0 p.0))) a.0, say_without k fs ms p.1 a.1)

say_with : (k : List ℕ) (fs : Fields) (ms : Members) → is_free k fs ≡ true → AllSay fs (without k ms) → AllSay fs ms
say_with k [] ms h a = tt
say_with k (f ∷ fs) ms h a =
    let p = free_parts (bytes_eq k f.0) (is_free k fs) h in
    (subst (λ o. Says o f.1) (other_same k f.0 ms (unequal k f.0 p.0)) a.0, say_with k fs ms p.1 a.1)

count_without : (k : List ℕ) (fs : Fields) (ms : Members) → is_free k fs ≡ true → count_there fs (without k ms) ≡ count_there fs ms
count_without k [] ms h = refl
count_without k (f ∷ fs) ms h =
    let p = free_parts (bytes_eq k f.0) (is_free k fs) h in
    let one = ap there (other_same k f.0 ms (unequal k f.0 p.0)) in
    let more = count_without k fs ms p.1 in
    omega (arith, one, more)

-- ---- an object has the fields just where all of them say what they have to and there are no more members

pub nothing_there : (ms : Members) → 0 ≡ member_count ms → ms ≡ no_members
nothing_there no_members e = refl
nothing_there (member k d ms) e = absurd (omega (arith, e))

pub has_fields : (fs : Fields) (ms : Members) → are_apart fs ≡ true → count_there fs ms ≡ member_count ms → AllSay fs ms → HasFields ms fs
has_fields [] ms h n a = nothing_there ms n
has_fields (f ∷ fs) ms h n a =
    let p = apart_parts (is_free f.0 fs) (are_apart fs) h in
    let out = count_out f.0 ms in let same = count_without f.0 fs ms p.0 in
    (a.0, has_fields fs (without f.0 ms) p.1 (omega (arith, n, out, same)) (say_without f.0 fs ms p.0 a.1))

pub all_say : (fs : Fields) (ms : Members) → are_apart fs ≡ true → HasFields ms fs → AllSay fs ms
all_say [] ms h a = tt
all_say (f ∷ fs) ms h a =
    let p = apart_parts (is_free f.0 fs) (are_apart fs) h in
    (a.0, say_with f.0 fs ms p.0 (all_say fs (without f.0 ms) p.1 a.1))

pub all_counted : (fs : Fields) (ms : Members) → are_apart fs ≡ true → HasFields ms fs → count_there fs ms ≡ member_count ms
all_counted [] ms h a = ap member_count (sym a)
all_counted (f ∷ fs) ms h a =
    let p = apart_parts (is_free f.0 fs) (are_apart fs) h in
    let more = all_counted fs (without f.0 ms) p.1 a.1 in
    let out = count_out f.0 ms in let same = count_without f.0 fs ms p.0 in
    omega (arith, more, out, same)

pub no_other : (k : List ℕ) (fs : Fields) (ms : Members) → is_free k fs ≡ true → HasFields ms fs → get_member k ms ≡ None
no_other k [] ms h a = ap (get_member k) a
no_other k (f ∷ fs) ms h a =
    let p = free_parts (bytes_eq k f.0) (is_free k fs) h in
    sym (other_same f.0 k ms (λ e. unequal k f.0 p.0 (sym e))) ∙ no_other k fs (without f.0 ms) p.1 a.1

-- ---- fields that have to be there

abbrev pub is_needed : Meaning → Bool
is_needed (optional_mapping m) = false
is_needed (word w) = true
is_needed (name n) = true
is_needed (integer z) = true
is_needed (number k) = true
is_needed (index i) = true
is_needed (given g) = true
is_needed (mapping m) = true
is_needed (book text) = true
is_needed (numbers on vs) = true
is_needed some_set = true
is_needed some_numbers = true
is_needed (note n) = true
is_needed (edits cs) = true

abbrev pub are_needed : Fields → Bool
are_needed [] = true
are_needed (f ∷ fs) = if is_needed f.1 then are_needed fs else false

pub is_there : (o : Option Data) (x : Meaning) → is_needed x ≡ true → Says o x → there o ≡ 1
is_there (Some d) x h s = refl
is_there None (optional_mapping m) h s = true_false (sym h)
is_there None (word w) h s = absurd s
is_there None (name n) h s = absurd s
is_there None (integer z) h s = absurd s
is_there None (number k) h s = absurd s
is_there None (index i) h s = absurd s
is_there None (given g) h s = absurd s
is_there None (mapping m) h s = absurd s
is_there None (book text) h s = absurd s
is_there None (numbers on vs) h s = absurd s
is_there None some_set h s = absurd s
is_there None some_numbers h s = absurd s
is_there None (note n) h s = absurd s
is_there None (edits cs) h s = absurd s

pub all_there : (fs : Fields) (ms : Members) → are_needed fs ≡ true → AllSay fs ms → count_there fs ms ≡ length fs
all_there [] ms h a = refl
all_there (f ∷ fs) ms h a =
    let p = apart_parts (is_needed f.1) (are_needed fs) h in
    let one = is_there (get_member f.0 ms) f.1 p.0 a.0 in let more = all_there fs ms p.1 a.1 in
    omega (arith, one, more)

-- ---- the same where all have to be there

pub exactly : (fs : Fields) (ms : Members) → are_apart fs ≡ true → are_needed fs ≡ true → member_count ms ≡ length fs → AllSay fs ms → HasFields ms fs
exactly fs ms h k n a = has_fields fs ms h (all_there fs ms k a ∙ sym n) a

pub counted : (fs : Fields) (ms : Members) → are_apart fs ≡ true → are_needed fs ≡ true → HasFields ms fs → member_count ms ≡ length fs
counted fs ms h k a = sym (all_counted fs ms h a) ∙ all_there fs ms k (all_say fs ms h a)
