-- Edits are read from the last line up.
use Rattle.std.proofs.Common.{◌≡◌, ℕ, Bool, List, [], ◌∷◌, ◌++◌, map, codes, reverse, refl, sym, ap, ◌∙◌, subst, Option, Some, None, ◌⊎◌, inl, inr, Ok, arith}
use Rattle.std.proofs.lemmas.List.{append-nil, append_assoc, reverse-append, map-append}
use Rattle.wb_edit.specs.declared.edit.Edit.{Edit}
use Rattle.wb_history.specs.Past.{Numbered}
use Rattle.wb_history.specs.Restored.{one_of}
use Rattle.wb_lines.specs.Lines.{IsUnbroken}
use Rattle.wb_requests.specs.Requests.{request}
use Rattle.wb_requests.specs.declared.requests.request.Request.TheVariants.{Change}
use Rattle.wb_requests.specs.Wire.Encoded.{request_line}
use Rattle.wb_machine.specs.Histories.Text.{said, AreSaid, IsSaid}
use Rattle.wb_machine.specs.Histories.Lines.{IsLastLine, marked_at, heading, below, ReadsEdits, ReadsHistory}
use Rattle.wb_machine.proofs.HistoryTexts.LastLine.{last_is, broken}
use Rattle.wb_machine.proofs.HistoryTexts.Heading.{count_line, heading_last, count_unbroken, count_unmarked}
use Rattle.wb_machine.proofs.HistoryTexts.Below.{unbroken_said, marked_said, below_more, last_or_none, said_front, text_is}

-- what is still to be read of the text of a history, where these edits were read behind it
abbrev pub Left : List ℕ → List ℕ → List Numbered → Type 0
Left text rest read = (es : List Numbered) → AreSaid es → text ≡ heading es ++ below es → (fs : List Numbered) × AreSaid fs × (rest ≡ heading es ++ below fs) ×
    (es ≡ fs ++ reverse read)

abbrev first_or : {A B : Type 0} → A → Option (A × B) → A
first_or a None = a
first_or a (Some p) = p.0

abbrev second_or : {A B : Type 0} → B → Option (A × B) → B
second_or b None = b
second_or b (Some p) = p.1

pub pair_same : (a b c d : List ℕ) → ◌≡◌ {A = Option (List ℕ × List ℕ)} (Some (a, b)) (Some (c, d)) → (a ≡ c) × (b ≡ d)
pair_same a b c d e = (ap (first_or a) e, ap (second_or b) e)

-- the last line is the heading's, and all edits were read
record AtHeading (es read : List Numbered) (line : List ℕ) : Type 0 where
  unmarked : marked_at line ≡ None
  all : es ≡ reverse read

-- the last line is that of an edit
record AtEdit (es read : List Numbered) (before line : List ℕ) : Type 0 where
  edits : List Numbered
  one : Numbered
  are_said : AreSaid edits
  is_said : IsSaid one.edit
  marked : marked_at line ≡ Some (one.in_force, request_line (Change one.edit))
  front : before ≡ heading es ++ below edits
  all : es ≡ edits ++ one ∷ reverse read

at_heading : (rest before line : List ℕ) (es fs read : List Numbered) → IsLastLine rest (Some (before, line)) → rest ≡ heading es ++ below fs →
    es ≡ fs ++ reverse read → fs ≡ [] → AtHeading es read line
at_heading rest before line es fs read last is all none =
    let (above, e) = heading_last es in
    let here : rest ≡ above ++ 10 ∷ count_line es = is ∙ ap (λ gs. heading es ++ below gs) none ∙ append-nil (heading es) ∙ e in
    let same = pair_same before line above (count_line es) (last_is rest above (count_line es) (Some (before, line)) last here (count_unbroken es)) in
    record { unmarked = ap marked_at same.1 ∙ count_unmarked es; all = all ∙ ap (λ gs. gs ++ reverse read) none }

at_edit : (rest before line : List ℕ) (es fs gs read : List Numbered) (x : Numbered) → IsLastLine rest (Some (before, line)) → AreSaid fs →
    rest ≡ heading es ++ below fs → es ≡ fs ++ reverse read → fs ≡ gs ++ x ∷ [] → AtEdit es read before line
at_edit rest before line es fs gs read x last told is all some =
    let here : rest ≡ (heading es ++ below gs) ++ 10 ∷ said x = is ∙ ap (λ hs. heading es ++ below hs) some ∙ ap (λ t. heading es ++ t) (below_more gs x) ∙
    sym (append_assoc (heading es) (below gs) (10 ∷ said x)) in
    let same = pair_same before line (heading es ++ below gs) (said x)
    (last_is rest (heading es ++ below gs) (said x) (Some (before, line)) last here (unbroken_said x)) in
    let parts = said_front gs x (subst AreSaid some told) in
    record {
      edits = gs;
      one = x;
      are_said = parts.0;
      is_said = parts.1;
      marked = ap marked_at same.1 ∙ marked_said x;
      front = same.0;
      all = all ∙ ap (λ hs. hs ++ reverse read) some ∙ append_assoc gs (x ∷ []) (reverse read);
    }

last_of : (text rest before line : List ℕ) (read es : List Numbered) → Left text rest read → IsLastLine rest (Some (before, line)) → AreSaid es →
    text ≡ heading es ++ below es → AtHeading es read line ⊎ AtEdit es read before line
last_of text rest before line read es left last told is =
    let (fs, said_fs, here, all) = left es told is in
    elim (last_or_none fs) [
      | inl none ↦ inl (at_heading rest before line es fs read last here all none)
      | inr some ↦ inr (at_edit rest before line es fs some.0 read some.1 last said_fs here all some.2)
    ]

pub none_some : {A : Type 0} (a : A) (o : Option A) → o ≡ None → o ≡ Some a → ⊥
none_some a o n s = let e : None ≡ Some a = sym n ∙ s in cc

-- ---- where a line has no mark, all were read

pub all_read : (text rest before line : List ℕ) (read : List Numbered) → Left text rest read → IsLastLine rest (Some (before, line)) → marked_at line ≡ None →
    ReadsEdits text (Some (reverse read))
all_read text rest before line read left last unmarked es told is =
    elim (last_of text rest before line read es left last told is) [
      | inl heading_here ↦ ap Some (sym heading_here.all)
      | inr edit_here ↦ absurd (none_some _ (marked_at line) unmarked edit_here.marked)
    ]

-- ---- a line with a mark is that of an edit

pub same_marked : (b c : Bool) (l m : List ℕ) → ◌≡◌ {A = Option (Bool × List ℕ)} (Some (b, l)) (Some (c, m)) → (b ≡ c) × (l ≡ m)
same_marked b c l m e = (ap (first_or b) e, ap (second_or l) e)

pub some_same : {A : Type 0} (a b : A) → Some a ≡ Some b → a ≡ b
some_same a b e = cc

pub no_edit : (text rest before line spelled : List ℕ) (read : List Numbered) (b : Bool) → Left text rest read → IsLastLine rest (Some (before, line)) →
    marked_at line ≡ Some (b, spelled)
    → ((e : Edit) → request spelled ≡ Ok (Change e) → None ≡ Some e) → ReadsEdits text None
no_edit text rest before line spelled read b left last marked found es told is =
    elim (last_of text rest before line read es left last told is) [
      | inl heading_here ↦ absurd (none_some _ (marked_at line) heading_here.unmarked marked)
      | inr edit_here ↦
          let x = edit_here.one in
          let same = same_marked b x.in_force spelled (request_line (Change x.edit)) (sym marked ∙ edit_here.marked) in
          absurd (none_some x.edit None refl (found x.edit (ap request same.1 ∙ edit_here.is_said)))
    ]

pub left_next : (text rest before line spelled : List ℕ) (read : List Numbered) (b : Bool) (edit : Edit) → Left text rest read →
    IsLastLine rest (Some (before, line)) → marked_at line ≡ Some (b, spelled)
    → ((e : Edit) → request spelled ≡ Ok (Change e) → Some edit ≡ Some e) → Left text before (read ++ one_of edit b ∷ [])
left_next text rest before line spelled read b edit left last marked found es told is =
    elim (last_of text rest before line read es left last told is) [
      | inl heading_here ↦ absurd (none_some _ (marked_at line) heading_here.unmarked marked)
      | inr edit_here ↦
          let x = edit_here.one in
          let same = same_marked b x.in_force spelled (request_line (Change x.edit)) (sym marked ∙ edit_here.marked) in
          let e : edit ≡ x.edit = some_same edit x.edit (found x.edit (ap request same.1 ∙ edit_here.is_said)) in
          let y : one_of edit b ≡ x = rw (e, same.0) refl in (
            edit_here.edits,
            edit_here.are_said,
            edit_here.front,
            edit_here.all ∙ sym (ap (λ zs. edit_here.edits ++ zs) (reverse-append read (one_of edit b ∷ []) ∙ ap (λ z. z ∷ reverse read) y)),
          )
    ]

-- ---- the end of the text

pub unbroken_end : IsUnbroken (codes "end")
unbroken_end = ((λ e. omega (arith, e)), ((λ e. omega (arith, e)), ((λ e. omega (arith, e)), tt)))

pub front_is : (bytes ended line front last : List ℕ) (wanted : List ℕ) → IsLastLine bytes (Some (ended, line)) → IsLastLine ended (Some (front, last)) →
    bytes ≡ wanted ++ codes "\nend\n" → Some front ≡ Some wanted
front_is bytes ended line front last wanted h g is =
    let whole : bytes ≡ (wanted ++ codes "\nend") ++ 10 ∷ [] = is ∙ sym (append_assoc wanted (codes "\nend") (10 ∷ [])) in
    let first = pair_same ended line (wanted ++ codes "\nend") [] (last_is bytes (wanted ++ codes "\nend") [] (Some (ended, line)) h whole tt) in
    let second = pair_same front last wanted (codes "end") (last_is ended wanted (codes "end") (Some (front, last)) g first.0 unbroken_end) in
    ap Some second.0

pub reads_history : (text rest : List ℕ) (read : Option (List Numbered)) → ((front : List ℕ) → text ≡ front ++ codes "\nend\n" → Some rest ≡ Some front) →
    ReadsEdits rest read → ReadsHistory text read
reads_history text rest read end edits es told is =
    let e : rest ≡ heading es ++ below es = some_same rest (heading es ++ below es) (end (heading es ++ below es) (is ∙ text_is es)) in
    edits es told e

pub no_history : (text : List ℕ) → ((front : List ℕ) → text ≡ front ++ codes "\nend\n" → None ≡ Some front) → ReadsHistory text None
no_history text end es told is = absurd (none_some (heading es ++ below es) None refl (end (heading es ++ below es) (is ∙ text_is es)))

pub unended : (bytes : List ℕ) → IsLastLine bytes None → (wanted : List ℕ) → bytes ≡ wanted ++ codes "\nend\n" → None ≡ Some wanted
unended bytes last wanted is = absurd (broken wanted (codes "end\n") (subst IsUnbroken is last))

pub unended_twice : (bytes ended line : List ℕ) → IsLastLine bytes (Some (ended, line)) → IsLastLine ended None → (wanted : List ℕ) →
    bytes ≡ wanted ++ codes "\nend\n" → None ≡ Some wanted
unended_twice bytes ended line last none wanted is =
    let whole : bytes ≡ (wanted ++ codes "\nend") ++ 10 ∷ [] = is ∙ sym (append_assoc wanted (codes "\nend") (10 ∷ [])) in
    let first = pair_same ended line (wanted ++ codes "\nend") [] (last_is bytes (wanted ++ codes "\nend") [] (Some (ended, line)) last whole tt) in
    absurd (broken wanted (codes "end") (subst IsUnbroken first.0 none))

-- ---- lists the other way round

pub map_reverse : {A B : Type 0} (f : A → B) (xs : List A) → map f (reverse xs) ≡ reverse (map f xs)
map_reverse f [] = refl
map_reverse f (x ∷ xs) =
    ap (map f) (reverse-append (x ∷ []) xs) ∙ map-append f (reverse xs) (x ∷ []) ∙ ap (λ t. t ++ f x ∷ []) (map_reverse f xs) ∙
    sym (reverse-append (f x ∷ []) (map f xs))
