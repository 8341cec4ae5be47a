-- The edits that lines say, and where no history goes on.
use Rattle.std.proofs.Common.{◌≡◌, ◌∙◌, ◌+◌, ◌-◌, ◌≤◌, ℕ, Bool, List, [], ◌∷◌, ◌++◌, length, take, drop, codes, Option, Some, None, Ok, refl, sym, ap, subst, arith}
use Rattle.std.specs.List.{flat_map}
use Rattle.std.proofs.lemmas.Grind.{flat_map-append}
use Rattle.std.proofs.lemmas.List.{append-nil, append_assoc, length-append}
use Rattle.std.proofs.lemmas.List.Concat.{flat_map-cons}
use Rattle.selective_undo.specs.History.{IsLegal}
use Rattle.wb_edit.specs.declared.edit.Edit.{Edit}
use Rattle.wb_history.specs.Past.{Numbered, meant}
use Rattle.wb_history.specs.Restored.{one_of, BeginsNone}
use Rattle.wb_lines.specs.Lines.{ended, IsUnbroken}
use Rattle.wb_requests.specs.Requests.{request}
use Rattle.wb_requests.specs.declared.requests.request.Request.TheVariants.{Change}
use Rattle.wb_requests.specs.Wire.Encoded.{request_line}
use Rattle.wb_machine.specs.Histories.Text.{edit_line, said, AreSaid, IsHistory, IsSaid}
use Rattle.wb_machine.specs.Histories.Lines.{marked_at}
use Rattle.wb_machine.proofs.HistoryTexts.Below.{marked_said, unbroken_said}
use Rattle.wb_machine.proofs.HistoryTexts.LastLine.{broken}
use Rattle.wb_machine.proofs.HistoryTexts.Steps.{none_some, same_marked, some_same}
use Rattle.wb_sessions.specs.Places.{LeavesBehind, StandsBelow}

-- ---- what a line says

-- the line of an edit has its mark, and then its request
parted : (line spelled : List ℕ) (b : Bool) (x : Numbered) → Some (b, spelled) ≡ marked_at line → line ≡ said x
    → (b ≡ x.in_force) × (spelled ≡ request_line (Change x.edit))
parted line spelled b x marked e = same_marked b x.in_force spelled (request_line (Change x.edit)) (marked ∙ ap marked_at e ∙ marked_said x)

pub unmarked : (line : List ℕ) → None ≡ marked_at line → (x : Numbered) → line ≡ said x → ⊥
unmarked line none x e = none_some (x.in_force, request_line (Change x.edit)) (marked_at line) (sym none) (ap marked_at e ∙ marked_said x)

pub no_edit : (line spelled : List ℕ) (b : Bool) → Some (b, spelled) ≡ marked_at line → ((e : Edit) → request spelled ≡ Ok (Change e) → None ≡ Some e)
    → (x : Numbered) → IsSaid x.edit → line ≡ said x → ⊥
no_edit line spelled b marked found x told e =
    let parts = parted line spelled b x marked e in none_some x.edit None refl (found x.edit (ap request parts.1 ∙ told))

pub is_said : (line spelled : List ℕ) (b : Bool) (e : Edit) → Some (b, spelled) ≡ marked_at line → request spelled ≡ Ok (Change e)
    → line ≡ said (one_of e b) → IsSaid e
is_said line spelled b e marked asked same = let parts = parted line spelled b (one_of e b) marked same in ap request (sym parts.1) ∙ asked

-- another line than that of the edit that was read says none
pub not_said : (line spelled : List ℕ) (b : Bool) (e : Edit) → Some (b, spelled) ≡ marked_at line
    → ((f : Edit) → request spelled ≡ Ok (Change f) → Some e ≡ Some f) → (line ≡ said (one_of e b) → ⊥)
    → (x : Numbered) → IsSaid x.edit → line ≡ said x → ⊥
not_said line spelled b e marked found other x told same =
    let parts = parted line spelled b x marked same in
    let one : e ≡ x.edit = some_same e x.edit (found x.edit (ap request parts.1 ∙ told)) in
    let y : one_of e b ≡ x = rw (one, parts.0) refl in
    other (same ∙ ap said (sym y))

same_change : (e f : Edit) → Ok (Change e) ≡ request (request_line (Change f)) → request (request_line (Change f)) ≡ Ok (Change f) → e ≡ f
same_change e f p q = let r : Ok (Change e) ≡ Ok (Change f) = p ∙ q in cc

-- no two edits have one line
same_said : (x y : Numbered) → IsSaid x.edit → IsSaid y.edit → said x ≡ said y → x ≡ y
same_said x y p q e =
    let same = parted (said x) (request_line (Change x.edit)) x.in_force y (sym (marked_said x)) e in
    let edits = same_change x.edit y.edit (sym p ∙ ap request same.1) q in
    ap (λ z. one_of z x.in_force) edits ∙ ap (one_of y.edit) same.0

pub begins_none : (es : List Numbered) (line : List ℕ) (y : Numbered) → IsSaid y.edit → line ≡ said y → BeginsNone (es ++ y ∷ [])
    → (x : Numbered) → IsSaid x.edit → line ≡ said x → BeginsNone (es ++ x ∷ [])
begins_none es line y told same none x also e = subst (λ z. BeginsNone (es ++ z ∷ [])) (same_said y x told also (sym same ∙ e)) none

-- ---- lines one after another

same_first : (xs ys l m : List ℕ) → IsUnbroken xs → IsUnbroken ys → xs ++ 10 ∷ l ≡ ys ++ 10 ∷ m → xs ≡ ys
same_first [] [] l m u v e = refl
same_first [] (y ∷ ys) l m u v e = let f : y ≡ 10 = cc in absurd (v.0 f)
same_first (x ∷ xs) [] l m u v e = let f : x ≡ 10 = cc in absurd (u.0 f)
same_first (x ∷ xs) (y ∷ ys) l m u v e =
    let head : x ≡ y = cc in
    let tail : xs ++ 10 ∷ l ≡ ys ++ 10 ∷ m = cc in
    let rest = same_first xs ys l m u.1 v.1 tail in
    rw (head, rest) refl

-- the first line is that of an edit, where the bytes begin with this one
first_said : (left line rest : List ℕ) (x : Numbered) (behind : List ℕ) → IsUnbroken line → left ≡ ended line ++ rest → left ≡ edit_line x ++ behind
    → line ≡ said x
first_said left line rest x behind u e f =
    same_first line (said x) rest behind u (unbroken_said x)
    (sym (append_assoc line (10 ∷ []) rest) ∙ sym e ∙ f ∙ append_assoc (said x) (codes "\n") behind)

said_here : (es : List Numbered) (x : Numbered) (more : List Numbered) → AreSaid (es ++ x ∷ more) → IsSaid x.edit
said_here [] x more h = h.0
said_here (y ∷ es) x more h = said_here es x more h.1

said_with : (es : List Numbered) (x : Numbered) → AreSaid es → IsSaid x.edit → AreSaid (es ++ x ∷ [])
said_with [] x h one = (one, tt)
said_with (y ∷ es) x h one = (h.0, said_with es x h.1 one)

none_goes_on : (es : List Numbered) (left line rest : List ℕ) → IsUnbroken line → left ≡ ended line ++ rest
    → ((x : Numbered) → IsSaid x.edit → line ≡ said x → BeginsNone (es ++ x ∷ []))
    → (x : Numbered) (more : List Numbered) (behind : List ℕ) → IsHistory (es ++ x ∷ more) → left ≡ edit_line x ++ behind → ⊥
none_goes_on es left line rest u e none x more behind h f =
    none x (said_here es x more h.1) (first_said left line rest x behind u e f) more
    (subst (λ ys. IsLegal (meant ys)) (sym (append_assoc es (x ∷ []) more)) h.0)

none_unended : (es : List Numbered) (left : List ℕ) → IsUnbroken left
    → (x : Numbered) (more : List Numbered) (behind : List ℕ) → IsHistory (es ++ x ∷ more) → left ≡ edit_line x ++ behind → ⊥
none_unended es left u x more behind h f = broken (said x) behind (subst IsUnbroken (f ∙ append_assoc (said x) (codes "\n") behind) u)

-- ---- the lines of a history's edits, and what is left behind them

pub stops_at_line : (below left line rest : List ℕ) (es : List Numbered) → IsLegal (meant es) → AreSaid es → below ≡ flat_map edit_line es ++ left
    → IsUnbroken line → left ≡ ended line ++ rest → ((x : Numbered) → IsSaid x.edit → line ≡ said x → BeginsNone (es ++ x ∷ []))
    → LeavesBehind below left
stops_at_line below left line rest es legal told same u e none =
    record { entries = es; is_history = (legal, told); same = same; none = none_goes_on es left line rest u e none }

pub stops_unended : (below left : List ℕ) (es : List Numbered) → IsLegal (meant es) → AreSaid es → below ≡ flat_map edit_line es ++ left
    → IsUnbroken left → LeavesBehind below left
stops_unended below left es legal told same u =
    record { entries = es; is_history = (legal, told); same = same; none = none_unended es left u }

-- What is left to be read, behind the lines of these edits.
pub record IsLeft (below left : List ℕ) (es : List Numbered) : Type 0 where
  pub are_said : AreSaid es
  pub same : below ≡ flat_map edit_line es ++ left

all_lines : (es : List Numbered) (x : Numbered) → flat_map edit_line (es ++ x ∷ []) ≡ flat_map edit_line es ++ edit_line x
all_lines es x = flat_map-append edit_line es (x ∷ []) ∙ ap (λ t. flat_map edit_line es ++ t) (flat_map-cons edit_line x [] ∙ append-nil (edit_line x))

pub left_next : (below left line rest : List ℕ) (es fs : List Numbered) → IsLeft below left es → left ≡ ended line ++ rest
    → (x : Numbered) × IsSaid x.edit × (line ≡ said x) × (fs ≡ es ++ x ∷ []) → IsLeft below rest fs
left_next below left line rest es fs h e (x, told, is, more) =
    subst (IsLeft below rest) (sym more) (record {
      are_said = said_with es x h.are_said told;
      same = h.same ∙ ap (λ t. flat_map edit_line es ++ t) (e ∙ ap (λ l. ended l ++ rest) is)
          ∙ sym (append_assoc (flat_map edit_line es) (edit_line x) rest) ∙ sym (ap (λ t. t ++ rest) (all_lines es x));
    })

-- ---- the place among the bytes

regroup : (a b c d : List ℕ) → a ++ (b ++ (c ++ d)) ≡ (a ++ (b ++ c)) ++ d
regroup a b c d = simp append_assoc

-- what stands before the bytes that are left
pub before_left : (bytes below left : List ℕ) → StandsBelow bytes below → LeavesBehind below left → (front : List ℕ) × (bytes ≡ front ++ left)
before_left bytes below left s l = (
  take (s.place + 9) bytes ++ (ended s.count ++ flat_map edit_line l.entries),
  s.same ∙ ap (λ t. take (s.place + 9) bytes ++ (ended s.count ++ t)) l.same
      ∙ regroup (take (s.place + 9) bytes) (ended s.count) (flat_map edit_line l.entries) left,
)

pub within : (bytes front left : List ℕ) → bytes ≡ front ++ left → length left ≤ length bytes
within bytes front left e = let all = length-append front left in omega (arith, ap length e, all)
