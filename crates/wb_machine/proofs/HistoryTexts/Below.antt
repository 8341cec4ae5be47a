-- The lines of edits below the heading.
use Rattle.std.proofs.Common.{◌≡◌, ℕ, Bool, true, false, List, [], ◌∷◌, ◌++◌, length, decimal, codes, refl, sym, ap, ◌∙◌, Some, ◌⊎◌, inl, inr, arith}
use Rattle.std.specs.List.{flat_map}
use Rattle.std.proofs.lemmas.Grind.{flat_map-append}
use Rattle.std.proofs.lemmas.List.{append-nil, append_assoc}
use Rattle.std.proofs.lemmas.List.Concat.{flat_map-cons}
use Rattle.selective_undo.specs.History.{replay}
use Rattle.wb_history.specs.Past.{Numbered, meant}
use Rattle.wb_lines.specs.Lines.{IsUnbroken}
use Rattle.wb_lines.proofs.Progress.{unbroken-append}
use Rattle.wb_requests.specs.declared.requests.request.Request.TheVariants.{Change}
use Rattle.wb_requests.specs.Wire.Encoded.{request_data, request_line}
use Rattle.wb_requests.proofs.OnTheWire.Written.{reads_back}
use Rattle.wb_machine.specs.Encoding.Text.{AreJson}
use Rattle.wb_machine.specs.Histories.Text.{mark, said, edit_line, objects_text, history_text, AreSaid, IsSaid, AreProper}
use Rattle.wb_machine.specs.Histories.Lines.{marked_at, heading, below}
use Rattle.wb_machine.proofs.HistoryTexts.Heading.{count_line}
use Rattle.wb_machine.proofs.HistoryTexts.Unbroken.{unbroken_value}

-- ---- one line

unbroken_mark : (b : Bool) → IsUnbroken (mark b)
unbroken_mark true = ((λ e. omega (arith, e)), ((λ e. omega (arith, e)), tt))
unbroken_mark false = ((λ e. omega (arith, e)), ((λ e. omega (arith, e)), tt))

pub unbroken_said : (x : Numbered) → IsUnbroken (said x)
unbroken_said x = unbroken-append (mark x.in_force) _ (unbroken_mark x.in_force) (unbroken_value (request_data (Change x.edit)))

marked_as : (b : Bool) (line : List ℕ) → marked_at (mark b ++ line) ≡ Some (b, line)
marked_as true line = refl
marked_as false line = refl

pub marked_said : (x : Numbered) → marked_at (said x) ≡ Some (x.in_force, request_line (Change x.edit))
marked_said x = marked_as x.in_force (request_line (Change x.edit))

-- ---- the last of them

pub below_more : (es : List Numbered) (x : Numbered) → below (es ++ x ∷ []) ≡ below es ++ 10 ∷ said x
below_more es x = flat_map-append (λ x. 10 ∷ said x) es (x ∷ []) ∙ ap (λ t. below es ++ t) (flat_map-cons (λ x. 10 ∷ said x) x [] ∙ append-nil (10 ∷ said x))

pub last_or_none : (es : List Numbered) → (es ≡ []) ⊎ ((fs : List Numbered) × (x : Numbered) × (es ≡ fs ++ x ∷ []))
last_or_none [] = inl refl
last_or_none (y ∷ es) =
    elim (last_or_none es) [
      | inl none ↦ inr ([], y, ap (λ zs. y ∷ zs) none)
      | inr more ↦ inr (y ∷ more.0, more.1, ap (λ zs. y ∷ zs) more.2)
    ]

pub said_front : (es : List Numbered) (x : Numbered) → AreSaid (es ++ x ∷ []) → AreSaid es × IsSaid x.edit
said_front [] x h = (tt, h.0)
said_front (y ∷ es) x h = let rest = said_front es x h.1 in ((h.0, rest.0), rest.1)

-- ---- the whole text

lines_end : (es : List Numbered) → codes "\n" ++ (flat_map edit_line es ++ codes "end\n") ≡ below es ++ codes "\nend\n"
lines_end [] = refl
lines_end (x ∷ es) =
    ap (λ t. 10 ∷ (t ++ codes "end\n")) (flat_map-cons edit_line x es ∙ append_assoc (said x) (codes "\n") (flat_map edit_line es))
    ∙ ap (λ t. 10 ∷ t) (append_assoc (said x) (codes "\n" ++ flat_map edit_line es) (codes "end\n") ∙ ap (λ t. said x ++ t) (lines_end es))
    ∙ sym (ap (λ t. t ++ codes "\nend\n") (flat_map-cons (λ x. 10 ∷ said x) x es) ∙ append_assoc (10 ∷ said x) (below es) (codes "\nend\n"))

regroup : (a o h t e : List ℕ) → a ++ (o ++ (h ++ (t ++ e))) ≡ ((a ++ (o ++ h)) ++ t) ++ e
regroup a o h t e = simp append_assoc

pub text_is : (es : List Numbered) → history_text es ≡ (heading es ++ below es) ++ codes "\nend\n"
text_is es =
    let s = replay (meant es) in
    ap (λ t. codes "chapel-workbook 2\n" ++ (objects_text s ++ t))
    (sym (append_assoc (codes "history ") (decimal (length es)) (codes "\n" ++ (flat_map edit_line es ++ codes "end\n"))) ∙
    ap (λ t. count_line es ++ t) (lines_end es))
    ∙ regroup (codes "chapel-workbook 2\n") (objects_text s) (count_line es) (below es) (codes "\nend\n")

-- ---- what is printed is read

pub all_said : (es : List Numbered) → AreJson es → AreProper es → AreSaid es
all_said [] j p = tt
all_said (x ∷ es) j p = (reads_back (Change x.edit) _ j.0 p.0, all_said es j.1 p.1)
