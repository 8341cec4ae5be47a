-- What a run of lines counts.
use Rattle.std.proofs.Common.{◌≡◌, ◌≢◌, inl, inr, ℕ, zero, suc, Bool, true, false, List, [], ◌∷◌, ◌++◌, take, refl, sym, ◌∙◌, ap, arith, if◌then◌else◌, append_assoc, append-nil}
use Rattle.std.proofs.lemmas.Bool.{cases_eq}
use Rattle.std.proofs.lemmas.Bool.Decides.{nat_tests}
use Rattle.wb_keep.specs.Lines.{onto, lines_of, stuffed, unstuffed, unstuffed_from, has_hole, with_next, behind_mark, counted, marked, IsWhole}
use Rattle.wb_keep.proofs.Feeds.{IsLine, AreLines, lines_of_other, line_ended, lines_of_front}

pub with_hole : (mark : ℕ) (line : List ℕ) (lines : List (List ℕ)) → has_hole line ≡ true → counted ((mark ∷ line) ∷ lines) ≡ []
with_hole mark line lines hole = ap (λ (b : Bool). if b then [] else behind_mark mark (unstuffed line) (counted lines)) hole

pub without_hole : (mark : ℕ) (line : List ℕ) (lines : List (List ℕ)) → has_hole line ≡ false → counted ((mark ∷ line) ∷ lines) ≡ behind_mark mark (unstuffed line) (counted lines)
without_hole mark line lines none = ap (λ (b : Bool). if b then [] else behind_mark mark (unstuffed line) (counted lines)) none

unmarked : (mark : ℕ) (line : List ℕ) (lines : List (List ℕ)) → mark ≢ 32 → mark ≢ 43 → behind_mark mark line lines ≡ []
unmarked mark line lines no_end no_next = grind (arith, nat_tests)

no_mark : (mark : ℕ) (lines : List (List ℕ)) → mark ≢ 32 → mark ≢ 43 → counted (onto mark lines) ≡ []
no_mark mark [] no_end no_next = refl
no_mark mark (line ∷ lines) no_end no_next = elim (has_hole line) as (λ b. has_hole line ≡ b → counted ((mark ∷ line) ∷ lines) ≡ []) [
  | true ↦ λ hole. with_hole mark line lines hole
  | false ↦ λ none. without_hole mark line lines none ∙ unmarked mark (unstuffed line) (counted lines) no_end no_next
] refl

-- what begins with neither mark doesn't count
pub not_counted : (mark : ℕ) (bytes : List ℕ) → mark ≢ 32 → mark ≢ 43 → counted (lines_of (mark ∷ bytes)) ≡ []
not_counted mark bytes no_end no_next = elim (cases_eq mark 10) [
  | inl feed ↦ ap (λ (m : ℕ). counted (lines_of (m ∷ bytes))) feed
  | inr no_feed ↦ ap counted (lines_of_other mark bytes no_feed) ∙ no_mark mark (lines_of bytes) no_end no_next
]

pub no_hole : (byte : ℕ) (line : List ℕ) → byte ≢ 0 → has_hole (byte ∷ line) ≡ has_hole line
no_hole byte line other = grind (arith, nat_tests)

-- a line in a file is one still, has no hole, and is read back
pub stuffed_line : (line : List ℕ) → IsLine line → IsLine (stuffed line)
stuffed_line [] is = tt
stuffed_line (zero ∷ line) is = (omega arith, (omega arith, stuffed_line line is.1))
stuffed_line (suc zero ∷ line) is = (omega arith, (omega arith, stuffed_line line is.1))
stuffed_line (suc (suc byte) ∷ line) is = (is.0, stuffed_line line is.1)

pub stuffed_whole : (line : List ℕ) → has_hole (stuffed line) ≡ false
stuffed_whole [] = refl
stuffed_whole (zero ∷ line) = stuffed_whole line
stuffed_whole (suc zero ∷ line) = stuffed_whole line
stuffed_whole (suc (suc byte) ∷ line) = no_hole (suc (suc byte)) (stuffed line) (omega arith) ∙ stuffed_whole line

plain_byte : (byte : ℕ) (line : List ℕ) → byte ≢ 1 → unstuffed_from false (byte ∷ line) ≡ byte ∷ unstuffed_from false line
plain_byte byte line other = grind (arith, nat_tests)

pub stuffed_back : (line : List ℕ) → unstuffed (stuffed line) ≡ line
stuffed_back [] = refl
stuffed_back (zero ∷ line) = ap (λ (l : List ℕ). 0 ∷ l) (stuffed_back line)
stuffed_back (suc zero ∷ line) = ap (λ (l : List ℕ). 1 ∷ l) (stuffed_back line)
stuffed_back (suc (suc byte) ∷ line) = plain_byte (suc (suc byte)) (stuffed line) (omega arith) ∙ ap (λ (l : List ℕ). suc (suc byte) ∷ l) (stuffed_back line)

-- a line behind its mark, and what stands behind it
pub marked_line : (mark : ℕ) (line : List ℕ) → mark ≢ 10 → IsLine line → (rest : List ℕ) → counted (lines_of (mark ∷ stuffed line ++ 10 ∷ rest)) ≡ behind_mark mark line (counted (lines_of rest))
marked_line mark line no_feed is rest =
    ap counted (lines_of_other mark (stuffed line ++ 10 ∷ rest) no_feed ∙ ap (onto mark) (line_ended (stuffed line) (stuffed_line line is) rest))
    ∙ without_hole mark (stuffed line) (lines_of rest) (stuffed_whole line)
    ∙ ap (λ (l : List ℕ). behind_mark mark l (counted (lines_of rest))) (stuffed_back line)

pub counted_marked : (lines : List (List ℕ)) → AreLines lines → (rest : List ℕ) → counted (lines_of (marked lines ++ rest)) ≡ lines ++ counted (lines_of rest)
counted_marked [] are rest = refl
counted_marked (line ∷ []) are rest =
    ap (λ (l : List ℕ). counted (lines_of (32 ∷ l))) (append_assoc (stuffed line) (10 ∷ []) rest) ∙ marked_line 32 line (omega arith) are.0 rest
counted_marked (line ∷ next ∷ lines) are rest =
    let more = marked (next ∷ lines) in
    ap (λ (l : List ℕ). counted (lines_of (43 ∷ l))) (append_assoc (stuffed line) (10 ∷ more) rest)
    ∙ marked_line 43 line (omega arith) are.0 (more ++ rest)
    ∙ ap (with_next line) (counted_marked (next ∷ lines) are.1 rest)

pub marked_alone : (lines : List (List ℕ)) → AreLines lines → counted (lines_of (marked lines)) ≡ lines
marked_alone lines are = ap (λ (l : List ℕ). counted (lines_of l)) (sym (append-nil (marked lines))) ∙ counted_marked lines are [] ∙ append-nil lines

pub whole_marked : (lines : List (List ℕ)) → AreLines lines → IsWhole (marked lines)
whole_marked lines are rest = counted_marked lines are rest ∙ ap (λ (ls : List (List ℕ)). ls ++ counted (lines_of rest)) (sym (marked_alone lines are))

pub whole_none : IsWhole []
whole_none rest = refl

-- whole batches behind whole batches
pub whole_append : (first second : List ℕ) → IsWhole first → IsWhole second → IsWhole (first ++ second)
whole_append first second whole_first whole_second rest =
    let count = λ (l : List ℕ). counted (lines_of l) in
    ap count (append_assoc first second rest) ∙ whole_first (second ++ rest) ∙ ap (λ (ls : List (List ℕ)). count first ++ ls) (whole_second rest)
    ∙ sym (append_assoc (count first) (count second) (count rest)) ∙ ap (λ (ls : List (List ℕ)). ls ++ count rest) (sym (whole_first second))

-- what counts for nothing begins with no line that ends a batch, and with one of a batch only if nothing behind it counts
behind_none : (mark : ℕ) (line : List ℕ) (lines fewer : List (List ℕ)) → (lines ≡ [] → fewer ≡ []) → behind_mark mark line lines ≡ [] → behind_mark mark line fewer ≡ []
behind_none mark line lines fewer none same = elim (cases_eq mark 32) [
  | inl ends ↦ let some : line ∷ lines ≡ [] = ap (λ (m : ℕ). behind_mark m line lines) (sym ends) ∙ same in absurd (cc some)
  | inr no_end ↦ elim (cases_eq mark 43) [
    | inl goes_on ↦
        let after : lines ≡ [] = no_next lines (ap (λ (m : ℕ). behind_mark m line lines) (sym goes_on) ∙ same) in
        ap (λ (m : ℕ). behind_mark m line fewer) goes_on ∙ ap (with_next line) (none after)
    | inr other ↦ unmarked mark line fewer no_end other
  ]
]
  where
    no_next : (found : List (List ℕ)) → with_next line found ≡ [] → found ≡ []
    no_next [] is = refl
    no_next (next ∷ found) is = absurd (cc is)

-- a front of what counts for nothing counts for nothing
none_before : (k : ℕ) (lines : List (List ℕ)) → counted lines ≡ [] → counted (take k lines) ≡ []
none_before zero lines none = refl
none_before (suc k) [] none = refl
none_before (suc k) ([] ∷ lines) none = refl
none_before (suc k) ((mark ∷ line) ∷ lines) none = elim (has_hole line) as (λ b. has_hole line ≡ b → counted ((mark ∷ line) ∷ take k lines) ≡ []) [
  | true ↦ λ hole. with_hole mark line (take k lines) hole
  | false ↦ λ whole. without_hole mark line (take k lines) whole
      ∙ behind_none mark (unstuffed line) (counted lines) (counted (take k lines)) (none_before k lines) (sym (without_hole mark line lines whole) ∙ none)
] refl

pub front_nothing : (n : ℕ) (bytes : List ℕ) → counted (lines_of bytes) ≡ [] → counted (lines_of (take n bytes)) ≡ []
front_nothing n bytes none = let (k, same) = lines_of_front n bytes in ap counted same ∙ none_before k (lines_of bytes) none
