-- A file that has no line, before and after it is begun with a history.
use Rattle.std.proofs.Common.{◌≡◌, inl, inr, ⊎_elim, ℕ, List, [], ◌∷◌, ◌++◌, length, map, arith, refl, sym, ◌∙◌, ap, ap₂, subst, string_bytes}
use Rattle.std.specs.Prelude.{Bool, true, false, IsFalse, IsTrue, Result, Ok, Err}
use Rattle.wb_keep.specs.Disk.Device.{LeavesOnly, Only}
use Rattle.wb_keep.proofs.Disks.Moments.{started, joined, weaker}
use Rattle.wb_keep.specs.Keep.{IsBeforeOrAfter}
use Rattle.wb_keep.specs.Lines.{is_ours, lines_of, recovered}
use Rattle.wb_keep.specs.Repair.{StandsForTheSame}
use Rattle.wb_kept.specs.Runs.{Leads}
use Rattle.wb_lines.specs.Lines.{IsUnbroken}
use Rattle.wb_keeping.specs.Granting.Granting.{Grants, no_edit}
use Rattle.wb_keeping.specs.Opening.{IsOldOrBegun, IsOpening}
use Rattle.wb_keeping.specs.declared.beginning.Opening.{Opening}
use Rattle.wb_keeping.proofs.Anew.{one_line}

-- a file that was read is ours
pub ours_read : {T E : Type 0} (held : List ℕ) (r : Result T E) (v : T) (e : E) → r ≡ Ok v → (IsFalse (is_ours held) → r ≡ Err e) → IsTrue (is_ours held)
ours_read held r v e read foreign = by_case (is_ours held) refl
  where
    by_case : (ours : Bool) → is_ours held ≡ ours → IsTrue (is_ours held)
    by_case true is = is
    by_case false is = let both : Ok v ≡ Err e = sym read ∙ foreign is in absurd (cc both)

-- a list of as many lines as another list has elements
pub no_lines : {X Y : Type 0} (f : X → Y) (xs : List X) (ys : List Y) → map f xs ≡ ys → length xs ≡ 0 → ys ≡ []
no_lines f [] ys is none = sym is
no_lines f (x ∷ xs) ys is none = absurd (omega (arith, none))

pub some_lines : {X Y : Type 0} (f : X → Y) (xs : List X) (ys : List Y) → map f xs ≡ ys → (length xs ≡ 0 → ⊥) → ys ≡ [] → ⊥
some_lines f [] ys is some none = some refl
some_lines f (x ∷ xs) ys is some none = let no : f x ∷ map f xs ≡ [] = is ∙ none in absurd (cc no)

-- the line alone, where no line was before
pub line_alone : (old : List (List ℕ)) (line bytes : List ℕ) (found : List (List ℕ)) → old ≡ [] → bytes ≡ line ++ 10 ∷ [] → IsUnbroken line
    → found ≡ old ++ lines_of bytes → found ≡ line ∷ []
line_alone old line bytes found none is unbroken after =
    after ∙ ap₂ (λ (a b : List (List ℕ)). a ++ b) none (ap lines_of is ∙ one_line line unbroken)

-- it leads to its history
pub leads_alone : (o : Opening) (found : List (List ℕ)) → IsOpening o → found ≡ string_bytes o.line ∷ [] → Leads Grants no_edit found o.history
leads_alone o found is one =
    subst (λ (lines : List (List ℕ)). Leads Grants no_edit lines o.history) (sym one) (o.history, inr (refl, is.begins), refl)

module _ {D : Type 0} (seen : D → List ℕ) (moment : D → ℕ) (left_since : D → ℕ → List ℕ → Type 0) (may_leave : D → List ℕ → Type 0) (held line : List ℕ) where
  -- no call was made
  pub not_moved : (file : D) → ((c : List ℕ) → left_since file (moment file) c → may_leave file c) → Only (seen file) (may_leave file) → seen file ≡ held
      → LeavesOnly moment left_since file file (IsOldOrBegun held line)
  not_moved file only_now durable is =
      started moment left_since file (IsOldOrBegun held line)
      (λ c left. subst (IsOldOrBegun held line) (sym (durable c (only_now c left) ∙ is)) (record { lines = inl refl; head = λ h. h }))

  same_lines : (old : List ℕ) → old ≡ held → (c : List ℕ) → StandsForTheSame old c → IsOldOrBegun held line c
  same_lines old is c same = let s = subst (λ (o : List ℕ). StandsForTheSame o c) is same in record { lines = inl s.lines; head = s.head }

  -- its end was put right
  pub repaired : (file mid : D) → seen file ≡ held → LeavesOnly moment left_since file mid (StandsForTheSame (seen file))
      → LeavesOnly moment left_since file mid (IsOldOrBegun held line)
  repaired file mid is moments =
      weaker moment left_since file mid (StandsForTheSame (seen file)) (IsOldOrBegun held line) (same_lines (seen file) is) moments

  added : (old : List (List ℕ)) (bytes : List ℕ) → old ≡ recovered held → recovered held ≡ [] → bytes ≡ line ++ 10 ∷ [] → IsUnbroken line
      → (c : List ℕ) → IsBeforeOrAfter old (lines_of bytes) c → IsOldOrBegun held line c
  added old bytes same none is unbroken c which = record {
    lines = ⊎_elim (λ was. inl (was ∙ same)) (λ now. inr (line_alone old line bytes (recovered c) (same ∙ none) is unbroken now)) which.lines;
    head = λ h. which.head;
  }

  -- then the line was added, or the file failed
  pub begun_moments : (file mid new : D) (bytes : List ℕ) → seen file ≡ held → recovered held ≡ [] → bytes ≡ line ++ 10 ∷ [] → IsUnbroken line
      → recovered (seen mid) ≡ recovered (seen file) → LeavesOnly moment left_since file mid (StandsForTheSame (seen file))
      → LeavesOnly moment left_since mid new (IsBeforeOrAfter (recovered (seen mid)) (lines_of bytes))
      → LeavesOnly moment left_since file new (IsOldOrBegun held line)
  begun_moments file mid new bytes is none ends unbroken same first second =
      joined moment left_since file mid new (IsOldOrBegun held line) (IsBeforeOrAfter (recovered (seen mid)) (lines_of bytes)) (repaired file mid is first) second
      (added (recovered (seen mid)) bytes (same ∙ ap recovered is) none ends unbroken)
