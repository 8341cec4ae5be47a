-- Turns behind turns in a file.
use Rattle.std.proofs.Common.{◌≡◌, ◌<◌, ℕ, ⊎_elim, List, [], ◌∷◌, ◌++◌, length, refl, sym, ap, ◌∙◌, subst, append_assoc, append-nil, arith}
use mathlib.Core.List.{IsPrefix}
use Rattle.wb_keep.specs.Disk.Device.{LeavesOnly}
use Rattle.wb_keep.specs.Lines.{recovered}
use Rattle.wb_keep.specs.Keep.{IsSettled, IsBeforeOrAfter}
use Rattle.wb_keep.specs.declared.keep.LineLog.{LineLog}
use Rattle.wb_kept_group.specs.Together.{changes_in}
use Rattle.wb_kept_group.proofs.Joining.{lines_behind}
use Rattle.wb_kept_seats.proofs.Beginnings.{prefix_more, prefix_all, prefix_of_prefix}
use Rattle.wb_kept_seats.specs.Files.{LeavesTurns, HasTurns, WasKept}

module _ {D : Type 0} (seen : D → List ℕ) (may_leave : D → List ℕ → Type 0) (moment : D → ℕ) (left_since : D → ℕ → List ℕ → Type 0)
    (lines : List (List ℕ)) (begun : ℕ) where
  before_or_after : (before turns : List (List (List ℕ))) (file : List ℕ) → IsBeforeOrAfter (lines ++ changes_in before) (changes_in turns) file
      → (front : List (List (List ℕ))) × IsPrefix front (before ++ turns) × (recovered file ≡ lines ++ changes_in front)
  before_or_after before turns file h = ⊎_elim
      (λ is. (before, (turns, refl), is))
      (λ is. (before ++ turns, prefix_all (before ++ turns), is ∙ lines_behind lines before turns)) h.lines

  -- what a call that adds turns may leave, at each moment since the opening
  pub leaves_more : (old new : LineLog D) (before turns : List (List (List ℕ))) → LeavesTurns moment left_since lines begun old before
      → LeavesOnly moment left_since old.device new.device (IsBeforeOrAfter (lines ++ changes_in before) (changes_in turns))
      → LeavesTurns moment left_since lines begun new (before ++ turns)
  leaves_more old new before turns was moments = record {
    later = omega (arith, was.later, moments.later);
    each = λ file left. ⊎_elim
        (λ earlier. let one = was.each file earlier in (one.0, prefix_more one.0 before turns one.1, one.2))
        (before_or_after before turns file) (moments.before begun file was.later left);
  }

  pub left_within : (old new : LineLog D) (before turns all : List (List (List ℕ))) → LeavesTurns moment left_since lines begun old before
      → LeavesOnly moment left_since old.device new.device (IsBeforeOrAfter (lines ++ changes_in before) (changes_in turns))
      → IsPrefix (before ++ turns) all → LeavesTurns moment left_since lines begun new all
  left_within old new before turns all was moments within =
      let left = leaves_more old new before turns was moments in
      record {
        later = left.later;
        each = λ file one. let front = left.each file one in (front.0, prefix_of_prefix front.0 (before ++ turns) all front.1 within, front.2);
      }

  pub has_more : (old new : LineLog D) (before turns : List (List (List ℕ))) → HasTurns seen may_leave moment left_since lines begun old before
      → LeavesOnly moment left_since old.device new.device (IsBeforeOrAfter (lines ++ changes_in before) (changes_in turns))
      → IsSettled seen may_leave new × (recovered (seen new.device) ≡ lines ++ changes_in (before ++ turns))
      → HasTurns seen may_leave moment left_since lines begun new (before ++ turns)
  has_more old new before turns was moments now =
      record { settled = now.0; lines_are = now.1; any_moment = leaves_more old new before turns was.any_moment moments }

  -- a file at the opening has no turn yet
  pub has_opened : ((file : D) (c : List ℕ) → left_since file (moment file) c → may_leave file c) → (log : LineLog D) → IsSettled seen may_leave log
      → lines ≡ recovered (seen log.device) → begun ≡ moment log.device → HasTurns seen may_leave moment left_since lines begun log []
  has_opened only_now log settled are begins =
      let none : recovered (seen log.device) ≡ lines ++ changes_in [] = sym are ∙ sym (append-nil lines) in
      record {
        settled = settled;
        lines_are = none;
        any_moment = record {
          later = omega (arith, begins);
          each = λ file left.
              let same : file ≡ seen log.device = settled.durable file (only_now log.device file (subst (λ (n : ℕ). left_since log.device n file) begins left)) in
              ([], ([], refl), ap recovered same ∙ none);
        };
      }

  -- turns that were kept begin with those before a turn, and with that turn
  pub kept_until : (made front : List (List (List ℕ))) → IsPrefix made front → length made < length front → WasKept seen may_leave moment left_since lines begun front
      → (turn : List (List ℕ)) × WasKept seen may_leave moment left_since lines begun (made ++ turn ∷ [])
  kept_until made front ([], is) more was = absurd (omega (arith, ap length (sym (append-nil made) ∙ is)))
  kept_until made front (turn ∷ rest, is) more was = (
    turn,
    record {
      log = was.log;
      behind = rest ++ was.behind;
      has = subst (λ (turns : List (List (List ℕ))). HasTurns seen may_leave moment left_since lines begun was.log turns)
          (ap (λ l. l ++ was.behind) (sym is ∙ sym (append_assoc made (turn ∷ []) rest)) ∙ append_assoc (made ++ turn ∷ []) rest was.behind) was.has;
    },
  )
