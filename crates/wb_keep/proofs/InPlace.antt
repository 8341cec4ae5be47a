-- What a crash leaves while a new log is put in place of another.
use Rattle.std.proofs.Common.{◌≡◌, ◌⊎◌, inl, inr, ⊎_elim, ℕ, ◌-◌, List, [], ◌∷◌, ◌++◌, ◌≤◌, length, refl, subst, sym, ap, ◌∙◌, arith, length-append}
use Rattle.wb_keep.specs.Disk.Device.{Only, Elapses, LeavesOnly}
use Rattle.wb_keep.proofs.Disks.Moments.{started, goes_on}
use Rattle.wb_keep.specs.Lines.{lines_of, header, marked, recovered, HasHeader, IsAtRest}
use Rattle.wb_keep.specs.Keep.{IsOldOrNew, IsSettled}
use Rattle.wb_keep.specs.declared.keep.LineLog.{LineLog}
use Rattle.wb_keep.proofs.Feeds.{are_lines}
use Rattle.wb_keep.proofs.Batches.{whole_marked}
use Rattle.wb_keep.proofs.Crash.{one_batch}

-- a file at rest has its header
pub rest_has_header : (file : List ℕ) → IsAtRest file → HasHeader file
rest_has_header file rest = subst HasHeader (sym rest.is) refl

is_old : (file : List ℕ) (new : List (List ℕ)) (c : List ℕ) → IsAtRest file → c ≡ file → IsOldOrNew (recovered file) new c
is_old file new c rest is = subst (IsOldOrNew (recovered file) new) (sym is) (record { head = rest_has_header file rest; lines = inl refl })

is_new : (old : List (List ℕ)) (lines c : List ℕ) → c ≡ header ++ marked (lines_of lines) ++ 35 ∷ [] → IsOldOrNew old (lines_of lines) c
is_new old lines c is =
    let one = one_batch (lines_of lines) (are_lines lines) c is in
    record { head = rest_has_header c one.0; lines = inr one.1 }

module _ {D : Type 0} (seen : D → List ℕ) (moment : D → ℕ) (left_since : D → ℕ → List ℕ → Type 0) (may_leave : D → List ℕ → Type 0) (old new : D)
    (rest : IsAtRest (seen old)) (durable : Only (seen old) (may_leave old)) where
  stood : (lines c : List ℕ) → may_leave old c → IsOldOrNew (recovered (seen old)) (lines_of lines) c
  stood lines c left = is_old (seen old) (lines_of lines) c rest (durable c left)

  -- no call was made on the file
  pub unmoved : (lines : List ℕ) → ((c : List ℕ) → left_since old (moment old) c → may_leave old c)
      → LeavesOnly moment left_since old old (IsOldOrNew (recovered (seen old)) (lines_of lines))
  unmoved lines only_now = started moment left_since old (IsOldOrNew (recovered (seen old)) (lines_of lines)) (λ c left. stood lines c (only_now c left))

  pub each_moment : (lines file : List ℕ) → file ≡ header ++ marked (lines_of lines) ++ 35 ∷ [] → ((c : List ℕ) → left_since old (moment old) c → may_leave old c)
      → ((c : List ℕ) → may_leave new c → may_leave old c ⊎ (c ≡ file)) → Elapses (moment old) (moment new) (left_since old) (left_since new) (may_leave new)
      → LeavesOnly moment left_since old new (IsOldOrNew (recovered (seen old)) (lines_of lines))
  each_moment lines file is only_now crash time =
      let P = IsOldOrNew (recovered (seen old)) (lines_of lines) in
      goes_on moment left_since old old new P (may_leave new)
      (unmoved lines only_now)
      time
      (λ c now. ⊎_elim (λ was. stood lines c was) (λ put. is_new (recovered (seen old)) lines c (put ∙ is)) (crash c now))

-- a new log is settled
pub settled : {D : Type 0} (seen : D → List ℕ) (may_leave : D → List ℕ → Type 0) (log : LineLog D) (lines file : List ℕ) → file ≡ header ++ marked (lines_of lines) ++ 35 ∷ [] → seen log.device ≡ file
    → log.mark ≡ length file - 1 → log.last ≡ log.mark → Only file (may_leave log.device) → IsSettled seen may_leave log × (recovered (seen log.device) ≡ lines_of lines)
settled seen may_leave log lines file is held at same durable =
    let one = one_batch (lines_of lines) (are_lines lines) file is in
    let size : 1 ≤ length file = omega (arith, ap length is, length-append (marked (lines_of lines)) (35 ∷ []), length-append header (marked (lines_of lines) ++ 35 ∷ [])) in (
      record {
        file = record { batches = marked (lines_of lines); room = 0; is = held ∙ is; whole = whole_marked (lines_of lines) (are_lines lines) };
        mark = omega (arith, at, size, ap length held);
        last = omega (arith, at, same, size, ap length held);
        durable = subst (λ (f : List ℕ). Only f (may_leave log.device)) (sym held) durable;
      },
      ap recovered held ∙ one.1,
    )

-- the old file goes on
pub goes_on_settled : {D : Type 0} (seen : D → List ℕ) (may_leave : D → List ℕ → Type 0) (log new : LineLog D) → IsSettled seen may_leave log → new.mark ≡ log.mark → new.last ≡ log.last
    → seen new.device ≡ seen log.device → ((c : List ℕ) → may_leave new.device c → may_leave log.device c)
    → IsSettled seen may_leave new × (recovered (seen new.device) ≡ recovered (seen log.device))
goes_on_settled seen may_leave log new s mark last same stays = (
  record {
    file = record { batches = s.file.batches; room = s.file.room; is = same ∙ s.file.is; whole = s.file.whole };
    mark = omega (arith, mark, s.mark, ap length same);
    last = omega (arith, last, s.last, ap length same);
    durable = λ c left. s.durable c (stays c left) ∙ sym same;
  },
  ap recovered same,
)
