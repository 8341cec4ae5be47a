-- A batch is written over the mark of a log at rest, and synced.
use Rattle.std.proofs.Common.{◌≡◌, inl, refl, ℕ, ◌+◌, ◌-◌, max, List, [], ◌∷◌, ◌++◌, length, ap, sym, subst, ◌≤◌, ◌∙◌, arith, length-append}
use Rattle.wb_keep.specs.Disk.Device.{Holds, Only, Torn, LeavesOnly}
use Rattle.wb_keep.specs.Lines.{lines_of, marked, recovered, zeros, IsAtRest}
use Rattle.wb_keep.specs.Keep.{IsSettled, IsBeforeOrAfter}
use Rattle.wb_keep.specs.declared.keep.LineLog.{LineLog}
use Rattle.wb_keep.proofs.Disks.Moments.{started, weaker}
use Rattle.wb_keep.proofs.Feeds.{are_lines}
use Rattle.wb_keep.proofs.InPlace.{rest_has_header}
use Rattle.wb_keep.proofs.Crash.{torn_batch, written, written_lines, length-written, all_batches, all_whole, room, length-zeros}

-- no call was made on the file
pub unmoved : {D : Type 0} (seen : D → List ℕ) (moment : D → ℕ) (left_since : D → ℕ → List ℕ → Type 0) (may_leave : D → List ℕ → Type 0) (lines : List ℕ) (d0 : D)
    → IsAtRest (seen d0) → Only (seen d0) (may_leave d0) → ((c : List ℕ) → left_since d0 (moment d0) c → may_leave d0 c)
    → LeavesOnly moment left_since d0 d0 (IsBeforeOrAfter (recovered (seen d0)) (lines_of lines))
unmoved seen moment left_since may_leave lines d0 rest durable only_now =
    let P = IsBeforeOrAfter (recovered (seen d0)) (lines_of lines) in
    started moment left_since d0 P
    (λ c left. subst P (sym (durable c (only_now c left))) (record { head = rest_has_header (seen d0) rest; lines = inl refl }))

module _ {D : Type 0} (seen : D → List ℕ) (lines : List ℕ) (mark : ℕ) (d0 d1 : D) (rest : IsAtRest (seen d0)) (at : mark + 1 + rest.room ≡ length (seen d0))
    (block : List ℕ) (is_block : block ≡ marked (lines_of lines) ++ 35 ∷ []) (more : ℕ) (bytes : List ℕ) (are_bytes : bytes ≡ block ++ zeros more) where
  pub moments : (moment : D → ℕ) (left_since : D → ℕ → List ℕ → Type 0) → LeavesOnly moment left_since d0 d1 (Torn mark bytes (seen d0))
      → LeavesOnly moment left_since d0 d1 (IsBeforeOrAfter (recovered (seen d0)) (lines_of lines))
  moments moment left_since torn =
      weaker moment left_since d0 d1 (Torn mark bytes (seen d0)) (IsBeforeOrAfter (recovered (seen d0)) (lines_of lines))
      (torn_batch (seen d0) rest (lines_of lines) (are_lines lines) mark at block is_block more bytes are_bytes) torn

  size : 1 ≤ length block
  size = omega (arith, ap length is_block, length-append (marked (lines_of lines)) (35 ∷ []))

  fits : length bytes ≡ length block + more
  fits = ap length are_bytes ∙ length-append block (zeros more) ∙ ap (λ (n : ℕ). length block + n) (length-zeros more)

  pub settled : (may_leave : D → List ℕ → Type 0) (log : LineLog D) (last : ℕ) → last + 1 ≡ length (seen d0) → log.device ≡ d1 → log.mark ≡ mark + (length block - 1)
      → log.last ≡ max last (mark + (length bytes - 1)) → Holds (seen d0) mark bytes (seen d1) → Only (seen d1) (may_leave d1)
      → IsSettled seen may_leave log × (recovered (seen log.device) ≡ recovered (seen d0) ++ lines_of lines)
  settled may_leave log last long device marked_at lasts holds durable =
      let all = length-written (seen d0) rest (lines_of lines) (are_lines lines) mark at block is_block more bytes are_bytes (seen d1) holds in
      let same = ap (λ (d : D). length (seen d)) device in (
        record {
          file = record {
            batches = all_batches (seen d0) rest (lines_of lines) (are_lines lines) mark at block is_block more bytes are_bytes;
            room = room (seen d0) rest (lines_of lines) (are_lines lines) mark at block is_block more bytes are_bytes;
            is = ap seen device ∙ written (seen d0) rest (lines_of lines) (are_lines lines) mark at block is_block more bytes are_bytes (seen d1) holds;
            whole = all_whole (seen d0) rest (lines_of lines) (are_lines lines) mark at block is_block more bytes are_bytes;
          };
          mark = omega (arith, marked_at, size, all, same);
          last = omega (arith, lasts, long, at, size, fits, all, same);
          durable = subst (λ (d : D). Only (seen d) (may_leave d)) (sym device) durable;
        },
        ap (λ (d : D). recovered (seen d)) device ∙ written_lines (seen d0) rest (lines_of lines) (are_lines lines) mark at block is_block more bytes are_bytes (seen d1) holds,
      )
