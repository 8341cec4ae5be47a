-- One batch more.
use Rattle.std.proofs.Common.{◌≡◌, ⊎_elim, ℕ, ◌+◌, ◌<◌, List, [], ◌∷◌, ◌++◌, length, get_or, take, Vec, sym, ◌∙◌, ap, arith, append_assoc}
use Rattle.std.specs.declared.alloc.Global.{Global}
use Rattle.std.proofs.lemmas.List.{append-nil, take_more}
use Rattle.std.proofs.lemmas.List.Concat.{flat_map-append}
use Rattle.wb_keep.specs.Disk.Device.{Only, LeavesOnly}
use Rattle.wb_keep.specs.Lines.{lines_of, recovered}
use Rattle.wb_keep.proofs.Disks.Moments.{started}
use Rattle.wb_keep.specs.Keep.{IsBeforeOrAfter}
use Rattle.wb_keep.specs.Run.{lines_in, HasSome}

-- none was added yet
pub begun : {D : Type 0} (seen : D → List ℕ) (moment : D → ℕ) (left_since : D → ℕ → List ℕ → Type 0) (may_leave : D → List ℕ → Type 0) (file : D) (batches : List (Vec ℕ Global))
    → Only (seen file) (may_leave file) → ((c : List ℕ) → left_since file (moment file) c → may_leave file c) → LeavesOnly moment left_since file file (HasSome (recovered (seen file)) batches)
begun seen moment left_since may_leave file batches durable only_now =
    started moment left_since file (HasSome (recovered (seen file)) batches)
    (λ c left. (0, omega arith, ap recovered (durable c (only_now c left)) ∙ sym (append-nil (recovered (seen file)))))

module _ (old : List (List ℕ)) (batches : List (Vec ℕ Global)) (index : ℕ) (lt : index < length batches) (batch : Vec ℕ Global) (is : batch ≡ get_or batches index batch) (bytes : List ℕ) (bytes_are : bytes ≡ batch.items) where
  pub lines_more : old ++ lines_in (take index batches) ++ lines_of bytes ≡ old ++ lines_in (take (index + 1) batches)
  lines_more =
      append_assoc old (lines_in (take index batches)) (lines_of bytes)
      ∙ ap (λ (ls : List (List ℕ)). old ++ ls) (
      ap (λ (b : List ℕ). lines_in (take index batches) ++ lines_of b) (bytes_are ∙ ap (λ (v : Vec ℕ Global). v.items) is)
      ∙ ap (λ (ls : List (List ℕ)). lines_in (take index batches) ++ ls) (sym (append-nil (lines_of (get_or batches index batch).items)))
      ∙ sym (flat_map-append (λ (b : Vec ℕ Global). lines_of b.items) (take index batches) (get_or batches index batch ∷ []))
      ∙ ap lines_in (sym (take_more batches index batch lt))
      )

  pub has_some : (so_far : List (List ℕ)) → so_far ≡ old ++ lines_in (take index batches) → (c : List ℕ) → IsBeforeOrAfter so_far (lines_of bytes) c → HasSome old batches c
  has_some so_far are c left =
      ⊎_elim (λ before. (index, omega (arith, lt), before ∙ are)) (λ after. (index + 1, omega (arith, lt), after ∙ ap (λ (ls : List (List ℕ)). ls ++ lines_of bytes) are ∙ lines_more)) left.lines
