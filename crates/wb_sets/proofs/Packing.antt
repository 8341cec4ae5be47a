-- a text and the zeros behind it
use Rattle.std.proofs.Common.{ℕ, ◌≤◌, List, ◌++◌, length, drop, replicate, subst, sym, ◌∙◌, arith, length-append, length-drop}
use Rattle.std.proofs.Math.Seq.{drop-append_seam, take-append_seam}
use Rattle.std.proofs.lemmas.List.{drop-replicate, length-replicate}
use Rattle.wb_sets.specs.Labels.{IsLabel}
use Rattle.wb_sets.specs.Packed.{IsPacked}

-- a label has at most 64 bytes
pub few_bytes : (text : List ℕ) → IsLabel text → length text ≤ 64
few_bytes text h = grind (arith, h.accepted)

-- a label's bytes, written over zeros
pub packed_text : (size : ℕ) (text : List ℕ) → length text ≤ size → IsLabel text →
    IsPacked size (text ++ drop (length text) (replicate size 0)) (length text)
packed_text size text few h =
    let zeros : List ℕ = replicate size 0 in
    record {
      within = few;
      zeros = drop-append_seam text (drop (length text) zeros) ∙ drop-replicate (length text) size 0;
      whole = omega (arith, few, length-append text (drop (length text) zeros), length-drop (length text) zeros, length-replicate {A = ℕ} size 0);
      text = subst IsLabel (sym (take-append_seam text (drop (length text) zeros))) h;
    }
