use Rattle.std.proofs.Common.{rules, ◌≡◌, ◌⊎◌, ◌≤◌, inl, inr, ℕ, ◌-◌, false, List, ◌∷◌, ◌++◌, length, take, drop, slice_index_or, subst}
use Rattle.std.proofs.lemmas.List.{take_rest}
use Rattle.wb_keep.specs.Lines.{lines_of, has_hole}
use Rattle.wb_keep.proofs.Reading.{marked_read}
use Rattle.wb_keep.proofs.lines.marked_line.Goals as goal
use Rattle.wb_keep.proofs.lines.marked_line.Goals.{else-not-ends-via-then-not-ends+else-mark-ne-GOES_ON, else-not-ends-via-else-not-ends}

pub returns : goal.returns
returns c =
    let bytes = c.args.bytes.now in
    let line = c.in_ok-line.line.now in
    let after = c.in_ok-line.after.now in
    let some : 1 ≤ length bytes = search rules in
    let which : (slice_index_or bytes 0 0 ≡ 32) ⊎ (slice_index_or bytes 0 0 ≡ 43) = elim c.else-not-ends.branch [
      | else-not-ends-via-then-not-ends+else-mark-ne-GOES_ON w ↦ inr (search rules)
      | else-not-ends-via-else-not-ends w ↦ inl (search rules)
    ] in
    let rest = take (length bytes - 1) (drop 1 bytes) in
    let found : (rest ≡ line ++ 10 ∷ after) × (lines_of rest ≡ line ∷ lines_of after) = search rules in
    let behind : (drop 1 bytes ≡ line ++ 10 ∷ after) × (lines_of (drop 1 bytes) ≡ line ∷ lines_of after) =
    subst (λ (l : List ℕ). (l ≡ line ++ 10 ∷ after) × (lines_of l ≡ line ∷ lines_of after)) (take_rest bytes 1) found in
    let whole : has_hole line ≡ false = search rules in
    marked_read bytes line after some which behind whole
