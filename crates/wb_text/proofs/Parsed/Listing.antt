-- Lines read one at a time.
use Rattle.std.proofs.Common.{◌≡◌, ℕ, zero, suc, ◌+◌, ◌-◌, ◌<◌, true, false, List, [], ◌∷◌, ◌++◌, map, Option, Some, None, option_map, refl, sym, ap, ◌∙◌}
use Rattle.std.proofs.Common.{append-nil, arith}
use Rattle.wb_text.specs.Said.{Line, line_of}
use Rattle.wb_text.specs.declared.said.ObjectLine.{ObjectLine}
use Rattle.wb_text.specs.Parsed.Lines.{line_at, is_end, lines_at}

-- what was read before, and then what is read
abbrev pub onto : List ObjectLine → Option (List Line) → Option (List Line)
onto ls r = option_map (λ ms. map line_of ls ++ ms) r

pushed : (ls : List ObjectLine) (l : ObjectLine) (ms : List Line) → map line_of ls ++ (line_of l ∷ ms) ≡ map line_of (ls ++ l ∷ []) ++ ms
pushed [] l ms = refl
pushed (k ∷ ls) l ms = ap (λ x. line_of k ∷ x) (pushed ls l ms)

onto-push : (ls : List ObjectLine) (l : ObjectLine) (r : Option (List Line)) → onto ls (option_map (λ ms. line_of l ∷ ms) r) ≡ onto (ls ++ l ∷ []) r
onto-push ls l None = refl
onto-push ls l (Some ms) = ap Some (pushed ls l ms)

ended_at : (n : ℕ) (rest : List ℕ) → 0 < n → is_end rest ≡ true → lines_at n rest ≡ Some []
ended_at zero rest z e = absurd (omega (arith, z))
ended_at (suc n) rest z e = rw e refl

pub ended : (n : ℕ) (ls : List ObjectLine) (rest : List ℕ) → 0 < n → is_end rest ≡ true → Some (map line_of ls) ≡ onto ls (lines_at n rest)
ended n ls rest z e = ap Some (sym (append-nil (map line_of ls))) ∙ ap (onto ls) (sym (ended_at n rest z e))

none_at : (n : ℕ) (rest : List ℕ) → is_end rest ≡ false → None ≡ line_at rest → None ≡ lines_at n rest
none_at zero rest e h = refl
none_at (suc n) rest e h = rw (e, ← h) refl

pub no_line : (n : ℕ) (ls : List ObjectLine) (rest : List ℕ) → is_end rest ≡ false → None ≡ line_at rest → None ≡ onto ls (lines_at n rest)
no_line n ls rest e h = ap (onto ls) (none_at n rest e h)

pub more_at : (n : ℕ) (l : Line) (rest behind : List ℕ) → is_end rest ≡ false → Some (l, behind) ≡ line_at rest →
    lines_at (suc n) rest ≡ option_map (λ ms. l ∷ ms) (lines_at n behind)
more_at n l rest behind e h = rw (e, ← h) refl

pub more_lines : (end i : ℕ) (ls : List ObjectLine) (l : ObjectLine) (rest behind : List ℕ) → i < end → is_end rest ≡ false →
    Some (line_of l, behind) ≡ line_at rest
    → onto ls (lines_at (end - i) rest) ≡ onto (ls ++ l ∷ []) (lines_at (end - (i + 1)) behind)
more_lines end i ls l rest behind z e h =
    let d : end - i ≡ suc (end - (i + 1)) = omega (arith, z) in
    ap (λ n. onto ls (lines_at n rest)) d ∙ ap (onto ls) (more_at (end - (i + 1)) (line_of l) rest behind e h) ∙
    onto-push ls l (lines_at (end - (i + 1)) behind)
