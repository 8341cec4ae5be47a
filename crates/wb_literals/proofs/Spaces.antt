-- Spaces passed over one at a time.
use Rattle.std.proofs.Common.{◌≡◌, ℕ, ◌+◌, ◌<◌, ◌≤◌, List, ◌∷◌, length, get_or, drop, refl, sym, ap, ◌∙◌, eq-eqb, ne_eqb}
use Rattle.std.proofs.lemmas.List.{drop_more, drop_all}
use Rattle.wb_literals.specs.Tokens.{skip_spaces}

by_space : (b : ℕ) (bytes : List ℕ) → b ≡ 32 → skip_spaces (b ∷ bytes) ≡ skip_spaces bytes
by_space b bytes e = rw (eq-eqb b 32 e) refl

by_other : (b : ℕ) (bytes : List ℕ) → (b ≡ 32 → ⊥) → skip_spaces (b ∷ bytes) ≡ b ∷ bytes
by_other b bytes e = rw (ne_eqb b 32 e) refl

pub skip_step : (i : ℕ) (bytes : List ℕ) → i < length bytes → get_or bytes i 0 ≡ 32 → skip_spaces (drop (i + 1) bytes) ≡ skip_spaces (drop i bytes)
skip_step i bytes h e = sym (ap skip_spaces (drop_more bytes i 0 h) ∙ by_space (get_or bytes i 0) (drop (i + 1) bytes) e)

pub skip_stop : (i : ℕ) (bytes : List ℕ) → i < length bytes → (get_or bytes i 0 ≡ 32 → ⊥) → skip_spaces (drop i bytes) ≡ drop i bytes
skip_stop i bytes h e = let d = drop_more bytes i 0 h in ap skip_spaces d ∙ by_other (get_or bytes i 0) (drop (i + 1) bytes) e ∙ sym d

pub skip_end : (i : ℕ) (bytes : List ℕ) → length bytes ≤ i → skip_spaces (drop i bytes) ≡ drop i bytes
skip_end i bytes h = let d = drop_all i bytes h in ap skip_spaces d ∙ sym d
