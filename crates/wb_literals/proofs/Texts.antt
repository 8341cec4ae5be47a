-- Bytes that are a text, or none.
use Rattle.std.proofs.Common.{◌≡◌, ℕ, true, false, List, Some, None, refl, ◌∙◌, eq-eqb}
use Rattle.std.proofs.lemmas.Str.{utf8_valid_len-IsUtf8}
use Rattle.std.specs.Str.{IsUtf8}
use Rattle.wb_sets.specs.Labels.{is_label}
use Rattle.wb_literals.specs.Set.{label_of, is_text}

pub text_by : (bytes : List ℕ) → IsUtf8 bytes → is_text bytes ≡ is_label bytes
text_by bytes u = rw (eq-eqb _ _ (utf8_valid_len-IsUtf8 bytes u)) refl

pub label_yes : (bytes : List ℕ) → IsUtf8 bytes → is_label bytes ≡ true → label_of bytes ≡ Some bytes
label_yes bytes u h = rw (text_by bytes u ∙ h) refl

pub label_no : (bytes : List ℕ) → IsUtf8 bytes → is_label bytes ≡ false → label_of bytes ≡ None
label_no bytes u h = rw (text_by bytes u ∙ h) refl
