-- What a line is, by what the JSON crate said of it.
use Rattle.std.proofs.Common.{◌≡◌, ℕ, List, Bool, true, false, Some, None, refl, ap}
use Rattle.std.specs.Prelude.{option_and_then}
use Rattle.std.specs.Str.{IsUtf8, is_utf8}
use Rattle.std.proofs.lemmas.Str.{IsUtf8-from_is_utf8, is_utf8-from_IsUtf8}
use Rattle.serde_json.specs.Data.{Data}
use Rattle.serde_json.specs.Read.{read}
use Rattle.wb_company.specs.Words.{word, word_of}

pub json_line : (line : List ℕ) (d : Data) → IsUtf8 line → read line ≡ Some d → word line ≡ word_of d
json_line line d u e = rw (is_utf8-from_IsUtf8 line u) (ap (λ o. option_and_then word_of o) e)

by_utf8 : (b : Bool) (line : List ℕ) → is_utf8 line ≡ b → (IsUtf8 line → read line ≡ None) → word line ≡ None
by_utf8 true line e h = rw e (ap (λ o. option_and_then word_of o) (h (IsUtf8-from_is_utf8 line e)))
by_utf8 false line e h = rw e refl

pub no_json_line : (line : List ℕ) → (IsUtf8 line → read line ≡ None) → word line ≡ None
no_json_line line h = by_utf8 (is_utf8 line) line refl h
