-- What a line is answered by a program that only reads JSON and prints it again.
use Rattle.std.specs.Prelude.{◌≡◌, ◌⊎◌, ℕ, false, List, [], Some, None}
use Rattle.std.specs.Str.{IsUtf8}
use Rattle.serde_json.specs.Data.{Data}
use Rattle.serde_json.specs.Read.{read}
use Rattle.serde_json.specs.Written.{compact_text, has_float}

-- JSON is answered by its compact text; for numbers with a fraction nothing more is said.
pub record IsJson (line text : List ℕ) : Type 0 where
  pub json : Data
  pub is_read : read line ≡ Some json
  pub is_text : has_float json ≡ false → text ≡ compact_text json

-- Other lines are answered by nothing.
pub record IsOther (line text : List ℕ) : Type 0 where
  pub is_not_read : IsUtf8 line → read line ≡ None
  pub is_empty : text ≡ []

-- The state never changes.
abbrev pub PrintsAgain : {M : Type 0} → M → List ℕ → List ℕ → M → Type 0
PrintsAgain m line text n = (n ≡ m) × (IsJson line text ⊎ IsOther line text)
