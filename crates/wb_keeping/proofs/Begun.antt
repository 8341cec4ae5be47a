-- The line that a history begins with, as it is written.
use Rattle.std.proofs.Common.{◌≡◌, ◌≤◌, true, List, ℕ, Some, Result, Ok, Err, IfOk, sym, ◌∙◌, ap, subst, arith}
use Rattle.std.specs.Str.{is_utf8}
use Rattle.serde_json.specs.Data.{Data, depth}
use Rattle.serde_json.specs.Read.{read, max_depth}
use Rattle.serde_json.specs.Written.{compact_text}
use Rattle.wb_lines.specs.Lines.{IsUnbroken}
use Rattle.wb_history.specs.Past.{Past}
use Rattle.wb_history.specs.Restored.{IsCounted}
use Rattle.wb_machine.specs.Histories.Text.{history_text, IsHistory}
use Rattle.wb_machine.proofs.HistoryTexts.Unbroken.{unbroken_value}
use Rattle.wb_keeping.specs.Granting.Granting.{Begins, resume_data}

pub begins : (line s : List ℕ) (q : Past) → s ≡ history_text q.entries → line ≡ compact_text (resume_data s) → is_utf8 line ≡ true → read line ≡ Some (resume_data s)
    → IsHistory q.entries → IsCounted q → Begins line q
begins line s q text is utf8 json history counted = record {
  utf8 = utf8;
  json = json ∙ ap (λ (t : List ℕ). Some (resume_data t)) text;
  text = is ∙ ap (λ (t : List ℕ). compact_text (resume_data t)) text;
  history = history;
  counted = counted;
}

pub shallow : (d : Data) (s : List ℕ) → d ≡ resume_data s → depth d ≤ max_depth
shallow d s is = let one : depth d ≡ 1 = ap depth is in omega (arith, one)

pub is_unbroken : (line s : List ℕ) → line ≡ compact_text (resume_data s) → IsUnbroken line
is_unbroken line s is = subst IsUnbroken (sym is) (unbroken_value (resume_data s))

pub line_unbroken : {S E : Type 0} (bytes : S → List ℕ) (r : Result S E) (s : List ℕ) → IfOk r (λ t. bytes t ≡ compact_text (resume_data s)) →
    IfOk r (λ t. IsUnbroken (bytes t))
line_unbroken bytes (Ok t) s is = is_unbroken (bytes t) s is
line_unbroken bytes (Err e) s is = tt
