use Rattle.std.proofs.Common.{◌∙◌, ◌≡◌, sym, Ok, Err, Option, None, IfOk, List, ℕ}
use Rattle.std.specs.Prelude.{Result, OnOk}
use Rattle.serde_json.specs.View.{view}
use Rattle.wb_company.specs.Words.{word}
use Rattle.wb_company.specs.declared.words.Word.{Word}
use Rattle.wb_company.proofs.Lines.{json_line, no_json_line}
use Rattle.wb_company.proofs.words.read_word.Goals as goal

pub returns-in-Ok : goal.returns-in-Ok
returns-in-Ok c =
    let said = c.in-Ok.ensures.ok in
    c.word_of.ensures ∙ sym (json_line c.args.line.now (view c.in-Ok.value) said.0 said.1)

-- nothing is told of a line that was no JSON, if that was not for want of memory
none_told : {E X : Type 0} (line : List ℕ) (r : Result (Option Word) E) → IfOk r (λ o. o ≡ None) → OnOk r X → (X → word line ≡ None) → IfOk r (λ o. o ≡ word line)
none_told line (Ok o) none fine law = none ∙ sym (law fine)
none_told line (Err e) none fine law = tt

pub returns-in-Err : goal.returns-in-Err
returns-in-Err c = none_told c.args.line.now c.none_of.result c.none_of.ensures.none c.none_of.ensures.memory
    (λ fine. no_json_line c.args.line.now (c.in-Err.ensures.err fine))
