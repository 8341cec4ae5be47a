-- The line of a load, as a writer of tokens writes it.
use Rattle.std.proofs.Common.{◌≡◌, ◌∙◌, ◌++◌, ℕ, List, [], Some, sym, ap, subst, arith, append-nil, option_and_then}
use Rattle.std.specs.Str.{IsUtf8}
use Rattle.std.proofs.lemmas.Str.{is_utf8-from_IsUtf8}
use Rattle.json.specs.Token.{Token}
use Rattle.json.specs.Lex.{tokens}
use Rattle.json.specs.Print.{print}
use Rattle.json.specs.Tree.{json_tokens}
use Rattle.serde_json.specs.Read.{read, of_json, max_depth}
use Rattle.serde_json.specs.Written.{outline}
use Rattle.serde_json.proofs.Texts.{print-outline}
use Rattle.json.specs.Json as json
use Rattle.json.proofs.Printed.Trees.{value-json_tokens}
use Rattle.wb_edit.specs.declared.edit.Edit.TheVariants.{Load}
use Rattle.wb_requests.specs.Encoding.Encoded.{edit_data, edit_text}
use Rattle.wb_machine.specs.Encoding.Text.{IsJson}

-- what is read from the tokens of its object
back : (text : List ℕ) (line : List ℕ) → tokens line ≡ json_tokens (outline (edit_data (Load text))) → read line ≡ Some (edit_data (Load text))
back text line same =
    ap (λ found. option_and_then of_json (option_and_then (λ p. json.if_last p.0 p.1) found))
    (ap (json.value max_depth) (same ∙ sym (append-nil _)) ∙ value-json_tokens (outline (edit_data (Load text))) max_depth [] (omega arith))

module _ (text : List ℕ) (ts : List Token) (same : ts ≡ json_tokens (outline (edit_data (Load text)))) where
  pub text_is : print ts ≡ edit_text (Load text)
  text_is = ap print same ∙ print-outline (edit_data (Load text))

  pub is_json : IsUtf8 (print ts) → tokens (print ts) ≡ ts → IsJson (Load text)
  is_json utf8 again =
      let line = edit_text (Load text) in (
        is_utf8-from_IsUtf8 line (subst IsUtf8 text_is utf8),
        back text line (ap tokens (sym text_is) ∙ again ∙ same),
      )

  pub line_is : (mark before line : List ℕ) → before ≡ mark → line ≡ before ++ print ts → line ≡ mark ++ edit_text (Load text)
  line_is mark before line is e = e ∙ ap (λ b. b ++ print ts) is ∙ ap (λ t. mark ++ t) text_is
