use Rattle.std.proofs.Common.{ap, ◌∙◌, codes, ◌++◌}
use Rattle.json.specs.Tree.{json_tokens}
use Rattle.serde_json.specs.Written.{outline}
use Rattle.wb_edit.specs.declared.edit.Edit.TheVariants.{Load}
use Rattle.wb_requests.specs.Encoding.Encoded.{edit_data}
use Rattle.wb_machine.specs.Encoding.Text.{mark}
use Rattle.wb_machine.proofs.Encodings.Loads.{is_json, line_is}
use Rattle.wb_machine.proofs.encoding.loads.line_in_room.Goals as goal

pub returns-clause-line : goal.returns-clause-line
returns-clause-line c =
    let text = c.args.text.now in
    let object = json_tokens (outline (edit_data (Load text))) in
    let same = c.in_ok-write_load.ensures.tokens ∙ ap (λ ts. ts ++ object) c.new-writer.ensures.tokens in
    let before = c.in_ok-write_load.ensures.before ∙ c.new-writer.ensures.before ∙ c.in_ok-extend_from_slice.ensures.items
    ∙ ap (λ none. none ++ c.as_bytes.result.now) c.in_ok-line.ensures.items ∙ c.as_bytes.ensures.value ∙ c.mark.ensures in
    c.in_ok-extend_from_slice-2.ensures.items
    ∙ ap (λ t. t ++ codes "\n") (line_is text c.write_load.new.out.tokens same (mark c.args.in_force) c.write_load.new.out.before c.into_inner-line.result.items before c.into_inner-line.ensures.items)

pub returns-clause-json : goal.returns-clause-json
returns-clause-json c =
    let text = c.args.text.now in
    let object = json_tokens (outline (edit_data (Load text))) in
    let same = c.in_ok-write_load.ensures.tokens ∙ ap (λ ts. ts ++ object) c.new-writer.ensures.tokens in
    is_json text c.write_load.new.out.tokens same c.into_inner-line.ensures.utf8 c.into_inner-line.ensures.reads_back
