use Rattle.std.proofs.Common.{◌∙◌, ◌++◌, Some, option_map, ap, sym, take, drop, string_bytes}
use Rattle.std.specs.List.{flat_map}
use Rattle.std.proofs.lemmas.List.{append_assoc}
use Rattle.wb_history.specs.Restored.{one_of}
use Rattle.wb_log.specs.Records.{lent_edit}
use Rattle.wb_machine.specs.Encoding.Text.{edit_line}
use Rattle.wb_machine.proofs.Encodings.Lines.{lines_more, json_more}
use Rattle.wb_machine.proofs.encoding.printed.push_edits.Goals as goal

pub loop-before-preserved : goal.loop-before-preserved
loop-before-preserved c =
    let es = c.args.history.now.entries in
    let f = c.args.first in
    let k = c.loop-before.before in
    let x = one_of c.as_edit.result.now c.in-Some.in_force in
    let there = ap (λ e. Some (one_of e c.in-Some.in_force)) c.as_edit.ensures ∙
    sym (ap (option_map (λ y. one_of (lent_edit y.0) y.1)) c.in-Some.is) ∙ c.in_ok-edit.ensures in
    let old = string_bytes c.args.out.now in
    record {
      lines = c.in_ok-push_edit-in-Some.ensures.line ∙ ap (λ t. t ++ edit_line x) c.loop-before.invariant.lines ∙
          append_assoc old (flat_map edit_line (drop f (take k es))) (edit_line x)
          ∙ ap (λ t. old ++ t) (sym (lines_more es f k x c.loop-before.auto.before there));
      json = json_more es f k x c.loop-before.auto.before there c.loop-before.invariant.json c.in_ok-push_edit-in-Some.ensures.json;
    }
