use Rattle.std.proofs.Common.{◌∙◌, ◌++◌, ap, refl, None, string_bytes}
use Rattle.wb_machine.specs.Encoding.Text.{objects_text}
use Rattle.wb_machine.proofs.Encodings.Lines.{none_some, some_same}
use Rattle.wb_machine.proofs.encoding.printed.push_objects.Goals as goal

pub unreachable-requires : goal.unreachable-requires
unreachable-requires c =
    none_some (objects_text c.args.book.now.cells) None refl (c.in-None.ensures (objects_text c.args.book.now.cells)
    (c.as_str.ensures.value ∙ c.in_ok-text.ensures))

pub returns : goal.returns
returns c =
    let s = objects_text c.args.book.now.cells in
    c.in_ok-push_str-in-Some.ensures.bytes ∙ ap (λ t. string_bytes c.args.out.now ++ t)
    (some_same c.in-Some.lines.now s (c.in-Some.ensures s (c.as_str.ensures.value ∙ c.in_ok-text.ensures)))
