use Rattle.std.proofs.Common.{◌∙◌, None, inl, refl, subst}
use Rattle.selective_undo.specs.History.{replay}
use Rattle.wb_history.specs.Past.{meant}
use Rattle.wb_machine.specs.Encoding.Text.{objects_text}
use Rattle.wb_machine.proofs.Encodings.Lines.{none_some, some_same}
use Rattle.wb_machine.proofs.HistoryTexts.Below.{all_said}
use Rattle.wb_statuses.specs.Statuses.{IsPrinted}
use Rattle.wb_sessions.specs.Upgrading.{loaded}
use Rattle.wb_sessions.proofs.Loading.{by_lines, is_upgraded, made_text}
use Rattle.wb_sessions.proofs.upgrading.upgrade_text.Goals as goal

pub unreachable-requires : goal.unreachable-requires
unreachable-requires g c =
    let text = c.args.text.now in
    let lines = objects_text (replay (meant (loaded text))) in
    none_some lines None refl (c.in_default.ensures lines (made_text text c.requires))

pub returns-in-Ok-clause-upgrades : goal.returns-in-Ok-clause-upgrades
returns-in-Ok-clause-upgrades g c =
    let text = c.args.text.now in
    let lines = objects_text (replay (meant (loaded text))) in
    let above = some_same c.in-Some.objects.now lines (c.in-Some.ensures lines (made_text text c.requires)) in
    let told = c.tell_history.ensures.told in
    let whole = by_lines text c.in-Some.objects.now c.deref.result.now above (c.deref.ensures.value ∙ c.in-Ok.ensures.line) in
    (told.0, told.1, inl (is_upgraded text c.requires (all_said (loaded text) (c.in-Ok.ensures.json, tt)), subst (λ w. IsPrinted w c.tell_history.result told.0) whole told.2))
