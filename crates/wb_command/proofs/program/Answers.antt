use Rattle.std.proofs.Common.{◌≡◌, [], rules, codes, true}
use Rattle.std.proofs.lemmas.Result.{IfOk-weaker}
use Rattle.clap.specs.Words.{app_of}
use Rattle.clap.specs.Simple.{new_shape}
use Rattle.wb_command.specs.Asks as spec
use Rattle.wb_command.proofs.Built.{command_added}
use Rattle.wb_command.proofs.program.Goals as goal

pub returns : goal.returns
returns c =
    let none : app_of c.subcommand_required.result
    ≡ record { top = record (new_shape (codes "workbook")) { has_version = true; subcommand_required = true }; subs = [] } = search rules in
    let one = command_added c.subcommand_required.result c.in_ok-run_command.field-0 c.in_ok-subcommand.field-0 _ spec.run_command
    c.in_ok-subcommand.ensures none c.in_ok-run_command.ensures in
    let two = command_added c.in_ok-subcommand.field-0 c.check_command.result c.in_ok-subcommand-2.field-0 _ spec.check_command
    c.in_ok-subcommand-2.ensures one c.check_command.ensures in
    let three = command_added c.in_ok-subcommand-2.field-0 c.upgrade_command.result c.in_ok-subcommand-3.field-0 _ spec.upgrade_command
    c.in_ok-subcommand-3.ensures two c.upgrade_command.ensures in
    let four = command_added c.in_ok-subcommand-3.field-0 c.in_ok-compact_command.field-0 c.in_ok-subcommand-4.field-0 _ spec.compact_command
    c.in_ok-subcommand-4.ensures three c.in_ok-compact_command.ensures in
    IfOk-weaker c.subcommand-5.result _ _ (λ r added. command_added c.in_ok-subcommand-4.field-0 c.in_ok-serve_command.field-0 r _ spec.serve_command
    added four c.in_ok-serve_command.ensures) c.subcommand-5.ensures
