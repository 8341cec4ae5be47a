use Rattle.std.proofs.Common.{◌≡◌}
use Rattle.clap.specs.Words.{app_of}
use Rattle.clap.specs.Walk.{texts}
use Rattle.std.specs.Prelude.{Result, Ok, Err}
use Rattle.clap.specs.declared.error.Error.{Error}
use Rattle.clap.specs.declared.parser.matches.ArgMatches.{ArgMatches}
use Rattle.wb_command.specs.Asks.{program}
use Rattle.wb_command.specs.declared.CommandErr.{CommandErr}
use Rattle.wb_command.proofs.Only.{only_answer}
use Rattle.wb_command.proofs.Parsed.{answer_asked, answer_refused, answer_told, faults_of, found_by, passed_on}
use Rattle.wb_command.proofs.command_of.Goals as goal

pub returns-in-Ok-clause-asked : goal.returns-in-Ok-clause-asked
returns-in-Ok-clause-asked c =
    let words = texts c.args.words.now in
    let command = c.in_ok-command.command in
    let built : app_of command ≡ program =
    passed_on CommandErr c.program.result command (λ k. app_of k ≡ program) c.program.ensures c.in_ok-command.ensures.cases in
    let none = faults_of command built words (Ok c.in-Ok.matches) c.in-Ok.ensures.kinds in
    let found = found_by command built words c.in-Ok.matches c.in-Ok.ensures.matches in
    rw c.ok_or.ensures.value (answer_asked words c.read_off.result c.in-Ok.matches none found c.read_off.ensures c.misfit_in.result)

pub returns-in-Ok-clause-refused : goal.returns-in-Ok-clause-refused
returns-in-Ok-clause-refused c =
    let words = texts c.args.words.now in
    let command = c.in_ok-command.command in
    let built : app_of command ≡ program =
    passed_on CommandErr c.program.result command (λ k. app_of k ≡ program) c.program.ensures c.in_ok-command.ensures.cases in
    let none = faults_of command built words (Ok c.in-Ok.matches) c.in-Ok.ensures.kinds in
    let found = found_by command built words c.in-Ok.matches c.in-Ok.ensures.matches in
    rw c.ok_or.ensures.value (answer_refused words c.read_off.result c.in-Ok.matches none found c.read_off.ensures c.misfit_in.result c.misfit_in.ensures)

pub returns-in-Err-clause-refused : goal.returns-in-Err-clause-refused
returns-in-Err-clause-refused c =
    let words = texts c.args.words.now in
    let command = c.in_ok-command.command in
    let built : app_of command ≡ program =
    passed_on CommandErr c.program.result command (λ k. app_of k ≡ program) c.program.ensures c.in_ok-command.ensures.cases in
    let failed : Result ArgMatches Error = Err c.in-Err.error in
    let kind = faults_of command built words failed c.in-Err.ensures.kinds in
    answer_told words c.in-Err.error c.error_of.result kind c.error_of.ensures

pub returns-in-Ok-clause-only : goal.returns-in-Ok-clause-only
returns-in-Ok-clause-only c = only_answer (texts c.args.words.now) c.ok_or.result (returns-in-Ok-clause-asked c) (returns-in-Ok-clause-refused c)

pub returns-in-Err-clause-only : goal.returns-in-Err-clause-only
returns-in-Err-clause-only c = only_answer (texts c.args.words.now) (Err c.error_of.result) tt (returns-in-Err-clause-refused c)
