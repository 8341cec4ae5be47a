use Rattle.std.proofs.lemmas.Result.{IfOk-weaker}
use Rattle.wb_command.specs.Asks.{port_option, seats_option, stay_option, socket_option, idle_option, quiet_option, resume_option, journal_option, workers_option}
use Rattle.wb_command.proofs.Built.{option_added}
use Rattle.wb_command.proofs.serve_command.Goals as goal

pub returns : goal.returns
returns c =
    let one = option_added c.bare_serve.result c.in_ok-arg.field-0 c.port_option.result _ port_option c.in_ok-arg.ensures c.bare_serve.ensures
    c.port_option.ensures in
    let two = option_added c.in_ok-arg.field-0 c.in_ok-arg-2.field-0 c.seats_option.result _ seats_option c.in_ok-arg-2.ensures one c.seats_option.ensures in
    let three = option_added c.in_ok-arg-2.field-0 c.in_ok-arg-3.field-0 c.stay_flag.result _ stay_option c.in_ok-arg-3.ensures two c.stay_flag.ensures in
    let four = option_added c.in_ok-arg-3.field-0 c.in_ok-arg-4.field-0 c.socket_option.result _ socket_option c.in_ok-arg-4.ensures three c.socket_option.ensures in
    let five = option_added c.in_ok-arg-4.field-0 c.in_ok-arg-5.field-0 c.idle_option.result _ idle_option c.in_ok-arg-5.ensures four c.idle_option.ensures in
    let six = option_added c.in_ok-arg-5.field-0 c.in_ok-arg-6.field-0 c.quiet_flag.result _ quiet_option c.in_ok-arg-6.ensures five c.quiet_flag.ensures in
    let seven = option_added c.in_ok-arg-6.field-0 c.in_ok-arg-7.field-0 c.resume_flag.result _ resume_option c.in_ok-arg-7.ensures six
    c.resume_flag.ensures in
    let eight = option_added c.in_ok-arg-7.field-0 c.in_ok-arg-8.field-0 c.journal_option.result _ journal_option c.in_ok-arg-8.ensures seven
    c.journal_option.ensures in
    IfOk-weaker c.arg-9.result _ _
    (λ r added. option_added c.in_ok-arg-8.field-0 r c.workers_option.result _ workers_option added eight c.workers_option.ensures) c.arg-9.ensures
