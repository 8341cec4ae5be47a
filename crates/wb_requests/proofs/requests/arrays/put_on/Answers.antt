use Rattle.std.proofs.Common.{ap, ◌∙◌, Ok}
use Rattle.wb_edit.specs.declared.asked_numbers.AskedNumbers.TheVariants.{Rectangle as numbered}
use Rattle.wb_edit.specs.declared.command.Command.TheVariants.{Put}
use Rattle.wb_requests.specs.Requests.{of_command}
use Rattle.wb_requests.proofs.Puts.{put_counted, put_uncounted}
use Rattle.wb_requests.proofs.requests.arrays.put_on.Goals as goal

pub returns-in-Some : goal.returns-in-Some
returns-in-Some c =
    ap (λ r. Ok (of_command (Put c.args.name (numbered r)))) c.in-Some.ensures.some ∙
    put_counted c.args.name c.args.on c.args.numbers.items c.in-Some.ensures.as_many

pub returns-in-None : goal.returns-in-None
returns-in-None c = put_uncounted c.args.name c.args.on c.args.numbers.items c.in-None.ensures.none
