use Rattle.std.proofs.Common.{string_bytes}
use Rattle.wb_keeping.proofs.Begun.{begins, is_unbroken}
use Rattle.wb_keeping.proofs.beginning.opening_of.Goals as goal

pub returns-in_ok-line-in-Ok-clause-some : goal.returns-in_ok-line-in-Ok-clause-some
returns-in_ok-line-in-Ok-clause-some g c =
    let line = string_bytes c.in_ok-line-in-Ok.line in
    let text = c.args.text.now in
    let written = c.in_ok-line-in-Ok.ensures in
    let read = c.in-Ok.ensures in
    record {
      is_opening = record {
        begins = begins line text c.in-Ok.history read.ok written.text written.json.0 written.json.1 read.history read.counted;
        unbroken = is_unbroken line text written.text;
      };
      same = read.ok;
    }
