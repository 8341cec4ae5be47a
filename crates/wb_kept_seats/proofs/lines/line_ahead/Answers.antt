use Rattle.std.proofs.Common.{sym, subst}
use Rattle.std.specs.Prelude.{string_bytes}
use Rattle.wb_requests.specs.declared.requests.request.Request.{Request}
use Rattle.wb_requests.specs.declared.requests.request.Request.TheVariants.{Change}
use Rattle.wb_requests.proofs.OnTheWire.ReadProper.{read_proper}
use Rattle.wb_requests.specs.Wire.Proper.{IsProperRequest}
use Rattle.wb_keeping.specs.Granting.Granting.{IsLineOf}
use Rattle.wb_kept_seats.specs.Lines.{IsLineOfEdit}
use Rattle.wb_kept_seats.proofs.lines.line_ahead.Goals as goal

pub returns-in-Ok : goal.returns-in-Ok
returns-in-Ok c =
    let proper = subst (λ (r : Request). IsProperRequest r) c.in-Change.is (read_proper c.requires.0 c.args.request.now c.requires.1) in
    let is : IsLineOf (Change c.in-Change.edit) (string_bytes c.in-Ok.line) =
    record { text = c.in-Ok.ensures.text; read_back = c.in-Ok.ensures.read_back proper } in
    subst (λ (r : Request). IsLineOfEdit r (string_bytes c.in-Ok.line)) (sym c.in-Change.is) is
