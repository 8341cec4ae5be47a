use Rattle.std.proofs.Common.{◌≡◌, sym, ◌∙◌}
use Rattle.std.proofs.lemmas.Slice.Eq.{bytes_eq-Decides}
use Rattle.wb_requests.proofs.requests.in_turn.next_member.Goals as goal

pub returns-then-eq : goal.returns-then-eq
returns-then-eq c =
    let same = (bytes_eq-Decides c.as_bytes.result.now c.as_bytes-2.result.now).0 (sym c.if-eq.ensures) in
    (c.in_ok-name.name.now, (sym c.as_bytes.ensures.value ∙ same ∙ c.as_bytes-2.ensures.value, c.in_ok-name.ensures.steps))
