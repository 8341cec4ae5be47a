use Rattle.std.proofs.Common.{[], ◌∷◌, ◌++◌, inr, refl, rules}
use Rattle.wb_program.proofs.StaySeats.{lent_on, retired}
use Rattle.wb_program.proofs.stays.kept_seating.sit.Goals as goal

pub loop-init : goal.loop-init
loop-init g c = ([], refl)

pub loop-preserved-in-None-told : goal.loop-preserved-in-None-told
loop-preserved-in-None-told g c =
    let was = c.loop.invariant in
    let visit = c.in-Came.visit in
    let told = c.in-Came.ensures.came visit (search rules) in
    let parts = c.into_parts-reader in
    let served = c.serve_visit-pass in (
      was.0 ++ visit ∷ [],
      lent_on g.I.Source g.O.Sink g.G.Guests g.L.Opening.seats g.L.Opening.opening c.args.pass c.loop.now served.result.0 was.0 visit
          parts.result.0 parts.result.1 served.result.1 told.0 told.1 was.1 told.2 parts.ensures.0 parts.ensures.1 (search rules) served.ensures,
    )

pub returns-in-Some-told : goal.returns-in-Some-told
returns-in-Some-told g c =
    let was = c.loop.invariant in
    let visit = c.in-Came.visit in
    let told = c.in-Came.ensures.came visit (search rules) in
    let parts = c.into_parts-reader in
    let served = c.serve_visit-pass in
    record {
      to = was.0;
      last = c.loop.now;
      served = was.1;
      ended = inr (retired g.I.Source g.O.Sink g.G.Guests g.L.Opening.seats g.L.Opening.opening c.loop.now served.result.0 visit
          parts.result.0 parts.result.1 served.result.1 c.in-Some-told.why told.0 told.1 told.2 parts.ensures.0 parts.ensures.1 (search rules) served.ensures);
    }
