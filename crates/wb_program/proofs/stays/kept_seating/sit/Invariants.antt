use Rattle.std.specs.Prelude.{List}
use Rattle.wb_lending.specs.Lending.{Served}
use Rattle.wb_program.specs.Stays.{hosts_at}
use Rattle.wb_visits.specs.declared.visit.Visit.{Visit}
use Rattle.wb_program.proofs.stays.kept_seating.sit.Given as goal

-- so far connections were served one after another, from the pass as it was handed in to the pass as it is now
abbrev pub invariant-loop : goal.invariant-loop
invariant-loop g l = (cs : List (Visit g.row.I.Denot g.row.O.Denot)) × Served g.G.Guests (hosts_at g.I.Source g.O.Sink g.G.Guests g.L.Opening.seats g.L.Opening.opening) l.fn.pass cs l.now
