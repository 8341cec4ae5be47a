use Rattle.std.proofs.Common.{Ok, subst}
use Rattle.wb_lines.proofs.Sessions.{one_by_one}
use Rattle.wb_lines.proofs.session.serve_lines.Goals as goal

pub returns-clause-serves : goal.returns-clause-serves
returns-clause-serves g c =
    let served = c.in-Ok.ensures.serves in
    (served.0, served.1, (served.2.0, served.2.1, one_by_one g.M.Machine.answers c.in-Ok.end _ _ served.0 served.2.0 _ served.2.2))
