use Rattle.std.proofs.lemmas.Result.{on_ok_weaker}
use Rattle.wb_text.proofs.Listing.{joined}
use Rattle.wb_text.proofs.mappings.push_cyclic.Goals as goal

pub returns : goal.returns
returns g c = rw (← c.start.ensures, ← c.grid.ensures) (on_ok_weaker c.push_last_grid.result (λ e. joined _ _ _ _ _ c.in_ok-push_part.ensures e)
    c.push_last_grid.ensures)
