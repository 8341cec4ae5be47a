use Rattle.wb_log.proofs.index.EditIndex.new.Goals as goal

pub returns : goal.returns
returns c = λ count footprints none. record { by_footprint = c.new.ensures count footprints none; in_force = c.new-2.ensures count footprints none }
