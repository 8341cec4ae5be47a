use Rattle.wb_log.proofs.index.EditIndex.set_left_force.Goals as goal

pub returns : goal.returns
returns c = λ count footprints h had. record {
  by_footprint = c.set_left_force.ensures count footprints h.by_footprint had;
  in_force = c.left_force.ensures count footprints h.in_force;
}
