use Rattle.wb_program.proofs.kept_serving.left_off.Goals as goal

pub after-requires : goal.after-requires
after-requires g c h = let failed = c.in-Err.ensures.disk h in (failed.0.device, c.in-Err.left.log.device, failed.1)
