-- What is known of want of memory in a cascade.
use Rattle.std.specs.Prelude.{Bool}
use Rattle.wb_log.specs.declared.steps.undoer.Undoer.{Undoer}

-- whether the undo that was made last wanted memory
abbrev pub has_wanted : Undoer → Bool
has_wanted u = u.wanted
