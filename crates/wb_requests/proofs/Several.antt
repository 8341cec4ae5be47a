-- One command more behind those that are read so far.
use Rattle.std.proofs.Common.{◌≡◌, List, [], ◌∷◌, ◌++◌, Option, Some, None, Ok, refl}
use Rattle.wb_edit.specs.declared.command.Command.{Command}
use Rattle.wb_edit.specs.declared.refusal.Refusal.{Refusal}
use Rattle.wb_requests.specs.Requests.{so_far, one_more}

pub one_more_made : (wrong : Option Refusal) (cs : List Command) (c : Command) → one_more (so_far wrong cs) (Ok c) ≡ so_far wrong (cs ++ c ∷ [])
one_more_made None cs c = refl
one_more_made (Some why) cs c = refl
