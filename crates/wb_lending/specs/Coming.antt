-- What a look at what comes next tells.
use Rattle.std.specs.Prelude.{ℕ, ◌+◌}
use Rattle.wb_lending.specs.declared.guests.Next.{Next}
use Rattle.wb_lending.specs.declared.guests.Next.TheVariants.{Came, Nobody, Over}

-- one more than so many, where a guest came
abbrev pub with_one : {C : Type 0} → Next C → ℕ → ℕ
with_one (Came c) n = n + 1
with_one Nobody n = n
with_one Over n = n
