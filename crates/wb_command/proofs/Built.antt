-- What clap's builders make of a command, step by step.
use Rattle.std.proofs.Common.{◌≡◌, ◌∙◌, ◌∷◌, ◌++◌, ◌||◌, [], false, ap, ap₂}
use Rattle.clap.specs.Words.{AddsArg, AddsSubcommand, App, Rule, Shape, app_of, rule_of, shape_of, with_subcommand}
use Rattle.clap.specs.declared.builder.arg.Arg.{Arg}
use Rattle.clap.specs.declared.builder.command.Command.{Command}
use Rattle.clap.specs.declared.builder.command.Command.TheViews.{out-Command}

-- a command is this one, and has no option that its subcommands share
abbrev pub IsAs : Command → Shape → Type 0
IsAs command shape = (shape_of command ≡ shape) × ((out-Command command).has_globals ≡ false)

abbrev pub with_option : Shape → Rule → Shape
with_option s r = record s { rules = s.rules ++ r ∷ [] }

-- one more option
pub option_added : (old new : Command) (a : Arg) (s : Shape) (r : Rule) → AddsArg old a new → IsAs old s → (rule_of a ≡ r) × (a.global ≡ false)
    → IsAs new (with_option s r)
option_added old new a s r added was is = (
  ap (λ (x : App). x.top) (added.shape is.1) ∙ ap₂ with_option was.0 is.0,
  added.globals ∙ ap₂ (λ x y. x || y) was.1 is.1,
)

-- one more subcommand
pub command_added : (old sub new : Command) (a : App) (s : Shape) → AddsSubcommand old sub new → app_of old ≡ a → IsAs sub s
    → app_of new ≡ with_subcommand a s
command_added old sub new a s added was is = added.shape is.1 ∙ ap₂ with_subcommand was is.0
