-- What clap's answer to a parse tells of the words.
use Rattle.std.proofs.Common.{◌≡◌, ◌∙◌, Bool, true, false, List, [], Option, Some, None, ap, refl, sym, subst, inl, inr, true≢false}
use Rattle.std.specs.Prelude.{Result, Ok, Err, IfOk, IfErr, MatchOption, MatchResult, ok_or}
use Rattle.clap.specs.Words.{App, FailsBy, HasKind, HasMatchesOf, IsAmong, Text}
use Rattle.clap.specs.Words.{app_of, fault_of, is_simple, is_simple_and_free, kind_of, subcommand_of, subcommand_rows_of}
use Rattle.clap.specs.declared.builder.command.Command.{Command}
use Rattle.clap.specs.declared.error.Error.{Error}
use Rattle.clap.specs.declared.error.kind.ErrorKind.{ErrorKind}
use Rattle.clap.specs.declared.error.kind.ErrorKind.TheVariants.{OutOfMemory}
use Rattle.clap.specs.declared.parser.matches.ArgMatches.{ArgMatches}
use Rattle.clap.proofs.OnLiterals.{clap_on_literals}
use Rattle.wb_command.specs.Asks.{Asks, IsMeant, IsMisfit, IsRequest, Refuses, Tells, program}
use Rattle.wb_command.specs.declared.Wanted.{Wanted}
use Rattle.wb_command.specs.declared.misfit.Misfit.{Misfit}
use Rattle.wb_command.specs.declared.CommandErr.{CommandErr}
use Rattle.wb_command.specs.declared.CommandErr.TheVariants.{Help, BadCommandLine, NothingMeant, NoMemory}

-- clap's clauses say all of the program's command
program_simple : is_simple program ≡ true
unfolding clap_on_literals
program_simple = refl

program_free : is_simple_and_free program ≡ true
unfolding clap_on_literals
program_free = refl

abbrev is_memory : ErrorKind → Bool
is_memory OutOfMemory = true
is_memory _ = false

no_request : (kind : ErrorKind) → kind ≡ OutOfMemory → IsRequest kind → ⊥
no_request kind memory (inl help) = true≢false (sym (ap is_memory memory) ∙ ap is_memory help)
no_request kind memory (inr version) = true≢false (sym (ap is_memory memory) ∙ ap is_memory version)

-- what `map_err` passes on is what was there
pub passed_on : {X E : Type 0} (D : Type 0) (r : Result X E) (x : X) (P : X → Type 0) → IfOk r P
    → MatchResult r (λ y. ◌≡◌ {A = Result X D} (Ok x) (Ok y)) (λ e. ⊥) → P x
passed_on {X} {E} D (Ok y) x P holds same = subst P (sym (ap value same)) holds
  where
    value : Result X D → X
    value (Ok z) = z
    value (Err e) = y
passed_on D (Err e) x P holds same = absurd same

module _ (command : Command) (built : app_of command ≡ program) (words : List Text) where
  -- the faults of the words
  pub faults_of : {T : Type 0} (r : Result T Error) → (is_simple_and_free (app_of command) ≡ true → FailsBy (fault_of (app_of command) words) r)
      → FailsBy (fault_of program words) r
  faults_of r kinds = subst (λ (a : App). FailsBy (fault_of a words) r) built (kinds (ap is_simple_and_free built ∙ program_free))

  -- the subcommand that was found
  pub found_by : (m : ArgMatches) → HasMatchesOf (app_of command) words m → subcommand_rows_of m ≡ subcommand_of program words
  found_by m has = (has (ap is_simple built ∙ program_simple)).1 ∙ ap (λ (a : App). subcommand_of a words) built

-- the answer to words that clap takes
pub answer_asked : (words : List Text) (r : Option Wanted) (m : ArgMatches) → fault_of program words ≡ [] → subcommand_rows_of m ≡ subcommand_of program words
    → MatchOption r ((asked : Wanted) → IsMeant (subcommand_rows_of m) asked → ⊥) (IsMeant (subcommand_rows_of m))
    → (why : Misfit) → IfOk (ok_or r (NothingMeant why)) (Asks words)
answer_asked words None m none found read why = tt
answer_asked words (Some asked) m none found read why = (none, subst (λ o. IsMeant o asked) found read)

pub answer_refused : (words : List Text) (r : Option Wanted) (m : ArgMatches) → fault_of program words ≡ [] → subcommand_rows_of m ≡ subcommand_of program words
    → MatchOption r ((asked : Wanted) → IsMeant (subcommand_rows_of m) asked → ⊥) (IsMeant (subcommand_rows_of m))
    → (why : Misfit) → IsMisfit (subcommand_rows_of m) why → IfErr (ok_or r (NothingMeant why)) (Refuses words)
answer_refused words None m none found read why misfit =
    ((none, λ asked meant. read asked (subst (λ o. IsMeant o asked) (sym found) meant)), subst (λ o. IsMisfit o why) found misfit)
answer_refused words (Some asked) m none found read why misfit = tt

-- the answer to words that clap refuses
pub answer_told : (words : List Text) (e : Error) (x : CommandErr) → HasKind (fault_of program words) e → Tells e x → Refuses words x
answer_told words e (Help shown) (inl memory) told = absurd (no_request (kind_of e) memory told.1)
answer_told words e (Help shown) (inr among) told =
    let same = ap kind_of (sym told.0) in
    (subst (λ k. IsAmong k (fault_of program words)) same among, subst IsRequest same told.1)
answer_told words e (BadCommandLine shown) (inl memory) told = absurd (told.2 memory)
answer_told words e (BadCommandLine shown) (inr among) told =
    let same = ap kind_of (sym told.0) in
    (subst (λ k. IsAmong k (fault_of program words)) same among, λ request. told.1 (subst IsRequest (sym same) request))
answer_told words e (NothingMeant why) kind told = absurd told
answer_told words e NoMemory kind told = tt
