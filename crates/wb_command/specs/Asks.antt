-- What the words of a command line ask for. How words are read is clap's: `--workers 4` or `--workers=4`, options in any
-- order, what is said twice, `--`. clap's `fault_of` lists what it refuses of the words for a command that is written out
-- as here, and `subcommand_of` gives the subcommand that they name with what was found for its options.
use Rattle.std.specs.Prelude.{◌≡◌, ◌≢◌, ◌⊎◌, ◌<◌, ◌^◌, ℕ, Bool, true, false, List, [], ◌∷◌, Option, Some, None, IsSomeAnd, ⊤, pos, codes, bytes_eq, is_some, unwrap_or}
use Rattle.std.specs.Option.{option_map_or}
use Rattle.std.specs.Str.Parse.{IsNumeral, digits_value, without_leading_plus}
use Rattle.clap.specs.Words.{App, Row, Rule, Shape, Text, IsAmong, fault_of, first_of, kind_of, new_rule, one_of, subcommand_of}
use Rattle.clap.specs.Simple.{new_shape}
use Rattle.clap.specs.declared.builder.action.ArgAction.TheVariants.{Set, SetTrue}
use Rattle.clap.specs.declared.builder.value_parser.ValueParser.TheVariants.{Signed}
use Rattle.clap.specs.declared.error.Error.{Error}
use Rattle.clap.specs.declared.error.kind.ErrorKind.{ErrorKind}
use Rattle.clap.specs.declared.error.kind.ErrorKind.TheVariants.{DisplayHelp, DisplayVersion, OutOfMemory}
use Rattle.wb_command.specs.declared.Asked.{Asked}
use Rattle.wb_command.specs.declared.Asked.TheVariants.{Run, RunKept, Check, Upgrade, Compact, Serve, ServeKept}
use Rattle.wb_command.specs.declared.Place.{Place}
use Rattle.wb_command.specs.declared.Place.TheVariants.{Port, Socket}
use Rattle.wb_command.specs.declared.Stay.{Stay}
use Rattle.wb_command.specs.declared.Wanted.{Wanted}
use Rattle.wb_command.specs.declared.Wanted.TheVariants as wanted
use Rattle.wb_command.specs.declared.misfit.Misfit.{Misfit}
use Rattle.wb_command.specs.declared.misfit.Misfit.TheVariants as misfits
use Rattle.wb_command.specs.declared.CommandErr.{CommandErr}
use Rattle.wb_command.specs.declared.CommandErr.TheVariants.{Help, BadCommandLine, NothingMeant, NoMemory}

-- ---- the commands of the program

-- an option without a value: `--name`
abbrev pub flag : Text → Rule
flag name = record (new_rule name) { long = Some name; action = Some SetTrue }

-- an option with a whole number from the least to the greatest: `--name N`
abbrev pub number : Text → ℕ → ℕ → Rule
number name least greatest =
    record (new_rule name) { long = Some name; action = Some Set; parser = Some (Signed (pos least) (pos greatest)) }

-- the same, which has to be given
abbrev pub needed : Rule → Rule
needed option = record option { required = true }

-- an option with a word: `--name WORD`
abbrev pub worded : Text → Rule
worded name = record (new_rule name) { long = Some name; action = Some Set }

-- a word that has to be given, without a name: `WORD`
abbrev pub plain_word : Text → Rule
plain_word name = record (new_rule name) { action = Some Set; required = true }

abbrev pub resume_option : Rule
resume_option = flag (codes "resume")

abbrev pub journal_option : Rule
journal_option = worded (codes "journal")

abbrev pub file_word : Rule
file_word = plain_word (codes "file")

abbrev pub workers_option : Rule
workers_option = number (codes "workers") 1 64

abbrev pub port_option : Rule
port_option = number (codes "port") 0 65535

abbrev pub seats_option : Rule
seats_option = needed (number (codes "seats") 1 16)

abbrev pub socket_option : Rule
socket_option = worded (codes "socket")

abbrev pub stay_option : Rule
stay_option = flag (codes "stay")

abbrev pub idle_option : Rule
idle_option = number (codes "idle") 0 86400

abbrev pub quiet_option : Rule
quiet_option = flag (codes "quiet")

-- a command of the program, with its options
abbrev pub command : Text → List Rule → Shape
command name options = record (new_shape name) { rules = options }

abbrev pub run_command : Shape
run_command = command (codes "run") (resume_option ∷ journal_option ∷ workers_option ∷ [])

abbrev pub check_command : Shape
check_command = command (codes "check") []

abbrev pub upgrade_command : Shape
upgrade_command = command (codes "upgrade") []

abbrev pub compact_command : Shape
compact_command = command (codes "compact") (file_word ∷ [])

abbrev pub serve_command : Shape
serve_command = command (codes "serve")
    (port_option ∷ seats_option ∷ stay_option ∷ socket_option ∷ idle_option ∷ quiet_option ∷ resume_option ∷ journal_option ∷ workers_option ∷ [])

-- the commands of the program: one more is a line here and a line of `Means`
abbrev pub commands : List Shape
commands = run_command ∷ check_command ∷ upgrade_command ∷ compact_command ∷ serve_command ∷ []

-- the program: it has a version, and one of its commands has to be named
abbrev pub program : App
program = record {
  top = record (new_shape (codes "workbook")) { is_leaf = false; has_version = true; subcommand_required = true };
  subs = commands;
}

-- ---- what a command asks for

-- the text writes the number in decimal digits, and the number has at most so many bits
abbrev pub Writes : ℕ → Text → ℕ → Type 0
Writes bits text n = IsNumeral 10 (without_leading_plus text)
    × (digits_value 10 (without_leading_plus text) < 2 ^ bits) × (n ≡ digits_value 10 (without_leading_plus text))

-- the number is what was found for the option
abbrev pub HasNumber : ℕ → Text → List Row → ℕ → Type 0
HasNumber bits name found n = IsSomeAnd (one_of name found) (λ text. Writes bits text n)

-- the same of the number of workers, which is 1 where none was found
abbrev pub HasWorkers : List Row → ℕ → Type 0
HasWorkers found n = ((one_of (codes "workers") found ≡ None) × (n ≡ 1)) ⊎ HasNumber 8 (codes "workers") found n

-- the flag was found, and set
abbrev pub is_set : Text → List Row → Bool
is_set name found = option_map_or (λ text. bytes_eq text (codes "true")) (one_of name found) false

-- the word that was found for the name, if one was
abbrev pub word_of : Text → List Row → Option Text
word_of name found = first_of name found

-- the number is what was found for the option, if something was
abbrev pub IsOptional : ℕ → Text → List Row → Option ℕ → Type 0
IsOptional bits name found None = one_of name found ≡ None
IsOptional bits name found (Some n) = HasNumber bits name found n

-- where a desk listens: the port that was found, or the word for a socket, and never both
abbrev pub IsPlace : List Row → Place → Type 0
IsPlace found (Port port) = HasNumber 16 (codes "port") found port × (word_of (codes "socket") found ≡ None)
IsPlace found (Socket path) = (one_of (codes "port") found ≡ None) × (word_of (codes "socket") found ≡ Some path)

-- the place and the numbers of a desk are those that were found for its options
abbrev pub IsDesk : List Row → Place → ℕ → ℕ → Type 0
IsDesk found place seats workers = IsPlace found place × HasNumber 8 (codes "seats") found seats × HasWorkers found workers

-- the number of seconds of an idle connection, which is 300 where nothing was found
abbrev pub HasIdle : List Row → ℕ → Type 0
HasIdle found n = (o : Option ℕ) × IsOptional 32 (codes "idle") found o × (n ≡ unwrap_or o 300)

-- a desk of one day: none of the options was found that a desk has which stays
abbrev pub IsDay : List Row → Type 0
IsDay found = (is_set (codes "stay") found ≡ false) × (one_of (codes "idle") found ≡ None) × (is_set (codes "quiet") found ≡ false)

-- what the command of this name asks for that comes to its own end, where this was found for its options
abbrev pub Means : Text → List Row → Asked → Type 0
Means name found (Run resume workers) =
    (name ≡ codes "run") × (resume ≡ is_set (codes "resume") found) × (word_of (codes "journal") found ≡ None) × HasWorkers found workers
Means name found (RunKept journal resume workers) =
    (name ≡ codes "run") × (resume ≡ is_set (codes "resume") found) × (word_of (codes "journal") found ≡ Some journal) × HasWorkers found workers
Means name found Check = name ≡ codes "check"
Means name found Upgrade = name ≡ codes "upgrade"
Means name found (Compact journal) = (name ≡ codes "compact") × (word_of (codes "file") found ≡ Some journal)
Means name found (Serve port seats resume workers) =
    (name ≡ codes "serve") × (resume ≡ is_set (codes "resume") found) × (word_of (codes "journal") found ≡ None) × IsDay found × IsDesk found (Port port) seats workers
Means name found (ServeKept journal port seats workers) =
    (name ≡ codes "serve") × (is_set (codes "resume") found ≡ false) × (word_of (codes "journal") found ≡ Some journal) × IsDay found
    × IsDesk found (Port port) seats workers

-- the place and the numbers of a desk that stays are those that were found for its options, and whether it is quiet is told
abbrev pub IsStay : List Row → Stay → Type 0
IsStay found s = (is_set (codes "stay") found ≡ true) × (is_set (codes "resume") found ≡ false) × HasIdle found s.idle
    × IsDesk found s.place s.seats s.workers × (s.quiet ≡ is_set (codes "quiet") found)

-- what the command of this name asks for
abbrev pub MeansAny : Text → List Row → Wanted → Type 0
MeansAny name found (wanted.Once asked) = Means name found asked
MeansAny name found (wanted.Stay stay) = (name ≡ codes "serve") × (word_of (codes "journal") found ≡ None) × IsStay found stay
MeansAny name found (wanted.StayKept journal stay) = (name ≡ codes "serve") × (word_of (codes "journal") found ≡ Some journal) × IsStay found stay

-- the same of the command that the words name, if they name one
abbrev pub IsMeant : Option (Text × List Row) → Wanted → Type 0
IsMeant named asked = IsSomeAnd named (λ p. MeansAny p.0 p.1 asked)

-- the words, the program's own name first, ask for this: clap refuses nothing of them, and the command that they name
-- means it
abbrev pub Asks : List Text → Wanted → Type 0
Asks words asked = (fault_of program words ≡ []) × IsMeant (subcommand_of program words) asked

-- ---- what asks for nothing

-- a call for help or for the version
abbrev pub IsRequest : ErrorKind → Type 0
IsRequest kind = (kind ≡ DisplayHelp) ⊎ (kind ≡ DisplayVersion)

-- clap finds a fault of this kind in the words
abbrev pub HasFault : List Text → ErrorKind → Type 0
HasFault words kind = IsAmong kind (fault_of program words)

-- clap finds a fault of this kind in the words, and it is no call for help
abbrev pub HasMistake : List Text → ErrorKind → Type 0
HasMistake words kind = HasFault words kind × (IsRequest kind → ⊥)

-- clap finds no fault in the words, and what it finds asks for nothing
abbrev pub AsksNothing : List Text → Type 0
AsksNothing words = (fault_of program words ≡ []) × ((asked : Wanted) → IsMeant (subcommand_of program words) asked → ⊥)

-- which options of a desk that stays don't go together, or are missing
abbrev pub misfit_of_stay : (resume port socket : Bool) → Misfit
misfit_of_stay true port socket = misfits.StayAndResume
misfit_of_stay false true true = misfits.PortAndSocket
misfit_of_stay false false false = misfits.NoPlace
misfit_of_stay false true false = misfits.Other
misfit_of_stay false false true = misfits.Other

-- the same of a desk of one day on a port
abbrev pub misfit_of_day : (idle quiet resume journal : Bool) → Misfit
misfit_of_day true quiet resume journal = misfits.Idle
misfit_of_day false true resume journal = misfits.Quiet
misfit_of_day false false true true = misfits.JournalAndResume
misfit_of_day false false true false = misfits.Other
misfit_of_day false false false journal = misfits.Other

-- the same of a desk of one day
abbrev pub misfit_of_place : (socket port idle quiet resume journal : Bool) → Misfit
misfit_of_place true port idle quiet resume journal = misfits.Socket
misfit_of_place false false idle quiet resume journal = misfits.NoPort
misfit_of_place false true idle quiet resume journal = misfit_of_day idle quiet resume journal

-- the same of a desk, by whether it stays
abbrev pub misfit_by : (stay socket port idle quiet resume journal : Bool) → Misfit
misfit_by true socket port idle quiet resume journal = misfit_of_stay resume port socket
misfit_by false socket port idle quiet resume journal = misfit_of_place socket port idle quiet resume journal

-- a word was found for the name
abbrev pub has : Text → List Row → Bool
has name found = is_some (word_of name found)

-- the same of what was found for the options of a desk
abbrev pub misfit_of : List Row → Misfit
misfit_of found = misfit_by (is_set (codes "stay") found) (has (codes "socket") found) (has (codes "port") found) (has (codes "idle") found)
    (is_set (codes "quiet") found) (is_set (codes "resume") found) (has (codes "journal") found)

-- what doesn't fit of the command that the words name: nothing is told of one that is no desk
abbrev pub IsMisfit : Option (Text × List Row) → Misfit → Type 0
IsMisfit None why = why ≡ misfits.Other
IsMisfit (Some p) why = ((p.0 ≡ codes "serve") × (why ≡ misfit_of p.1)) ⊎ ((p.0 ≢ codes "serve") × (why ≡ misfits.Other))

-- why the words ask for nothing; want of memory has no cause
abbrev pub Refuses : List Text → CommandErr → Type 0
Refuses words (Help shown) = HasFault words (kind_of shown) × IsRequest (kind_of shown)
Refuses words (BadCommandLine shown) = HasMistake words (kind_of shown)
Refuses words (NothingMeant why) = AsksNothing words × IsMisfit (subcommand_of program words) why
Refuses words NoMemory = ⊤

-- an error of clap's, as the program tells it
abbrev pub Tells : Error → CommandErr → Type 0
Tells error (Help shown) = (shown ≡ error) × IsRequest (kind_of error)
Tells error (BadCommandLine shown) = (shown ≡ error) × (IsRequest (kind_of error) → ⊥) × (kind_of error ≢ OutOfMemory)
Tells error (NothingMeant why) = ⊥
Tells error NoMemory = kind_of error ≡ OutOfMemory
