-- Which subcommand the arguments name, with which options, and whether they ask for help or the version.
use Rattle.std.specs.Prelude.{◌≡◌, ◌⊎◌, ℕ, Bool, true, false, nat_eq, List, [], ◌∷◌, ◌++◌, Option, None, Some, IfSome, Any, codes}
use Rattle.std.specs.List.{starts_with}
use Rattle.std.specs.Str.Parse.{digits_value, without_leading_plus}
use Rattle.clap.specs.Words.{first_value, one_text}
use Rattle.clap.specs.declared.parser.matches.Found.{Found}
use Rattle.clap.specs.declared.error.kind.ErrorKind.{ErrorKind}
use Rattle.clap.specs.declared.error.kind.ErrorKind.TheVariants as kinds
use Rattle.timer_program.specs.declared.arguments.Subcommand.{Subcommand}
use Rattle.timer_program.specs.declared.arguments.Subcommand.TheVariants.{Run, Threads, Check}
use Rattle.timer_script.specs.declared.cutter.OnBadLine.{OnBadLine}
use Rattle.timer_script.specs.declared.cutter.OnBadLine.TheVariants.{Stop, Report}
use Rattle.timer_commands.specs.declared.options.RunOptions.{RunOptions}
use Rattle.timer_commands.specs.declared.shows.Shows.{Shows}
use Rattle.timer_commands.specs.declared.verbs.Verb.TheVariants.{Play, Serve, Show}
use Rattle.timer_commands.specs.Options.{name_of}

-- the name of a subcommand, as it is typed
abbrev pub subcommand_name : Subcommand → List ℕ
subcommand_name (Run Play options) = codes "play"
subcommand_name (Run (Serve on_bad wakeups) options) = codes "serve"
subcommand_name (Run (Show shows) options) = codes "show"
subcommand_name (Threads options) = codes "threads"
subcommand_name Check = codes "check"

-- a subcommand has this name
abbrev pub IsSubcommandName : List ℕ → Type 0
IsSubcommandName name = (name ≡ codes "play") ⊎ ((name ≡ codes "serve") ⊎ ((name ≡ codes "show")
    ⊎ ((name ≡ codes "threads") ⊎ (name ≡ codes "check"))))

-- the arguments after the program's name name a subcommand by this name: by the first of them, or `play` if that is no
-- such name, or there is none
abbrev pub IsNamedBy : {S : Type 0} → (S → List ℕ) → List S → List ℕ → Type 0
IsNamedBy text [] name = name ≡ codes "play"
IsNamedBy text (first ∷ rest) name = (IsSubcommandName (text first) × (name ≡ text first))
    ⊎ ((¬ (IsSubcommandName (text first))) × (name ≡ codes "play"))

-- help or the version is asked for
abbrev pub IsShown : ErrorKind → Type 0
IsShown kind = (kind ≡ kinds.DisplayHelp) ⊎ (kind ≡ kinds.DisplayVersion)

-- the argument begins with `-h` or `-V`: alone or before other letters
abbrev pub IsShortOfText : List ℕ → Type 0
IsShortOfText argument =
    (starts_with nat_eq argument (codes "-h") ≡ true) ⊎ (starts_with nat_eq argument (codes "-V") ≡ true)

-- the argument asks for help or for the version
abbrev pub AsksForText : List ℕ → Type 0
AsksForText argument =
    (argument ≡ codes "help") ⊎ ((argument ≡ codes "--help")
    ⊎ ((argument ≡ codes "--version") ⊎ IsShortOfText argument))

-- ---- the options, by what clap found of them

-- this is the number of an option
abbrev pub IsNumberOf : Found → List ℕ → ℕ → Type 0
IsNumberOf found option n =
    (text : List ℕ) × (one_text found option ≡ Some text) × (n ≡ digits_value 10 (without_leading_plus text))

-- whether an option without a value was given
abbrev pub IsFlagGiven : Found → List ℕ → Bool → Type 0
IsFlagGiven found option given = (one_text found option ≡ None → given ≡ false)
    × (one_text found option ≡ Some (codes "true") → given ≡ true)
    × (one_text found option ≡ Some (codes "false") → given ≡ false)

-- the number of an option that may be left out
abbrev pub IsNumberIfGiven : Found → List ℕ → Option ℕ → Type 0
IsNumberIfGiven found option number = (one_text found option ≡ None → number ≡ None)
    × IfSome number (λ n. IsNumberOf found option n)

-- bad lines are reported
abbrev pub reports : OnBadLine → Bool
reports Stop = false
reports Report = true

-- the options of `play`, `serve` and `show`
pub record AreRunOptions (found : Found) (options : RunOptions) : Type 0 where
  pub scheme : first_value found (codes "scheme") ≡ Some (name_of options.scheme)
  pub slots : IsNumberOf found (codes "slots") options.slots
  pub clients : IsNumberOf found (codes "clients") options.clients
  pub capacity : IsNumberOf found (codes "capacity") options.capacity
  pub first_tick : IsNumberOf found (codes "first-tick") options.first_tick

-- those of `show` alone
pub record AreShowsOptions (found : Found) (shows : Shows) : Type 0 where
  pub counts : IsFlagGiven found (codes "counts") shows.counts
  pub moves : IsFlagGiven found (codes "moves") shows.moves
  pub new : IsFlagGiven found (codes "new") shows.new
  pub client : IsNumberIfGiven found (codes "client") shows.client
  pub timer : IsNumberIfGiven found (codes "timer") shows.timer
  pub from : IsNumberIfGiven found (codes "from") shows.from
  pub to : IsNumberIfGiven found (codes "to") shows.to

-- each option of the subcommand is the one that was found under its name
abbrev pub HasOptions : Found → Subcommand → Type 0
HasOptions found (Run Play options) = AreRunOptions found options
HasOptions found (Run (Serve on_bad wakeups) options) = AreRunOptions found options
    × IsFlagGiven found (codes "keep-going") (reports on_bad) × IsFlagGiven found (codes "wakeups") wakeups
HasOptions found (Run (Show shows) options) = AreRunOptions found options × AreShowsOptions found shows
HasOptions found (Threads options) = IsNumberOf found (codes "clients") options.clients
    × IsNumberOf found (codes "timers") options.timers
HasOptions found Check = Unit {0}

-- ---- the files

-- whether wake-ups are wanted
abbrev pub has_wakeups : Subcommand → Bool
has_wakeups (Run (Serve on_bad wakeups) options) = wakeups
has_wakeups subcommand = false

-- this is an argument, or the value of one that begins with this name of an option and an equals sign
abbrev pub IsValueAmong : {S : Type 0} → (S → List ℕ) → List S → (front value : List ℕ) → Type 0
IsValueAmong text arguments front value = (Any (λ argument. text argument ≡ value) arguments)
    ⊎ (Any (λ argument. text argument ≡ front ++ value) arguments)

-- the subcommand has a file with this name for the option that begins so: it is `serve`, and the arguments have the name
abbrev pub IsPathOf : {S : Type 0} → (S → List ℕ) → List S → (front name : List ℕ) → Subcommand → Type 0
IsPathOf text arguments front name subcommand =
    (subcommand_name subcommand ≡ codes "serve") × IsValueAmong text arguments front name
