-- The lines in which `show` draws the lists of a wheel: one for each list with a timer that a filter keeps.
use Rattle.std.specs.Prelude.{ℕ, zero, suc, ◌-◌, ◌/◌, ◌%◌, Bool, true, false, if◌then◌else◌, nat_lt, List, [], ◌∷◌, ◌++◌, codes, decimal, Option, Some, None}
use Rattle.std.specs.List.{filter, flat_map}
use Rattle.timer_links.specs.declared.kept.Node.{Node}
use Rattle.timer_links.specs.Lists.{list_at, KeyedLists, Rows}
use Rattle.timer_wheels.specs.Digits.{lowest_radix}
use Rattle.timer_wheels.specs.Tables.{radices}
use Rattle.timer_commands.specs.declared.render.names.Naming.{Naming}
use Rattle.timer_commands.specs.declared.render.names.Naming.TheVariants as namings
use Rattle.timer_commands.specs.declared.shows.Filter.{Filter}
use Rattle.timer_commands.specs.Shows.{is_kept}

-- the rows whose timers are kept
abbrev pub kept_rows : Filter → Rows → Rows
kept_rows kept rows = filter (λ row. is_kept kept row.1.timer) rows

-- there is a row
abbrev pub has_row : Rows → Bool
has_row [] = false
has_row (row ∷ rows) = true

-- timers are shown with their rounds
abbrev pub shows_rounds : Naming → Bool
shows_rounds namings.Slots = true
shows_rounds (namings.Wheels table) = false
shows_rounds namings.Turns = false
shows_rounds namings.Clock = false

-- the rounds of a timer, if they are shown
abbrev pub rounds_text : Bool → ℕ → List ℕ
rounds_text true rounds = codes ":" ++ decimal rounds
rounds_text false rounds = []

-- the serial of a timer, and its rounds if they are shown
abbrev pub node_text : Naming → Node → List ℕ
node_text naming node = (codes " " ++ decimal node.timer.serial) ++ rounds_text (shows_rounds naming) node.rounds

-- how many buckets were visited, if the wheel counts these
abbrev pub visits_text : Option ℕ → List ℕ
visits_text None = []
visits_text (Some visits) = codes " visits " ++ decimal visits

-- the line of what a wheel counted
abbrev pub work_line : ℕ → ℕ → Option ℕ → List ℕ
work_line starts moves visits =
    (((codes "  starts " ++ decimal starts) ++ (codes " moves " ++ decimal moves)) ++ visits_text visits) ++ codes "\n"

-- the timers of some rows
abbrev pub rows_text : Naming → Rows → List ℕ
rows_text naming rows = flat_map (λ row. node_text naming row.1) rows

-- the wheel and the slot of a list, if each wheel has so many slots
abbrev pub slot_name : ℕ → ℕ → List ℕ
slot_name slots list = (codes " wheel " ++ decimal (list / slots)) ++ (codes " slot " ++ decimal (list % slots))

-- the hand of a clock, and its slot
abbrev pub hand_name : ℕ → List ℕ
hand_name list =
    if nat_lt list 60 then codes " second " ++ decimal list
    else if nat_lt list 120 then codes " minute " ++ decimal (list - 60)
    else if nat_lt list 144 then codes " hour " ++ decimal (list - 120)
    else codes " day " ++ decimal (list - 144)

-- the name of the bucket that is this list
abbrev pub bucket_name : Naming → ℕ → List ℕ
bucket_name namings.Slots list = codes " slot " ++ decimal list
bucket_name (namings.Wheels table) list = slot_name (lowest_radix (radices table)) list
bucket_name namings.Turns list = slot_name 128 list
bucket_name namings.Clock list = hand_name list

-- the name of a list and its rows, up to the end of the line
abbrev pub list_end : Naming → ℕ → Rows → List ℕ
list_end naming list rows = ((bucket_name naming list ++ codes ":") ++ rows_text naming rows) ++ codes "\n"

-- the line of a list, if it has a row
abbrev pub list_line : Bool → Naming → ℕ → Rows → List ℕ
list_line false naming list rows = []
list_line true naming list rows = codes " " ++ list_end naming list rows

-- the lines of the first n lists, of the timers that are kept
abbrev pub lines_below : Naming → Filter → KeyedLists → ℕ → List ℕ
lines_below naming kept lists zero = []
lines_below naming kept lists (suc n) =
    let rows = kept_rows kept (list_at n lists) in
    lines_below naming kept lists n ++ list_line (has_row rows) naming n rows
