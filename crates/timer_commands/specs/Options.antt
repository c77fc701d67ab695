-- The options of `play`, `serve` and `show`, and when they are refused.
use Rattle.std.specs.Prelude.{◌≡◌, ℕ, ◌<◌, ◌≤◌, ◌⊎◌, List, codes, None, Some}
use Rattle.timer_base.specs.declared.limits.TheConstants.{LAST}
use Rattle.timer_base.specs.Layout.{Layout, NoSlots, OneWheel}
use Rattle.timer_facility.specs.declared.config.Config.{Config}
use Rattle.timer_facility.specs.Config.{config_fault}
use Rattle.timer_wheels.specs.declared.table.Table.TheVariants as table
use Rattle.timer_wheels.specs.Tables.{layout_of_table, smooth_layout}
use Rattle.timer_commands.specs.declared.options.Scheme.{Scheme}
use Rattle.timer_commands.specs.declared.options.RunOptions.{RunOptions}
use Rattle.timer_commands.specs.declared.options.OptionsFault.{OptionsFault}
use Rattle.timer_commands.specs.declared.options.OptionsFault.TheVariants as faults
-- made by tools/facts: definitions of schemes
use Rattle.timer_wheels.specs.declared.table.TheConstants.{LAST_OF_CLOCK}
use Rattle.timer_commands.specs.declared.options.Scheme.TheVariants.{Plain, Hashed, Hier, Clock, Smooth}

-- the name of a scheme among the arguments
abbrev pub name_of : Scheme → List ℕ
name_of Plain = codes "plain"
name_of Hashed = codes "hashed"
name_of Hier = codes "hier"
name_of Clock = codes "clock"
name_of Smooth = codes "smooth"

-- how the slots of a scheme's wheel are laid out, where the options give this number of them for the hashed one
abbrev pub scheme_layout : Scheme → ℕ → Layout
scheme_layout Plain slots = NoSlots
scheme_layout Hashed slots = OneWheel slots
scheme_layout Hier slots = layout_of_table table.Wide
scheme_layout Clock slots = layout_of_table table.Clock
scheme_layout Smooth slots = smooth_layout table.Wide

-- the last tick of a scheme's clock
abbrev pub scheme_last : Scheme → ℕ
scheme_last Plain = LAST
scheme_last Hashed = LAST
scheme_last Hier = LAST
scheme_last Clock = LAST_OF_CLOCK
scheme_last Smooth = LAST

-- by hand

-- the configuration of the facility: serials and request numbers begin at 1
abbrev pub config_of : RunOptions → Config
config_of options = record {
  clients = options.clients;
  capacity = options.capacity;
  first_tick = options.first_tick;
  first_serial = 1;
  first_number = 1;
}

-- each number is in its range
pub record IsPlayable (options : RunOptions) : Type 0 where
  pub config : config_fault (config_of options) ≡ None
  pub some_slots : 1 ≤ options.slots
  pub few_slots : options.slots ≤ 65536
  pub first_tick : options.first_tick ≤ scheme_last options.scheme

-- why it is refused: the first test that fails
abbrev pub RefusesOptions : OptionsFault → RunOptions → Type 0
RefusesOptions (faults.Config fault) options = config_fault (config_of options) ≡ Some fault
RefusesOptions faults.Slots options = (config_fault (config_of options) ≡ None)
    × ((options.slots ≡ 0) ⊎ (65536 < options.slots))
RefusesOptions (faults.FirstTick last) options =
    (config_fault (config_of options) ≡ None) × (1 ≤ options.slots) × (options.slots ≤ 65536)
    × (last ≡ scheme_last options.scheme)
    × (last < options.first_tick)
