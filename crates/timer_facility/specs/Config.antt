-- The ranges of a facility's configuration.
use Rattle.std.specs.Prelude.{◌≤◌, ℕ, Bool, ◌||◌, nat_lt, if◌then◌else◌, Option, Some, None}
use Rattle.timer_facility.specs.Types.{LAST, MAX_CLIENTS, MAX_PENDING, Config}
use Rattle.timer_facility.specs.declared.config.ConfigFault.{ConfigFault}
use Rattle.timer_facility.specs.declared.config.ConfigFault.TheVariants.{Clients, Capacity, FirstTick, FirstSerial, FirstNumber}

-- the number is not one from the lowest to the highest
abbrev pub is_outside : ℕ → ℕ → ℕ → Bool
is_outside lowest highest n = nat_lt n lowest || nat_lt highest n

-- which number is out of range, if one is: the first that is
unfoldable pub config_fault : Config → Option ConfigFault
config_fault c =
    if is_outside 1 MAX_CLIENTS c.clients then Some Clients
    else if is_outside 1 MAX_PENDING c.capacity then Some Capacity
    else if is_outside 0 LAST c.first_tick then Some FirstTick
    else if is_outside 1 LAST c.first_serial then Some FirstSerial
    else if is_outside 1 LAST c.first_number then Some FirstNumber
    else None

-- each number is in its range
pub record IsInRange (c : Config) : Type 0 where
  pub one_client : 1 ≤ c.clients
  pub few_clients : c.clients ≤ MAX_CLIENTS
  pub some_capacity : 1 ≤ c.capacity
  pub capacity_in_range : c.capacity ≤ MAX_PENDING
  pub tick_in_range : c.first_tick ≤ LAST
  pub serial_from_one : 1 ≤ c.first_serial
  pub serial_in_range : c.first_serial ≤ LAST
  pub number_from_one : 1 ≤ c.first_number
  pub number_in_range : c.first_number ≤ LAST
