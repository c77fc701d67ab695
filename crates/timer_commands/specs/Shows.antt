-- What `show` shows: the pending timers that it keeps, at the ticks that it covers.
use Rattle.std.specs.Prelude.{◌==◌, ℕ, Bool, true, ◌&&◌, nat_le, if◌then◌else◌, Option, None, Some}
use Rattle.timer_base.specs.declared.timer.Timer.{Timer}
use Rattle.timer_commands.specs.declared.shows.Shows.{Shows}
use Rattle.timer_commands.specs.declared.shows.Filter.{Filter}

-- the number is the one that is wanted, if one is
abbrev pub is_wanted : Option ℕ → ℕ → Bool
is_wanted None n = true
is_wanted (Some wanted) n = wanted == n

-- the timer is kept: it is of the client, and has the serial, if one is named, and is not too old
abbrev pub is_kept : Filter → Timer → Bool
is_kept filter t = is_wanted filter.client t.client && (is_wanted filter.timer t.serial && nat_le filter.least t.serial)

-- the tick is not before another, if one is named
abbrev pub is_from : Option ℕ → ℕ → Bool
is_from None tick = true
is_from (Some first) tick = nat_le first tick

-- the tick is not after another, if one is named
abbrev pub is_to : Option ℕ → ℕ → Bool
is_to None tick = true
is_to (Some last) tick = nat_le tick last

-- something is shown at this tick
abbrev pub is_covered : Shows → ℕ → Bool
is_covered shows tick = is_from shows.from tick && is_to shows.to tick

-- what is kept after a line, before which the next serial was this one
abbrev pub filter_after : Shows → ℕ → Filter
filter_after shows serial =
    record { client = shows.client; timer = shows.timer; least = if shows.new then serial else 0 }

-- what is kept of timers that move
abbrev pub filter_of_moves : Shows → Filter
filter_of_moves shows = record { client = shows.client; timer = shows.timer; least = 0 }
