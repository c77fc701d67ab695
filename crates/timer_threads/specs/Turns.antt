-- The turns of a client, one after the other.
use Rattle.std.specs.Prelude.{ℕ, ◌&&◌, Bool, List, is_none, option_to_list}
use Rattle.std.specs.List.{flat_map, suffix_len}
use Rattle.timer_threads.specs.Types.{Numbered, Word, Turn}

-- the request that was sent in a turn, if there is one
abbrev pub sent_in : Turn → List Numbered
sent_in turn = option_to_list turn.sent

-- the word that was received in a turn, if there is one
abbrev pub received_in : Turn → List Word
received_in turn = option_to_list turn.received

-- the requests that were sent in these turns
abbrev pub requests_of : List Turn → List Numbered
requests_of turns = flat_map sent_in turns

-- the words that were received in these turns
abbrev pub words_of : List Turn → List Word
words_of turns = flat_map received_in turns

-- a turn in which nothing was sent or received
abbrev pub is_idle : Turn → Bool
is_idle turn = is_none turn.sent && is_none turn.received

-- how many of the last turns were idle, one after another
abbrev pub idle_at_end : List Turn → ℕ
idle_at_end turns = suffix_len is_idle turns
