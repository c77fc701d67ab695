-- A reader and a writer, as the two directions of a peer.
use Rattle.std.specs.Prelude.{ℕ, List, Option, None}
use Rattle.timer_script.specs.Types.{Streams, Watched}
use Rattle.timer_script.specs.Watched.{inner_of, has_failed}
use Rattle.timer_script.specs.Peer.{PeerState}

-- what is known of both; in which order they were called is not known
abbrev pub streams_state : {R S : Type 0} → (R → Option (List ℕ)) → (S → Option (List ℕ)) → Watched R
    → Watched S → PeerState
streams_state remaining contents reader writer = record {
  origin = None;
  remaining = remaining (inner_of reader);
  contents = contents (inner_of writer);
  calls = None;
  read_failed = has_failed reader;
  write_failed = has_failed writer;
}

-- how the bytes of a reader and of a writer are known
pub record Known (R S : Type 0) : Type 0 where
  pub remaining : R → Option (List ℕ)
  pub contents : S → Option (List ℕ)

-- the bytes that the reader has still to give, and those that the writer took
abbrev pub unread_of : {R S : Type 0} → Known R S → Streams R S → Option (List ℕ)
unread_of known streams = known.remaining (inner_of streams.reader)

abbrev pub taken_by : {R S : Type 0} → Known R S → Streams R S → Option (List ℕ)
taken_by known streams = known.contents (inner_of streams.writer)
