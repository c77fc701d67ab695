-- The abstract state of the ends of a ring line, as clauses name it.
use Rattle.std.specs.Prelude.{◌≡◌, ◌≢◌, ◌<◌, ◌≤◌, [], ℕ, Bool, true, false, List, ◌++◌, if◌then◌else◌}
use Rattle.std.proofs.Common.{◌∙◌, refl}
use denote.RawPtr.{Ptr}
use Rattle.rtrb.specs.Shared.{Names}
use Rattle.rtrb.specs.declared.end.End.{End}
use Rattle.rtrb.specs.Ring.{sent, received, known_free, known_items, all_sent}
use Rattle.std.specs.declared.alloc.Global.{Global}
use Rattle.timer_desk.specs.Types.{Numbered, Request, Word, LAST, Found, RingInlet, RequestsEnded, ClientReader}
use Rattle.timer_desk.specs.declared.ring_ends.ClientEnd.{ClientEnd}
use Rattle.timer_desk.specs.declared.ring_ends.WordsEnded.{WordsEnded}
use Rattle.timer_desk.specs.declared.ring_ends.Unsent.{Unsent}
use Rattle.timer_desk.specs.declared.ring_ends.Unsent.TheVariants.{Spent, Full}
use Rattle.timer_desk.specs.declared.looks.Found.TheVariants.{Nothing, GoneThenEmpty}
use Rattle.timer_desk.specs.Looks.{found_in}
use Rattle.timer_desk.specs.Inlet.{LineState, LineKind, SameLine, SameLine-refl, SameLine-trans}

-- the identity of a ring
abbrev pub Ring : Type 0
Ring = Ptr × Ptr × Names × Global

abbrev pub ring_of : {T P : Type 0} → End T Global P → Ring
ring_of e = (e.words, e.slots, e.names, e.heap)

-- the identity of a line: its ring of requests, and its ring of words
abbrev pub Line : Type 0
Line = Ring × Ring

abbrev pub line_of_end : ClientEnd → Line
line_of_end e = (ring_of e.requests.end, ring_of e.words.end)

abbrev pub line_of_inlet : RingInlet → Line
line_of_inlet i = (ring_of i.requests.end, ring_of i.words.end)

abbrev pub requests_ring_of : RequestsEnded → Ring
requests_ring_of e = ring_of e.finished.end

abbrev pub words_ring_of : WordsEnded → Ring
words_ring_of e = ring_of e.finished.end

abbrev pub words_ring_of_reader : ClientReader → Ring
words_ring_of_reader r = ring_of r.words.end

-- all requests submitted by the client
abbrev pub submitted : ClientEnd → List Numbered
submitted e = sent e.requests

-- all words received by the client
abbrev pub received_by_end : ClientEnd → List Word
received_by_end e = received e.words

-- how many slots for requests the client knows to be free
abbrev pub free_of : ClientEnd → ℕ
free_of e = known_free e.requests

-- the words known to the client to stand in the line
abbrev pub seen_by_end : ClientEnd → List Word
seen_by_end e = known_items e.words

-- what the client's looks have found of the owner's end
abbrev pub found_by_end : ClientEnd → Found
found_by_end e = found_in e.looks

abbrev pub next_of : ClientEnd → ℕ
next_of e = e.next

-- the request under its number
abbrev pub numbered : ℕ → Request → Numbered
numbered n r = record { number = n; request = r }

-- the request is handed back: `Spent` if no number is left for it, else `Full`
abbrev pub IsUnsent : Unsent → Request → ℕ → Type 0
IsUnsent (Spent r) request next = (r ≡ request) × (LAST < next)
IsUnsent (Full r) request next = (r ≡ request) × (next ≤ LAST)

-- all requests ever submitted
abbrev pub all_submitted : RequestsEnded → List Numbered
all_submitted e = all_sent e.finished

abbrev pub got_of : RingInlet → List Numbered
got_of i = received i.requests

-- the requests standing in the line, known once it is settled
abbrev pub standing_of : RingInlet → List Numbered
standing_of i = if i.settled then known_items i.requests else []

abbrev pub given_of : RingInlet → List Word
given_of i = sent i.words

-- whether `settle` was called
abbrev pub is_settled : RingInlet → Bool
is_settled i = i.settled

-- the requests known to the owner to stand in the line
abbrev pub seen_by_inlet : RingInlet → List Numbered
seen_by_inlet i = known_items i.requests

-- how many slots for words the owner knows to be free
abbrev pub free_of_inlet : RingInlet → ℕ
free_of_inlet i = known_free i.words

-- what the owner's looks have found of the client's end
abbrev pub found_by_inlet : RingInlet → Found
found_by_inlet i = found_in i.looks

abbrev pub state_of_inlet : RingInlet → LineState
state_of_inlet i = record { got = got_of i; standing = standing_of i; given = given_of i }

-- No request arrives any more: the client's end was seen to be gone, and then no request stood in the line. All
-- requests that stand in a settled line are known, so that of it the first is enough.
pub record IsOver (i : RingInlet) : Type 0 where
  pub gone : found_by_inlet i ≢ Nothing
  pub looked : is_settled i ≡ false → found_by_inlet i ≡ GoneThenEmpty
  pub none_stands : seen_by_inlet i ≡ []

-- The line is the same one, and more may have been got and given. Nothing was found of the client's end and nothing
-- forgotten. Once settled it stays settled, and what was got followed by what stands stays the same.
pub record SameRingLine (a b : RingInlet) : Type 0 where
  pub same : SameLine line_of_inlet state_of_inlet a b
  pub found : found_by_inlet b ≡ found_by_inlet a
  pub settled : is_settled a ≡ true → (is_settled b ≡ true)
      × (got_of b ++ standing_of b ≡ got_of a ++ standing_of a)

pub SameRingLine-refl : (a : RingInlet) → SameRingLine a a
SameRingLine-refl a = record { same = SameLine-refl line_of_inlet state_of_inlet a; found = refl; settled = λ h. (h, refl) }

pub SameRingLine-trans : (a b c : RingInlet) → SameRingLine a b → SameRingLine b c → SameRingLine a c
SameRingLine-trans a b c p q = record {
  same = SameLine-trans line_of_inlet state_of_inlet a b c p.same q.same;
  found = q.found ∙ p.found;
  settled = λ h. (let k = p.settled h in ((q.settled (k.0)).0, (q.settled (k.0)).1 ∙ k.1));
}

-- ring lines as a kind of line
abbrev pub ring_lines : LineKind RingInlet
ring_lines = record {
  state = state_of_inlet;
  same = SameRingLine;
  is_full = λ i. free_of_inlet i ≡ 0;
  take_may_refuse = false;
  put_may_refuse = false;
  reflexive = SameRingLine-refl;
  transitive = SameRingLine-trans;
}

-- all words ever given
abbrev pub all_given : WordsEnded → List Word
all_given e = all_sent e.finished

abbrev pub read_by : ClientReader → List Word
read_by r = received r.words

abbrev pub is_settled_reader : ClientReader → Bool
is_settled_reader r = r.settled

-- the words known to the reader to stand in the line
abbrev pub seen_by_reader : ClientReader → List Word
seen_by_reader r = known_items r.words

-- what the reader's looks have found of the owner's end
abbrev pub found_by_reader : ClientReader → Found
found_by_reader r = found_in r.looks

-- the words standing in the line, known once it is settled
abbrev pub unread_by : ClientReader → List Word
unread_by r = if r.settled then known_items r.words else []
