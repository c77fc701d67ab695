-- What serving did, turn after turn, and how it ends.
use Rattle.std.proofs.Common.{◌≡◌, ℕ, ◌≤◌, Bool, true, false, List, [], ◌++◌, length, take, drop, inl, inr, refl, sym, ap, subst, ◌∙◌, arith, append_assoc, append-nil, take-append-drop, Option, None, Result, Ok, Err, Some}
use Rattle.std.specs.Io.KnownBytes.{IsAtEnd}
use Rattle.std.proofs.lemmas.List.{take-append-le, take-take}
use Rattle.timer_script.specs.Types.{Event, TurnFault, ServeFault, PIECE, OnBadLine, Cutter, Watched}
use Rattle.timer_facility.specs.State.{FacilityState, IsSound}
use Rattle.timer_facility.proofs.PlayedLemmas.{IsPlayed-run}
use Rattle.timer_script.specs.declared.fault.TurnFault.TheVariants as turns
use Rattle.timer_script.specs.declared.fault.ServeFault.TheVariants as faults
use Rattle.timer_script.specs.Fault.{serve_fault}
use Rattle.timer_script.specs.Text.{lines_of}
use Rattle.timer_script.specs.SavedText.{dump_text}
use Rattle.timer_script.specs.Cutter.{HasSeenPart, HasReachedEnd, HasTakenIn, UnlessStopped}
use Rattle.timer_script.specs.Peer.{PeerState, PeerCall, Gives}
use Rattle.timer_script.specs.Service.{AreGood, HasSentText, HasSentPart, is_flushed, last_line, StopsTurn, HasTold, StopsTelling, IsPrompt, Server, Sides, HasAnsweredSoFar, HasAnsweredAll, HasServedPeer, HasServedSoFar}
use Rattle.timer_script.proofs.CutterLemmas.{seen_part, seen_whole, piece_seen, passed_none}
use Rattle.timer_script.proofs.PeerLemmas.{known_prompt, talked_wrote}
use Rattle.timer_script.proofs.ServicePieces.{so_none, so_some, so_read, so_part, so_told}

-- what is answered so far by a server
abbrev pub SoFar : {F : Type 0} → Server F → List ℕ → List Event → (old new : PeerState) → FacilityState → Type 0
SoFar S = HasAnsweredSoFar S.on_bad S.Adds S.before

-- ---- a state that is told

-- the peer was told it, or not
abbrev pub after_told : {F : Type 0} {S : Server F} {cutter : Cutter} {old before : Sides F} {s : FacilityState} {q : PeerState}
    (t : FacilityState) → HasServedSoFar S cutter old before s → t ≡ s → HasTold (dump_text s) before.peer q
    → HasServedSoFar S cutter old (record { peer = q; faults = before.faults }) t
after_told {S = S} {old = old} {q = q} t h same told = record {
  came = h.came;
  events = h.events;
  taken = h.taken;
  so_far = subst (SoFar S h.came h.events old.peer q) (sym same) (so_told h.so_far h.taken.passed.passes told);
}

-- it could not be told
pub untold : {F : Type 0} {S : Server F} {cutter : Cutter} {old before : Sides F} {s : FacilityState} (fault : ServeFault) (q : PeerState)
    → HasServedSoFar S cutter old before s → AreGood before.peer → StopsTelling fault (dump_text s) before.peer q
    → HasServedPeer S old (record { peer = q; faults = before.faults }) (Err fault)
untold {S = S} {s = s} faults.Read q h good stops = (
  s,
  record {
    came = h.came;
    events = h.events;
    passed = h.taken.passed;
    so_far = so_told h.so_far h.taken.passed.passes stops.0;
  },
  stops.1,
  stops.2,
)
untold {S = S} {old = old} {before = before} {s = s} faults.OutOfMemory q h good stops =
    subst (λ p. HasServedPeer S old (record { peer = p; faults = before.faults }) (Err faults.OutOfMemory)) (sym stops) (
      record {
        came = h.came;
        events = h.events;
        passed = seen_part [] (append-nil h.came) h.taken.passed;
        some = so_some h.so_far;
      },
      good,
    )
untold (faults.Bad n) q h good stops = absurd stops
untold faults.Write q h good stops = absurd stops
untold faults.TooLong q h good stops = absurd stops

-- ---- one turn

-- out of memory before anything was read
pub served_nothing : {F : Type 0} (S : Server F) (p : PeerState) (w : Watched F) → AreGood p
    → HasServedPeer S (record { peer = p; faults = w }) (record { peer = p; faults = w }) (Err faults.OutOfMemory)
served_nothing {F} S p w good = (
  record {
    came = [];
    events = [];
    passed = seen_part [] refl (passed_none S.on_bad S.contents w);
    some = so_some (so_none S.on_bad S.Adds S.before p);
  },
  good,
)

-- bytes were read into a buffer, of which none was taken in
pub turn_read : {E F : Type 0} {S : Server F} {cutter : Cutter} {old before : Sides F} {s : FacilityState} {q : PeerState} {n : ℕ}
    {buffer : List ℕ} (len : ℕ) (rest now : List ℕ) → len ≡ PIECE → length buffer ≡ len → now ≡ take len (buffer ++ rest)
    → (h : HasServedSoFar S cutter old before s) → Gives {E = E} before.peer (Ok n) buffer q
    → SoFar S (h.came ++ take n now) h.events old.peer q s
turn_read {n = n} {buffer = buffer} len rest now room all same h gives =
    let within : n ≤ length buffer = gives.within.0 in
    let read : take n now ≡ take n buffer = ap (take n) same ∙ take-take n len (buffer ++ rest) (omega arith)
    ∙ take-append-le n buffer rest within in
    rw read (so_read h.so_far h.taken.passed.passes (omega arith) gives)

-- the last bytes that came were not taken in
pub piece_lost : {F : Type 0} {S : Server F} {cutter : Cutter} {old before : Sides F} {s : FacilityState} (all piece : List ℕ) (now : Sides F)
    → (h : HasServedSoFar S cutter old before s) → h.came ++ piece ≡ all → SoFar S all h.events old.peer now.peer s
    → now.faults ≡ before.faults → AreGood now.peer → HasServedPeer S old now (Err faults.OutOfMemory)
piece_lost {S = S} {old = old} all piece now h parts so same good = (
  record {
    came = all;
    events = h.events;
    passed = subst (λ z. HasSeenPart S.on_bad S.contents old.faults z all h.events) (sym same) (seen_part piece parts h.taken.passed);
    some = so_some so;
  },
  good,
)

-- its events were not all answered
pub piece_stopped : {F : Type 0} {S : Server F} {cutter : Cutter} {old before : Sides F} {s : FacilityState} {q : PeerState}
    {came : List ℕ} {earlier : List Event} → HasServedSoFar S cutter old before s → (fault : TurnFault) (new : Cutter) (stop : Option ℕ)
    (now : Sides F) (events events' : List Event) → events ≡ events' → SoFar S came earlier old.peer q s
    → UnlessStopped stop (HasTakenIn S.on_bad new S.contents old.faults now.faults) S.on_bad old.faults now.faults came
    (earlier ++ events') → StopsTurn S.Adds fault events s q now.peer → HasServedPeer S old now (Err (serve_fault fault))
piece_stopped {S = S} {old = old} {s = s} {q = q} {came = came} {earlier = earlier} h fault new stop now events events' is so taken stops =
    go fault (subst (λ es. StopsTurn S.Adds fault es s q now.peer) is stops)
  where
    go : (fault : TurnFault) → StopsTurn S.Adds fault events' s q now.peer → HasServedPeer S old now (Err (serve_fault fault))
    go turns.OutOfMemory stops = (
      record {
        came = came;
        events = earlier ++ events';
        passed = seen_whole (piece_seen new stop came (earlier ++ events') taken);
        some = so_part so stops.0;
      },
      stops.1,
    )
    go turns.Write stops = (
      inl (
        stops.0,
        stops.1,
        record {
          came = came;
          events = earlier ++ events';
          passed = piece_seen new stop came (earlier ++ events') taken;
          some = so_part so stops.2;
        },
      ),
      stops.3,
      stops.4,
    )

-- a bad line ends the stream
pub bad_at : {F : Type 0} {S : Server F} {cutter : Cutter} {old before : Sides F} {s t : FacilityState} {came : List ℕ}
    {events : List Event} → HasServedSoFar S cutter old before s → (stop : Option ℕ) (n : ℕ) (now : Sides F)
    (Holds : List ℕ → List Event → Type 0) → stop ≡ Some n
    → UnlessStopped stop Holds S.on_bad old.faults now.faults came events → AreGood now.peer → SoFar S came events old.peer now.peer t
    → HasServedPeer S old now (Err (faults.Bad n))
bad_at {S = S} {old = old} {t = t} {came = came} {events = events} h stop n now Holds is taken good so =
    let stopped = subst (λ z. UnlessStopped z Holds S.on_bad old.faults now.faults came events) is taken in
    (stopped.stop, stopped.untouched, t, record { came = came; events = events; passed = stopped.stopped; so_far = so }, good)

-- none does
pub unstopped : {F : Type 0} (Holds : List ℕ → List Event → Type 0) (o : OnBadLine) (w v : Watched F) (came : List ℕ) (events : List Event)
    (stop : Option ℕ) → stop ≡ None → UnlessStopped stop Holds o w v came events → Holds came events
unstopped Holds o w v came events stop is h = subst (λ z. UnlessStopped z Holds o w v came events) is h

-- a read failed
pub read_failed : {E F : Type 0} {S : Server F} {cutter : Cutter} {old before : Sides F} {s : FacilityState} {e : E} {buffer : List ℕ}
    (q : PeerState) (len : ℕ) → HasServedSoFar S cutter old before s → len ≡ PIECE → length buffer ≡ len → q.read_failed ≡ true
    → q.write_failed ≡ false → Gives before.peer (Err e) buffer q
    → HasServedPeer S old (record { peer = q; faults = before.faults }) (Err faults.Read)
read_failed {S = S} {old = old} {s = s} q len h room all failed good gives = (
  s,
  record {
    came = h.came;
    events = h.events;
    passed = h.taken.passed;
    so_far = subst (λ z. SoFar S z h.events old.peer q s) (append-nil h.came) (so_read h.so_far h.taken.passed.passes (omega arith) gives);
  },
  failed,
  good,
)

-- ---- how serving ends

-- what was sent and the end line are the whole answer, with what is added
whole : {F : Type 0} {S : Server F} {cutter : Cutter} {old before : Sides F} {s : FacilityState} (h : HasServedSoFar S cutter old before s)
    (q : PeerState) → IsSound S.before → IsAtEnd before.peer.remaining → q.remaining ≡ before.peer.remaining
    → HasAnsweredAll S q h.events (h.so_far.sent ++ last_line s)
whole {S = S} {s = s} h q sound at_end same =
    let a = h.so_far.answered in
    record {
      at_end = subst IsAtEnd (sym same) at_end;
      answer = lines_of a.outs ++ last_line s;
      answered = record {
        outs = a.outs;
        after = s;
        played = IsPlayed-run S.before h.events a.outs s sound a.runs;
        lines = refl;
      };
      decorated = h.so_far.sent;
      added = a.added;
      text_is = refl;
    }

-- the end line was not written completely
pub end_unsent : {F : Type 0} {S : Server F} {cutter : Cutter} {old before : Sides F} {s : FacilityState} {clean : Bool} {w : Watched F}
    {q : PeerState} (h : HasServedSoFar S cutter old before s) → HasReachedEnd S.on_bad clean S.contents old.faults w h.came h.events
    → AreGood before.peer → IsAtEnd before.peer.remaining → IsSound S.before → HasSentPart before.peer (last_line s) q
    → HasServedPeer S old (record { peer = q; faults = w }) (Err faults.Write)
end_unsent {S = S} {s = s} {clean = clean} {q = q} h ended good at_end sound part =
    let sent : List ℕ = h.so_far.sent in
    let front : List ℕ = take part.count (last_line s) in
    let rest : List ℕ = drop part.count (last_line s) in
    let cut : sent ++ last_line s ≡ (sent ++ front) ++ rest = simp (append_assoc, take-append-drop) refl in
    let flushed : Bool = is_flushed true part.written.calls in (
      inr (
        h.came,
        h.events,
        sent ++ front,
        rest,
        flushed,
        clean,
        ended,
        subst (HasAnsweredAll S q h.events) cut (whole h q sound at_end part.written.remaining),
        talked_wrote flushed h.so_far.talked part.written refl,
      ),
      part.written.reading ∙ good.reading,
      part.failed,
    )

-- it was
pub end_served : {F : Type 0} {S : Server F} {cutter : Cutter} {old before : Sides F} {s : FacilityState} {clean : Bool} {w : Watched F}
    {q : PeerState} (h : HasServedSoFar S cutter old before s) → HasReachedEnd S.on_bad clean S.contents old.faults w h.came h.events
    → AreGood before.peer → IsAtEnd before.peer.remaining → IsSound S.before → HasSentText before.peer (last_line s) q
    → HasServedPeer S old (record { peer = q; faults = w }) (Ok clean)
end_served {s = s} {q = q} h ended good at_end sound sent = (
  h.came,
  h.events,
  h.so_far.sent ++ last_line s,
  ended,
  whole h q sound at_end sent.written.remaining,
  talked_wrote true h.so_far.talked sent.written sent.flushed,
  record { reading = sent.written.reading ∙ good.reading; writing = sent.good },
)

-- ---- calls that are known

-- calls that are known are prompt, however serving ended
pub prompt : {F : Type 0} (S : Server F) (old new : Sides F) (result : Result Bool ServeFault) (calls : List PeerCall)
    → old.peer.calls ≡ Some [] → new.peer.calls ≡ Some calls → HasServedPeer S old new result
    → IsPrompt S.on_bad S.Adds S.before calls
prompt S old new (Ok clean) calls none is h = known_prompt calls none is h.5
prompt S old new (Err faults.Read) calls none is h = known_prompt calls none is h.1.so_far.talked
prompt S old new (Err (faults.Bad n)) calls none is h = known_prompt calls none is h.3.so_far.talked
prompt S old new (Err faults.OutOfMemory) calls none is h = known_prompt calls none is h.0.some.talked
prompt S old new (Err faults.Write) calls none is h = elim h.0 [
  | inl x ↦ known_prompt calls none is x.2.some.talked
  | inr x ↦ known_prompt calls none is x.8
]
prompt S old new (Err faults.TooLong) calls none is h = known_prompt calls none is h.1.so_far.talked
