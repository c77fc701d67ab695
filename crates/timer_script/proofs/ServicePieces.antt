-- The answers to some events, and what is added to them: played and written.
use Rattle.std.proofs.Common.{◌≡◌, ℕ, ◌≤◌, true, false, List, [], ◌∷◌, ◌++◌, length, take, drop, take-append-drop, ◌+◌, inl, refl, sym, ap, subst, ◌∙◌, append_assoc, append-nil, Bool, Result}
use Rattle.std.proofs.lemmas.Grind.{flat_map-append}
use Rattle.timer_script.specs.Types.{Event, FacilityState, TurnFault, PIECE, OnBadLine}
use Rattle.timer_facility.proofs.PlayedLemmas.{IsRun-none, IsRun-join}
use Rattle.timer_script.specs.declared.fault.TurnFault.TheVariants as turns
use Rattle.timer_script.specs.Text.{out_line, lines_of}
use Rattle.timer_script.specs.SavedText.{dump_text}
use Rattle.timer_script.specs.Decorator.{Decoration, HasGrownAfter, AddsNothing, AreDecorated, EndsRead, AreReadsDecorated, AreDecoratedByReads, events_in, HasGrownByAnswer}
use Rattle.timer_script.specs.Cutter.{PassesEvents}
use Rattle.timer_script.specs.Peer.{PeerState, Gives, count_in}
use Rattle.timer_script.specs.Service.{is_flushed, HasAnsweredEvents, IsBegun, HasAnsweredPart, HasAnsweredRead, HasAnsweredReads, HasAnsweredSomeReads, GrowsBy, HasSentBut, HasSentPart, StopsTurn, IsAnsweredWith, IsStateAfter, HasAnsweredSoFar, HasAnsweredSome, HasTold}
use Rattle.timer_script.proofs.PeerLemmas.{but_sent, talked_nothing, talked_wrote, talked_read, talked_told}

-- ---- some events

pub answered_none : (A : Decoration) (s : FacilityState) → HasAnsweredEvents A s [] s []
answered_none A s = record { outs = []; runs = IsRun-none s; added = (refl, refl, refl) }

-- ---- the first of some events

pub part_of : {A : Decoration} {s t : FacilityState} {done : List Event} {decorated : List ℕ} (events rest : List Event)
    (text last : List ℕ) → events ≡ done ++ rest → text ≡ decorated ++ last → HasAnsweredEvents A s done t decorated → IsBegun A t rest last
    → HasAnsweredPart A s events text
part_of {t = t} {done = done} {decorated = decorated} events rest text last parts text_is answered begun = record {
  done = done;
  rest = rest;
  parts = parts;
  after = t;
  decorated = decorated;
  answered = answered;
  last = last;
  begun = begun;
  text_is = text_is;
}

-- ---- one text after another

decorated_join : (A : Decoration) (s t u : FacilityState) (events more : List Event) (a b x y : List ℕ) → AreDecorated A s events t a x
    → AreDecorated A t more u b y → AreDecorated A s (events ++ more) u (a ++ b) (x ++ y)
decorated_join A s t u [] more a b x y h k = rw (h.1, h.2, ← h.0) k
decorated_join A s t u (event ∷ events) more a b x y h k = (
  h.0,
  h.1,
  h.2,
  h.3 ++ b,
  h.4 ++ y,
  h.5,
  decorated_join A h.0 t u events more h.3 b h.4 y h.6 k,
  ap (λ z. z ++ b) h.7 ∙ append_assoc h.1 h.3 b,
  ap (λ z. z ++ y) h.8 ∙ append_assoc h.2 h.4 y,
)

pub answered_join : (A : Decoration) (a b c : FacilityState) (x y : List Event) (t u : List ℕ) → HasAnsweredEvents A a x b t
    → HasAnsweredEvents A b y c u → HasAnsweredEvents A a (x ++ y) c (t ++ u)
answered_join A a b c x y t u f g = record {
  outs = f.outs ++ g.outs;
  runs = IsRun-join a b c x y f.outs g.outs f.runs g.runs;
  added = subst (λ z. AreDecorated A a (x ++ y) c z (t ++ u)) (sym (flat_map-append out_line f.outs g.outs))
      (decorated_join A a b c x y (lines_of f.outs) (lines_of g.outs) t u f.added g.added);
}

pub part_join : (A : Decoration) (a b : FacilityState) (x y : List Event) (t u : List ℕ) → HasAnsweredEvents A a x b t
    → HasAnsweredPart A b y u → HasAnsweredPart A a (x ++ y) (t ++ u)
part_join A a b x y t u f g = record {
  done = x ++ g.done;
  rest = g.rest;
  parts = ap (λ z. x ++ z) g.parts ∙ sym (append_assoc x g.done g.rest);
  after = g.after;
  decorated = t ++ g.decorated;
  answered = answered_join A a b g.after x g.done t g.decorated f g.answered;
  last = g.last;
  begun = g.begun;
  text_is = ap (λ z. t ++ z) g.text_is ∙ sym (append_assoc t g.decorated g.last);
}

-- an event was played, and decorated
pub answered_one : (A : Decoration) (s t : FacilityState) (event : Event) (a b text : List ℕ) → HasGrownByAnswer A s (event ∷ []) t a b
    → HasGrownAfter A s.next_serial t b text → GrowsBy (HasAnsweredEvents A s (event ∷ []) t) a text
answered_one A s t event a b text grown after =
    let (line, line_is, h) = grown in
    let (added, added_is, comes_after) = after in (
      line ++ added,
      added_is ∙ ap (λ z. z ++ added) line_is ∙ append_assoc a line added,
      record {
        outs = h.outs;
        runs = h.runs;
        added = (
          t,
          lines_of h.outs,
          line ++ added,
          [],
          [],
          record { line = line; answered = h; answer_is = refl; added = added; comes_after = comes_after; text_is = refl },
          (refl, refl, refl),
          sym (append-nil (lines_of h.outs)),
          sym (append-nil (line ++ added)),
        );
      },
    )

-- ---- the events of one read after another

pub reads_none : (A : Decoration) (s : FacilityState) → HasAnsweredReads A s [] s []
reads_none A s = record {
  outs = [];
  runs = IsRun-none s;
  added = record { reads = []; events_are = refl; decorated = (refl, refl, refl) };
}

-- all events of a read were answered, and this comes after it
pub read_ended : (A : Decoration) (s t : FacilityState) (events : List Event) (text added : List ℕ) → HasAnsweredEvents A s events t text
    → EndsRead A events t added → HasAnsweredRead A s events t (text ++ added)
read_ended A s t events text added h ends = record {
  outs = h.outs;
  runs = h.runs;
  added = record { lines = text; decorated = h.added; added = added; ends = ends; text_is = refl };
}

-- one read is some reads
one_read : (A : Decoration) (s t : FacilityState) (events : List Event) (text : List ℕ) → HasAnsweredRead A s events t text
    → HasAnsweredReads A s events t text
one_read A s t events text h = record {
  outs = h.outs;
  runs = h.runs;
  added = record {
    reads = events ∷ [];
    events_are = sym (append-nil events);
    decorated = (
      t,
      lines_of h.outs,
      text,
      [],
      [],
      h.added,
      (refl, refl, refl),
      sym (append-nil (lines_of h.outs)),
      sym (append-nil text),
    );
  };
}

reads_decorated_join : (A : Decoration) (s t u : FacilityState) (reads more : List (List Event)) (a b x y : List ℕ)
    → AreReadsDecorated A s reads t a x → AreReadsDecorated A t more u b y → AreReadsDecorated A s (reads ++ more) u (a ++ b) (x ++ y)
reads_decorated_join A s t u [] more a b x y h k = rw (h.1, h.2, ← h.0) k
reads_decorated_join A s t u (events ∷ reads) more a b x y h k = (
  h.0,
  h.1,
  h.2,
  h.3 ++ b,
  h.4 ++ y,
  h.5,
  reads_decorated_join A h.0 t u reads more h.3 b h.4 y h.6 k,
  ap (λ z. z ++ b) h.7 ∙ append_assoc h.1 h.3 b,
  ap (λ z. z ++ y) h.8 ∙ append_assoc h.2 h.4 y,
)

reads_join : (A : Decoration) (a b c : FacilityState) (x y : List Event) (t u : List ℕ) → HasAnsweredReads A a x b t
    → HasAnsweredReads A b y c u → HasAnsweredReads A a (x ++ y) c (t ++ u)
reads_join A a b c x y t u f g = record {
  outs = f.outs ++ g.outs;
  runs = IsRun-join a b c x y f.outs g.outs f.runs g.runs;
  added = record {
    reads = f.added.reads ++ g.added.reads;
    events_are = ap (λ z. z ++ y) f.added.events_are ∙ ap (λ z. events_in f.added.reads ++ z) g.added.events_are
        ∙ sym (flat_map-append (λ events. events) f.added.reads g.added.reads);
    decorated = subst (λ z. AreReadsDecorated A a (f.added.reads ++ g.added.reads) c z (t ++ u)) (sym (flat_map-append out_line f.outs g.outs))
        (reads_decorated_join A a b c f.added.reads g.added.reads (lines_of f.outs) (lines_of g.outs) t u f.added.decorated g.added.decorated);
  };
}

-- of the events of a read the first are answered
pub some_of_part : (A : Decoration) (s : FacilityState) (events : List Event) (text : List ℕ) → HasAnsweredPart A s events text
    → HasAnsweredSomeReads A s events text
some_of_part A s events text h = record {
  done = [];
  rest = events;
  parts = refl;
  after = s;
  decorated = [];
  answered = reads_none A s;
  last = text;
  begun = h;
  text_is = refl;
}

-- all reads are answered
some_of_all : (A : Decoration) (s t : FacilityState) (events : List Event) (text : List ℕ) → HasAnsweredReads A s events t text
    → HasAnsweredSomeReads A s events text
some_of_all A s t events text h = record {
  done = events;
  rest = [];
  parts = sym (append-nil events);
  after = t;
  decorated = text;
  answered = h;
  last = [];
  begun = part_of [] [] [] [] refl refl (answered_none A t) (inl refl);
  text_is = sym (append-nil text);
}

pub some_of_read : (A : Decoration) (s t : FacilityState) (events : List Event) (text : List ℕ) → HasAnsweredRead A s events t text
    → HasAnsweredSomeReads A s events text
some_of_read A s t events text h = some_of_all A s t events text (one_read A s t events text h)

some_join : (A : Decoration) (a b : FacilityState) (x y : List Event) (t u : List ℕ) → HasAnsweredReads A a x b t
    → HasAnsweredSomeReads A b y u → HasAnsweredSomeReads A a (x ++ y) (t ++ u)
some_join A a b x y t u f g = record {
  done = x ++ g.done;
  rest = g.rest;
  parts = ap (λ z. x ++ z) g.parts ∙ sym (append_assoc x g.done g.rest);
  after = g.after;
  decorated = t ++ g.decorated;
  answered = reads_join A a b g.after x g.done t g.decorated f g.answered;
  last = g.last;
  begun = g.begun;
  text_is = ap (λ z. t ++ z) g.text_is ∙ sym (append_assoc t g.decorated g.last);
}

-- ---- text that is sent

-- what holds of it implies something else
pub but_as : {X Y : List ℕ → Type 0} {p q : PeerState} {unsent : List ℕ} {flushed : Bool} → HasSentBut X unsent flushed p q
    → ((text : List ℕ) → X text → Y text) → HasSentBut Y unsent flushed p q
but_as {unsent = unsent} h weaker = record { sent = h.sent; written = h.written; flush = h.flush; all = weaker (h.sent ++ unsent) h.all }

-- the text grew
pub but_grown : {X Y Z : List ℕ → Type 0} {p q : PeerState} {flushed : Bool} (old new : List ℕ) → HasSentBut X old flushed p q
    → GrowsBy Y old new → ((a b : List ℕ) → X a → Y b → Z (a ++ b)) → HasSentBut Z new flushed p q
but_grown {X} {Y} {Z} old new h grown join = record {
  sent = h.sent;
  written = h.written;
  flush = h.flush;
  all = subst Z (append_assoc h.sent old grown.0 ∙ ap (λ t. h.sent ++ t) (sym grown.1)) (join (h.sent ++ old) grown.0 h.all grown.2);
}

-- so it does by the answer to one more event, or by the first of it
pub but_more : {A : Decoration} {s t u : FacilityState} {p q : PeerState} (old new : List ℕ) (events : List Event) (i : ℕ) (e : Event)
    → take (i + 1) events ≡ take i events ++ e ∷ [] → HasSentBut (HasAnsweredEvents A s (take i events) t) old true p q
    → GrowsBy (HasAnsweredEvents A t (e ∷ []) u) old new → HasSentBut (HasAnsweredEvents A s (take (i + 1) events) u) new true p q
but_more {A} {s} {t} {u} old new events i e more h grown = but_grown old new h grown (λ a b x y.
    rw more (answered_join A s t u (take i events) (e ∷ []) a b x y))

pub but_part : {A : Decoration} {s t : FacilityState} {p q : PeerState} (old new : List ℕ) (events : List Event) (i : ℕ) (e : Event)
    → take (i + 1) events ≡ take i events ++ e ∷ [] → HasSentBut (HasAnsweredEvents A s (take i events) t) old true p q
    → GrowsBy (HasAnsweredPart A t (e ∷ drop (i + 1) events)) old new → HasSentBut (HasAnsweredSomeReads A s events) new true p q
but_part {A} {s} {t} old new events i e more h grown =
    let later : List Event = drop (i + 1) events in
    let all : take i events ++ e ∷ later ≡ events =
    sym (append_assoc (take i events) (e ∷ []) later) ∙ ap (λ es. es ++ later) (sym more) ∙ take-append-drop (i + 1) events in
    but_grown old new h grown (λ a b x y. some_of_part A s events (a ++ b)
    (subst (λ es. HasAnsweredPart A s es (a ++ b)) all (part_join A s t (take i events) (e ∷ later) a b x y)))

-- the answers to the first events are a part of all
pub but_first : {A : Decoration} {s t : FacilityState} {p q : PeerState} {text : List ℕ} (events : List Event) (i : ℕ)
    → HasSentBut (HasAnsweredEvents A s (take i events) t) text true p q → HasSentBut (HasAnsweredSomeReads A s events) text true p q
but_first {A} {s} events i h = but_as h (λ text answered. some_of_part A s events text
    (part_of events (drop i events) text [] (sym (take-append-drop i events)) (sym (append-nil text)) answered (inl refl)))

-- all are answered, and what comes after the read was added
pub but_ended : {A : Decoration} {s t : FacilityState} {p q : PeerState} (old new : List ℕ) (events : List Event) (i : ℕ)
    → take i events ≡ events → HasSentBut (HasAnsweredEvents A s (take i events) t) old true p q → GrowsBy (EndsRead A events t) old new
    → HasSentBut (HasAnsweredRead A s events t) new true p q
but_ended {A} {s} {t} old new events i all h grown = but_grown old new h grown (λ a b x y.
    read_ended A s t events a b (subst (λ es. HasAnsweredEvents A s es t a) all x) y)

-- the peer failed while the text was sent
pub stops_unsent : {A : Decoration} {s : FacilityState} {events : List Event} {p q r : PeerState} {text text' : List ℕ} (fault : TurnFault)
    → fault ≡ turns.Write → HasSentBut (HasAnsweredSomeReads A s events) text true p q → text' ≡ text → HasSentPart q text' r
    → q.read_failed ≡ false → StopsTurn A fault events s p r
stops_unsent {A} {s} {events} {p} {q} {r} {text} fault is h same sent good = subst (λ f. StopsTurn A f events s p r) (sym is) (
    let part = subst (λ t. HasSentPart q t r) same sent in
    let flushed : Bool = is_flushed true part.written.calls in (
      drop part.count text,
      flushed,
      but_sent text (drop part.count text) flushed (sym (take-append-drop part.count text)) h part.written refl,
      part.written.reading ∙ good,
      part.failed,
    ))

-- ---- what is answered so far

pub so_none : (o : OnBadLine) (A : Decoration) (before : FacilityState) (p : PeerState)
    → HasAnsweredSoFar o A before [] [] p p before
so_none o A before p =
    record { sent = []; talked = talked_nothing (IsAnsweredWith o A before) (IsStateAfter o before) p; answered = reads_none A before }

-- the events that are answered are the first of these
pub so_some : {o : OnBadLine} {A : Decoration} {before s : FacilityState} {came : List ℕ} {events : List Event} {p q : PeerState}
    → HasAnsweredSoFar o A before came events p q s → HasAnsweredSome o A before came events p q [] true
so_some {A = A} {before = before} {s = s} {events = events} h = record {
  sent = h.sent;
  talked = h.talked;
  answered = subst (HasAnsweredSomeReads A before events) (sym (append-nil h.sent)) (some_of_all A before s events h.sent h.answered);
}

-- whether a read gave some bytes or failed, all was answered before
pub so_read : {E : Type 0} {o : OnBadLine} {A : Decoration} {before s : FacilityState} {came : List ℕ} {events : List Event}
    {p q r : PeerState} {result : Result ℕ E} {piece : List ℕ} → HasAnsweredSoFar o A before came events p q s → PassesEvents o came events
    → length piece ≤ PIECE → Gives q result piece r
    → HasAnsweredSoFar o A before (came ++ take (count_in result) piece) events p r s
so_read {s = s} {events = events} h passes short gives = record {
  sent = h.sent;
  talked = talked_read h.talked (record { events = events; after = s; passes = passes; answered = h.answered }) short gives;
  answered = h.answered;
}

-- a state was told, or not, after which it is the same
pub so_told : {o : OnBadLine} {A : Decoration} {before s : FacilityState} {came : List ℕ} {events : List Event}
    {p q r : PeerState} → HasAnsweredSoFar o A before came events p q s → PassesEvents o came events → HasTold (dump_text s) q r
    → HasAnsweredSoFar o A before came events p r s
so_told {s = s} {events = events} h passes told = record {
  sent = h.sent;
  talked = talked_told (dump_text s) h.talked (record { events = events; after = s; passes = passes; answered = h.answered })
      (record {
        events = events;
        passes = passes;
        outs = h.answered.outs;
        after = s;
        runs = h.answered.runs;
        text_is = refl;
      }) told;
  answered = h.answered;
}

-- more events were answered
pub so_more : {o : OnBadLine} {A : Decoration} {before s t : FacilityState} {came : List ℕ} {earlier events events' : List Event}
    {p q r : PeerState} → events ≡ events' → HasAnsweredSoFar o A before came earlier p q s
    → HasSentBut (HasAnsweredRead A s events t) [] true q r → HasAnsweredSoFar o A before came (earlier ++ events') p r t
so_more {o} {A} {before} {s} {t} {came} {earlier} {events} {p = p} {r = r} is h more =
    subst (λ es. HasAnsweredSoFar o A before came (earlier ++ es) p r t) is (record {
      sent = h.sent ++ more.sent;
      talked = talked_wrote true h.talked more.written more.flush;
      answered = reads_join A before s t earlier events h.sent more.sent h.answered
          (one_read A s t events more.sent (subst (HasAnsweredRead A s events t) (append-nil more.sent) more.all));
    })

-- or the first of them
pub so_part : {o : OnBadLine} {A : Decoration} {before s : FacilityState} {came : List ℕ} {earlier events : List Event}
    {p q r : PeerState} {unsent : List ℕ} {flushed : Bool} → HasAnsweredSoFar o A before came earlier p q s
    → HasSentBut (HasAnsweredSomeReads A s events) unsent flushed q r
    → HasAnsweredSome o A before came (earlier ++ events) p r unsent flushed
so_part {o} {A} {before} {s} {came} {earlier} {events} {unsent = unsent} {flushed = flushed} h more = record {
  sent = h.sent ++ more.sent;
  talked = talked_wrote flushed h.talked more.written more.flush;
  answered = subst (HasAnsweredSomeReads A before (earlier ++ events)) (sym (append_assoc h.sent more.sent unsent))
      (some_join A before s earlier events h.sent (more.sent ++ unsent) h.answered more.all);
}

-- ---- nothing is added

pub undecorated : (s t : FacilityState) (events : List Event) (answer text : List ℕ) → AreDecorated AddsNothing s events t answer text
    → text ≡ answer
undecorated s t [] answer text h = h.2 ∙ sym h.1
undecorated s t (event ∷ events) answer text h =
    let line = h.5 in
    h.8 ∙ ap (λ z. z ++ h.4) (line.text_is ∙ ap (λ z. line.line ++ z) line.comes_after ∙ append-nil line.line ∙ line.answered.within
    ∙ sym line.answer_is)
    ∙ ap (λ z. h.1 ++ z) (undecorated h.0 t events h.3 h.4 h.6) ∙ sym h.7

ends_with_nothing : (s : FacilityState) (events : List Event) (added : List ℕ) → EndsRead AddsNothing events s added → added ≡ []
ends_with_nothing s [] added e = e
ends_with_nothing s (event ∷ events) added e = e

-- nothing comes after a read either, so the text for some reads is that for their events
undecorated_events : (s t : FacilityState) (reads : List (List Event)) (answer text : List ℕ)
    → AreReadsDecorated AddsNothing s reads t answer text → AreDecorated AddsNothing s (events_in reads) t answer text
undecorated_events s t [] answer text h = h
undecorated_events s t (events ∷ reads) answer text h =
    let read = h.5 in
    let lines : h.2 ≡ read.lines =
    read.text_is ∙ ap (λ z. read.lines ++ z) (ends_with_nothing h.0 events read.added read.ends) ∙ append-nil read.lines in
    let more = undecorated_events h.0 t reads h.3 h.4 h.6 in
    let all = decorated_join AddsNothing s h.0 t events (events_in reads) h.1 h.3 read.lines h.4 read.decorated more in
    subst (λ z. AreDecorated AddsNothing s (events ++ events_in reads) t z text) (sym h.7)
    (subst (λ z. AreDecorated AddsNothing s (events ++ events_in reads) t (h.1 ++ h.3) z) (sym (h.8 ∙ ap (λ z. z ++ h.4) lines)) all)

pub undecorated_by_reads : (s t : FacilityState) (events : List Event) (answer text : List ℕ)
    → AreDecoratedByReads AddsNothing s events t answer text → text ≡ answer
undecorated_by_reads s t events answer text h =
    undecorated s t (events_in h.reads) answer text (undecorated_events s t h.reads answer text h.decorated)

pub plain_reads : {s t : FacilityState} {events : List Event} {text : List ℕ} → HasAnsweredReads AddsNothing s events t text
    → HasAnsweredEvents AddsNothing s events t text
plain_reads {s} {t} {events} {text} h = record {
  outs = h.outs;
  runs = h.runs;
  added = subst (λ es. AreDecorated AddsNothing s es t (lines_of h.outs) text) (sym h.added.events_are)
      (undecorated_events s t h.added.reads (lines_of h.outs) text h.added.decorated);
}

pub plain_some : {s : FacilityState} {events : List Event} {text : List ℕ} → HasAnsweredSomeReads AddsNothing s events text
    → HasAnsweredPart AddsNothing s events text
plain_some {s} {events} {text} h =
    subst (λ es. HasAnsweredPart AddsNothing s es text) (sym h.parts)
    (subst (λ z. HasAnsweredPart AddsNothing s (h.done ++ h.rest) z) (sym h.text_is)
    (part_join AddsNothing s h.after h.done h.rest h.decorated h.last (plain_reads h.answered) h.begun))
