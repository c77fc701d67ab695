-- A stream that is given again is answered as before.
use Rattle.std.proofs.Common.{◌≡◌, ℕ, List, [], ◌∷◌, ◌++◌, length, refl, sym, ap, subst, ◌∙◌, arith, append_assoc, append-nil, length-append, inl, inr}
use Rattle.std.specs.List.{flat_map, AllByRecursion}
use Rattle.std.proofs.lemmas.Grind.{flat_map-append}
use Rattle.timer_facility.specs.Played.{ArePlaced, IsRun}
use Rattle.timer_facility.specs.Restored.{GoesOnAs}
use Rattle.timer_facility.specs.Run.{PlacedEvent, history, state_after, outs_of}
use Rattle.timer_facility.proofs.PlayedLemmas.{state_after-append, outs_of-append, IsRun-join}
use Rattle.timer_script.specs.Types.{Event, Out, FacilityState, OnBadLine}
use Rattle.timer_script.specs.declared.lines.Grammar.TheVariants.{Stream}
use Rattle.timer_script.specs.Script.{HasNoFeed, line}
use Rattle.timer_script.specs.Text.{out_line, lines_of}
use Rattle.timer_script.specs.Cutter.{InputLine, Good, Bad, bytes_of, event_in, events_of, IsGoodOrBad, PassesEvents}
use Rattle.timer_script.specs.Decorator.{AddsNothing}
use Rattle.timer_script.specs.Service.{HasAnsweredEvents, HasAnsweredPart}
use Rattle.timer_script.specs.Replayed.{BeginsWith}
use Rattle.timer_script.proofs.FeedLemmas.{at_feed, first_feed, no_feed_long}
use Rattle.timer_script.proofs.LineLemmas.{read_fed}
use Rattle.timer_script.proofs.ScriptLemmas.{one_spelling}
use Rattle.timer_script.proofs.ServicePieces.{undecorated}
use Rattle.timer_script.proofs.TextLemmas.{lines-bare}

-- ---- the front of some bytes

record EndsAtFeed (x : InputLine) : Type 0 where
  pub front : List ℕ
  pub is : bytes_of x ≡ front ++ 10 ∷ []
  pub no_feed : HasNoFeed front

ends_at_feed : (x : InputLine) → IsGoodOrBad x → EndsAtFeed x
ends_at_feed (Good event) fits = let f = read_fed Stream event fits in record { front = f.front; is = f.is; no_feed = f.no_feed }
ends_at_feed (Bad front fault) bad = record { front = front; is = refl; no_feed = bad.0 }

-- a line of these bytes is that of one event, or of none
same_event : (x y : InputLine) → IsGoodOrBad x → IsGoodOrBad y → bytes_of x ≡ bytes_of y → event_in x ≡ event_in y
same_event (Good d) (Good e) fx fy same = one_spelling Stream (d ∷ []) (e ∷ []) (line d ++ [])
    (record { lines = refl; in_range = (fx, tt) }) (record { lines = ap (λ t. t ++ []) same; in_range = (fy, tt) })
same_event (Good d) (Bad front fault) fx fy same = absurd (fy.1 d [] fx (sym same ∙ sym (append-nil (line d))))
same_event (Bad front fault) (Good e) fx fy same = absurd (fx.1 e [] fy (same ∙ sym (append-nil (line e))))
same_event (Bad front fault) (Bad other wrong) fx fy same = refl

-- bytes without a line feed hold no line
holds_no_feed : (xs ys more : List ℕ) → HasNoFeed xs → xs ≡ ys ++ 10 ∷ more → ⊥
holds_no_feed xs ys more free e =
    let short = no_feed_long xs ys [] more free (append-nil xs ∙ e) in
    absurd (omega (arith, short, ap length e, length-append ys (10 ∷ more)))

-- a line, those after it, and the rest
at_line : {x : InputLine} (f : EndsAtFeed x) (xs : List InputLine) (left : List ℕ)
    → flat_map bytes_of (x ∷ xs) ++ left ≡ f.front ++ 10 ∷ (flat_map bytes_of xs ++ left)
at_line {x} f xs left =
    append_assoc (bytes_of x) (flat_map bytes_of xs) left ∙ ap (λ t. t ++ (flat_map bytes_of xs ++ left)) f.is
    ∙ at_feed f.front (flat_map bytes_of xs ++ left)

-- the lines of the front of some bytes are the first lines of all
first_events : (xs ys : List InputLine) (left other more : List ℕ) → AllByRecursion IsGoodOrBad xs → AllByRecursion IsGoodOrBad ys
    → HasNoFeed other → flat_map bytes_of xs ++ (left ++ more) ≡ flat_map bytes_of ys ++ other
    → (later : List Event) × (events_of ys ≡ events_of xs ++ later)
first_events [] ys left other more fx fy free e = (events_of ys, refl)
first_events (x ∷ xs) [] left other more fx fy free e =
    let f = ends_at_feed x fx.0 in
    absurd (holds_no_feed other f.front (flat_map bytes_of xs ++ (left ++ more)) free (sym e ∙ at_line f xs (left ++ more)))
first_events (x ∷ xs) (y ∷ ys) left other more fx fy free e =
    let f = ends_at_feed x fx.0 in
    let g = ends_at_feed y fy.0 in
    let same = first_feed f.front g.front (flat_map bytes_of xs ++ (left ++ more)) (flat_map bytes_of ys ++ other) f.no_feed g.no_feed
    (sym (at_line f xs (left ++ more)) ∙ e ∙ at_line g ys other) in
    let h = first_events xs ys left other more fx.1 fy.1 free same.1 in
    let one : event_in x ≡ event_in y = same_event x y fx.0 fy.0 (f.is ∙ ap (λ t. t ++ 10 ∷ []) same.0 ∙ sym g.is) in
    (h.0, ap (λ t. event_in y ++ t) h.1 ∙ ap (λ t. t ++ (events_of xs ++ h.0)) (sym one) ∙ sym (append_assoc (event_in x) (events_of xs) h.0))

-- the events of some bytes are the first of those of these bytes and more
pub passes_first : {o p : OnBadLine} {came : List ℕ} {events all : List Event} (more : List ℕ) → PassesEvents o came events
    → PassesEvents p (came ++ more) all → (later : List Event) × (all ≡ events ++ later)
passes_first {came = came} {events = events} more a b =
    let parts = sym (append_assoc (flat_map bytes_of a.lines) a.left more) ∙ ap (λ t. t ++ more) (sym a.cut.parts) ∙ b.cut.parts in
    let h = first_events a.lines b.lines a.left b.left more a.cut.each b.cut.each b.cut.unended parts in
    (h.0, b.events_are ∙ h.1 ∙ ap (λ t. t ++ h.0) (sym a.events_are))

-- ---- the front of a run

record IsPlacedInTwo (s : FacilityState) (es fs : List Event) (placed : List PlacedEvent) : Type 0 where
  pub one : List PlacedEvent
  pub two : List PlacedEvent
  pub parts : placed ≡ one ++ two
  pub first : ArePlaced s es one
  pub second : ArePlaced (state_after s one) fs two

placed-cut : (s : FacilityState) (es fs : List Event) (placed : List PlacedEvent) → ArePlaced s (es ++ fs) placed → IsPlacedInTwo s es fs placed
placed-cut s [] fs placed h = record { one = []; two = placed; parts = refl; first = refl; second = h }
placed-cut s (e ∷ es) fs placed h =
    let xs : List PlacedEvent = h.0 in
    let c = placed-cut (state_after s xs) es fs h.1 h.4 in
    record {
      one = xs ++ c.one;
      two = c.two;
      parts = h.2 ∙ ap (λ t. xs ++ t) c.parts ∙ sym (append_assoc xs c.one c.two);
      first = (xs, c.one, refl, h.3, c.first);
      second = subst (λ u. ArePlaced u fs c.two) (sym (state_after-append s xs c.one)) c.second;
    }

record IsRunInTwo (s : FacilityState) (es fs : List Event) (outs : List Out) : Type 0 where
  pub between : FacilityState
  pub front : List Out
  pub rest : List Out
  pub first : IsRun s es front between
  pub parts : outs ≡ front ++ rest

run-cut : {s after : FacilityState} {outs : List Out} (es fs : List Event) → IsRun s (es ++ fs) outs after → IsRunInTwo s es fs outs
run-cut {s} {outs = outs} es fs h =
    let c = placed-cut s es fs h.placed h.singles in
    record {
      between = state_after s c.one;
      front = outs_of (history s c.one);
      rest = outs_of (history (state_after s c.one) c.two);
      first = record { placed = c.one; singles = c.first; outs_are = refl; after_is = refl };
      parts = h.outs_are ∙ ap (λ p. outs_of (history s p)) c.parts ∙ outs_of-append s c.one c.two;
    }

-- the answer to the first events is the front of that to all
pub runs_first : {s t u v : FacilityState} {outs others : List Out} (es later : List Event) → GoesOnAs s t → IsRun s es outs u
    → IsRun t (es ++ later) others v → BeginsWith (lines_of others) (lines_of outs)
runs_first {u = u} {outs = outs} {others = others} es later goes_on a b =
    let c = run-cut es later b in
    let same : lines_of outs ≡ lines_of c.front =
    sym (lines-bare outs) ∙ ap (flat_map out_line) (goes_on es outs c.front u c.between a c.first).0 ∙ lines-bare c.front in
    (lines_of c.rest, ap (flat_map out_line) c.parts ∙ flat_map-append out_line c.front c.rest ∙ ap (λ t. t ++ lines_of c.rest) (sym same))

-- ---- what was answered

pub runs_first_of : {s t u v : FacilityState} {events all : List Event} {outs others : List Out} (later : List Event)
    → all ≡ events ++ later → GoesOnAs s t → IsRun s events outs u → IsRun t all others v → BeginsWith (lines_of others) (lines_of outs)
runs_first_of {t = t} {v = v} {events = events} {others = others} later is goes_on a b =
    runs_first events later goes_on a (subst (λ es. IsRun t es others v) is b)

plain_text : {s u : FacilityState} {events : List Event} {text : List ℕ} (a : HasAnsweredEvents AddsNothing s events u text)
    → text ≡ lines_of a.outs
plain_text {s} {u} {events} {text} a = undecorated s u events (lines_of a.outs) text a.added

pub whole_first : {s t u v : FacilityState} {events all : List Event} {gone text : List ℕ} (later : List Event)
    → all ≡ events ++ later → GoesOnAs s t → HasAnsweredEvents AddsNothing s events u gone → HasAnsweredEvents AddsNothing t all v text
    → BeginsWith text gone
whole_first later is goes_on a b =
    let h = runs_first_of later is goes_on a.runs b.runs in
    (h.0, plain_text b ∙ h.1 ∙ ap (λ t. t ++ h.0) (sym (plain_text a)))

-- the first of the events were answered
pub part_first : {s t v : FacilityState} {events all : List Event} {gone text : List ℕ} (later : List Event)
    → all ≡ events ++ later → GoesOnAs s t → HasAnsweredPart AddsNothing s events gone → HasAnsweredEvents AddsNothing t all v text
    → BeginsWith text gone
part_first {s} {t} {v} {all = all} {gone = gone} {text = text} later is goes_on a b = elim a.begun [
  | inl none ↦ (
      let h = whole_first (a.rest ++ later) (is ∙ ap (λ es. es ++ later) a.parts ∙ append_assoc a.done a.rest later) goes_on a.answered b in
      (h.0, h.1 ∙ ap (λ g. g ++ h.0) (sym (a.text_is ∙ ap (λ l. a.decorated ++ l) none ∙ append-nil a.decorated)))
      )
  | inr begun ↦ (
      let (event, behind, rest_is, next, within) = begun in
      let first : List Event = a.done ++ event ∷ [] in
      let runs = IsRun-join s a.after next a.done (event ∷ []) a.answered.outs within.outs a.answered.runs within.runs in
      let all_is : all ≡ first ++ (behind ++ later) =
      is ∙ ap (λ es. es ++ later) (a.parts ∙ ap (λ es. a.done ++ es) rest_is ∙ sym (append_assoc a.done (event ∷ []) behind))
      ∙ append_assoc first behind later in
      let h = runs_first first (behind ++ later) goes_on runs (subst (λ es. IsRun t es b.outs v) all_is b.runs) in
      let gone_is : gone ≡ lines_of (a.answered.outs ++ within.outs) =
      a.text_is ∙ ap (λ d. d ++ a.last) (plain_text a.answered) ∙ ap (λ l. lines_of a.answered.outs ++ l) within.within
      ∙ sym (flat_map-append out_line a.answered.outs within.outs) in
      (h.0, plain_text b ∙ h.1 ∙ ap (λ g. g ++ h.0) (sym gone_is))
      )
]
