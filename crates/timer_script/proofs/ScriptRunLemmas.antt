-- Texts that grow as events are played.
use Rattle.std.proofs.Common.{◌≡◌, ◌≤◌, ◌+◌, ℕ, List, [], ◌∷◌, ◌++◌, length, Some, refl, sym, ap, ◌∙◌, arith, append_assoc, append-nil}
use Rattle.std.specs.List.{flat_map}
use Rattle.std.proofs.lemmas.List.{length-append}
use Rattle.std.proofs.lemmas.Grind.{flat_map-append}
use Rattle.timer_script.specs.Types.{Event}
use Rattle.timer_facility.specs.State.{FacilityState, IsSound}
use Rattle.timer_facility.proofs.PlayedLemmas.{IsRun-none, IsRun-join, IsPlayed-run}
use Rattle.timer_script.specs.Text.{out_line, end_line}
use Rattle.timer_script.specs.Lines.{line_at}
use Rattle.timer_script.specs.ScriptRun.{AddsLines, HasPlayedLines, IsAnswerTo}
use Rattle.timer_script.proofs.Results.{emptied, not_emptied}
use Rattle.timer_script.proofs.ScriptLemmas.{HasReadTo, read_nothing, read_more, read_all, read_bad, line_shorter}

pub adds_join : (a b c : FacilityState) (es fs : List Event) (x y z : List ℕ) → AddsLines a es x y b → AddsLines b fs y z c
    → AddsLines a (es ++ fs) x z c
adds_join a b c es fs x y z f g = record {
  outs = f.outs ++ g.outs;
  runs = IsRun-join a b c es fs f.outs g.outs f.runs g.runs;
  lines = g.lines ∙ ap (λ t. t ++ flat_map out_line g.outs) f.lines ∙ append_assoc x (flat_map out_line f.outs) (flat_map out_line g.outs)
      ∙ ap (λ t. x ++ t) (sym (flat_map-append out_line f.outs g.outs));
}

-- the lines before the rest were played, and there were this many
pub record HasPlayedTo (before : FacilityState) (bytes rest : List ℕ) (lines : ℕ) (old new : List ℕ) (after : FacilityState) : Type 0 where
  pub events : List Event
  pub read : HasReadTo bytes rest events
  pub counted : lines ≡ length events
  pub short : lines + length rest ≤ length bytes
  pub adds : AddsLines before events old new after

pub played_none : (s : FacilityState) (bytes text : List ℕ) → HasPlayedTo s bytes bytes 0 text text s
played_none s bytes text = record {
  events = [];
  read = read_nothing bytes;
  counted = refl;
  short = omega arith;
  adds = record { outs = []; runs = IsRun-none s; lines = sym (append-nil text) };
}

pub played_more : (a b c : FacilityState) (bytes rest after : List ℕ) (event : Event) (n : ℕ) (x y z : List ℕ)
    → HasPlayedTo a bytes rest n x y b
    → line_at rest ≡ Some (event, after) → AddsLines b (event ∷ []) y z c → HasPlayedTo a bytes after (n + 1) x z c
played_more a b c bytes rest after event n x y z h read adds = record {
  events = h.events ++ event ∷ [];
  read = read_more bytes rest after h.events event h.read read;
  counted = omega (arith, h.counted, length-append h.events (event ∷ []));
  short = omega (arith, h.short, line_shorter rest after event read);
  adds = adds_join a b c h.events (event ∷ []) x y z h.adds adds;
}

pub played_all : (a b : FacilityState) (bytes rest : List ℕ) (n : ℕ) (x y : List ℕ) → HasPlayedTo a bytes rest n x y b → rest ≡ []
    → HasPlayedLines a bytes x y b
played_all a b bytes rest n x y h none =
    record { events = h.events; script = read_all bytes rest h.events h.read none; adds = h.adds }

-- the lines of all events, and the end line, are the answer to them
pub answered : (s player after : FacilityState) (script start lines answer : List ℕ) (now pending : ℕ) → IsSound s
    → HasPlayedLines player script start lines after → player ≡ s → start ≡ [] → now ≡ after.now → pending ≡ length after.pending
    → answer ≡ lines ++ end_line now pending → IsAnswerTo s script answer
answered s player after script start lines answer now pending sound h is none now_is pending_is ends =
    let played = rw (is, none) at h in (
      played.events,
      played.script,
      record {
        outs = played.adds.outs;
        after = after;
        played = IsPlayed-run s played.events played.adds.outs after sound played.adds.runs;
        lines = rw (← now_is, ← pending_is, ← played.adds.lines) ends;
      },
    )

-- the steps of a script that is played
pub ruleset playing = (played_none, played_more, played_all, read_bad, line_shorter, emptied, not_emptied)
