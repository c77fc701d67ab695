-- Ends that are put into C's lines, from the last on.
use Rattle.std.proofs.Common.{◌≡◌, ◌<◌, ◌≤◌, ℕ, List, [], ◌∷◌, length, get_or, map, sym, ◌∙◌, arith, Box, Global}
use Rattle.timer_desk_c.specs.Types.{CLine, Line}
use Rattle.timer_desk_c.specs.Frames.{HasLine}
use Rattle.timer_desk_c.specs.Desks.{AreHeld}
use Rattle.std.proofs.lemmas.List.{length-map, get_or_default}
use Rattle.std.proofs.Math.ListN.{get_or-map}

-- these ends are left of all of them, and the others are placed
pub record IsPlacedSoFar (life : ℕ) (all : List (Box Line Global)) (before : List CLine) (left : List (Box Line Global))
    (lines : List CLine) : Type 0 where
  pub as_many : length lines ≡ length before
  pub long : length before ≡ length all
  pub few : length left ≤ length all
  pub same_ends : (k : ℕ) (b : Box Line Global) → k < length left → get_or left k b ≡ get_or all k b
  pub below : (k : ℕ) (x : CLine) → k < length left → get_or lines k x ≡ get_or before k x
  pub open_each : (k : ℕ) (x : CLine) → length left ≤ k → k < length all → HasLine (get_or lines k x)
  pub state : (k : ℕ) (x : CLine) (b : Box Line Global) → length left ≤ k → k < length all
      → (get_or lines k x).slot.state ≡ (get_or all k b).value
  pub client : (k : ℕ) (x : CLine) → length left ≤ k → k < length all → (get_or lines k x).client ≡ k
  pub life_is : (k : ℕ) (x : CLine) → length left ≤ k → k < length all → (get_or lines k x).life ≡ life

value_at : (all : List (Box Line Global)) (k : ℕ) (l : Line) (b : Box Line Global) → k < length all
    → get_or (map (λ (x : Box Line Global). x.value) all) k l ≡ (get_or all k b).value
value_at all k l b low =
    let long = length-map all (λ (x : Box Line Global). x.value) in
    get_or_default (map (λ (x : Box Line Global). x.value) all) k l b.value (omega (arith, long, low))
    ∙ get_or-map (λ (x : Box Line Global). x.value) all k b

pub all_held : (life : ℕ) (all : List (Box Line Global)) (before : List CLine) (left : List (Box Line Global)) (lines : List CLine)
    → IsPlacedSoFar life all before left lines → length left ≡ 0 → AreHeld life (map (λ (x : Box Line Global). x.value) all) lines
all_held life [] before left lines p e = record { as_many = p.as_many ∙ p.long; each = λ k x l low. absurd (omega arith) }
all_held life (b ∷ bs) before left lines p e =
    let all = b ∷ bs in
    let long = length-map all (λ (x : Box Line Global). x.value) in record {
      as_many = p.as_many ∙ p.long ∙ sym long;
      each = λ k x l low.
          let within : k < length all = omega (arith, long, low) in record {
            held = p.open_each k x (omega (arith, e)) within;
            state_is = p.state k x b (omega (arith, e)) within ∙ sym (value_at all k l b within);
            client_is = p.client k x (omega (arith, e)) within;
            life_is = p.life_is k x (omega (arith, e)) within;
          };
    }
