-- One more turn of a client.
use Rattle.std.proofs.Common.{◌≡◌, ◌+◌, not, cond, ℕ, Bool, true, false, List, [], ◌∷◌, ◌++◌, refl, sym, ◌∙◌, ap, subst, arith}
use Rattle.std.specs.List.{prefix_len}
use Rattle.std.proofs.lemmas.List.{reverse-append}
use Rattle.timer_desk.proofs.DriverLemmas.{push_each}
use Rattle.timer_threads.specs.Types.{Turn}
use Rattle.timer_threads.specs.Turns.{is_idle, idle_at_end}
use Rattle.timer_threads.specs.Work.{GoesOn, AreClientTurns, IsLetGo, AreLetGo}

idle_at_end-more : (ts : List Turn) (t : Turn) → idle_at_end (ts ++ t ∷ []) ≡ cond (is_idle t) (1 + idle_at_end ts) 0
idle_at_end-more ts t = ap (prefix_len is_idle) (reverse-append ts (t ∷ []))

pub idle_after : (ts us : List Turn) (t : Turn) (busy : Bool) (idle : ℕ) → us ≡ ts ++ t ∷ [] → busy ≡ not (is_idle t) → idle ≡ idle_at_end ts
    → cond busy 0 (idle + 1) ≡ idle_at_end us
idle_after ts us t busy idle more is before = sym (ap idle_at_end more ∙ idle_at_end-more ts t ∙ same (is_idle t) busy is)
  where
    same : (b a : Bool) → a ≡ not b → cond b (1 + idle_at_end ts) 0 ≡ cond a 0 (idle + 1)
    same true true h = absurd (cc)
    same true false h = omega (arith, before)
    same false true h = refl
    same false false h = absurd (cc)

pub AreClientTurns-more : (first count limit : ℕ) (ts us : List Turn) (t : Turn) → us ≡ ts ++ t ∷ [] → AreClientTurns first count limit ts
    → GoesOn first count limit ts → AreClientTurns first count limit us
AreClientTurns-more first count limit ts us t more each one = subst (AreClientTurns first count limit) (sym more)
    (push_each (λ k past turn. GoesOn first count limit past) ts t t each one)

pub AreLetGo-more : (lets_go : ℕ → ℕ → Type 0) (ts us : List Turn) (t : Turn) → us ≡ ts ++ t ∷ [] → AreLetGo lets_go ts
    → IsLetGo lets_go ts t → AreLetGo lets_go us
AreLetGo-more lets_go ts us t more each one = subst (AreLetGo lets_go) (sym more)
    (λ k d. push_each (λ j. IsLetGo lets_go) ts t d (λ j. each j d) one k)
