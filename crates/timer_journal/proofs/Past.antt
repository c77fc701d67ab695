-- What one more change does to the past of a file in memory.
use Rattle.std.proofs.Common.{◌≡◌, ℕ, List, [], ◌∷◌, ◌++◌, length, ap, ◌∙◌}
use Rattle.std.proofs.lemmas.List.{map-append}
use Rattle.timer_journal.specs.Device.{Passes}
use Rattle.timer_journal.specs.Host.{Step, Found, after_steps, outcomes, held_after, left_after, left_since}
use Rattle.timer_journal.specs.Memory.{step_of, steps_of}
use Rattle.timer_journal.specs.declared.memory.Change.{Change}
use Rattle.timer_journal.specs.declared.memory.Memory.{Memory}
use Rattle.timer_journal.proofs.Steps.{held_push, left_push, passes}

-- it is one more step
step_push : (first : List ℕ) (changes changes' : List Change) (change : Change) → changes' ≡ changes ++ change ∷ []
    → steps_of first changes' ≡ steps_of first changes ++ step_of change ∷ []
step_push first changes changes' change is =
    ap (steps_of first) is ∙ ap (λ (steps : List Step). Found first ∷ steps) (map-append step_of changes (change ∷ []))

pub held_more : (file : Memory) (changes' : List Change) (change : Change) → changes' ≡ file.changes.items ++ change ∷ []
    → held_after (steps_of file.first.items changes') ≡ after_steps (held_after (steps_of file.first.items file.changes.items)) (step_of change ∷ [])
held_more file changes' change is = held_push (steps_of file.first.items file.changes.items) (steps_of file.first.items changes') (step_of change)
    (step_push file.first.items file.changes.items changes' change is)

pub left_more : (file : Memory) (changes' : List Change) (change : Change) → changes' ≡ file.changes.items ++ change ∷ [] → (c : List ℕ)
    → left_after (steps_of file.first.items changes') c
    → outcomes (held_after (steps_of file.first.items file.changes.items)) (left_after (steps_of file.first.items file.changes.items)) (step_of change ∷ []) c
left_more file changes' change is = left_push (steps_of file.first.items file.changes.items) (steps_of file.first.items changes') (step_of change)
    (step_push file.first.items file.changes.items changes' change is)

-- one more change takes time
pub passes_more : (old new : Memory) (change : Change) → new.first.items ≡ old.first.items → new.changes.items ≡ old.changes.items ++ change ∷ []
    → Passes (λ (m : Memory). length (steps_of m.first.items m.changes.items)) (λ (m : Memory) t c. left_since (steps_of m.first.items m.changes.items) t c)
    (left_after (steps_of new.first.items new.changes.items)) old new
passes_more old new change same is = passes (λ (m : Memory). steps_of m.first.items m.changes.items) old new (step_of change)
    (ap (λ (first : List ℕ). steps_of first new.changes.items) same ∙ step_push old.first.items old.changes.items new.changes.items change is)
