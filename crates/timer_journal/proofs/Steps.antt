-- What one more step does to the past of a file of the system.
use Rattle.std.proofs.Common.{◌≡◌, ◌⊎◌, inl, inr, ⊎_elim, ℕ, ◌+◌, true, false, List, [], ◌∷◌, ◌++◌, length, take, refl, sym, ◌∙◌, ap, subst, length-append, arith}
use Rattle.std.proofs.lemmas.List.{take-append-le, take_all}
use Rattle.std.proofs.lemmas.Bool.{cases_lt}
use Rattle.timer_journal.specs.Device.{overwritten, Torn, Shortened, Passes, HasCause}
use Rattle.timer_journal.specs.declared.fault.DeviceFault.{DeviceFault}
use Rattle.timer_journal.specs.declared.fault.DeviceFault.TheVariants.{Full, Failed}
use Rattle.timer_journal.specs.declared.host.HostFile.{HostFile}
use Rattle.timer_journal.specs.Host.{Step, Found, Wrote, Cut, Synced, WroteInPart, CutInPart, LostSync, Refused, Replaced, RenameFailed, NotReplaced, after_steps, outcomes, held_after, left_after, left_since, failures, are_usable}

after_push : (file : List ℕ) (steps : List Step) (step : Step) → after_steps file (steps ++ step ∷ []) ≡ after_steps (after_steps file steps) (step ∷ [])
after_push file [] step = refl
after_push file (Found bytes ∷ steps) step = after_push bytes steps step
after_push file (Wrote at bytes ∷ steps) step = after_push (overwritten file at bytes) steps step
after_push file (Cut len ∷ steps) step = after_push (take len file) steps step
after_push file (Synced ∷ steps) step = after_push file steps step
after_push file (WroteInPart at bytes ∷ steps) step = after_push file steps step
after_push file (CutInPart len ∷ steps) step = after_push file steps step
after_push file (LostSync ∷ steps) step = after_push file steps step
after_push file (Refused ∷ steps) step = after_push file steps step
after_push file (Replaced bytes ∷ steps) step = after_push bytes steps step
after_push file (RenameFailed bytes ∷ steps) step = after_push file steps step
after_push file (NotReplaced ∷ steps) step = after_push file steps step

pub held_push : (steps steps' : List Step) (step : Step) → steps' ≡ steps ++ step ∷ [] → held_after steps' ≡ after_steps (held_after steps) (step ∷ [])
held_push steps steps' step is = ap held_after is ∙ after_push [] steps step

-- one more step tears what could be left before
outcomes_push : (file : List ℕ) (before : List ℕ → Type 0) (steps : List Step) (step : Step) (c : List ℕ) → outcomes file before (steps ++ step ∷ []) c
    → outcomes (after_steps file steps) (outcomes file before steps) (step ∷ []) c
outcomes_push file before [] step c left = left
outcomes_push file before (Found bytes ∷ steps) step c left = outcomes_push bytes (λ e. e ≡ bytes) steps step c left
outcomes_push file before (Wrote at bytes ∷ steps) step c left = outcomes_push (overwritten file at bytes) (λ e. (d : List ℕ) × before d × Torn at (length bytes) d e) steps step c left
outcomes_push file before (Cut len ∷ steps) step c left = outcomes_push (take len file) (λ e. (d : List ℕ) × before d × Shortened len d e) steps step c left
outcomes_push file before (Synced ∷ steps) step c left = outcomes_push file (λ e. before e × (e ≡ file)) steps step c left
outcomes_push file before (WroteInPart at bytes ∷ steps) step c left = outcomes_push file (λ e. (d : List ℕ) × before d × Torn at (length bytes) d e) steps step c left
outcomes_push file before (CutInPart len ∷ steps) step c left = outcomes_push file (λ e. (d : List ℕ) × before d × Shortened len d e) steps step c left
outcomes_push file before (LostSync ∷ steps) step c left = outcomes_push file before steps step c left
outcomes_push file before (Refused ∷ steps) step c left = outcomes_push file before steps step c left
outcomes_push file before (Replaced bytes ∷ steps) step c left = outcomes_push bytes (λ e. e ≡ bytes) steps step c left
outcomes_push file before (RenameFailed bytes ∷ steps) step c left = outcomes_push file (λ e. before e ⊎ (e ≡ bytes)) steps step c left
outcomes_push file before (NotReplaced ∷ steps) step c left = outcomes_push file before steps step c left

pub left_push : (steps steps' : List Step) (step : Step) → steps' ≡ steps ++ step ∷ [] → (c : List ℕ) → left_after steps' c
    → outcomes (held_after steps) (left_after steps) (step ∷ []) c
left_push steps steps' step is c left = outcomes_push [] (λ e. e ≡ []) steps step c (subst (λ (l : List Step). left_after l c) is left)

-- the past before one more step stays known
kept_push : (steps : List Step) (step : Step) (t : ℕ) (c : List ℕ) → left_since steps t c → left_since (steps ++ step ∷ []) t c
kept_push steps step t c left =
    (left.0, left.1, omega (arith, left.2, length-append steps (step ∷ [])), subst (λ (l : List Step). left_after l c) (sym (take-append-le left.0 steps (step ∷ []) left.2)) left.3)

-- and what comes to it is what may be left now
added_push : (steps : List Step) (step : Step) (t : ℕ) (c : List ℕ) → left_since (steps ++ step ∷ []) t c → left_since steps t c ⊎ left_after (steps ++ step ∷ []) c
added_push steps step t c left = elim (cases_lt (length steps) left.0) [
  | inl all ↦ inr (subst (λ (l : List Step). left_after l c) (take_all left.0 (steps ++ step ∷ []) (omega (arith, all, length-append steps (step ∷ [])))) left.3)
  | inr le ↦ inl (left.0, left.1, le, subst (λ (l : List Step). left_after l c) (take-append-le left.0 steps (step ∷ []) le) left.3)
]

-- one more step takes time
pub passes : {D : Type 0} (steps_of : D → List Step) (old new : D) (step : Step) → steps_of new ≡ steps_of old ++ step ∷ []
    → Passes (λ (f : D). length (steps_of f)) (λ (f : D) t c. left_since (steps_of f) t c) (left_after (steps_of new)) old new
passes steps_of old new step is = record {
  later = omega (arith, ap length is, length-append (steps_of old) (step ∷ []));
  kept = λ t c le left. subst (λ (l : List Step). left_since l t c) (sym is) (kept_push (steps_of old) step t c left);
  added = λ t c le left. ⊎_elim
      (λ was. inl was)
      (λ now. inr (subst (λ (l : List Step). left_after l c) (sym is) now))
      (added_push (steps_of old) step t c (subst (λ (l : List Step). left_since l t c) is left));
}

pub stays : {D : Type 0} (steps_of : D → List Step) (old new : D) → steps_of new ≡ steps_of old
    → Passes (λ (f : D). length (steps_of f)) (λ (f : D) t c. left_since (steps_of f) t c) (left_after (steps_of new)) old new
stays steps_of old new is = record {
  later = omega (arith, ap length is);
  kept = λ t c le left. subst (λ (l : List Step). left_since l t c) (sym is) left;
  added = λ t c le left. inl (subst (λ (l : List Step). left_since l t c) is left);
}

pub failures-append : (a b : List Step) → failures (a ++ b) ≡ failures a + failures b
failures-append [] b = omega arith
failures-append (Found bytes ∷ a) b = failures-append a b
failures-append (Wrote at bytes ∷ a) b = failures-append a b
failures-append (Cut len ∷ a) b = failures-append a b
failures-append (Synced ∷ a) b = failures-append a b
failures-append (WroteInPart at bytes ∷ a) b = omega (arith, failures-append a b)
failures-append (CutInPart len ∷ a) b = omega (arith, failures-append a b)
failures-append (LostSync ∷ a) b = omega (arith, failures-append a b)
failures-append (Refused ∷ a) b = omega (arith, failures-append a b)
failures-append (Replaced bytes ∷ a) b = failures-append a b
failures-append (RenameFailed bytes ∷ a) b = omega (arith, failures-append a b)
failures-append (NotReplaced ∷ a) b = omega (arith, failures-append a b)

pub usable-append : (a b : List Step) → are_usable a ≡ true → are_usable (a ++ b) ≡ are_usable b
usable-append [] b is = refl
usable-append (Found bytes ∷ a) b is = usable-append a b is
usable-append (Wrote at bytes ∷ a) b is = usable-append a b is
usable-append (Cut len ∷ a) b is = usable-append a b is
usable-append (Synced ∷ a) b is = usable-append a b is
usable-append (WroteInPart at bytes ∷ a) b is = usable-append a b is
usable-append (CutInPart len ∷ a) b is = usable-append a b is
usable-append (LostSync ∷ a) b is = absurd (let h = is in cc)
usable-append (Refused ∷ a) b is = usable-append a b is
usable-append (Replaced bytes ∷ a) b is = usable-append a b is
usable-append (RenameFailed bytes ∷ a) b is = absurd (let h = is in cc)
usable-append (NotReplaced ∷ a) b is = absurd (let h = is in cc)

-- after a sync that failed it is not usable, and after one that is done it is
pub usable_lost : (a b : List Step) → b ≡ a ++ LostSync ∷ [] → are_usable a ≡ true → are_usable b ≡ false
usable_lost a b more is = ap are_usable more ∙ usable-append a (LostSync ∷ []) is

pub usable_synced : (a b : List Step) → b ≡ a ++ Synced ∷ [] → are_usable a ≡ true → are_usable b ≡ true
usable_synced a b more is = ap are_usable more ∙ usable-append a (Synced ∷ []) is

pub usable_renamed : (a b : List Step) (bytes : List ℕ) → b ≡ a ++ RenameFailed bytes ∷ [] → are_usable a ≡ true → are_usable b ≡ false
usable_renamed a b bytes more is = ap are_usable more ∙ usable-append a (RenameFailed bytes ∷ []) is

pub usable_not_replaced : (a b : List Step) → b ≡ a ++ NotReplaced ∷ [] → are_usable a ≡ true → are_usable b ≡ false
usable_not_replaced a b more is = ap are_usable more ∙ usable-append a (NotReplaced ∷ []) is

pub usable_replaced : (a b : List Step) (bytes : List ℕ) → b ≡ a ++ Replaced bytes ∷ [] → are_usable a ≡ true → are_usable b ≡ true
usable_replaced a b bytes more is = ap are_usable more ∙ usable-append a (Replaced bytes ∷ []) is

-- a step that is no failure, and one that is
pub no_fault : {D : Type 0} (faults : D → ℕ) (old new : D) (fails : DeviceFault → Type 0) (a b : List Step) (step : Step)
    → faults old ≡ failures a → faults new ≡ failures b → b ≡ a ++ step ∷ [] → failures (step ∷ []) ≡ 0 → (fails Full → ⊥) → (fails Failed → ⊥) → HasCause faults old new fails
no_fault faults old new fails a b step was is more none full failed = record {
  counts = omega (arith, was, is, ap failures more, failures-append a (step ∷ []));
  full = λ f. absurd (full f);
  failed = λ f. absurd (failed f);
}

pub one_fault : {D : Type 0} (faults : D → ℕ) (old new : D) (fails : DeviceFault → Type 0) (a b : List Step) (step : Step)
    → faults old ≡ failures a → faults new ≡ failures b → b ≡ a ++ step ∷ [] → failures (step ∷ []) ≡ 1 → HasCause faults old new fails
one_fault faults old new fails a b step was is more one = record {
  counts = omega (arith, was, is, ap failures more, failures-append a (step ∷ []), one);
  full = λ f. omega (arith, was, is, ap failures more, failures-append a (step ∷ []), one);
  failed = λ f. omega (arith, was, is, ap failures more, failures-append a (step ∷ []), one);
}

-- a write that failed is a failure
pub write_failed : (old new : HostFile) (fails : DeviceFault → Type 0) (at : ℕ) (bytes : List ℕ) → new.past.steps ≡ old.past.steps ++ WroteInPart at bytes ∷ []
    → HasCause (λ (f : HostFile). failures f.past.steps) old new fails
write_failed old new fails at bytes more = one_fault _ old new fails old.past.steps new.past.steps (WroteInPart at bytes) refl refl more refl
