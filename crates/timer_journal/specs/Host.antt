-- What was done to a file of the system, what it holds then, and what a crash may leave of it.
use Rattle.std.specs.Prelude.{ℕ, suc, ◌≤◌, ◌≡◌, ◌⊎◌, Bool, true, false, List, [], ◌∷◌, length, take}
use Rattle.std.proofs.Common.{sym, subst, arith}
use Rattle.std.proofs.lemmas.List.{take_all}
use Rattle.timer_journal.specs.Device.{overwritten, Torn, Shortened}

-- A step: these bytes were read, and are on the disk; a write, a cut and a sync; each of these three that failed; or another
-- call that failed. A write or a cut that failed may have changed what a crash leaves. A new file with these bytes, on the
-- disk, took the place of the file; its renaming failed, so a crash may leave either; or it came to none.
pub data Step : Type 0 where
  Found : List ℕ → Step
  Wrote : ℕ → List ℕ → Step
  Cut : ℕ → Step
  Synced : Step
  WroteInPart : ℕ → List ℕ → Step
  CutInPart : ℕ → Step
  LostSync : Step
  Refused : Step
  Replaced : List ℕ → Step
  RenameFailed : List ℕ → Step
  NotReplaced : Step

-- a file after these steps
abbrev pub after_steps : List ℕ → List Step → List ℕ
after_steps file [] = file
after_steps file (Found bytes ∷ steps) = after_steps bytes steps
after_steps file (Wrote at bytes ∷ steps) = after_steps (overwritten file at bytes) steps
after_steps file (Cut len ∷ steps) = after_steps (take len file) steps
after_steps file (Synced ∷ steps) = after_steps file steps
after_steps file (WroteInPart at bytes ∷ steps) = after_steps file steps
after_steps file (CutInPart len ∷ steps) = after_steps file steps
after_steps file (LostSync ∷ steps) = after_steps file steps
after_steps file (Refused ∷ steps) = after_steps file steps
after_steps file (Replaced bytes ∷ steps) = after_steps bytes steps
after_steps file (RenameFailed bytes ∷ steps) = after_steps file steps
after_steps file (NotReplaced ∷ steps) = after_steps file steps

-- what a crash after them may leave, of a file and what one could leave of it before
abbrev pub outcomes : List ℕ → (List ℕ → Type 0) → List Step → List ℕ → Type 0
outcomes file before [] c = before c
outcomes file before (Found bytes ∷ steps) c = outcomes bytes (λ e. e ≡ bytes) steps c
outcomes file before (Wrote at bytes ∷ steps) c =
    outcomes (overwritten file at bytes) (λ e. (d : List ℕ) × before d × Torn at (length bytes) d e) steps c
outcomes file before (Cut len ∷ steps) c = outcomes (take len file) (λ e. (d : List ℕ) × before d × Shortened len d e) steps c
outcomes file before (Synced ∷ steps) c = outcomes file (λ e. before e × (e ≡ file)) steps c
outcomes file before (WroteInPart at bytes ∷ steps) c = outcomes file (λ e. (d : List ℕ) × before d × Torn at (length bytes) d e) steps c
outcomes file before (CutInPart len ∷ steps) c = outcomes file (λ e. (d : List ℕ) × before d × Shortened len d e) steps c
outcomes file before (LostSync ∷ steps) c = outcomes file before steps c
outcomes file before (Refused ∷ steps) c = outcomes file before steps c
outcomes file before (Replaced bytes ∷ steps) c = outcomes bytes (λ e. e ≡ bytes) steps c
outcomes file before (RenameFailed bytes ∷ steps) c = outcomes file (λ e. before e ⊎ (e ≡ bytes)) steps c
outcomes file before (NotReplaced ∷ steps) c = outcomes file before steps c

-- what the file holds, and what a crash may leave of it
abbrev pub held_after : List Step → List ℕ
held_after steps = after_steps [] steps

abbrev pub left_after : List Step → List ℕ → Type 0
left_after steps c = outcomes [] (λ e. e ≡ []) steps c

-- what a crash may have left after t steps or more
abbrev pub left_since : List Step → ℕ → List ℕ → Type 0
left_since steps t c = (k : ℕ) × (t ≤ k) × (k ≤ length steps) × left_after (take k steps) c

-- how many of them failed
abbrev pub failures : List Step → ℕ
failures [] = 0
failures (WroteInPart at bytes ∷ steps) = suc (failures steps)
failures (CutInPart len ∷ steps) = suc (failures steps)
failures (LostSync ∷ steps) = suc (failures steps)
failures (Refused ∷ steps) = suc (failures steps)
failures (RenameFailed bytes ∷ steps) = suc (failures steps)
failures (NotReplaced ∷ steps) = suc (failures steps)
failures (step ∷ steps) = failures steps

-- no sync failed, and no replacement
abbrev pub are_usable : List Step → Bool
are_usable [] = true
are_usable (LostSync ∷ steps) = false
are_usable (RenameFailed bytes ∷ steps) = false
are_usable (NotReplaced ∷ steps) = false
are_usable (step ∷ steps) = are_usable steps

-- the present is one of the moments
pub now_is_one : (steps : List Step) (t : ℕ) (c : List ℕ) → t ≤ length steps → left_after steps c → left_since steps t c
now_is_one steps t c le now =
    (length steps, le, omega arith, subst (λ (l : List Step). left_after l c) (sym (take_all (length steps) steps (omega arith))) now)

-- and the last
pub now_is_last : (steps : List Step) (c : List ℕ) → left_since steps (length steps) c → left_after steps c
now_is_last steps c left = subst (λ (l : List Step). left_after l c) (take_all left.0 steps (omega (arith, left.1))) left.3
