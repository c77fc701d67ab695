-- How a run of calls goes on.
use Rattle.std.proofs.Common.{◌≡◌, inl, inr, ⊎_elim, ℕ, List, sym, subst, arith}
use Rattle.timer_journal.specs.Device.{Passes, LeavesOnly, Follows, Only}

module _ {D : Type 0} (moment : D → ℕ) (left_since : D → ℕ → List ℕ → Type 0) (may_leave : D → List ℕ → Type 0)
    (begins_now : (file : D) (c : List ℕ) → left_since file (moment file) c → may_leave file c) where
  -- nothing was called
  pub started : (old : D) (P : List ℕ → Type 0) → ((c : List ℕ) → may_leave old c → P c) → LeavesOnly moment left_since old old P
  started old P here = record {
    later = omega arith;
    each = λ c left. here c (begins_now old c left);
    added = λ t c le left. inl left;
  }

  -- one call, before and after which a crash leaves what has P
  pub called : (old new : D) (P : List ℕ → Type 0) → Passes moment left_since (may_leave new) old new
      → ((c : List ℕ) → may_leave old c → P c) → ((c : List ℕ) → may_leave new c → P c) → LeavesOnly moment left_since old new P
  called old new P time before after = record {
    later = time.later;
    each = λ c left. ⊎_elim (λ was. before c (begins_now old c was)) (after c) (time.added (moment old) c (omega arith) left);
    added = λ t c le left. ⊎_elim (λ was. inl was) (λ now. inr (after c now)) (time.added t c le left);
  }

  -- two parts of a run
  pub joined : (old mid new : D) (P Q R : List ℕ → Type 0) → LeavesOnly moment left_since old mid P → LeavesOnly moment left_since mid new Q
      → ((c : List ℕ) → P c → R c) → ((c : List ℕ) → Q c → R c) → LeavesOnly moment left_since old new R
  joined old mid new P Q R first second from_P from_Q = record {
    later = omega (arith, first.later, second.later);
    each = λ c left. ⊎_elim (λ was. from_P c (first.each c was)) (from_Q c) (second.added (moment old) c first.later left);
    added = λ t c le left. ⊎_elim (λ was. ⊎_elim (λ before. inl before) (λ has. inr (from_P c has)) (first.added t c le was)) (λ has. inr (from_Q c has)) (second.added t c (omega (arith, le, first.later)) left);
  }

  pub weaker : (old new : D) (P Q : List ℕ → Type 0) → LeavesOnly moment left_since old new P → ((c : List ℕ) → P c → Q c) → LeavesOnly moment left_since old new Q
  weaker old new P Q run from = record {
    later = run.later;
    each = λ c left. from c (run.each c left);
    added = λ t c le left. ⊎_elim (λ was. inl was) (λ has. inr (from c has)) (run.added t c le left);
  }

  -- a step from a file that is on the disk, and then a sync: a crash leaves what the step might
  module _ (old mid : D) (file : List ℕ) (step : List ℕ → List ℕ → Type 0) (durable : Only file (may_leave old)) (same : step file file)
      (time : Passes moment left_since (may_leave mid) old mid) (crash : Follows step (may_leave old) (may_leave mid)) where
    after : (f : List ℕ) → may_leave mid f → step file f
    after f now = let from = crash f now in subst (λ d. step d f) (durable from.0 from.1) from.2

    pub stepped : LeavesOnly moment left_since old mid (step file)
    stepped = called old mid (step file) time (λ f now. subst (step file) (sym (durable f now)) same) after

    pub synced : (new : D) → Passes moment left_since (may_leave new) mid new → ((f : List ℕ) → may_leave new f → may_leave mid f)
        → LeavesOnly moment left_since old new (step file)
    synced new next kept = joined old mid new (step file) (step file) (step file) stepped
        (called mid new (step file) next after (λ f now. after f (kept f now))) (λ f has. has) (λ f has. has)
