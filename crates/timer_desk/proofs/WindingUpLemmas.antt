-- Lines and readers that are settled one after another.
use Rattle.std.proofs.Common.{◌≡◌, ◌≢◌, ◌<◌, ◌≤◌, ◌+◌, ℕ, List, length, get_or, sym, ◌∙◌, ap, subst, ⊎_elim, arith}
use Rattle.std.specs.Prelude.{slice_set}
use Rattle.std.proofs.lemmas.Bool.{cases_eq}
use Rattle.std.proofs.lemmas.List.{get_or-set_same, get_or-set_other}
use Rattle.timer_desk.specs.Types.{RingInlet, ClientReader, RequestsEnded}
use Rattle.timer_desk.specs.Desk.{DeskState, clients_of, backlog_at}
use Rattle.timer_desk.specs.RingEnds.{line_of_inlet, got_of, given_of, all_submitted}
use Rattle.timer_desk.specs.Settlement.{OnlyLooks}
use Rattle.timer_desk.specs.WindingUp.{KeepsLines, IsReadOut, IsWaiting}

-- what a reader can still read depends on what was given alone
pub IsReadOut-same : (i j : RingInlet) (before after : ClientReader) → given_of i ≡ given_of j → IsReadOut i before after
    → IsReadOut j before after
IsReadOut-same i j before after e h = record { line = h.line; read = h.read; found = h.found; settled = h.settled; all = h.all ∙ e }

-- what waited after some lines were settled waited before
pub still_waits : (n : ℕ) (old new : DeskState RingInlet) (ended : List RequestsEnded) (x : RequestsEnded)
    → KeepsLines old new → n < clients_of old
    → ((e : RequestsEnded) → x ≡ get_or ended n e)
    → ((i : RingInlet) → IsWaiting (backlog_at new n) (got_of (get_or new.inlets n i)) (all_submitted x))
    → (i : RingInlet) (e : RequestsEnded) → IsWaiting (backlog_at old n) (got_of (get_or old.inlets n i)) (all_submitted (get_or ended n e))
still_waits n old new ended x keeps low is waits i e =
    rw (sym keeps.same_backlogs, sym (keeps.same_got n i low), sym (is e)) (waits i)

-- the readers below m + 1 are settled if those below m were, and this one is
pub one_more_read : (all : List RingInlet) (start rs : List ClientReader) (m : ℕ) (x : ClientReader) → m < length rs
    → ((i : RingInlet) (r : ClientReader) → IsReadOut (get_or all m i) (get_or start m r) x)
    → ((k : ℕ) (i : RingInlet) (r : ClientReader) → k < m → IsReadOut (get_or all k i) (get_or start k r) (get_or rs k r))
    → (k : ℕ) (i : RingInlet) (r : ClientReader) → k < m + 1
    → IsReadOut (get_or all k i) (get_or start k r) (get_or (slice_set rs m x) k r)
one_more_read all start rs m x low here was k i r l = ⊎_elim
    (λ (is : k ≡ m). rw (is, get_or-set_same rs m x r low) (here i r))
    (λ (apart : k ≢ m). rw (get_or-set_other rs m k x r apart) (was k i r (below k m l apart)))
    (cases_eq k m)
  where
    below : (k m : ℕ) → k < m + 1 → k ≢ m → k < m
    below k m l apart = grind (arith)

-- the readers from m + 1 on are as they were
pub later_stays : (rs start : List ClientReader) (m : ℕ) (x : ClientReader)
    → ((k : ℕ) (r : ClientReader) → m ≤ k → get_or rs k r ≡ get_or start k r)
    → (k : ℕ) (r : ClientReader) → m + 1 ≤ k → get_or (slice_set rs m x) k r ≡ get_or start k r
later_stays rs start m x was k r h = get_or-set_other rs m k x r (λ (e : k ≡ m). absurd (omega arith)) ∙ was k r (omega arith)

-- what a look at a reader's line keeps of all lines
pub keeps_looked : (n : ℕ) (old new : DeskState RingInlet) → OnlyLooks n old new → KeepsLines old new
keeps_looked n old new looks = record {
  same_clients = looks.same_clients;
  same_facility = looks.same_facility;
  same_backlogs = looks.same_backlogs;
  same_lines = λ k i l. at_each line_of_inlet k i (looks.looked i).same_line;
  same_got = λ k i l. at_each got_of k i (looks.looked i).same_got;
  same_given = λ k i l. at_each given_of k i (looks.looked i).same_given;
}
  where
    at_each : {X : Type 0} (f : RingInlet → X) (k : ℕ) (i : RingInlet) → f (get_or new.inlets n i) ≡ f (get_or old.inlets n i)
        → f (get_or new.inlets k i) ≡ f (get_or old.inlets k i)
    at_each f k i here = ⊎_elim (λ (is : k ≡ n). rw is here) (λ (apart : k ≢ n). ap f (looks.others k i apart)) (cases_eq k n)

pub keeps_then : (a b d : DeskState RingInlet) → KeepsLines a b → KeepsLines b d → KeepsLines a d
keeps_then a b d p q = record {
  same_clients = q.same_clients ∙ p.same_clients;
  same_facility = q.same_facility ∙ p.same_facility;
  same_backlogs = q.same_backlogs ∙ p.same_backlogs;
  same_lines = λ k i l. q.same_lines k i (subst (λ n. k < n) (sym p.same_clients) l) ∙ p.same_lines k i l;
  same_got = λ k i l. q.same_got k i (subst (λ n. k < n) (sym p.same_clients) l) ∙ p.same_got k i l;
  same_given = λ k i l. q.same_given k i (subst (λ n. k < n) (sym p.same_clients) l) ∙ p.same_given k i l;
}
