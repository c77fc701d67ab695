-- The lines of the ends and of the readers that clients left.
use Rattle.std.proofs.Common.{◌≡◌, ◌<◌, ◌+◌, inl, inr, true, ◌++◌, ℕ, min, List, [], ◌∷◌, length, get_or, refl, sym, ◌∙◌, ap, subst, arith, append-nil}
use Rattle.std.proofs.lemmas.Bool.{cases_lt}
use Rattle.std.proofs.lemmas.List.{length-append}
use Rattle.std.specs.Prelude.{Option, Some, None, IfSome, IsNone}
use Rattle.timer_base.proofs.Basics.{some_same}
use Rattle.timer_desk.specs.RingEnds.{got_of, given_of, all_submitted, read_by, unread_by, words_ring_of_reader}
use Rattle.timer_desk.specs.Desk.{DeskState, AllIdle, backlog_at}
use Rattle.timer_desk.specs.WindingUp.{AreEndsOf, AreReadersOf, IsReadOut, AllGot, AllReadOut, IsWaiting, IsFirstUnfinished}
use Rattle.timer_threads.specs.Types.{Worked, RingInlet, RequestsEnded, ClientReader}
use Rattle.timer_threads.specs.Results.{is_failed, NoneFailed, AllRequestsEnded, IsFirstFailed, AreUnzipped, lower_of}
use Rattle.timer_threads.specs.Threads.{NoneUnread, AreSettled, IsFirstWithWords, AllServed, IsWoundUp, IsUnfinished, IsFirstNotServed, AreOfLines, IsFirstClient}
use Rattle.timer_threads.proofs.ResultsLemmas.{ends_many, readers_many, ended_is, ended_at, reader_at, all_ended}

-- a list with this index has an item
pub some_item : {X : Type 0} (xs : List X) (k : ℕ) → k < length xs → X
some_item [] k l = absurd (omega arith)
some_item (x ∷ xs) k l = x

-- readers that were read out are settled
pub are_settled : (inlets : List RingInlet) (before after : List ClientReader) → AllReadOut inlets before after
    → length after ≡ length inlets → AreSettled after
are_settled inlets before after told long c r l =
    let low : c < length inlets = omega (arith, l, long) in (told c (some_item inlets c low) r low).settled

-- a reader that was settled, and for which no word is left, had read all that was given
all_read : (inlet : RingInlet) (before after : ClientReader) → IsReadOut inlet before after → unread_by after ≡ [] → read_by before ≡ given_of inlet
all_read inlet before after told none =
    sym told.read ∙ sym (append-nil (read_by after)) ∙ ap (λ us. read_by after ++ us) (sym none) ∙ told.all

-- The ends and readers of what the clients left.
module _ (desk : DeskState RingInlet) (all : List Worked) (es : List RequestsEnded) (rs : List ClientReader) (lines : AreOfLines desk.inlets all)
    (unzipped : AreUnzipped all es rs) where
  clients : (c : ℕ) → c < length all → c < length desk.inlets
  clients c l = let m = lines.as_many in omega (arith, l, m)

  pub ends_of : AreEndsOf desk.inlets es
  ends_of =
      let n = ends_many all es rs unzipped in
      let m = lines.as_many in record {
        as_many = n ∙ m;
        of_lines = λ k i e l.
            let w : Worked = some_item all k (omega (arith, l, m)) in
            rw (ended_is all es rs unzipped k w e (omega (arith, l, m))) at (lines.each k i w l).ended;
      }

  pub readers_of : AreReadersOf desk.inlets rs
  readers_of =
      let m = lines.as_many in record {
        as_many = readers_many all es rs unzipped ∙ m;
        of_lines = λ k i r l.
            let w : Worked = some_item all k (omega (arith, l, m)) in
            ap words_ring_of_reader (sym (reader_at all es rs unzipped k w r (omega (arith, l, m)))) ∙ (lines.each k i w l).reader;
      }

  -- the first client of which something waits
  pub held_waiting : (c : ℕ) → IsFirstUnfinished desk es c → IsFirstNotServed desk all c
  held_waiting c blamed =
      let low : c < length all = let m = lines.as_many in let l = blamed.client in omega (arith, l, m) in record {
        client = low;
        back = inl (λ i w e is. subst (λ x. IsWaiting (backlog_at desk c) (got_of (get_or desk.inlets c i)) (all_submitted x))
            (ended_at all es rs unzipped c w e low is) (blamed.waiting i e));
        before = λ k l. record {
          idle = blamed.idle_before k l;
          got = λ i w e is. ap all_submitted (sym (ended_at all es rs unzipped k w e (omega (arith, low, l)) is)) ∙ blamed.got_before k i e l;
        };
      }

  -- nothing of any client waits, and these are the readers once they are settled
  module _ (after : List ClientReader) (idle : AllIdle desk) (got : AllGot desk.inlets es) (told : AllReadOut desk.inlets rs after)
      (long : length after ≡ length desk.inlets) where
    all_served : AllServed desk all
    all_served c l = record {
      idle = idle c (clients c l);
      got = λ i w e is. ap all_submitted (sym (ended_at all es rs unzipped c w e l is)) ∙ got c i e (clients c l);
    }

    reads : (c : ℕ) (i : RingInlet) (w : Worked) → c < length all → unread_by (get_or after c w.reader) ≡ []
        → read_by (get_or all c w).reader ≡ given_of (get_or desk.inlets c i)
    reads c i w l none = ap read_by (reader_at all es rs unzipped c w w.reader l)
        ∙ all_read (get_or desk.inlets c i) (get_or rs c w.reader) (get_or after c w.reader) (told c i w.reader (clients c l)) none

    pub wound_up : NoneUnread after → IsWoundUp desk all
    wound_up none = record {
      served = all_served;
      read = λ c i w l. reads c i w l (none c w.reader (let low = clients c l in omega (arith, low, long)));
    }

    -- the first for which a word is left
    pub held_reading : (c : ℕ) → IsFirstWithWords after c → IsFirstNotServed desk all c
    held_reading c first =
        let low : c < length all = let m = lines.as_many in let l = first.client in omega (arith, l, m, long) in record {
          client = low;
          back = inr (record {
            served = all_served;
            unread = λ i w.
                let x = told c i w.reader (clients c low) in
                let some = first.unread w.reader in
                let read = ap (λ (r : ClientReader). length (read_by r)) (reader_at all es rs unzipped c w w.reader low) in
                let same = ap (λ ws. length ws) x.read in
                let sum : length (read_by (get_or after c w.reader)) + length (unread_by (get_or after c w.reader))
                ≡ length (given_of (get_or desk.inlets c i)) =
                sym (length-append (read_by (get_or after c w.reader)) (unread_by (get_or after c w.reader))) ∙ ap (λ ws. length ws) x.all in
                omega (arith, some, read, same, sum);
            before = λ k i w l. reads k i w (omega (arith, low, l)) (first.before k w.reader l);
          });
          before = λ k l. all_served k (omega (arith, low, l));
        }

-- the desk was wound up, if the requests of each client could be ended
pub wound_by : {X : Type 0} (parts : Option X) {A B : Type 0} → (IsNone parts → ¬ A) → IfSome parts (λ _. B) → A → B
wound_by None missing wound ended = absurd (missing refl ended)
wound_by (Some x) missing wound ended = wound

-- The lower of two clients.

pub first_client : (desk : DeskState RingInlet) (all : List Worked) (failed held : Option ℕ) (c : ℕ) → lower_of failed held ≡ Some c
    → IfSome failed (λ k. IsFirstFailed all k) → (IsNone failed → NoneFailed all) → IfSome held (λ k. IsFirstNotServed desk all k)
    → (IsNone held → AllRequestsEnded all → IsWoundUp desk all) → IsFirstClient desk all c
first_client desk all None None c is some none back wound = absurd (cc)
first_client desk all None (Some b) c is some none back wound =
    let at : b ≡ c = some_same b c is in record {
      client = let low = back.client in omega (arith, low, at);
      reason = inr (subst (λ k. IsUnfinished desk all k) at back.back);
      others = λ k w l. none refl k w (let low = back.client in omega (arith, low, at, l));
      served = λ _ k l. back.before k (omega (arith, at, l));
    }
first_client desk all (Some a) None c is some none back wound =
    let at : a ≡ c = some_same a c is in
    let low = some.client in record {
      client = omega (arith, low, at);
      reason = inl (λ w. subst (λ k. is_failed (get_or all k w) ≡ true) at (some.failed w));
      others = λ k w l. some.others k w (omega (arith, at, l));
      served = λ ended k l. (wound refl ended).served k (omega (arith, low, at, l));
    }
first_client desk all (Some a) (Some b) c is some none back wound =
    let at : min a b ≡ c = some_same (min a b) c is in record {
      client = let h = some.client in let low = back.client in omega (arith, h, low, at);
      reason = elim (cases_lt b a) [
        | inl l ↦ inr (subst (λ k. IsUnfinished desk all k) (let e : b ≡ c = omega (arith, at, l) in e) back.back)
        | inr l ↦ inl (λ w. subst (λ k. is_failed (get_or all k w) ≡ true) (let e : a ≡ c = omega (arith, at, l) in e) (some.failed w))
      ];
      others = λ k w l. some.others k w (omega (arith, at, l));
      served = λ _ k l. back.before k (omega (arith, at, l));
    }

-- if no client failed or is held back, the desk was wound up
pub none_blamed : (desk : DeskState RingInlet) (all : List Worked) (failed held : Option ℕ) → lower_of failed held ≡ None
    → (IsNone failed → NoneFailed all) → (IsNone held → AllRequestsEnded all → IsWoundUp desk all) → NoneFailed all × IsWoundUp desk all
none_blamed desk all None None is none wound = let good = none refl in (good, wound refl (all_ended all good))
none_blamed desk all None (Some b) is none wound = absurd (cc)
none_blamed desk all (Some a) None is none wound = absurd (cc)
none_blamed desk all (Some a) (Some b) is none wound = absurd (cc)
