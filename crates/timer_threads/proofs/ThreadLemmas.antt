-- Threads that are started one after another, and the lines of their clients.
use Rattle.std.proofs.Common.{◌≡◌, ◌<◌, ◌+◌, ◌++◌, ℕ, List, [], ◌∷◌, length, get_or, take, refl, sym, ◌∙◌, ap, subst, arith, append-nil, length-append, ◌⊎◌, inl, inr, zero, suc}
use Rattle.std.specs.Prelude.{is_none, Result, Ok, Err, IfOk, IfErr}
use Rattle.std.specs.List.{flat_map, enumerate_from}
use Rattle.std.proofs.lemmas.Grind.{flat_map-append}
use Rattle.std.proofs.lemmas.List.{get_or_push, get_or_append_left, take_more}
use Rattle.std.proofs.lemmas.Slice.Zip.{AllZip-long}
use Rattle.std.proofs.lemmas.List.FromFn.{length-enumerate_from, get_or-enumerate_from}
use Rattle.timer_desk.specs.Driver.{Drives}
use Rattle.timer_desk.specs.RingEnds.{line_of_inlet, ring_lines}
use Rattle.timer_threads.specs.Types.{DriveEnd, ThreadsFault, Worked, RingInlet, Child}
use Rattle.timer_facility.specs.Facility.{FacilityView, with_nothing_waiting}
use Rattle.timer_desk.specs.Desk.{DeskState, opened_desk}
use Rattle.timer_threads.specs.declared.outcome.ThreadsFault.TheVariants as Faults
use Rattle.timer_threads.specs.Children.{promise_of, HasLeft, HaveLeft}
use Rattle.timer_threads.specs.Work.{IsOfLine, IsWork}
use Rattle.timer_threads.specs.Results.{NoneFailed}
use Rattle.timer_threads.specs.Threads.{new_facility, IsFreshDesk, IsThreadOfLine, AreThreadsOfLines, AreOfLines, AllWhole, HasSucceeded, IsThreadsRun, IsExplained, IsFirstFault, client_text, clients_text, client_line, whole_lines}
use Rattle.timer_threads.proofs.ResultsLemmas.{or_false}
use Rattle.timer_threads.proofs.EndedLines.{some_item}

-- one more line, and the thread that was started with its end
pub AreThreadsOfLines-more : (count limit : ℕ) (inlets : List RingInlet) (children : List Child) (i : RingInlet) (h : Child)
    → AreThreadsOfLines count limit inlets children → IsThreadOfLine count limit i h → AreThreadsOfLines count limit (inlets ++ i ∷ []) (children ++ h ∷ [])
AreThreadsOfLines-more count limit inlets children i h was one =
    let many : length children ≡ length inlets = was.as_many in
    let more = length-append inlets (i ∷ []) in
    let more' = length-append children (h ∷ []) in record {
      as_many = omega (arith, many, more, more');
      each = λ k j g l. elim (before_or_last k (length inlets) (omega (arith, l, more))) [
        | inl low ↦ rw (get_or_append_left inlets (i ∷ []) j k low, get_or_append_left children (h ∷ []) g k (omega (arith, low, many)))
            (was.each k j g low)
        | inr is ↦ rw (get_or_push inlets i j k (sym is), get_or_push children h g k (many ∙ sym is)) one
      ];
    }
  where
    before_or_last : (k n : ℕ) → k < n + 1 → (k < n) ⊎ (k ≡ n)
    before_or_last k n h = grind (arith)

pub clients_text-next : (ws : List Worked) (n : ℕ) (w : Worked) → n < length ws → w ≡ get_or ws n w
    → flat_map client_text (take (n + 1) (enumerate_from 0 ws))
    ≡ flat_map client_text (take n (enumerate_from 0 ws)) ++ client_line n w.sent w.started w.expired
clients_text-next ws n w low is =
    let all : List (ℕ × Worked) = enumerate_from 0 ws in
    let long = length-enumerate_from 0 ws in
    let e : 0 + n ≡ n = omega arith in
    ap (flat_map client_text) (take_more all n (0, w) (omega (arith, long, low)))
    ∙ flat_map-append client_text (take n all) (get_or all n (0, w) ∷ [])
    ∙ ap (λ t. flat_map client_text (take n all) ++ t) (append-nil (client_text (get_or all n (0, w)))
    ∙ ap client_text (get_or-enumerate_from 0 ws n (0, w) low ∙ ap {B = ℕ × Worked} (λ k. (k, get_or ws n w)) e
    ∙ ap {B = ℕ × Worked} (λ v. (n, v)) (sym is)))

-- what the thread with this number left
left_at : (children : List Child) (all : List Worked) (k : ℕ) (h : Child) (w : Worked) → HaveLeft children all → k < length children
    → HasLeft (get_or children k h) (get_or all k w)
left_at [] all k h w left l = absurd (omega arith)
left_at (c ∷ cs) [] k h w left l = absurd left
left_at (c ∷ cs) (v ∷ vs) zero h w left l = left.0
left_at (c ∷ cs) (v ∷ vs) (suc k) h w left l = left_at cs vs k h w left.1 (omega arith)

-- whatever the threads that are left will leave, all have left that after what was left so far
abbrev pub LeadsTo : List Child → List Child → List Worked → Type 0
LeadsTo children rest so_far = (more : List Worked) → HaveLeft rest more → HaveLeft children (so_far ++ more)

pub leads_end : (children rest : List Child) (all : List Worked) → LeadsTo children rest all → rest ≡ [] → HaveLeft children all
leads_end children rest all leads none =
    subst (λ xs. HaveLeft children xs) (append-nil all) (leads [] (subst (λ cs. HaveLeft cs []) (sym none) tt))

pub work_kept : (count limit : ℕ) (first : List RingInlet) (children : List Child) (all : List Worked)
    → AreThreadsOfLines count limit first children → HaveLeft children all
    → (k : ℕ) (w : Worked) → k < length all → IsWork count limit (get_or all k w)
work_kept count limit first children all tied left k w l =
    let joined = AllZip-long HasLeft children all left in
    let low' : k < length children = omega (arith, joined, l) in
    let low : k < length first = let a = tied.as_many in omega (arith, a, low') in
    let child : Child = get_or children k (some_item children k low') in
    let t = tied.each k (some_item first k low) (some_item children k low') low in record {
      start = (promise_of child).end.value;
      new = t.end_new;
      worked = rw (t.count_is, t.limit_is) at (left_at children all k (some_item children k low') w left low').1;
    }

pub all_left : (count limit : ℕ) (inlets : List RingInlet) (children : List Child) (all : List Worked)
    → AreThreadsOfLines count limit inlets children → HaveLeft children all → length all ≡ length inlets
all_left count limit inlets children all tied left = AllZip-long HasLeft children all left ∙ tied.as_many

-- a desk that was opened over a new facility
pub opened_new : (clients : ℕ) (inlets : List RingInlet) (f : FacilityView) (desk : DeskState RingInlet)
    → desk ≡ opened_desk f.state inlets 1024 → f ≡ with_nothing_waiting (new_facility clients)
    → desk ≡ opened_desk (new_facility clients) inlets 1024
opened_new clients inlets f desk is new = is ∙ ap (λ (v : FacilityView). opened_desk v.state inlets 1024) new

-- a desk that was opened over new lines and driven, and what the threads of its clients left
module _ (clients timers limit : ℕ) (inlets : List RingInlet) (opened desk : DeskState RingInlet) (outcome : DriveEnd)
    (children : List Child) (all : List Worked) (is : opened ≡ opened_desk (new_facility clients) inlets 1024)
    (many : clients ≡ length inlets) (tied : AreThreadsOfLines timers limit inlets children)
    (driven : Drives ring_lines timers limit opened desk outcome) (left : HaveLeft children all) where
  pub driven_lines : AreOfLines desk.inlets all
  driven_lines =
      let same : opened.inlets ≡ inlets = ap (λ (d : DeskState RingInlet). d.inlets) is in
      let as_many : length desk.inlets ≡ length inlets = driven.holds.same_clients ∙ ap (λ is. length is) same in record {
        as_many = all_left timers limit inlets children all tied left ∙ sym as_many;
        each = λ k i w l.
            let low : k < length inlets = omega (arith, as_many, l) in
            let low' : k < length children = let a = tied.as_many in omega (arith, a, low) in
            let h : Child = some_item children k low' in
            let kept = (driven.holds.lines k i (omega (arith, low, ap (λ is. length is) same))).same.line_is in
            subst (λ l. IsOfLine l (get_or all k w))
            (sym (tied.each k i h low).line ∙ ap (λ is. line_of_inlet (get_or is k i)) (sym same) ∙ kept)
            (left_at children all k h w left low').0;
      }

  pub is_run : (Ends : DeskState RingInlet → DriveEnd → List Worked → Type 0) → Ends desk outcome all → IsThreadsRun clients timers limit Ends
  is_run Ends h = record {
    opened = opened;
    new = subst (IsFreshDesk clients) (sym is) (record {
      lines = λ k i l. (tied.each k i (some_item children k (let a = tied.as_many in omega (arith, a, l))) l).inlet_new;
      is = refl;
    });
    desk = desk;
    outcome = outcome;
    all = all;
    as_many = all_left timers limit inlets children all tied left ∙ sym many;
    lines = driven_lines;
    driven = driven;
    worked = work_kept timers limit inlets children all tied left;
    ends = h;
  }

-- it ended well, or with its first error
module _ (clients timers limit : ℕ) (desk : DeskState RingInlet) (outcome : DriveEnd) (all : List Worked)
    (run : (Ends : DeskState RingInlet → DriveEnd → List Worked → Type 0) → Ends desk outcome all → IsThreadsRun clients timers limit Ends) where
  pub run_succeeded : {A : Type 0} (result : Result A ThreadsFault) → IfOk result (λ _. HasSucceeded desk outcome all)
      → IfOk result (λ _. IsThreadsRun clients timers limit HasSucceeded)
  run_succeeded (Ok x) h = run HasSucceeded h
  run_succeeded (Err fault) h = tt

  pub run_failed : {A : Type 0} (result : Result A ThreadsFault) → IfErr result (λ fault. IsFirstFault desk outcome all fault)
      → IfErr result (λ fault. IsExplained clients timers limit fault)
  run_failed (Ok x) h = tt
  run_failed (Err Faults.OutOfMemory) h = tt
  run_failed (Err (Faults.Client c)) h = run (λ d o ws. IsFirstFault d o ws (Faults.Client c)) h
  run_failed (Err Faults.Desk) h = run (λ d o ws. IsFirstFault d o ws Faults.Desk) h

-- if none failed, the text is that of whole clients
pub clients_text-whole : (n timers : ℕ) (ws : List Worked) → AllWhole timers ws → NoneFailed ws
    → clients_text n ws ≡ whole_lines n (length ws) timers
clients_text-whole n timers [] a f = refl
clients_text-whole n timers (w ∷ ws) a f =
    let low : 0 < length (w ∷ ws) = omega arith in
    let good = (or_false w.failed (is_none w.ended) (f 0 w low)).0 in
    let is = a 0 w low good in
    rw (is.0, is.1, is.2) (ap (λ t. client_line n timers timers timers ++ t)
    (clients_text-whole (n + 1) timers ws (λ k v l. a (suc k) v (omega arith)) (λ k v l. f (suc k) v (omega arith))))
