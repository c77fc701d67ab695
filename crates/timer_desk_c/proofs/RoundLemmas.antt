-- The rounds of the owner, client after client.
use Rattle.std.proofs.Common.{◌≡◌, ◌≢◌, ◌<◌, ◌≤◌, ◌+◌, ◌++◌, ◌||◌, ◌⊎◌, ℕ, Bool, true, false, List, [], ◌∷◌, length, append-nil, refl, sym, ◌∙◌, ap, subst, inl, inr, arith, ne_of_lt}
use borrow.Author.Count.{below_more}
use Rattle.std.specs.Prelude.{nat_lt, get_or, map, not}
use Rattle.std.specs.List.{list_any, flat_map, enumerate_from}
use Rattle.std.proofs.Math.Bool.{or-true, or-false}
use Rattle.std.proofs.lemmas.Grind.{flat_map-append}
use Rattle.std.proofs.lemmas.List.{get_or_append_left, get_or_push, get_or-set_other, length_push, map_push}
use Rattle.std.proofs.lemmas.List.Elements.{All-nil, All-push, All-weaker, filter-append}
use Rattle.std.proofs.lemmas.List.Folds.{list_any-append, list_any_none}
use Rattle.timer_facility.specs.declared.request.Notice.{Notice}
use Rattle.timer_desk_c.specs.Types.{Served, Done, RingInlet}
use Rattle.timer_desk.specs.declared.report.Served.TheVariants.{Idle, NoRoom, NoMemory, Did}
use Rattle.timer_desk.specs.declared.report.Done.TheVariants as Dones
use Rattle.timer_desk.specs.Backlog.{BacklogState, empty_backlog}
use Rattle.timer_desk.specs.Member.{IsKept, is_notice}
use Rattle.timer_desk.specs.RingEnds.{ring_lines}
use Rattle.timer_desk.specs.Desk.{at_rest, backlog_at, notices_of, event_report}
use Rattle.timer_desk.specs.Flush.{FlushesClient, without_words}
use Rattle.timer_desk.proofs.Members.{joined_reports, ReportHolds-nothing}
use Rattle.timer_desk_c.specs.DeskSlots.{RingDesk}
use Rattle.timer_desk_c.specs.Desks.{Says}
use Rattle.timer_desk_c.specs.Rounds.{report_of, did, starved, serves_of, without_notices, SaysServes, AllDid, IsServedOut, HasServedClient, HasServedFirst, flush_of, IsFlushedOut, HasFlushedFirst}
use Rattle.timer_desk_c.specs.Freed.{IsDropped, HasDropped, HasDroppedFirst, waiting_at}

-- One more client.

one_more : {X : Type 0} (k : ℕ) (parts : List X) (part : X) → length parts ≡ k → length (parts ++ part ∷ []) ≡ k + 1
one_more k parts part many = length_push parts part ∙ ap (λ n. n + 1) many

any_more : {X : Type 0} (p : X → Bool) (parts : List X) (part : X) (a b : Bool) → a ≡ list_any p parts → b ≡ p part
    → a || b ≡ list_any p (parts ++ part ∷ [])
any_more p parts part a b e f =
    ap (λ v. v || b) e ∙ ap (λ v. list_any p parts || v) (f ∙ sym (or-false (p part))) ∙ sym (list_any-append p parts (part ∷ []))

-- one more item under the next number
enumerate-push : {X : Type 0} (n : ℕ) (xs : List X) (x : X)
    → enumerate_from n (xs ++ x ∷ []) ≡ enumerate_from n xs ++ (n + length xs, x) ∷ []
enumerate-push {X} n [] x = let e : n ≡ n + 0 = omega arith in ap {B = List (ℕ × X)} (λ k. (k, x) ∷ []) e
enumerate-push {X} n (y ∷ xs) x =
    let e : n + 1 + length xs ≡ n + length (y ∷ xs) = omega arith in
    ap {B = List (ℕ × X)} (λ ps. (n, y) ∷ ps) (enumerate-push (n + 1) xs x
    ∙ ap {B = List (ℕ × X)} (λ k. enumerate_from (n + 1) xs ++ (k, x) ∷ []) e)

report_of-push : {X : Type 0} (members : ℕ → X → List Done) (k : ℕ) (parts : List X) (part : X) → length parts ≡ k
    → report_of members (parts ++ part ∷ []) ≡ report_of members parts ++ members k part
report_of-push {X} members k parts part many =
    let of = λ (p : ℕ × X). members p.0 p.1 in
    let e : 0 + length parts ≡ k = omega (arith, many) in
    ap (flat_map of) (enumerate-push 0 parts part) ∙ flat_map-append of (enumerate_from 0 parts) ((0 + length parts, part) ∷ [])
    ∙ ap (λ r. report_of members parts ++ r) (append-nil (members (0 + length parts) part) ∙ ap (λ n. members n part) e)

says_more : {X : Type 0} (members : ℕ → X → List Done) (k : ℕ) (parts : List X) (part : X) (x y z : RingDesk) → length parts ≡ k
    → Says (report_of members parts) x y → Says (members k part) y z → Says (report_of members (parts ++ part ∷ [])) x z
says_more {X} members k parts part x y z many f g =
    subst (λ r. Says r x z) (sym (report_of-push members k parts part many)) (joined_reports ring_lines (report_of members parts) (members k part) x y z f g)

-- The serves of one client.

fed : (s : Served) → did s ≡ true → starved s ≡ false
fed Idle h = refl
fed NoRoom h = refl
fed NoMemory h = absurd (cc)
fed (Did n w) h = refl

none_starved : (results : List Served) → AllDid results → list_any starved results ≡ false
none_starved results all =
    list_any_none starved results (All-weaker (λ s. did s ≡ true) (λ s. starved s ≡ false) fed results all)

no_serves : (x : RingDesk) → IsKept ring_lines (at_rest x) → SaysServes [] x x
no_serves x kept = record { report = []; says = ReportHolds-nothing ring_lines x kept; serves_are = refl }

serves_joined : (first second all : List Done) (x y z : RingDesk) → SaysServes first x y → SaysServes second y z
    → all ≡ first ++ second → SaysServes all x z
serves_joined first second all x y z f g e = record {
  report = f.report ++ g.report;
  says = joined_reports ring_lines f.report g.report x y z f.says g.says;
  serves_are = filter-append (λ done. not (is_notice done)) f.report g.report
      ∙ ap (λ r. r ++ without_notices g.report) f.serves_are ∙ ap (λ r. first ++ r) g.serves_are ∙ sym e;
}

only_notices : (ns : List Notice) → without_notices (map Dones.Noticed ns) ≡ []
only_notices [] = refl
only_notices (n ∷ ns) = only_notices ns

-- a serve with what it hands out
one_serve : (c : ℕ) (s : Served) (y z : RingDesk) → Says (event_report y.facility (Dones.Served c s)) y z
    → SaysServes (Dones.Served c s ∷ []) y z
one_serve c s y z says = record {
  report = event_report y.facility (Dones.Served c s);
  says = says;
  serves_are = ap (λ r. Dones.Served c s ∷ r) (only_notices (notices_of y.facility (Dones.Served c s)));
}

serves_more : (c : ℕ) (results : List Served) (s : Served) (x y z : RingDesk) → SaysServes (serves_of c results) x y
    → Says (event_report y.facility (Dones.Served c s)) y z → SaysServes (serves_of c (results ++ s ∷ [])) x z
serves_more c results s x y z f g =
    serves_joined (serves_of c results) (Dones.Served c s ∷ []) (serves_of c (results ++ s ∷ [])) x y z f (one_serve c s y z g)
    (map_push (Dones.Served c) results s)

-- so many serves of client c so far, each of which did a request
pub record IsServing (c n : ℕ) (busy : Bool) (old now : RingDesk) : Type 0 where
  pub results : List Served
  pub says : SaysServes (serves_of c results) old now
  pub all_did : AllDid results
  pub count : length results ≡ n
  pub busy_is : busy ≡ list_any did results

pub serving_nothing : (c : ℕ) (x : RingDesk) → IsKept ring_lines (at_rest x) → IsServing c 0 false x x
serving_nothing c x kept = record {
  results = [];
  says = no_serves x kept;
  all_did = All-nil (λ s. did s ≡ true);
  count = refl;
  busy_is = refl;
}

pub serving_more : (c n : ℕ) (busy : Bool) (x y z : RingDesk) (s : Served) → IsServing c n busy x y → did s ≡ true
    → Says (event_report y.facility (Dones.Served c s)) y z → IsServing c (n + 1) true x z
serving_more c n busy x y z s f h says = record {
  results = f.results ++ s ∷ [];
  says = serves_more c f.results s x y z f.says says;
  all_did = All-push (λ s. did s ≡ true) f.results s f.all_did h;
  count = one_more n f.results s f.count;
  busy_is = sym (or-true busy) ∙ any_more did f.results s busy true f.busy_is (sym h);
}

pub serving_ends : (c n most : ℕ) (busy out : Bool) (x y z : RingDesk) (s : Served) → IsServing c n busy x y → n < most
    → did s ≡ false → out ≡ starved s → Says (event_report y.facility (Dones.Served c s)) y z → HasServedClient c most busy out x z
serving_ends c n most busy out x y z s f few h e says = record {
  results = f.results ++ s ∷ [];
  says = serves_more c f.results s x y z f.says says;
  served_out = inr (record {
    before = f.results;
    last = s;
    results_are = refl;
    all_did = f.all_did;
    none_more = h;
    fewer = let count = f.count in omega (arith, count, few);
  });
  busy_is = sym (or-false busy) ∙ any_more did f.results s busy false f.busy_is (sym h);
  memory_is = any_more starved f.results s false out (sym (none_starved f.results f.all_did)) e;
}

pub serving_full : (c most : ℕ) (busy : Bool) (x y : RingDesk) → IsServing c most busy x y → HasServedClient c most busy false x y
serving_full c most busy x y f = record {
  results = f.results;
  says = f.says;
  served_out = inl (f.all_did, f.count);
  busy_is = f.busy_is;
  memory_is = sym (none_starved f.results f.all_did);
}

-- A round of serves.

pub round_nothing : (most : ℕ) (x : RingDesk) → IsKept ring_lines (at_rest x) → HasServedFirst most 0 false false x x
round_nothing most x kept = record {
  results = [];
  as_many = refl;
  says = no_serves x kept;
  served_out = All-nil (IsServedOut most);
  busy_is = refl;
  memory_is = refl;
}

pub round_more : (most k : ℕ) (busy out b o : Bool) (x y z : RingDesk) → HasServedFirst most k busy out x y
    → HasServedClient k most b o y z → HasServedFirst most (k + 1) (busy || b) (out || o) x z
round_more most k busy out b o x y z f g = record {
  results = f.results ++ g.results ∷ [];
  as_many = one_more k f.results g.results f.as_many;
  says = serves_joined (report_of serves_of f.results) (serves_of k g.results) (report_of serves_of (f.results ++ g.results ∷ [])) x y z
      f.says g.says (report_of-push serves_of k f.results g.results f.as_many);
  served_out = All-push (IsServedOut most) f.results g.results f.served_out g.served_out;
  busy_is = any_more (list_any did) f.results g.results busy b f.busy_is g.busy_is;
  memory_is = any_more (list_any starved) f.results g.results out o f.memory_is g.memory_is;
}

-- The clients that a step leaves alone.

-- the lines and backlogs of all clients but k are as they were
record KeepsOthers (k : ℕ) (y z : RingDesk) : Type 0 where
  inlets : (c : ℕ) (i : RingInlet) → c ≢ k → get_or z.inlets c i ≡ get_or y.inlets c i
  backlogs : (c : ℕ) → c ≢ k → backlog_at z c ≡ backlog_at y c

-- what held of one of them, holds
still : (P : RingInlet → BacklogState → Type 0) (k c : ℕ) (i : RingInlet) (y z : RingDesk) → KeepsOthers k y z → c ≢ k
    → P (get_or y.inlets c i) (backlog_at y c) → P (get_or z.inlets c i) (backlog_at z c)
still P k c i y z o other p = subst (λ (j : RingInlet). P j (backlog_at z c)) (sym (o.inlets c i other))
    (subst (P (get_or y.inlets c i)) (sym (o.backlogs c other)) p)

-- A round of flushes.

flush_others : (k count : ℕ) (y z : RingDesk) → FlushesClient ring_lines k count y z → KeepsOthers k y z
flush_others k count y z f = record {
  inlets = λ c i other. ap (λ (d : RingDesk). get_or d.inlets c i) f.desk ∙ get_or-set_other y.inlets k c f.line i other;
  backlogs = λ c other. ap (λ (d : RingDesk). backlog_at d c) f.desk
      ∙ get_or-set_other y.backlogs k c (without_words count (backlog_at y k)) (empty_backlog 0) other;
}

pub flushing_nothing : (x : RingDesk) → IsKept ring_lines (at_rest x) → HasFlushedFirst 0 false x x
flushing_nothing x kept = record {
  counts = [];
  as_many = refl;
  says = ReportHolds-nothing ring_lines x kept;
  flushed_out = λ c i low. absurd (omega arith);
  moved_is = refl;
}

-- a ring line never runs out of memory
pub ring_stopped : {A B : Type 0} → A ⊎ (B ⊎ (false ≡ true)) → A ⊎ B
ring_stopped (inl none) = inl none
ring_stopped (inr (inl full)) = inr full
ring_stopped (inr (inr refuses)) = absurd (cc)

pub flushing_more : (k count : ℕ) (moved : Bool) (x y z : RingDesk) → HasFlushedFirst k moved x y
    → Says (Dones.Flushed k count ∷ []) y z → FlushesClient ring_lines k count y z
    → ((i : RingInlet) → IsFlushedOut (get_or z.inlets k i) (backlog_at z k)) → HasFlushedFirst (k + 1) (moved || nat_lt 0 count) x z
flushing_more k count moved x y z f says g stopped = record {
  counts = f.counts ++ count ∷ [];
  as_many = one_more k f.counts count f.as_many;
  says = says_more flush_of k f.counts count x y z f.as_many f.says says;
  flushed_out = λ c i. below_more (λ n. IsFlushedOut (get_or z.inlets n i) (backlog_at z n)) k
      (λ n under. still IsFlushedOut k n i y z (flush_others k count y z g) (ne_of_lt under) (f.flushed_out n i under)) (stopped i) c;
  moved_is = any_more (nat_lt 0) f.counts count moved (nat_lt 0 count) f.moved_is refl;
}

-- A round that drops the words to clients that are gone.

drop_others : (k : ℕ) (y z : RingDesk) → HasDropped k y z → KeepsOthers k y z
drop_others k y z g = record { inlets = g.other_inlets; backlogs = λ c other. g.other_backlogs c (empty_backlog 0) other }

-- so for each client below k, and the others are as they were
pub record IsDropping (k : ℕ) (dropped : Bool) (old now : RingDesk) : Type 0 where
  pub first : HasDroppedFirst k dropped old now
  pub later_inlets : (c : ℕ) (i : RingInlet) → k ≤ c → get_or now.inlets c i ≡ get_or old.inlets c i
  pub later_backlogs : (c : ℕ) → k ≤ c → backlog_at now c ≡ backlog_at old c

pub dropping_nothing : (x : RingDesk) → IsDropping 0 false x x
dropping_nothing x = record {
  first = record {
    counts = [];
    as_many = refl;
    same_facility = refl;
    same_clients = refl;
    as_many_backlogs = refl;
    each = λ c i low. absurd (omega arith);
    counted = λ c low. absurd (omega arith);
    dropped_is = refl;
  };
  later_inlets = λ c i high. refl;
  later_backlogs = λ c high. refl;
}

counted_more : (k count : ℕ) (counts : List ℕ) (x y z : RingDesk) → length counts ≡ k → KeepsOthers k y z
    → count + waiting_at z k ≡ waiting_at y k → waiting_at y k ≡ waiting_at x k
    → ((c : ℕ) → c < k → get_or counts c 0 + waiting_at y c ≡ waiting_at x c)
    → (c : ℕ) → c < k + 1 → get_or (counts ++ count ∷ []) c 0 + waiting_at z c ≡ waiting_at x c
counted_more k count counts x y z many o e was before =
    below_more (λ n. get_or (counts ++ count ∷ []) n 0 + waiting_at z n ≡ waiting_at x n) k
    (λ c under.
    let b = before c under in
    let n = get_or_append_left counts (count ∷ []) 0 c (omega (arith, many, under)) in
    let same = ap (λ (d : BacklogState). length d.outbox) (o.backlogs c (ne_of_lt under)) in
    omega (arith, b, n, same))
    (let n = get_or_push counts count 0 k many in omega (arith, n, e, was))

pub dropping_more : (k count : ℕ) (dropped : Bool) (x y z : RingDesk) → IsDropping k dropped x y → HasDropped k y z
    → count + waiting_at z k ≡ waiting_at y k → IsDropping (k + 1) (dropped || nat_lt 0 count) x z
dropping_more k count dropped x y z f g e = let o = drop_others k y z g in let so_far = f.first in record {
  first = record {
    counts = so_far.counts ++ count ∷ [];
    as_many = one_more k so_far.counts count so_far.as_many;
    same_facility = g.same_facility ∙ so_far.same_facility;
    same_clients = g.same_clients ∙ so_far.same_clients;
    as_many_backlogs = g.as_many_backlogs ∙ so_far.as_many_backlogs;
    each = λ c i. below_more (λ n. IsDropped (get_or x.inlets n i) (get_or z.inlets n i) (backlog_at x n) (backlog_at z n)) k
        (λ n under. still (λ (j : RingInlet) (d : BacklogState). IsDropped (get_or x.inlets n i) j (backlog_at x n) d) k n i y z o
        (ne_of_lt under) (so_far.each n i under))
        (subst (λ (j : RingInlet). IsDropped j (get_or z.inlets k i) (backlog_at x k) (backlog_at z k)) (f.later_inlets k i (omega arith))
        (subst (λ (d : BacklogState). IsDropped (get_or y.inlets k i) (get_or z.inlets k i) d (backlog_at z k))
        (f.later_backlogs k (omega arith)) (g.at i))) c;
    counted = counted_more k count so_far.counts x y z so_far.as_many o e
        (ap (λ (d : BacklogState). length d.outbox) (f.later_backlogs k (omega arith))) so_far.counted;
    dropped_is = any_more (nat_lt 0) so_far.counts count dropped (nat_lt 0 count) so_far.dropped_is refl;
  };
  later_inlets = λ c i high. o.inlets c i (λ e. absurd (omega arith)) ∙ f.later_inlets c i (omega (arith, high));
  later_backlogs = λ c high. o.backlogs c (λ e. absurd (omega arith)) ∙ f.later_backlogs c (omega (arith, high));
}
