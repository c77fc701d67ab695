-- The turns of a drive, one more turn, and what was counted.
use Rattle.std.proofs.Common.{◌≡◌, ◌≢◌, ◌<◌, ◌≤◌, ◌+◌, ◌*◌, ◌++◌, nat_lt, ℕ, zero, suc, ◌⊎◌, Bool, true, false, cond, List, map, [], ◌∷◌, length, get_or, take, refl, sym, subst, ◌∙◌, ap, arith, inl, inr, ⊎_elim, append-nil, append_assoc, length-append}
use Rattle.std.specs.Prelude.{min, All, IsTrue, replicate}
use Rattle.std.specs.List.{filter, range_with_len}
use Rattle.std.proofs.lemmas.Bool.{cases_lt}
use Rattle.std.proofs.lemmas.Bool.Decides.{nat_tests}
use Rattle.std.proofs.lemmas.Grind.{flat_map-append}
use Rattle.std.proofs.lemmas.List.{get_or-replicate, length-replicate, get_or_append_left, get_or_push, length_push, take-append-le, take_more, map-append, map-id}
use Rattle.std.proofs.lemmas.List.Elements.{All-append, All-filter, All-map, All-cons, All-nil}
use Rattle.std.proofs.lemmas.List.FromFn.{fill_by_all, get_or-map-range_with_len, length-map-range_with_len, map-range_with_len_more, filter_of_map_range_with_len_more, length-range_with_len, get_or-range_with_len}
use Rattle.std.proofs.Math.Seq.{take-append_seam}
use Rattle.timer_desk.specs.Types.{Progress, Done, Step, DriveEnd}
use Rattle.timer_desk.specs.declared.report.Served.TheVariants.{NoMemory}
use Rattle.timer_desk.specs.declared.report.Done.TheVariants as Dones
use Rattle.timer_desk.specs.declared.report.Step.TheVariants as Steps
use Rattle.timer_desk.specs.declared.driver.DriveEnd.TheVariants as DriveEnds
use Rattle.timer_desk.specs.Inlet.{LineKind}
use Rattle.timer_desk.specs.Report.{asked, asked_in, flushed}
use Rattle.timer_desk.specs.Desk.{DeskState, at_rest, clients_of, InRange, ReportHolds}
use Rattle.timer_desk.specs.Driver.{no_progress, progress_in, progress_of, left_for, all_left, AllDone, HasUnfinishedClient, AllCounted, NoneRanOut, is_served, steps_with, turn_steps, joined, IsIdleTurn, EndsIdle, IsTurn, AreTurns, TakesTurn, Drives}
use Rattle.timer_desk.specs.Member.{IsKept}
use Rattle.timer_desk.proofs.Members.{joined_reports, ReportHolds-nothing, follow, are_owed, IsLaw}

-- Reports, joined.

pub joined-push : (turns : List (List Done)) (turn : List Done) → joined (turns ++ turn ∷ []) ≡ joined turns ++ turn
joined-push turns turn = flat_map-append (λ (t : List Done). t) turns (turn ∷ []) ∙ ap (λ r. joined turns ++ r) (append-nil turn)

pub joined-more : (turns : List (List Done)) (k : ℕ) → k < length turns
    → joined (take (k + 1) turns) ≡ joined (take k turns) ++ get_or turns k []
joined-more turns k l = ap joined (take_more turns k [] l) ∙ joined-push (take k turns) (get_or turns k [])

pub asked_sum : (c : ℕ) (r q : List Done) → length (asked c (r ++ q)) ≡ length (asked c r) + length (asked c q)
asked_sum c r q = ap (λ xs. length xs) (flat_map-append (asked_in c) r q) ∙ length-append (asked c r) (asked c q)

pub flushed_sum : (c : ℕ) (r q : List Done) → flushed c (r ++ q) ≡ flushed c r + flushed c q
flushed_sum c [] q = omega arith
flushed_sum c (d ∷ r) q = let n = flushed_sum c r q in omega arith

-- Steps.

filter_more : (p : ℕ → Bool) (n : ℕ) → filter p (range_with_len 0 (n + 1)) ≡ filter p (range_with_len 0 n) ++ cond (p n) (n ∷ []) []
filter_more p n = ap (filter p) (sym (map-id (range_with_len 0 (n + 1))))
    ∙ filter_of_map_range_with_len_more p (λ k. k) 0 n n (omega arith)
    ∙ ap (λ xs. filter p xs ++ cond (p n) (n ∷ []) []) (map-id (range_with_len 0 n))

filter_same : (p q : ℕ → Bool) (a n : ℕ) → ((c : ℕ) → c < a + n → p c ≡ q c) → filter p (range_with_len a n) ≡ filter q (range_with_len a n)
filter_same p q a zero h = refl
filter_same p q a (suc n) h =
    ap (λ b. cond b (a ∷ filter p (range_with_len (a + 1) n)) (filter p (range_with_len (a + 1) n))) (h a (omega arith))
    ∙ ap (λ xs. cond (q a) (a ∷ xs) xs) (filter_same p q (a + 1) n (λ c l. h c (omega arith)))

steps_same : (p q : ℕ → Bool) (n : ℕ) → ((c : ℕ) → c < n → p c ≡ q c) → steps_with p n ≡ steps_with q n
steps_same p q n h = ap (λ cs. map Steps.Serve cs ++ map Steps.Flush (range_with_len 0 n) ++ Steps.Tick ∷ [])
    (filter_same p q 0 n (λ c l. h c (omega arith)))

range_below : (n : ℕ) → All (λ c. c < n) (range_with_len 0 n)
range_below n k d l = omega (arith, length-range_with_len 0 n, get_or-range_with_len 0 n k d (omega (arith, length-range_with_len 0 n)))

-- each step of a turn is of one of the clients, or the last
pub steps_in_range : (p : ℕ → Bool) (n : ℕ) → All (InRange n) (steps_with p n)
steps_in_range p n =
    All-append (InRange n) (map Steps.Serve (filter p (range_with_len 0 n)) ++ map Steps.Flush (range_with_len 0 n)) (Steps.Tick ∷ [])
    (All-append (InRange n) (map Steps.Serve (filter p (range_with_len 0 n))) (map Steps.Flush (range_with_len 0 n))
    (All-map (InRange n) Steps.Serve (filter p (range_with_len 0 n)) (All-filter p (λ c. c < n) (range_with_len 0 n) (range_below n)))
    (All-map (InRange n) Steps.Flush (range_with_len 0 n) (range_below n)))
    (All-cons (InRange n) Steps.Tick [] tt (All-nil (InRange n)))

-- one more client to serve, or to flush
pub serves_next : (p : ℕ → Bool) (n : ℕ) → map Steps.Serve (filter p (range_with_len 0 (n + 1)))
    ≡ map Steps.Serve (filter p (range_with_len 0 n)) ++ map Steps.Serve (cond (p n) (n ∷ []) [])
serves_next p n = ap (map Steps.Serve) (filter_more p n) ∙ map-append Steps.Serve (filter p (range_with_len 0 n)) (cond (p n) (n ∷ []) [])

pub serves_more : (p : ℕ → Bool) (n : ℕ) (steps : List Step) → steps ≡ map Steps.Serve (filter p (range_with_len 0 n)) → p n ≡ true
    → steps ++ Steps.Serve n ∷ [] ≡ map Steps.Serve (filter p (range_with_len 0 (n + 1)))
serves_more p n steps is h = rw (serves_next p n, h) (ap (λ xs. xs ++ Steps.Serve n ∷ []) is)

pub serves_same : (p : ℕ → Bool) (n : ℕ) (steps : List Step) → steps ≡ map Steps.Serve (filter p (range_with_len 0 n)) → p n ≡ false
    → steps ≡ map Steps.Serve (filter p (range_with_len 0 (n + 1)))
serves_same p n steps is h = rw (serves_next p n, h) (is ∙ sym (append-nil (map Steps.Serve (filter p (range_with_len 0 n)))))

pub flushes_more : (n : ℕ) (serves steps : List Step) → steps ≡ serves ++ map Steps.Flush (range_with_len 0 n)
    → steps ++ Steps.Flush n ∷ [] ≡ serves ++ map Steps.Flush (range_with_len 0 (n + 1))
flushes_more n serves steps is = ap (λ xs. xs ++ Steps.Flush n ∷ []) is
    ∙ append_assoc serves (map Steps.Flush (range_with_len 0 n)) (Steps.Flush n ∷ [])
    ∙ ap (λ xs. serves ++ xs) (sym (map-range_with_len_more Steps.Flush 0 n n (omega arith)))

-- Counts.

counted : (goal : ℕ) (report : List Done) (c : ℕ) (p : Progress) → p.served ≡ min (length (asked c report)) goal
    → p.flushed ≡ min (flushed c report) (2 * goal) → p ≡ progress_in goal report c
counted goal report c p s f = rw (sym s, sym f) refl

progress_at : (goal n : ℕ) (report : List Done) (c : ℕ) (d : Progress) → c < n → get_or (progress_of goal n report) c d ≡ progress_in goal report c
progress_at goal n report c d l = get_or-map-range_with_len (progress_in goal report) 0 n c c d l (omega arith)

pub same_at : (goal n : ℕ) (r q : List Done) → progress_of goal n r ≡ progress_of goal n q → (c : ℕ) → c < n
    → progress_in goal r c ≡ progress_in goal q c
same_at goal n r q e c l = sym (progress_at goal n r c (progress_in goal r c) l) ∙ ap (λ ps. get_or ps c (progress_in goal r c)) e
    ∙ progress_at goal n q c (progress_in goal r c) l

-- nothing was counted at first
pub progress-nothing : (goal n : ℕ) → replicate n no_progress ≡ progress_of goal n []
progress-nothing goal n = fill_by_all (progress_in goal []) (replicate n no_progress) n no_progress (length-replicate n no_progress)
    (λ c l. get_or-replicate n c no_progress no_progress l ∙ counted goal [] c no_progress (omega arith) (omega arith))

pub progress-turn : (goal n : ℕ) (report turn : List Done) (before after : List Progress) → before ≡ progress_of goal n report
    → length after ≡ n → AllCounted goal turn before after → after ≡ progress_of goal n (report ++ turn)
progress-turn goal n report turn before after was len h = fill_by_all (progress_in goal (report ++ turn)) after n no_progress len
    (λ c l.
    let there : get_or before c no_progress ≡ progress_in goal report c =
    ap (λ ps. get_or ps c no_progress) was ∙ progress_at goal n report c no_progress l in
    let k = h c no_progress (omega (arith, ap (λ ps. length ps) was, length-map-range_with_len (progress_in goal report) 0 n)) in
    let a = ap (λ (p : Progress). p.served) there in
    let b = ap (λ (p : Progress). p.flushed) there in
    let k0 = k.served in
    let k1 = k.flushed in
    let more = asked_sum c report turn in
    let words = flushed_sum c report turn in
    counted goal (report ++ turn) c (get_or after c no_progress) (omega arith) (omega arith))

-- One more turn.

-- what holds of each item, its index and those before it, and of one more
pub push_each : {X : Type 0} (P : ℕ → List X → X → Type 0) (xs : List X) (x d : X)
    → ((k : ℕ) → k < length xs → P k (take k xs) (get_or xs k d)) → P (length xs) xs x
    → (k : ℕ) → k < length (xs ++ x ∷ []) → P k (take k (xs ++ x ∷ [])) (get_or (xs ++ x ∷ []) k d)
push_each P xs x d each one k l = ⊎_elim
    (λ (a : k < length xs). rw (take-append-le k xs (x ∷ []) (omega (arith, a)), get_or_append_left xs (x ∷ []) d k a) (each k a))
    (λ (a : length xs ≤ k).
    let at : k ≡ length xs = omega (arith, a, l, length_push xs x) in
    rw (at, take-append_seam xs (x ∷ []), get_or_push xs x d (length xs) refl) one)
    (cases_lt k (length xs))

AreTurns-push : (goal limit n : ℕ) (turns : List (List Done)) (turn : List Done) → AreTurns goal limit n turns
    → IsTurn goal limit n turns turn → AreTurns goal limit n (turns ++ turn ∷ [])
AreTurns-push goal limit n turns turn = push_each (λ k. IsTurn goal limit n) turns turn []

ends_idle-none : (goal n : ℕ) (turns : List (List Done)) → EndsIdle goal n 0 turns
ends_idle-none goal n turns = (omega arith, λ k a l. absurd (omega arith))

-- one more idle turn
ends_idle-more : (goal n idle : ℕ) (turns : List (List Done)) (turn : List Done) → EndsIdle goal n idle turns
    → IsIdleTurn goal n turns turn → EndsIdle goal n (idle + 1) (turns ++ turn ∷ [])
ends_idle-more goal n idle turns turn h same =
    let long = length_push turns turn in
    let few = h.0 in (
      omega arith,
      λ k a l. push_each (λ j past u. length turns ≤ j + idle → IsIdleTurn goal n past u) turns turn []
          (λ j m b. h.1 j b m) (λ b. same) k l (omega arith),
    )

-- if the last turns were idle, the last of them was, and those before it were
ends_idle-before : (goal n idle : ℕ) (turns : List (List Done)) (turn : List Done) → EndsIdle goal n (suc idle) (turns ++ turn ∷ [])
    → IsIdleTurn goal n turns turn × EndsIdle goal n idle turns
ends_idle-before goal n idle turns turn h =
    let long = length_push turns turn in
    let few = h.0 in (
      rw (take-append_seam turns (turn ∷ []), get_or_push turns turn [] (length turns) refl) at
          (h.1 (length turns) (omega arith) (omega arith)),
      (
        omega arith,
        λ k a l. rw (take-append-le k turns (turn ∷ []) (omega arith), get_or_append_left turns (turn ∷ []) [] k l) at
            (h.1 k (omega arith) (omega arith)),
      ),
    )

-- What is left to do.

-- a client for which something is left to do
record OneLeft (goal : ℕ) (ps : List Progress) (p : Progress) : Type 0 where
  client : ℕ
  among : client < length ps
  left : 0 < left_for goal (get_or ps client p)

one_left : (goal : ℕ) (ps : List Progress) (d : Progress) → ¬ AllDone goal ps → OneLeft goal ps d
one_left goal [] d h = absurd (h (λ c q l. absurd (omega arith)))
one_left goal (p ∷ ps) d h = ⊎_elim
    (λ a. record { client = 0; among = omega arith; left = a })
    (λ a. let k = one_left goal ps d (λ all. h (done all a)) in let l = k.among
    in record { client = suc k.client; among = omega arith; left = k.left })
    (cases_lt 0 (left_for goal p))
  where
    done : AllDone goal ps → left_for goal p ≤ 0 → AllDone goal (p ∷ ps)
    done all a zero q l = record { served = omega arith; flushed = omega arith }
    done all a (suc c) q l = all c q (omega arith)

-- what `all_done` says of a slice, if it is false
pub not_done : (goal : ℕ) (ps now : List Progress) → now ≡ ps → (AllDone goal now → IsTrue false) → ¬ AllDone goal ps
not_done goal ps now is h all = absurd (let no = h (subst (AllDone goal) (sym is) all) in cc)

-- if not each client is done, one is short
is_short : (goal n : ℕ) (report : List Done) (ps : List Progress) → ps ≡ progress_of goal n report
    → ¬ AllDone goal ps → HasUnfinishedClient goal n report
is_short goal n report ps is h =
    let one = one_left goal ps no_progress h in
    let among : one.client < n = omega (arith, one.among, ap (λ xs. length xs) is, length-map-range_with_len (progress_in goal report) 0 n) in
    let there = ap (λ xs. get_or xs one.client no_progress) is ∙ progress_at goal n report one.client no_progress among in
    let a : (get_or ps one.client no_progress).served ≡ min (length (asked one.client report)) goal = ap (λ (p : Progress). p.served) there in
    let b : (get_or ps one.client no_progress).flushed ≡ min (flushed one.client report) (2 * goal) = ap (λ (p : Progress). p.flushed) there in
    let left = one.left in record {
      client = one.client;
      among = among;
      fewer = ⊎_elim (λ k. inl (omega arith)) (λ k. inr (omega arith)) (cases_lt (length (asked one.client report)) goal);
    }

-- Turns of a drive.

below_min : (n goal : ℕ) → nat_lt (min n goal) goal ≡ nat_lt n goal
below_min n goal = grind (arith, nat_tests)

-- the steps by the counts are those by the report
steps_counted : (goal n : ℕ) (report : List Done) (ps : List Progress) → ps ≡ progress_of goal n report
    → steps_with (is_served goal ps) (length ps) ≡ turn_steps goal n report
steps_counted goal n report ps is =
    let long : length ps ≡ n = ap (λ xs. length xs) is ∙ length-map-range_with_len (progress_in goal report) 0 n in
    ap (λ k. steps_with (is_served goal ps) k) long
    ∙ steps_same (is_served goal ps) (λ c. nat_lt (length (asked c report)) goal) n
    (λ c l. ap (λ (p : Progress). nat_lt p.served goal) (ap (λ xs. get_or xs c no_progress) is ∙ progress_at goal n report c no_progress l)
    ∙ below_min (length (asked c report)) goal)

ran_out_joined : (turns : List (List Done)) (turn : List Done) → NoneRanOut (joined turns) → NoneRanOut turn → NoneRanOut (joined (turns ++ turn ∷ []))
ran_out_joined turns turn h k = subst NoneRanOut (sym (joined-push turns turn))
    (All-append (λ done. (c : ℕ) → done ≢ Dones.Served c NoMemory) (joined turns) turn h k)

module _ {I : Type 0} (kind : LineKind I) (goal limit : ℕ) where
  -- a drive so far: its turns lead from the one desk to the other and were counted, and just the last `idle` made no
  -- progress
  pub record IsDriving (old new : DeskState I) (progress : List Progress) (idle : ℕ) : Type 0 where
    pub turns : List (List Done)
    pub holds : ReportHolds kind (joined turns) old new
    pub law : IsLaw old.facility
    pub each : AreTurns goal limit (clients_of old) turns
    pub memory : NoneRanOut (joined turns)
    pub is_counted : progress ≡ progress_of goal (clients_of old) (joined turns)
    pub ends_idle : EndsIdle goal (clients_of old) idle turns
    pub no_more : (n : ℕ) → EndsIdle goal (clients_of old) n turns → n ≤ idle

  pub IsDriving-start : (x : DeskState I) (ps : List Progress) (n : ℕ) → n ≡ clients_of x
      → ps ≡ replicate n no_progress
      → IsKept kind (at_rest x) → IsLaw x.facility → IsDriving x x ps 0
  IsDriving-start x ps n is zeroed kept law = record {
    turns = [];
    holds = ReportHolds-nothing kind x kept;
    law = law;
    each = λ k l. absurd (omega arith);
    memory = λ k d l. absurd (omega arith);
    is_counted = zeroed ∙ progress-nothing goal n ∙ ap (λ m. progress_of goal m []) is;
    ends_idle = ends_idle-none goal (clients_of x) [];
    no_more = λ n h. h.0;
  }

  -- a turn that may follow, since some client is not done and the limit is not reached
  module _ (x y z : DeskState I) (ps qs : List Progress) (idle : ℕ) (d : IsDriving x y ps idle) (near : idle < limit)
      (not_done : ¬ AllDone goal ps) (out_of_memory : Bool)
      (t : TakesTurn kind goal out_of_memory y z ps qs) where
    abbrev turns_then : List (List Done)
    turns_then = d.turns ++ t.turn ∷ []

    holds_then : ReportHolds kind (joined turns_then) x z
    holds_then = subst (λ r. ReportHolds kind r x z) (sym (joined-push d.turns t.turn))
        (joined_reports kind (joined d.turns) t.turn x y z d.holds t.holds)

    each_then : AreTurns goal limit (clients_of x) turns_then
    each_then = AreTurns-push goal limit (clients_of x) d.turns t.turn d.each (record {
      steps = t.steps ∙ steps_counted goal (clients_of x) (joined d.turns) ps d.is_counted;
      behind = follow kind t.turn y z t.holds;
      short = is_short goal (clients_of x) (joined d.turns) ps d.is_counted not_done;
      memory = d.memory;
      goes_on = λ h. let e = d.no_more limit h in absurd (omega arith);
    })

    counted_then : length qs ≡ clients_of z → qs ≡ progress_of goal (clients_of x) (joined d.turns ++ t.turn)
    counted_then len = progress-turn goal (clients_of x) (joined d.turns) t.turn ps qs d.is_counted
        (len ∙ t.holds.same_clients ∙ d.holds.same_clients) t.counted

    -- a turn with progress leaves less to do, and any other is one more idle turn
    abbrev pub IsIdleAfter : ℕ → Type 0
    IsIdleAfter now = ((now ≡ 0) × (all_left goal qs < all_left goal ps)) ⊎ ((now ≡ idle + 1) × (qs ≡ ps))

    pub IsDriving-turn : (now : ℕ) → out_of_memory ≡ false → length qs ≡ clients_of z → IsIdleAfter now → IsDriving x z qs now
    IsDriving-turn now good len next = record {
      turns = turns_then;
      holds = holds_then;
      law = d.law;
      each = each_then;
      memory = ran_out_joined d.turns t.turn d.memory (t.memory good);
      is_counted = counted_then len ∙ ap (λ r. progress_of goal (clients_of x) r) (sym (joined-push d.turns t.turn));
      ends_idle = elim next [
        | inl a ↦ rw (a.0) (ends_idle-none goal (clients_of x) turns_then)
        | inr a ↦ rw (a.0) (ends_idle-more goal (clients_of x) idle d.turns t.turn d.ends_idle (sym (counted_then len) ∙ a.1 ∙ d.is_counted))
      ];
      no_more = no_more;
    }
      where
        no_more : (n : ℕ) → EndsIdle goal (clients_of x) n turns_then → n ≤ now
        no_more zero h = omega arith
        no_more (suc n) h =
            let was = ends_idle-before goal (clients_of x) n d.turns t.turn h in elim next [
              | inl a ↦
                  let fewer = a.1 in
                  let same : all_left goal qs ≡ all_left goal ps = ap (all_left goal) (counted_then len ∙ was.0 ∙ sym d.is_counted) in
                  absurd (omega arith)
              | inr a ↦ let few = d.no_more n was.1 in let is = a.0 in omega arith
            ]

    -- a turn that ran out of memory is the last
    pub Drives-ran_out : Drives kind goal limit x z DriveEnds.OutOfMemory
    Drives-ran_out = record {
      turns = turns_then;
      holds = holds_then;
      owed = are_owed kind (joined turns_then) x z holds_then d.law;
      each = each_then;
      done = λ is. absurd (cc);
      idle = λ is. absurd (cc);
      memory = λ is. absurd (is refl);
    }

  -- a drive that ended between two turns
  pub Drives-ended : (x y : DeskState I) (ps : List Progress) (idle : ℕ) (outcome : DriveEnd) → IsDriving x y ps idle
      → (outcome ≡ DriveEnds.Done → AllDone goal ps) → (outcome ≡ DriveEnds.Limit → idle ≡ limit)
      → Drives kind goal limit x y outcome
  Drives-ended x y ps idle outcome d done at_limit = record {
    turns = d.turns;
    holds = d.holds;
    owed = are_owed kind (joined d.turns) x y d.holds d.law;
    each = d.each;
    done = λ is c l. reached c l (done is);
    idle = λ is. subst (λ n. EndsIdle goal (clients_of x) n d.turns) (at_limit is) d.ends_idle;
    memory = λ is. d.memory;
  }
    where
      reached : (c : ℕ) → c < clients_of x → AllDone goal ps → (goal ≤ length (asked c (joined d.turns))) × (2 * goal ≤ flushed c (joined d.turns))
      reached c l all =
          let there = ap (λ rs. get_or rs c no_progress) d.is_counted ∙ progress_at goal (clients_of x) (joined d.turns) c no_progress l in
          let a : (get_or ps c no_progress).served ≡ min (length (asked c (joined d.turns))) goal = ap (λ (p : Progress). p.served) there in
          let b : (get_or ps c no_progress).flushed ≡ min (flushed c (joined d.turns)) (2 * goal) = ap (λ (p : Progress). p.flushed) there in
          let k = all c no_progress (omega (
            arith,
            l,
            ap (λ rs. length rs) d.is_counted,
            length-map-range_with_len
                (progress_in goal (joined d.turns)) 0 (clients_of x),
          )) in
          let k0 = k.served in
          let k1 = k.flushed in
          (omega arith, omega arith)
