-- What the steps of its turns mean for a drive: how many requests of a client it serves, and how often it flushes.
use Rattle.std.proofs.Common.{◌≡◌, ◌<◌, ◌≤◌, ◌+◌, ◌-◌, ◌*◌, ◌++◌, ◌==◌, nat_lt, ℕ, zero, suc, Bool, true, false, cond, List, map, [], ◌∷◌, length, get_or, take, refl, sym, subst, ◌∙◌, ap, add-one, arith, ◌⊎◌, inl, inr, ⊎_elim, length-append}
use Rattle.std.specs.Prelude.{min, count_by}
use Rattle.std.specs.List.{filter, range_with_len}
use Rattle.std.proofs.lemmas.Bool.{cases_eq, cases_lt}
use Rattle.std.proofs.lemmas.Bool.Decides.{nat_tests}
use Rattle.std.proofs.lemmas.List.{take_all}
use Rattle.std.proofs.lemmas.List.Concat.{flat_map-cons}
use Rattle.std.proofs.lemmas.List.Sums.{sum_by-append, sum_by-cons}
use Rattle.std.proofs.lemmas.List.FromFn.{sum_by-map-range_with_len_more}
use Rattle.std.proofs.Math.Seq.{take-length}
use Rattle.timer_base.proofs.Basics.{either}
use Rattle.timer_desk.specs.Types.{Progress, Done, Step}
use Rattle.timer_desk.specs.declared.report.Step.TheVariants as Steps
use Rattle.timer_desk.specs.Report.{asked, asked_in, flushed, steps_of, step_in}
use Rattle.timer_desk.specs.Driver.{HasUnfinishedClient, steps_with, is_flush_of, joined, EndsIdle, AreTurns}
use Rattle.timer_desk.proofs.EventLemmas.{is_serve_of, one_if, few_in}
use Rattle.timer_desk.proofs.DriverLemmas.{serves_next, joined-more, asked_sum, same_at}
use Rattle.timer_desk.proofs.DeskLemmas.{same_is, not_same}

-- Counts.

-- one, if both hold
abbrev one_if_both : Bool → Bool → ℕ
one_if_both b q = cond b (one_if q) 0

count_sum : {X : Type 0} (p : X → Bool) (xs ys : List X) → count_by p (xs ++ ys) ≡ count_by p xs + count_by p ys
count_sum p xs ys = sum_by-append (λ x. cond (p x) 1 0) xs ys

none_of : (p : Step → Bool) (f : ℕ → Step) → ((k : ℕ) → p (f k) ≡ false) → (xs : List ℕ) → count_by p (map f xs) ≡ 0
none_of p f h [] = refl
none_of p f h (x ∷ xs) =
    let one = sum_by-cons (λ x. cond (p x) 1 0) (f x) (map f xs) in
    let no = ap one_if (h x) in
    let rest = none_of p f h xs in
    omega arith

-- a count below n, to which c alone adds, and only if it satisfies p
at_once : (count : ℕ → ℕ) (p : ℕ → Bool) (c : ℕ) → count 0 ≡ 0
    → ((n : ℕ) → count (n + 1) ≡ count n + one_if_both (p n) (n == c))
    → (n : ℕ) → (n ≤ c → count n ≡ 0) × (c < n → count n ≡ one_if (p c))
at_once count p c none more zero = (λ l. none, λ l. absurd (omega arith))
at_once count p c none more (suc n) =
    let was = at_once count p c none more n in
    let now = ap count (sym (add-one n)) ∙ more n in ⊎_elim
    (λ (is : n ≡ c).
    let one : one_if_both (p n) (n == c) ≡ one_if (p c) = ap (λ k. one_if_both (p k) (k == c)) is
    ∙ ap (one_if_both (p c)) (same_is c) in
    let before = was.0 (omega arith) in
    (λ l. absurd (omega arith), λ l. omega arith))
    (λ (other : n ≡ c → ⊥).
    let no : one_if_both (p n) (n == c) ≡ 0 = ap (one_if_both (p n)) (not_same n c (λ e. other (sym e))) ∙ nothing (p n) in
    (λ l. (let before = was.0 (omega arith) in omega arith), λ l. (let before = was.1 (below l other) in omega arith)))
    (cases_eq n c)
  where
    nothing : (b : Bool) → one_if_both b false ≡ 0
    nothing true = refl
    nothing false = refl

    below : c < suc n → (n ≡ c → ⊥) → c < n
    below l other = grind (arith)

-- Serves.

one_serve : (p : ℕ → Bool) (c n : ℕ) → count_by (is_serve_of c) (map Steps.Serve (filter p (range_with_len 0 (n + 1))))
    ≡ count_by (is_serve_of c) (map Steps.Serve (filter p (range_with_len 0 n))) + one_if_both (p n) (n == c)
one_serve p c n =
    let before : List Step = map Steps.Serve (filter p (range_with_len 0 n)) in
    ap (count_by (is_serve_of c)) (serves_next p n) ∙ count_sum (is_serve_of c) before (map Steps.Serve (cond (p n) (n ∷ []) []))
    ∙ ap (λ k. count_by (is_serve_of c) before + k) (one (p n))
  where
    one : (b : Bool) → count_by (is_serve_of c) (map Steps.Serve (cond b (n ∷ []) [])) ≡ one_if_both b (n == c)
    one true = sum_by-cons (λ x. cond (is_serve_of c x) 1 0) (Steps.Serve n) [] ∙ (omega arith)
    one false = refl

serves_in_turn : (p : ℕ → Bool) (c n : ℕ) → count_by (is_serve_of c) (steps_with p n) ≤ one_if (p c)
serves_in_turn p c n =
    let serves : List Step = map Steps.Serve (filter p (range_with_len 0 n)) in
    let flushes : List Step = map Steps.Flush (range_with_len 0 n) in
    let a = count_sum (is_serve_of c) (serves ++ flushes) (Steps.Tick ∷ []) in
    let b = count_sum (is_serve_of c) serves flushes in
    let once = at_once (λ m. count_by (is_serve_of c) (map Steps.Serve (filter p (range_with_len 0 m)))) p c refl (one_serve p c) n in
    let none = none_of (is_serve_of c) Steps.Flush (λ k. refl) (range_with_len 0 n) in
    let end : count_by (is_serve_of c) (Steps.Tick ∷ []) ≡ 0 = refl in
    ⊎_elim (λ l. let few = once.1 l in omega arith) (λ l. let few = once.0 l in omega arith) (cases_lt c n)

-- a serve does one request at most
few_asked : (c : ℕ) (report : List Done) → length (asked c report) ≤ count_by (is_serve_of c) (steps_of report)
few_asked c [] = omega arith
few_asked c (d ∷ report) =
    let a = ap (λ xs. length xs) (flat_map-cons (asked_in c) d report) ∙ length-append (asked_in c d) (asked c report) in
    let b = ap (λ xs. count_by (is_serve_of c) xs) (flat_map-cons step_in d report) ∙ count_sum (is_serve_of c) (step_in d) (steps_of report) in
    let one = few_in c d in
    let rest = few_asked c report in
    omega arith

below_goal : (n goal : ℕ) → ((n < goal) × (one_if (nat_lt n goal) ≡ 1)) ⊎ ((goal ≤ n) × (one_if (nat_lt n goal) ≡ 0))
below_goal n goal = elim (either (nat_lt n goal)) [
  | inl e ↦ inl (grind (arith, nat_tests), ap one_if e)
  | inr e ↦ inr (grind (arith, nat_tests), ap one_if e)
]

asked_at_most : (goal limit clients : ℕ) (turns : List (List Done)) → AreTurns goal limit clients turns
    → (c k : ℕ) → k ≤ length turns → length (asked c (joined (take k turns))) ≤ goal
asked_at_most goal limit clients turns each c zero l = omega arith
asked_at_most goal limit clients turns each c (suc k) l =
    let before = joined (take k turns) in
    let turn = get_or turns k [] in
    let was = asked_at_most goal limit clients turns each c k (omega arith) in
    let split : joined (take (suc k) turns) ≡ before ++ turn = ap (λ n. joined (take n turns)) (sym (add-one k))
    ∙ joined-more turns k (omega arith) in
    let sum = ap (λ r. length (asked c r)) split ∙ asked_sum c before turn in
    let few = few_asked c turn in
    let steps = ap (λ xs. count_by (is_serve_of c) xs) (each k (omega arith)).steps in
    let most = serves_in_turn (λ i. nat_lt (length (asked i before)) goal) c clients in
    ⊎_elim (λ a. let a0 = a.0 in let a1 = a.1 in omega arith) (λ a. let a0 = a.0 in let a1 = a.1 in omega arith)
    (below_goal (length (asked c before)) goal)

-- of each client at most `goal` requests are done
pub asked_most : (goal limit clients : ℕ) (turns : List (List Done)) → AreTurns goal limit clients turns
    → (c : ℕ) → length (asked c (joined turns)) ≤ goal
asked_most goal limit clients turns each c =
    let most = asked_at_most goal limit clients turns each c (length turns) (omega arith) in
    let whole = ap (λ us. length (asked c (joined us))) (take-length turns) in
    omega arith

-- Flushes.

-- each client is flushed once a turn
pub flushed_once : (goal limit clients : ℕ) (turns : List (List Done)) → AreTurns goal limit clients turns
    → (k c : ℕ) → k < length turns → c < clients → count_by (is_flush_of c) (steps_of (get_or turns k [])) ≡ 1
flushed_once goal limit clients turns each k c l low =
    let served : ℕ → Bool = λ i. nat_lt (length (asked i (joined (take k turns)))) goal in
    let serves : List Step = map Steps.Serve (filter served (range_with_len 0 clients)) in
    let flushes : List Step = map Steps.Flush (range_with_len 0 clients) in
    let steps = ap (λ xs. count_by (is_flush_of c) xs) (each k l).steps in
    let a = count_sum (is_flush_of c) (serves ++ flushes) (Steps.Tick ∷ []) in
    let b = count_sum (is_flush_of c) serves flushes in
    let none = none_of (is_flush_of c) Steps.Serve (λ i. refl) (filter served (range_with_len 0 clients)) in
    let one = (at_once (λ n. count_by (is_flush_of c) (map Steps.Flush (range_with_len 0 n))) (λ _. true) c refl
    (λ n. sum_by-map-range_with_len_more (λ x. cond (is_flush_of c x) 1 0) Steps.Flush 0 n n (omega arith)) clients).1 low in
    let end : count_by (is_flush_of c) (Steps.Tick ∷ []) ≡ 0 = refl in
    omega arith

-- The limit.

-- after `limit` turns without progress a client is short of the goal
pub short_at_limit : (goal limit clients : ℕ) (turns : List (List Done)) → AreTurns goal limit clients turns
    → EndsIdle goal clients limit turns → 0 < limit → HasUnfinishedClient goal clients (joined turns)
short_at_limit goal limit clients turns each idle some =
    let many = idle.0 in
    let k : ℕ = length turns - 1 in
    let before : List Done = joined (take k turns) in
    let turn : List Done = get_or turns k [] in
    let was = (each k (omega arith)).short in
    let whole : before ++ turn ≡ joined turns = sym (joined-more turns k (omega arith))
    ∙ ap joined (take_all (k + 1) turns (omega arith)) in
    let at = same_at goal clients (before ++ turn) before (idle.1 k (omega arith) (omega arith)) was.client was.among in
    let a : min (length (asked was.client (before ++ turn))) goal ≡ min (length (asked was.client before)) goal =
    ap (λ (p : Progress). p.served) at in
    let b : min (flushed was.client (before ++ turn)) (2 * goal) ≡ min (flushed was.client before) (2 * goal) =
    ap (λ (p : Progress). p.flushed) at in subst (HasUnfinishedClient goal clients) whole (record {
      client = was.client;
      among = was.among;
      fewer = ⊎_elim (λ h. inl (omega arith)) (λ h. inr (omega arith)) was.fewer;
    })
