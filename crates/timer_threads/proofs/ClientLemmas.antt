-- One more word among those that a client received, and one more request among those that it sent.
use Rattle.std.proofs.Common.{◌≡◌, ◌+◌, ◌-◌, ◌*◌, ◌%◌, ◌<◌, ◌≤◌, ◌==◌, ◌&&◌, ◌||◌, nat_lt, not, ℕ, Bool, true, false, List, [], ◌∷◌, ◌++◌, length, get_or, refl, sym, ◌∙◌, ap, subst, arith, append_assoc, append-nil, length-append, ◌⊎◌, inl, inr}
use Rattle.std.specs.Prelude.{Option, Some, None, IfSome}
use Rattle.std.specs.List.{range_with_len, last_or}
use Rattle.std.proofs.lemmas.Grind.{flat_map-append}
use Rattle.std.proofs.lemmas.List.{get_or_push, append_cancel_left, map-id}
use Rattle.std.proofs.lemmas.Option.{IfSome_then}
use Rattle.std.proofs.lemmas.List.FromFn.{map-range_with_len_more, get_or-range_with_len, length-map-range_with_len}
use Rattle.std.proofs.lemmas.Bool.Decides.{nat_tests}
use Rattle.timer_threads.specs.Types.{Timer, Word, Worked, Turn, ClientEnd, RequestsEnded, ClientReader, Log, Client}
use Rattle.timer_base.proofs.Basics.{either}
use Rattle.timer_facility.specs.declared.request.Answer.TheVariants as Answers
use Rattle.timer_facility.specs.declared.request.Notice.TheVariants as Notices
use Rattle.timer_desk.specs.declared.word.Word.TheVariants as Words
use Rattle.timer_desk.specs.RingEnds.{line_of_end, next_of, submitted, received_by_end, numbered, all_submitted, read_by, found_by_end, found_by_reader}
use Rattle.timer_facility.specs.declared.request.Request.TheVariants.{Start}
use Rattle.timer_threads.proofs.ResultsLemmas.{or_false}
use Rattle.timer_threads.specs.Turns.{requests_of, words_of, idle_at_end}
use Rattle.timer_threads.specs.Work.{HasWorked, request_of, requests_from, started_in, expired_in, started_in_words, expired_by, follows, AreAscending, ArePassed, StopsAtWord, GoesOn, AreClientTurns, IsLetGo}
use Rattle.timer_threads.specs.Client.{passes, counted, AreChecked, IsAtWork, IsLogged, turns_by, KeepsToCount, is_complete}

-- The requests.

pub requests_from-more : (first sent action : ℕ) → sent + 1 ≡ action
    → requests_from first action ≡ requests_from first sent ++ numbered (first + sent) (Start (1 + action % 97) action) ∷ []
requests_from-more first sent action is =
    let at : 1 + sent ≡ action = omega (arith, is) in
    let number : first + (action - 1) ≡ first + sent = omega (arith, is) in
    ap (requests_from first) (sym is)
    ∙ map-range_with_len_more (request_of first) 1 sent action at
    ∙ ap (λ n. requests_from first sent ++ numbered n (Start (1 + action % 97) action) ∷ []) number

-- The numbers of the answers.

range_with_len-more : (first n : ℕ) → range_with_len first (n + 1) ≡ range_with_len first n ++ (first + n) ∷ []
range_with_len-more first n = sym (map-id (range_with_len first (n + 1))) ∙ map-range_with_len_more (λ k. k) first n (first + n) refl
    ∙ ap (λ xs. xs ++ (first + n) ∷ []) (map-id (range_with_len first n))

next_number : (first n : ℕ) (numbers : List ℕ) → numbers ≡ range_with_len first (length numbers) → n ≡ first + length numbers
    → numbers ++ n ∷ [] ≡ range_with_len first (length (numbers ++ n ∷ []))
next_number first n numbers are is =
    let long : length (numbers ++ n ∷ []) ≡ length numbers + 1 = length-append numbers (n ∷ []) in
    ap (λ xs. xs ++ n ∷ []) are
    ∙ ap (λ k. range_with_len first (length numbers) ++ k ∷ []) is
    ∙ sym (range_with_len-more first (length numbers))
    ∙ ap (range_with_len first) (sym long)

was_next : (first n : ℕ) (numbers : List ℕ) → numbers ++ n ∷ [] ≡ range_with_len first (length (numbers ++ n ∷ []))
    → n ≡ first + length numbers
was_next first n numbers are =
    let long : length (numbers ++ n ∷ []) ≡ length numbers + 1 = length-append numbers (n ∷ []) in
    sym (get_or_push numbers n 0 (length numbers) refl)
    ∙ ap (λ xs. get_or xs (length numbers) 0) are
    ∙ get_or-range_with_len first (length (numbers ++ n ∷ [])) (length numbers) 0 (omega (arith, long))

-- The order of the timers.

pub last_or-append : (o : Option Timer) (ts us : List Timer) → last_or o (ts ++ us) ≡ last_or (last_or o ts) us
last_or-append o [] us = refl
last_or-append o (t ∷ ts) us = last_or-append (Some t) ts us

AreAscending-more : (o : Option Timer) (ts : List Timer) (t : Timer) → AreAscending o ts
    → follows (last_or o ts) t ≡ true → AreAscending o (ts ++ t ∷ [])
AreAscending-more o [] t a f = (f, tt)
AreAscending-more o (x ∷ ts) t a f = (a.0, AreAscending-more (Some x) ts t a.1 f)

was_after : (o : Option Timer) (ts : List Timer) (t : Timer) → AreAscending o (ts ++ t ∷ []) → follows (last_or o ts) t ≡ true
was_after o [] t a = a.0
was_after o (x ∷ ts) t a = was_after (Some x) ts t a.1

-- One more word.

started_in_words-more : (ws : List Word) (w : Word) → started_in_words (ws ++ w ∷ []) ≡ started_in_words ws ++ started_in w
started_in_words-more ws w = flat_map-append started_in ws (w ∷ []) ∙ ap (λ xs. started_in_words ws ++ xs) (append-nil (started_in w))

expired_by-more : (ws : List Word) (w : Word) → expired_by (ws ++ w ∷ []) ≡ expired_by ws ++ expired_in w
expired_by-more ws w = flat_map-append expired_in ws (w ∷ []) ∙ ap (λ xs. expired_by ws ++ xs) (append-nil (expired_in w))

-- the lists of the answers and of the timers, with one more word
record AreWith (ws : List Word) (w : Word) (numbers : List ℕ) (timers : List Timer) : Type 0 where
  pub started : started_in_words (ws ++ w ∷ []) ≡ started_in_words ws ++ numbers
  pub expired : expired_by (ws ++ w ∷ []) ≡ expired_by ws ++ timers
  pub long : length (ws ++ w ∷ []) ≡ length ws + 1
  pub starts : length (started_in_words (ws ++ w ∷ [])) ≡ length (started_in_words ws) + length numbers
  pub expiries : length (expired_by (ws ++ w ∷ [])) ≡ length (expired_by ws) + length timers

are_with : (ws : List Word) (w : Word) → AreWith ws w (started_in w) (expired_in w)
are_with ws w = record {
  started = started_in_words-more ws w;
  expired = expired_by-more ws w;
  long = length-append ws (w ∷ []);
  starts = ap length (started_in_words-more ws w) ∙ length-append (started_in_words ws) (started_in w);
  expiries = ap length (expired_by-more ws w) ∙ length-append (expired_by ws) (expired_in w);
}

start_passes : (first count : ℕ) (ws : List Word) (w : Word) (n : ℕ) → AreWith ws w (n ∷ []) [] → ArePassed first count ws
    → length (started_in_words ws) < count → n ≡ first + length (started_in_words ws) → ArePassed first count (ws ++ w ∷ [])
start_passes first count ws w n more was few is = record {
  each = let a = more.long in let b = more.starts in let c = more.expiries in let d = was.each in omega (arith, a, b, c, d);
  numbers = subst (λ xs. xs ≡ range_with_len first (length xs)) (sym more.started) (next_number first n (started_in_words ws) was.numbers is);
  order = subst (AreAscending None) (sym (more.expired ∙ append-nil (expired_by ws))) was.order;
  few_started = let b = more.starts in omega (arith, b, few);
  few_expired = let c = more.expiries in let d = was.few_expired in omega (arith, c, d);
}

start_passed : (first count : ℕ) (ws : List Word) (w : Word) (n : ℕ) → AreWith ws w (n ∷ []) [] → ArePassed first count (ws ++ w ∷ [])
    → (length (started_in_words ws) < count) × (n ≡ first + length (started_in_words ws))
start_passed first count ws w n more now = (
  (let b = more.starts in let d = now.few_started in omega (arith, b, d)),
  was_next first n (started_in_words ws) (subst (λ xs. xs ≡ range_with_len first (length xs)) more.started now.numbers),
)

expiry_passes : (first count : ℕ) (ws : List Word) (w : Word) (t : Timer) → AreWith ws w [] (t ∷ []) → ArePassed first count ws
    → length (expired_by ws) < count → follows (last_or None (expired_by ws)) t ≡ true → ArePassed first count (ws ++ w ∷ [])
expiry_passes first count ws w t more was few after = record {
  each = let a = more.long in let b = more.starts in let c = more.expiries in let d = was.each in omega (arith, a, b, c, d);
  numbers = subst (λ xs. xs ≡ range_with_len first (length xs)) (sym (more.started ∙ append-nil (started_in_words ws))) was.numbers;
  order = subst (AreAscending None) (sym more.expired) (AreAscending-more None (expired_by ws) t was.order after);
  few_started = let b = more.starts in let d = was.few_started in omega (arith, b, d);
  few_expired = let c = more.expiries in omega (arith, c, few);
}

expiry_passed : (first count : ℕ) (ws : List Word) (w : Word) (t : Timer) → AreWith ws w [] (t ∷ []) → ArePassed first count (ws ++ w ∷ [])
    → (length (expired_by ws) < count) × (follows (last_or None (expired_by ws)) t ≡ true)
expiry_passed first count ws w t more now = (
  (let b = more.expiries in let d = now.few_expired in omega (arith, b, d)),
  was_after None (expired_by ws) t (subst (AreAscending None) more.expired now.order),
)

other_fails : (first count : ℕ) (ws : List Word) (w : Word) → length (started_in w) ≡ 0 → length (expired_in w) ≡ 0
    → ArePassed first count ws → StopsAtWord first count (ws ++ w ∷ [])
other_fails first count ws w no_start no_expiry was = record {
  passed = ws;
  last = w;
  are = refl;
  pass = was;
  fails = λ now.
      let more = are_with ws w in
      let a = more.long in let b = more.starts in let c = more.expiries in let d = was.each in let e = now.each
      in absurd (omega (arith, a, b, c, d, e, no_start, no_expiry));
}

-- if a word is tested, it and those before it are checked
checked_by : (passed : Bool) (first count : ℕ) (ws : List Word) (w : Word) → ArePassed first count ws
    → (passed ≡ true → ArePassed first count (ws ++ w ∷ [])) → (passed ≡ false → ¬ (ArePassed first count (ws ++ w ∷ [])))
    → AreChecked (not passed) first count (ws ++ w ∷ [])
checked_by true first count ws w was pass fail = pass refl
checked_by false first count ws w was pass fail = record { passed = ws; last = w; are = refl; pass = was; fails = fail refl }

both_test : (a b : ℕ) (q : Bool) → nat_lt a b && q ≡ true → (a < b) × (q ≡ true)
both_test a b true h = grind (arith, nat_tests)
both_test a b false h = grind (arith, nat_tests)

not_both_test : (a b : ℕ) (q : Bool) → nat_lt a b && q ≡ false → a < b → q ≡ true → ⊥
not_both_test a b true h l e = grind (arith, nat_tests)
not_both_test a b false h l e = grind (arith, nat_tests)

AreChecked-more : (c : Client) (ws : List Word) (w : Word) → ArePassed c.first c.count ws
    → length (started_in_words ws) ≡ c.started → length (expired_by ws) ≡ c.expired → c.last ≡ last_or None (expired_by ws)
    → AreChecked (not (passes c w)) c.first c.count (ws ++ w ∷ [])
AreChecked-more c ws (Words.Answered number action (Answers.Started handle deadline)) was started expired last =
    let w : Word = Words.Answered number action (Answers.Started handle deadline) in
    checked_by (nat_lt c.started c.count && (number == c.first + c.started)) c.first c.count ws w was
    (λ p.
    let b = both_test c.started c.count (number == c.first + c.started) p in
    let is : number ≡ c.first + length (started_in_words ws) = grind (arith, nat_tests, b.1, started) in
    start_passes c.first c.count ws w number (are_with ws w) was (omega (arith, started, b.0)) is)
    (λ p now.
    let b = start_passed c.first c.count ws w number (are_with ws w) now in
    not_both_test c.started c.count (number == c.first + c.started) p (omega (arith, started, b.0)) (grind (arith, nat_tests, b.1, started)))
AreChecked-more c ws (Words.Answered number action (Answers.Stopped serial)) was started expired last =
    other_fails c.first c.count ws (Words.Answered number action (Answers.Stopped serial)) refl refl was
AreChecked-more c ws (Words.Answered number action (Answers.Restarted handle deadline old)) was started expired last =
    other_fails c.first c.count ws (Words.Answered number action (Answers.Restarted handle deadline old)) refl refl was
AreChecked-more c ws (Words.Answered number action (Answers.Refused reason)) was started expired last =
    other_fails c.first c.count ws (Words.Answered number action (Answers.Refused reason)) refl refl was
AreChecked-more c ws (Words.NotTaken number action reason) was started expired last =
    other_fails c.first c.count ws (Words.NotTaken number action reason) refl refl was
AreChecked-more c ws (Words.Notice (Notices.Returned timer)) was started expired last =
    other_fails c.first c.count ws (Words.Notice (Notices.Returned timer)) refl refl was
AreChecked-more c ws (Words.Notice (Notices.Expired timer)) was started expired last =
    let w : Word = Words.Notice (Notices.Expired timer) in
    checked_by (nat_lt c.expired c.count && follows c.last timer) c.first c.count ws w was
    (λ p. let b = both_test c.expired c.count (follows c.last timer) p in
    expiry_passes c.first c.count ws w timer (are_with ws w) was (omega (arith, expired, b.0)) (ap (λ o. follows o timer) (sym last) ∙ b.1))
    (λ p now. let b = expiry_passed c.first c.count ws w timer (are_with ws w) now in
    not_both_test c.expired c.count (follows c.last timer) p (omega (arith, expired, b.0)) (ap (λ o. follows o timer) last ∙ b.1))

-- a word was received, counted and checked, and nothing else changed
pub IsAtWork-read : (start : ClientEnd) (c : Client) (end : ClientEnd) (w : Word)
    → line_of_end end ≡ line_of_end c.end → found_by_end end ≡ found_by_end c.end
    → submitted end ≡ submitted c.end → next_of end ≡ next_of c.end
    → received_by_end end ≡ received_by_end c.end ++ w ∷ [] → c.failed ≡ false
    → IsAtWork start c → IsAtWork start (counted (record c { end = end }) w)
IsAtWork-read start c end w line found same_sent same_next received good h =
    let more = are_with h.words w in
    let was : ArePassed c.first c.count h.words = subst (λ b. AreChecked b c.first c.count h.words) good h.checked in record {
      line = line ∙ h.line;
      found = found ∙ h.found;
      first = h.first;
      next = same_next ∙ h.next;
      sends = same_sent ∙ h.sends;
      words = h.words ++ w ∷ [];
      received = received ∙ ap (λ ws. ws ++ w ∷ []) h.received ∙ append_assoc (received_by_end start) h.words (w ∷ []);
      started = more.starts ∙ ap (λ n. n + length (started_in w)) h.started;
      expired = more.expiries ∙ ap (λ n. n + length (expired_in w)) h.expired;
      last = ap (λ o. last_or o (expired_in w)) h.last ∙ sym (last_or-append None (expired_by h.words) (expired_in w))
          ∙ ap (last_or None) (sym more.expired);
      checked = AreChecked-more c h.words w was h.started h.expired h.last;
    }

-- a request was sent, and nothing else changed
pub IsAtWork-sent : (start : ClientEnd) (c : Client) (end : ClientEnd) (number : ℕ)
    → line_of_end end ≡ line_of_end c.end → found_by_end end ≡ found_by_end c.end
    → received_by_end end ≡ received_by_end c.end
    → number ≡ next_of c.end → next_of end ≡ number + 1
    → submitted end ≡ submitted c.end ++ numbered number (Start (1 + (c.sent + 1) % 97) (c.sent + 1)) ∷ []
    → IsAtWork start c → IsAtWork start (record c { end = end; sent = c.sent + 1 })
IsAtWork-sent start c end number line found received is next sent h =
    let at : number ≡ c.first + c.sent = is ∙ h.next in
    let request = λ (n : ℕ). numbered n (Start (1 + (c.sent + 1) % 97) (c.sent + 1)) in
    let one : (c.first + c.sent) + 1 ≡ c.first + (c.sent + 1) = omega arith in record {
      line = line ∙ h.line;
      found = found ∙ h.found;
      first = h.first;
      next = next ∙ ap (λ n. n + 1) at ∙ one;
      sends = rw (sent, h.sends, requests_from-more c.first c.sent (c.sent + 1) refl, at)
          (append_assoc (submitted start) (requests_from c.first c.sent) (request (c.first + c.sent) ∷ []));
      words = h.words;
      received = received ∙ h.received;
      started = h.started;
      expired = h.expired;
      last = h.last;
      checked = h.checked;
    }

-- The end of the work.

not_false : (b : Bool) → not b ≡ false → b ≡ true
not_false true h = refl
not_false false h = absurd (cc)

not_true : (b : Bool) → not b ≡ true → b ≡ false
not_true true h = absurd (cc)
not_true false h = refl

complete_means : (s t e n : ℕ) → (s == n) && ((t == n) && (e == n)) ≡ true → (s ≡ n) × (t ≡ n) × (e ≡ n)
complete_means s t e n h = grind (arith, nat_tests)

short_means : (s t e s' t' e' n : ℕ) → s ≡ s' → t ≡ t' → e ≡ e' → s ≤ n → t ≤ n → e ≤ n
    → (s == n) && ((t == n) && (e == n)) ≡ false → (s' < n) ⊎ ((t' < n) ⊎ (e' < n))
short_means s t e s' t' e' n h k m a b d f = grind (arith, nat_tests)

-- the words and the requests of the turns are those that were counted and checked
words_counted : (start : ClientEnd) (c : Client) (h : IsAtWork start c) → IsLogged start c → h.words ≡ words_of (turns_by c)
words_counted start c h r = append_cancel_left (received_by_end start) h.words (words_of (turns_by c)) (sym h.received ∙ r.words)

requests_counted : (start : ClientEnd) (c : Client) → IsAtWork start c → IsLogged start c
    → requests_of (turns_by c) ≡ requests_from (next_of start) c.sent
requests_counted start c h r =
    append_cancel_left (submitted start) (requests_of (turns_by c)) (requests_from c.first c.sent) (sym r.requests ∙ h.sends)
    ∙ ap (λ n. requests_from n c.sent) h.first

expired_counted : (start : ClientEnd) (c : Client) → IsAtWork start c → IsLogged start c → c.expired ≡ length (expired_by (words_of (turns_by c)))
expired_counted start c h r = sym h.expired ∙ ap (λ ws. length (expired_by ws)) (words_counted start c h r)

passed_counted : (start : ClientEnd) (c : Client) → IsAtWork start c → IsLogged start c → c.failed ≡ false
    → ArePassed (next_of start) c.count (words_of (turns_by c))
passed_counted start c h r good = rw (good, h.first, words_counted start c h r) at h.checked

-- a client that is not over goes on
pub goes_on : (start : ClientEnd) (count limit idle : ℕ) (c : Client) → c.count ≡ count → KeepsToCount c → IsAtWork start c → IsLogged start c
    → c.failed || is_complete c ≡ false → idle ≡ idle_at_end (turns_by c) → idle < limit → GoesOn (next_of start) count limit (turns_by c)
goes_on start count limit idle c is_count sound h r not_over is few =
    let both = or_false c.failed (is_complete c) not_over in
    let same = words_counted start c h r in
    let sent : c.sent ≡ length (requests_of (turns_by c)) =
    sym (ap length (requests_counted start c h r) ∙ length-map-range_with_len (request_of (next_of start)) 1 c.sent) in
    let started : c.started ≡ length (started_in_words (words_of (turns_by c))) = sym h.started ∙ ap (λ ws. length (started_in_words ws)) same in
    subst (λ n. GoesOn (next_of start) n limit (turns_by c)) is_count (record {
      passed = passed_counted start c h r both.0;
      short = short_means c.sent c.started c.expired (length (requests_of (turns_by c))) (length (started_in_words (words_of (turns_by c))))
          (length (expired_by (words_of (turns_by c)))) c.count sent started (expired_counted start c h r)
          sound.sent (sound.started both.0) (sound.expired both.0) both.1;
      idle = subst (λ n. n < limit) is few;
    })

-- the request of a turn was let go if the gate was asked with the client's count
pub IsLetGo-counted : (lets_go : ℕ → ℕ → Type 0) (start : ClientEnd) (c : Client) (t : Turn) → IsAtWork start c → IsLogged start c
    → IfSome t.sent (λ request. lets_go request.number c.expired) → IsLetGo lets_go (turns_by c) t
IsLetGo-counted lets_go start c t h r asked =
    subst (λ n. IfSome t.sent (λ request. lets_go request.number n)) (expired_counted start c h r) asked

-- what a client leaves when it finishes
abbrev pub finished : Client → Option RequestsEnded → ClientReader → Bool → ℕ → Log ClientEnd → Worked
finished c ended reader failed idle last = record {
  ended = ended;
  reader = reader;
  sent = c.sent;
  started = c.started;
  expired = c.expired;
  failed = failed;
  idle = idle;
  history = record { turns = c.turns; last = last };
}

pub HasWorked-finished : (start : ClientEnd) (limit : ℕ) (c : Client) (ended : Option RequestsEnded) (reader : ClientReader) (failed : Bool)
    (idle : ℕ) (last : Log ClientEnd) → KeepsToCount c → IsAtWork start c → IsLogged start c
    → AreClientTurns (next_of start) c.count limit (turns_by c) → idle ≡ idle_at_end (turns_by c) → last.items ≡ c.end ∷ []
    → IfSome ended (λ e. all_submitted e ≡ submitted c.end) → read_by reader ≡ received_by_end c.end
    → found_by_reader reader ≡ found_by_end c.end → failed ≡ c.failed || not (is_complete c) → (c.failed || is_complete c ≡ false → idle ≡ limit)
    → HasWorked c.count limit start (finished c ended reader failed idle last)
HasWorked-finished start limit c ended reader failed idle last sound h r taken idle_is last_is submitted_is read found failed_is gave_up =
    let submits : submitted c.end ≡ submitted start ++ requests_from (next_of start) c.sent =
    h.sends ∙ ap (λ n. submitted start ++ requests_from n c.sent) h.first in
    let same : h.words ≡ words_of (turns_by c) = words_counted start c h r in record {
      sent = IfSome_then ended submitted_is (λ e is. is ∙ submits);
      most = sound.sent;
      last = c.end;
      last_is = last_is;
      same_line = h.line;
      next = h.next ∙ ap (λ n. n + c.sent) h.first;
      submits = submits;
      requests = requests_counted start c h r;
      found = found ∙ h.found;
      received = read ∙ h.received ∙ ap (λ ws. received_by_end start ++ ws) same;
      started = ap (λ ws. length (started_in_words ws)) (sym same) ∙ h.started;
      expired = ap (λ ws. length (expired_by ws)) (sym same) ∙ h.expired;
      taken = taken;
      idle = idle_is;
      passed = λ good. passed_counted start c h r (or_false c.failed (not (is_complete c)) (sym failed_is ∙ good)).0;
      complete = λ good. complete_means c.sent c.started c.expired c.count
          (not_false (is_complete c) (or_false c.failed (not (is_complete c)) (sym failed_is ∙ good)).1);
      failed = λ bad. elim (either c.failed) [
        | inl k ↦ inl (rw (k, h.first, same) at h.checked)
        | inr k ↦
            let short : is_complete c ≡ false = not_true (is_complete c) (rw k at (sym failed_is ∙ bad)) in inr (
              passed_counted start c h r k,
              short_means c.sent c.started c.expired c.sent c.started c.expired c.count refl refl refl
                  sound.sent (sound.started k) (sound.expired k) short,
              gave_up (rw (k, short) refl),
            )
      ];
    }

-- The measure of a client's work.

as_much : (b d l : ℕ) → b * (l + 1) ≤ (b + d) * (l + 1)
as_much b d l = omega arith

scaled : (a b l : ℕ) → b ≤ a → b * (l + 1) ≤ a * (l + 1)
scaled a b l h = let is : a ≡ b + (a - b) = omega arith in subst (λ n. b * (l + 1) ≤ n * (l + 1)) (sym is) (as_much b (a - b) l)

pub less_to_do : (a b l i : ℕ) → b < a → b * (l + 1) + (l - 0) < a * (l + 1) + (l - i)
less_to_do a b l i h = let m : (b + 1) * (l + 1) ≤ a * (l + 1) = scaled a (b + 1) l (omega arith) in omega arith

pub nearer_the_limit : (a b l i : ℕ) → i < l → b ≤ a → b * (l + 1) + (l - (i + 1)) < a * (l + 1) + (l - i)
nearer_the_limit a b l i near h = let m = scaled a b l h in omega arith
