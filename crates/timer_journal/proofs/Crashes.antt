-- What a crash leaves of each step of an append and of a recovery, and what each step writes.
use Rattle.std.proofs.Common.{◌≡◌, ◌⊎◌, inl, inr, ℕ, zero, suc, ◌+◌, ◌-◌, ◌<◌, ◌≤◌, ◌^◌, Bool, true, not, ◌==◌, nat_le, List, [], ◌∷◌, ◌++◌, length, get_or, take, drop, refl, sym, ◌∙◌, ap, subst, append_assoc, append-nil, length-append, length-drop, take-append-drop, arith}
use Rattle.std.proofs.lemmas.List.{take_at, drop_at, take_all, drop_all, drop_more, drop-drop}
use Rattle.std.proofs.lemmas.Bool.{cases_eq}
use Rattle.timer_journal.specs.Device.{overwritten, Torn, Shortened, Only}
use Rattle.timer_journal.specs.Format.{body_of, blocks, file_of, stated_length, groups_of, tail_of, is_torn_group, is_torn_end, Says}
use Rattle.timer_journal.specs.Journal.{IsDurable, IsBeforeOrAfter, IsBeforeOrAnew}
use Rattle.timer_journal.proofs.Tests.{le_test, eq_fails, both, second}
use Rattle.timer_journal.proofs.Writing.{AllFit, says_length, length-body, blocks-push, says_end, closed_end, short_end, torn_front}

-- the file with a group behind its closed gate
abbrev pub staged : List (List ℕ) → List ℕ → List ℕ
staged groups lines = blocks groups ++ 21 ∷ (body_of lines ++ 21 ∷ [])

pub all_fit_push : (groups : List (List ℕ)) (lines : List ℕ) → AllFit groups → length lines < 2 ^ 64 → AllFit (groups ++ lines ∷ [])
all_fit_push [] lines fit fits = (fits, tt)
all_fit_push (first ∷ groups) lines fit fits = (fit.0, all_fit_push groups lines fit.1 fits)

take_past : (xs ys : List ℕ) (m n : ℕ) → m ≡ length xs + n → take m (xs ++ ys) ≡ xs ++ take n ys
take_past [] ys m n is = ap (λ (k : ℕ). take k ys) (m_is m n is)
  where
    m_is : (m n : ℕ) → m ≡ 0 + n → m ≡ n
    m_is m n is = omega (arith, is)
take_past (x ∷ xs) ys zero n is = absurd (omega (arith, is))
take_past (x ∷ xs) ys (suc m) n is = ap (λ (l : List ℕ). x ∷ l) (take_past xs ys m n (omega (arith, is)))

module _ (groups : List (List ℕ)) (end : ℕ) (size : end ≡ length (blocks groups)) (fit : AllFit groups) where
  length-file : length (file_of groups) ≡ end + 1
  length-file = omega (arith, size, length-append (blocks groups) (21 ∷ []))

  -- ---- the group behind the closed gate

  pub torn_group : (n : ℕ) (c : List ℕ) → Torn (end + 1) n (file_of groups) c → Says groups c
  torn_group n c torn =
      let front : take (end + 1) c ≡ file_of groups = torn.before ∙ take_all (end + 1) (file_of groups) (omega (arith, length-file)) in
      let is : c ≡ blocks groups ++ 21 ∷ drop (end + 1) c =
      sym (take-append-drop (end + 1) c) ∙ ap (λ (l : List ℕ). l ++ drop (end + 1) c) front ∙ append_assoc (blocks groups) (21 ∷ []) (drop (end + 1) c) in
      subst (Says groups) (sym is) (says_end groups (21 ∷ drop (end + 1) c) fit (closed_end (drop (end + 1) c)))

  pub written_group : (lines : List ℕ) → overwritten (file_of groups) (end + 1) (body_of lines ++ 21 ∷ []) ≡ staged groups lines
  written_group lines =
      let bytes = body_of lines ++ 21 ∷ [] in
      (λ i. (take_all (end + 1) (file_of groups) (omega (arith, length-file)) i ++ bytes) ++ drop_all (end + 1 + length bytes) (file_of groups) (omega (arith, length-file)) i)
      ∙ append-nil (file_of groups ++ bytes)
      ∙ append_assoc (blocks groups) (21 ∷ []) bytes

  -- ---- the gate

  module _ (lines : List ℕ) (fits : length lines < 2 ^ 64) where
    abbrev behind : List ℕ
    behind = body_of lines ++ 21 ∷ []

    gate_or_not : (gate : ℕ) → IsBeforeOrAfter groups lines (blocks groups ++ gate ∷ behind)
    gate_or_not gate = elim (cases_eq gate 6) [
      | inl six ↦ inr (subst (λ (k : ℕ). Says (groups ++ lines ∷ []) (blocks groups ++ k ∷ behind)) (sym six) after)
      | inr other ↦ inl (says_end groups (gate ∷ behind) fit (second (gate == 21) (is_torn_group gate behind) (both (not (gate == 6)) (nat_le (length behind) (17 + stated_length behind)) (ap not (eq_fails gate 6 other)) (le_test (length behind) (17 + stated_length behind) short))))
    ]
      where
        short : length behind ≤ 17 + stated_length behind
        short = omega (arith, says_length lines (21 ∷ []) fits, length-append (body_of lines) (21 ∷ []), length-body lines)

        after : Says (groups ++ lines ∷ []) (blocks groups ++ 6 ∷ behind)
        after = subst (Says (groups ++ lines ∷ [])) (blocks-push groups lines (21 ∷ [])) (says_end (groups ++ lines ∷ []) (21 ∷ []) (all_fit_push groups lines fit fits) refl)

    length-staged : length (staged groups lines) ≡ end + 1 + length behind
    length-staged = omega (arith, size, length-append (blocks groups) (21 ∷ behind))

    front : take end (staged groups lines) ≡ blocks groups
    front = take_at (blocks groups) (21 ∷ behind) end (sym size)

    back : drop (end + 1) (staged groups lines) ≡ behind
    back = sym (drop-drop 1 end (staged groups lines)) ∙ ap (λ (l : List ℕ). drop 1 l) (drop_at (blocks groups) (21 ∷ behind) end (sym size))

    pub torn_gate : (c : List ℕ) → Torn end 1 (staged groups lines) c → IsBeforeOrAfter groups lines c
    torn_gate c torn =
        let gate = get_or c end 0 in
        let from_gate : drop end c ≡ gate ∷ behind =
        drop_more c end 0 (omega (arith, torn.no_shorter, length-staged)) ∙ ap (λ (l : List ℕ). gate ∷ l) (torn.behind ∙ back) in
        let is : c ≡ blocks groups ++ gate ∷ behind =
        sym (take-append-drop end c) ∙ (λ i. (torn.before ∙ front) i ++ from_gate i) in
        subst (IsBeforeOrAfter groups lines) (sym is) (gate_or_not gate)

    pub written_gate : overwritten (staged groups lines) end (6 ∷ []) ≡ file_of (groups ++ lines ∷ [])
    written_gate = (λ i. (front i ++ (6 ∷ [])) ++ back i) ∙ append_assoc (blocks groups) (6 ∷ []) behind ∙ sym (blocks-push groups lines (21 ∷ []))

  -- ---- the repair of an end

  pub cut_end : (tail c : List ℕ) → is_torn_end tail ≡ true → Shortened end (blocks groups ++ tail) c → Says groups c
  cut_end tail c torn cut =
      let n = length c - end in
      let is : c ≡ blocks groups ++ take n tail = sym cut.front ∙ take_past (blocks groups) tail (length c) n (omega (arith, cut.no_shorter, size, length-append (blocks groups) tail)) in
      subst (Says groups) (sym is) (says_end groups (take n tail) fit (torn_front n tail torn))

  pub is_cut : (tail : List ℕ) → take end (blocks groups ++ tail) ≡ blocks groups
  is_cut tail = take_at (blocks groups) tail end (sym size)

  pub torn_end : (c : List ℕ) → Torn end 1 (blocks groups) c → Says groups c
  torn_end c torn =
      let front : take end c ≡ blocks groups = torn.before ∙ take_all end (blocks groups) (omega (arith, size)) in
      let is : c ≡ blocks groups ++ drop end c = sym (take-append-drop end c) ∙ ap (λ (l : List ℕ). l ++ drop end c) front in
      subst (Says groups) (sym is) (says_end groups (drop end c) fit (short_end (drop end c) (omega (arith, length-drop end c, size, torn.no_longer))))

  pub written_end : overwritten (blocks groups) end (21 ∷ []) ≡ file_of groups
  written_end =
      (λ i. (take_all end (blocks groups) (omega (arith, size)) i ++ (21 ∷ [])) ++ drop_all (end + 1) (blocks groups) (omega (arith, size)) i)
      ∙ append-nil (blocks groups ++ 21 ∷ [])

-- a step that changed nothing
pub same_write : (at n : ℕ) (file : List ℕ) → Torn at n file file
same_write at n file = record { before = refl; behind = refl; no_shorter = omega arith; no_longer = omega arith }

pub same_cut : (n : ℕ) (file : List ℕ) → Shortened n file file
same_cut n file = record { no_shorter = omega arith; front = take_all (length file) file (omega arith) }

-- ---- at rest

-- a file of groups that is on the disk
pub is_durable : {D : Type 0} (seen : D → List ℕ) (may_leave : D → List ℕ → Type 0) (is_usable : D → Bool) (device : D) (groups : List (List ℕ)) → AllFit groups → seen device ≡ file_of groups
    → Only (seen device) (may_leave device) → is_usable device ≡ true → IsDurable seen may_leave is_usable device × (groups_of (seen device) ≡ groups)
is_durable seen may_leave is_usable device groups fit is only usable =
    let at_end = says_end groups (21 ∷ []) fit refl in
    let says : groups_of (seen device) ≡ groups = ap groups_of is ∙ at_end.whole in
    (record { file = is ∙ ap file_of (sym says); says = record { whole = refl; end = ap (λ (f : List ℕ). is_torn_end (tail_of f)) is ∙ at_end.end }; durable = only; usable = usable }, says)

pub length-push : (groups : List (List ℕ)) (lines : List ℕ) → length (blocks (groups ++ lines ∷ [])) ≡ length (blocks groups) + length (body_of lines ++ 21 ∷ [])
length-push groups lines = omega (arith, ap length (blocks-push groups lines []), length-append (blocks (groups ++ lines ∷ [])) [], length-append (blocks groups) ((6 ∷ body_of lines) ++ []), length-append (6 ∷ body_of lines) [], length-append (body_of lines) (21 ∷ []))

-- ---- one group in the place of all

pub alone_says : (lines : List ℕ) → length lines < 2 ^ 64 → Says (lines ∷ []) (file_of (lines ∷ []))
alone_says lines fits = says_end (lines ∷ []) (21 ∷ []) (fits, tt) refl

pub before_or_anew : (groups : List (List ℕ)) (lines c file : List ℕ) → length lines < 2 ^ 64 → Says groups c ⊎ (c ≡ file) → file ≡ file_of (lines ∷ []) → IsBeforeOrAnew groups lines c
before_or_anew groups lines c file fits (inl says) is = inl says
before_or_anew groups lines c file fits (inr whole) is = inr (subst (Says (lines ∷ [])) (sym (whole ∙ is)) (alone_says lines fits))
