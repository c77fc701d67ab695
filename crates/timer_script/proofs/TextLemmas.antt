-- How long a number is, how the line of an out begins and ends, and that the text of outs does not depend on the places of
-- handles.
use Rattle.std.proofs.Common.{◌≡◌, ◌<◌, ◌≤◌, ◌^◌, ◌-◌, set, drop, ℕ, Bool, true, false, nat_le, ◌&&◌, List, [], ◌∷◌, ◌++◌, length, map, decimal, codes, arith, lit≤, refl, sym, ap, subst, take, append-nil, ◌∙◌}
use Rattle.std.proofs.lemmas.Bool.{and_parts, leb-true}
use Rattle.std.proofs.lemmas.List.{length-map, drop-set}
use Rattle.std.proofs.lemmas.Fmt.{length-decimal-le}
use Rattle.std.specs.List.{flat_map}
use Rattle.timer_facility.specs.declared.request.Reason.TheVariants as reason
use Rattle.timer_facility.specs.declared.request.NotTaken.TheVariants as refusal
use Rattle.timer_facility.specs.declared.request.TickFault.TheVariants as fault
use Rattle.timer_script.specs.Types.{Reason, NotTaken, Out, FacilityState, Started, Refused, Expired}
use Rattle.timer_facility.specs.declared.event.Out.TheVariants as Outs
use Rattle.timer_facility.specs.declared.saved.StateLine.{StateLine}
use Rattle.timer_facility.specs.declared.saved.StateLine.TheVariants as saved
use Rattle.timer_facility.specs.Run.{bare, bare_outs, bare_entry, bare_state}
use Rattle.timer_facility.specs.Saved.{saved_of, state_lines}
use Rattle.timer_script.specs.Script.{HasNoFeed}
use Rattle.timer_script.specs.Text.{numbers, reason_word, refusal_word, state_line, out_line, end_line, text}
use Rattle.timer_script.specs.SavedText.{state_text, dump_text}
use Rattle.timer_script.proofs.FeedLemmas.{no_feed-append, is_bare, no_feed_if_bare, numbers_bare}

-- a number of a word has at most 20 digits
pub short_decimal : (n : ℕ) → n < 18446744073709551616 → length (decimal n) ≤ 20
short_decimal n fits = length-decimal-le 20 n (lit≤ tt) (let w : 18446744073709551616 ≤ 10 ^ 20 = lit≤ tt in omega arith) fits

-- a space before what stands from `at` on
pub spaced : (b rest : List ℕ) (at : ℕ) → 1 ≤ at → at ≤ length b → drop at b ≡ rest → drop (at - 1) (set b (at - 1) 32) ≡ 32 ∷ rest
spaced b rest at some within is =
    drop-set b (at - 1) 32 (omega arith) ∙ ap (λ n. 32 ∷ drop n b) (let w = some in omega arith) ∙ ap (λ t. 32 ∷ t) is

pub ruleset spaced_decimal = (short_decimal, spaced)

-- ---- what each line begins and ends with

-- a line of an answer: a letter from c to t, more bytes, and the only line feed
pub record IsOutLine (bytes : List ℕ) : Type 0 where
  pub first : ℕ
  pub rest : List ℕ
  pub is : bytes ≡ (first ∷ rest) ++ 10 ∷ []
  pub no_feed : HasNoFeed (first ∷ rest)
  pub letter : (99 ≤ first) × (first ≤ 116)

-- whether bytes begin with such a letter, and have no line feed
abbrev begins_line : List ℕ → Bool
begins_line [] = false
begins_line (first ∷ rest) = (nat_le 99 first && nat_le first 116) && is_bare (first ∷ rest)

-- a word and numbers
numbered : (word all : List ℕ) → begins_line word ≡ true → IsOutLine (word ++ numbers all ++ codes "\n")
numbered [] all begins = absurd cc
numbered (first ∷ word) all begins =
    let (letter, free) = and_parts _ _ begins in
    let (low, high) = and_parts _ _ letter in
    record {
      first = first;
      rest = word ++ numbers all;
      is = refl;
      no_feed = no_feed-append (first ∷ word) (numbers all) (no_feed_if_bare (first ∷ word) free) (numbers_bare all);
      letter = (leb-true 99 first low, leb-true first 116 high);
    }

-- a word, numbers, and a reason
refused : (all why : List ℕ) → is_bare why ≡ true → IsOutLine (codes "refused" ++ numbers all ++ codes " " ++ why ++ codes "\n")
refused all why free = record {
  first = 114;
  rest = codes "efused" ++ numbers all ++ codes " " ++ why;
  is = refl;
  no_feed = no_feed-append (codes "refused" ++ numbers all ++ codes " ") why
      (no_feed-append (codes "refused" ++ numbers all) (codes " ")
      (no_feed-append (codes "refused") (numbers all) (no_feed_if_bare (codes "refused") refl) (numbers_bare all))
      (no_feed_if_bare (codes " ") refl)) (no_feed_if_bare why free);
  letter = (lit≤ tt, lit≤ tt);
}

-- the bytes before the last
abbrev before_last : List ℕ → List ℕ
before_last bytes = take (length bytes - 1) bytes

-- a line without numbers
plain : (bytes : List ℕ) → bytes ≡ before_last bytes ++ codes "\n" → begins_line (before_last bytes) ≡ true → IsOutLine bytes
plain bytes ends begins =
    subst IsOutLine (ap (λ front. front ++ codes "\n") (append-nil (before_last bytes)) ∙ sym ends) (numbered (before_last bytes) [] begins)

ruleset lines = (numbered, plain)

reason_bare : (why : Reason) → is_bare (reason_word why) ≡ true
reason_bare reason.ZeroInterval = refl
reason_bare why = refl

refusal_bare : (why : NotTaken) → is_bare (refusal_word why) ≡ true
refusal_bare refusal.Closed = refl
refusal_bare why = refl

state_line_is : (line : StateLine) → IsOutLine (state_line line)
state_line_is (saved.Open now next_serial) = search lines
state_line_is line = search lines

pub out_line_is : (out : Out) → IsOutLine (out_line out)
out_line_is (Outs.Dumped line) = state_line_is line
out_line_is (Outs.Answered client number (Refused why)) = refused (client ∷ number ∷ []) (reason_word why) (reason_bare why)
out_line_is (Outs.NotTaken client number why) = refused (client ∷ number ∷ []) (refusal_word why) (refusal_bare why)
out_line_is (Outs.TickRefused fault.Closed) = search lines
out_line_is (Outs.Notice (Expired t)) = search lines
out_line_is out = search lines

pub end_line_is : (now pending : ℕ) → IsOutLine (end_line now pending)
end_line_is now pending = numbered (codes "end") (now ∷ pending ∷ []) refl

-- ---- a dump

dumped_lines : (lines : List StateLine) → flat_map out_line (map (λ line. Outs.Dumped line) lines) ≡ state_text lines
dumped_lines [] = refl
dumped_lines (line ∷ lines) = ap (λ t. state_line line ++ t) (dumped_lines lines)

-- the outs of a dump, and nothing before them, as text
pub dumped_text : (before after shown : List Out) (f s : FacilityState) → f ≡ s → before ≡ []
    → after ≡ before ++ map (λ line. Outs.Dumped line) (state_lines (saved_of f)) → shown ≡ after
    → flat_map out_line shown ≡ dump_text s
dumped_text before after shown f s same none is value =
    let lines : List Out = map (λ line. Outs.Dumped line) (state_lines (saved_of f)) in
    ap (flat_map out_line) (value ∙ is ∙ ap (λ os. os ++ lines) none) ∙ dumped_lines (state_lines (saved_of f)) ∙ ap dump_text same

-- ---- without the places of handles

out_line-bare : (out : Out) → out_line (bare out) ≡ out_line out
out_line-bare (Outs.Answered client number (Started handle deadline)) = refl
out_line-bare out = refl

pub lines-bare : (outs : List Out) → flat_map out_line (bare_outs outs) ≡ flat_map out_line outs
lines-bare [] = refl
lines-bare (out ∷ outs) = rw (out_line-bare out, lines-bare outs) refl

pub same_text : (outs others : List Out) (a b : FacilityState) → bare_outs outs ≡ bare_outs others → bare_state a ≡ bare_state b
    → text outs a.now (length a.pending) ≡ text others b.now (length b.pending)
same_text outs others a b same after =
    let lines : flat_map out_line outs ≡ flat_map out_line others = sym (lines-bare outs) ∙ ap (flat_map out_line) same ∙ lines-bare others
    in
    let now : a.now ≡ b.now = ap (λ s. s.now) after in
    let pending : length a.pending ≡ length b.pending = sym (length-map a.pending bare_entry) ∙ ap (λ s. length s.pending) after
    ∙ length-map b.pending bare_entry in
    rw (lines, now, pending) refl
