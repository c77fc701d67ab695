-- What was given to the server, and what is still to be given.
use Rattle.std.proofs.Common.{◌≡◌, ℕ, zero, suc, ◌+◌, List, [], ◌∷◌, ◌++◌, take, drop, Option, None, Some, sym, ap, ◌∙◌, append_assoc, append-nil, take-add, refl, ne_eqb, add-zero, arith, min, length, Bool, true, false, ◌||◌, ◌<◌, ◌≤◌, Ok, ◌-◌, subst}
use Rattle.std.proofs.lemmas.List.{take-append-drop, drop-drop, length-take-le}
use Rattle.std.specs.Io.KnownBytes.{prepend_known, Keeps, Consumes, IsAtEnd}
use Rattle.std.proofs.lemmas.Grind.{flat_map-append}
use Rattle.timer_script.specs.Peer.{PeerOrigin, PeerState, PeerCall, Gives, Came, Went, Flush, Told}
use Rattle.timer_script.specs.Service.{came_in, came_of, gone_in, gone_of}
use Rattle.timer_script.specs.Script.{HasNoFeed}
use Rattle.timer_durable.specs.Answers.{lines_in, counted, answered, begun_in}
use Rattle.timer_durable.specs.Durable.{state_over, came_after, came_since, told_after, last_told}
use Rattle.timer_durable.proofs.Counting.{lines_in-append}

pub came-Came : (calls : List PeerCall) (bytes : List ℕ) → came_of (calls ++ Came bytes ∷ []) ≡ came_of calls ++ bytes
came-Came calls bytes = flat_map-append came_in calls (Came bytes ∷ []) ∙ ap (λ l. came_of calls ++ l) (append-nil bytes)

pub came-Went : (calls : List PeerCall) (bytes : List ℕ) → came_of (calls ++ Went bytes ∷ []) ≡ came_of calls
came-Went calls bytes = flat_map-append came_in calls (Went bytes ∷ []) ∙ append-nil (came_of calls)

pub came-Flush : (calls : List PeerCall) → came_of (calls ++ Flush ∷ []) ≡ came_of calls
came-Flush calls = flat_map-append came_in calls (Flush ∷ []) ∙ append-nil (came_of calls)

pub gone-Came : (calls : List PeerCall) (bytes : List ℕ) → gone_of (calls ++ Came bytes ∷ []) ≡ gone_of calls
gone-Came calls bytes = flat_map-append gone_in calls (Came bytes ∷ []) ∙ append-nil (gone_of calls)

pub gone-Went : (calls : List PeerCall) (bytes : List ℕ) → gone_of (calls ++ Went bytes ∷ []) ≡ gone_of calls ++ bytes
gone-Went calls bytes = flat_map-append gone_in calls (Went bytes ∷ []) ∙ ap (λ l. gone_of calls ++ l) (append-nil bytes)

pub gone-Flush : (calls : List PeerCall) → gone_of (calls ++ Flush ∷ []) ≡ gone_of calls
gone-Flush calls = flat_map-append gone_in calls (Flush ∷ []) ∙ append-nil (gone_of calls)

pub came-Told : (calls : List PeerCall) (text : List ℕ) → came_of (calls ++ Told text ∷ []) ≡ came_of calls
came-Told calls text = flat_map-append came_in calls (Told text ∷ []) ∙ append-nil (came_of calls)

pub gone-Told : (calls : List PeerCall) (text : List ℕ) → gone_of (calls ++ Told text ∷ []) ≡ gone_of calls
gone-Told calls text = flat_map-append gone_in calls (Told text ∷ []) ∙ append-nil (gone_of calls)

-- a write took some of the rest of a text
pub went_more : (before : List ℕ) (calls calls' : List PeerCall) (text : List ℕ) (i n : ℕ) → calls' ≡ calls ++ Went (take ((i + n) - i) (drop i text)) ∷ []
    → gone_of calls ≡ before ++ take i text → gone_of calls' ≡ before ++ take (i + n) text
went_more before calls calls' text i n noted was =
    let piece : List ℕ = take ((i + n) - i) (drop i text) in
    let same : (i + n) - i ≡ n = omega arith in
    ap gone_of noted ∙ gone-Went calls piece ∙ ap (λ g. g ++ piece) was ∙ append_assoc before (take i text) piece
    ∙ ap (λ t. before ++ t) (ap (λ k. take i text ++ take k (drop i text)) same ∙ sym (take-add i n text))

-- ---- since the state was last told

after-Came : (s : List ℕ) (calls : List PeerCall) (bytes : List ℕ) → came_after s (calls ++ Came bytes ∷ []) ≡ came_after s calls ++ bytes
after-Came s [] bytes = refl
after-Came s (Came more ∷ calls) bytes = after-Came (s ++ more) calls bytes
after-Came s (Went t ∷ calls) bytes = after-Came s calls bytes
after-Came s (Flush ∷ calls) bytes = after-Came s calls bytes
after-Came s (Told t ∷ calls) bytes = after-Came [] calls bytes

after-Went : (s : List ℕ) (calls : List PeerCall) (bytes : List ℕ) → came_after s (calls ++ Went bytes ∷ []) ≡ came_after s calls
after-Went s [] bytes = refl
after-Went s (Came more ∷ calls) bytes = after-Went (s ++ more) calls bytes
after-Went s (Went t ∷ calls) bytes = after-Went s calls bytes
after-Went s (Flush ∷ calls) bytes = after-Went s calls bytes
after-Went s (Told t ∷ calls) bytes = after-Went [] calls bytes

after-Flush : (s : List ℕ) (calls : List PeerCall) → came_after s (calls ++ Flush ∷ []) ≡ came_after s calls
after-Flush s [] = refl
after-Flush s (Came more ∷ calls) = after-Flush (s ++ more) calls
after-Flush s (Went t ∷ calls) = after-Flush s calls
after-Flush s (Flush ∷ calls) = after-Flush s calls
after-Flush s (Told t ∷ calls) = after-Flush [] calls

after-Told : (s : List ℕ) (calls : List PeerCall) (text : List ℕ) → came_after s (calls ++ Told text ∷ []) ≡ []
after-Told s [] text = refl
after-Told s (Came more ∷ calls) text = after-Told (s ++ more) calls text
after-Told s (Went t ∷ calls) text = after-Told s calls text
after-Told s (Flush ∷ calls) text = after-Told s calls text
after-Told s (Told t ∷ calls) text = after-Told [] calls text

told-Told : (s : List ℕ) (calls : List PeerCall) (text : List ℕ) → told_after s (calls ++ Told text ∷ []) ≡ text
told-Told s [] text = refl
told-Told s (Came more ∷ calls) text = told-Told s calls text
told-Told s (Went t ∷ calls) text = told-Told s calls text
told-Told s (Flush ∷ calls) text = told-Told s calls text
told-Told s (Told t ∷ calls) text = told-Told t calls text

pub since-Came : (calls : List PeerCall) (bytes : List ℕ) → came_since (calls ++ Came bytes ∷ []) ≡ came_since calls ++ bytes
since-Came calls bytes = after-Came [] calls bytes

pub since-Went : (calls : List PeerCall) (bytes : List ℕ) → came_since (calls ++ Went bytes ∷ []) ≡ came_since calls
since-Went calls bytes = after-Went [] calls bytes

pub since-Flush : (calls : List PeerCall) → came_since (calls ++ Flush ∷ []) ≡ came_since calls
since-Flush calls = after-Flush [] calls

pub since-Told : (calls : List PeerCall) (text : List ℕ) → came_since (calls ++ Told text ∷ []) ≡ []
since-Told calls text = after-Told [] calls text

pub last-Told : (calls : List PeerCall) (text : List ℕ) → last_told (calls ++ Told text ∷ []) ≡ text
last-Told calls text = told-Told [] calls text

-- ---- what was given

-- the next n bytes of some lines were given
pub more_given : (lines : List ℕ) (given n : ℕ) (b : List ℕ) → b ≡ take n (drop given lines) → drop given lines ≡ b ++ drop (given + n) lines
more_given lines given n b is = sym (take-append-drop n (drop given lines)) ∙ (λ i. sym is i ++ drop-drop n given lines i)

pub given_bytes : (known : Option (List ℕ)) (lines front : List ℕ) (given n : ℕ) (b : List ℕ) → b ≡ take n (drop given lines)
    → Consumes (prepend_known (drop given lines ++ front) known) (prepend_known (drop (given + n) lines ++ front) known) b
given_bytes None lines front given n b is = tt
given_bytes (Some r) lines front given n b is =
    ap (λ l. l ++ front ++ r) (more_given lines given n b is) ∙ ap (λ l. l ++ r) (append_assoc b (drop (given + n) lines) front)
    ∙ append_assoc b (drop (given + n) lines ++ front) r

-- behind the same preamble
pub given_kept : (text before : List ℕ) (calls calls' : List PeerCall) (lines : List ℕ) (given n : ℕ) (b : List ℕ) → calls' ≡ calls ++ Came b ∷ []
    → b ≡ take n (drop given lines) → text ≡ before ++ (came_since calls ++ drop given lines) → text ≡ before ++ (came_since calls' ++ drop (given + n) lines)
given_kept text before calls calls' lines given n b noted is kept =
    kept ∙ ap (λ l. before ++ l) (ap (λ l. came_since calls ++ l) (more_given lines given n b is)
    ∙ sym (append_assoc (came_since calls) b (drop (given + n) lines))
    ∙ ap (λ l. l ++ drop (given + n) lines) (sym (ap came_since noted ∙ since-Came calls b)))

pub given_lines : (start count : ℕ) (calls calls' : List PeerCall) (lines : List ℕ) (given n : ℕ) (b : List ℕ) → calls' ≡ calls ++ Came b ∷ []
    → b ≡ take n (drop given lines) → count ≡ counted start (came_of calls ++ drop given lines) → count ≡ counted start (came_of calls' ++ drop (given + n) lines)
given_lines start count calls calls' lines given n b noted is counts =
    counts ∙ ap (counted start) (ap (λ l. came_of calls ++ l) (more_given lines given n b is)
    ∙ sym (append_assoc (came_of calls) b (drop (given + n) lines))
    ∙ ap (λ l. l ++ drop (given + n) lines) (sym (ap came_of noted ∙ came-Came calls b)))

-- nothing of lines is left, and the next n bytes of the front were given
pub told_bytes : (known : Option (List ℕ)) (due front : List ℕ) (told n : ℕ) (b : List ℕ) → due ≡ [] → b ≡ take n (drop told front)
    → Consumes (prepend_known (due ++ drop told front) known) (prepend_known (due ++ drop (told + n) front) known) b
told_bytes None due front told n b none is = tt
told_bytes (Some r) due front told n b none is = rw none (ap (λ l. l ++ r) (more_given front told n b is) ∙ append_assoc b (drop (told + n) front) r)

pub told_kept : (text before : List ℕ) (calls calls' : List PeerCall) (due front : List ℕ) (told n : ℕ) (b : List ℕ) → calls' ≡ calls ++ Came b ∷ [] → due ≡ []
    → b ≡ take n (drop told front) → text ++ take told front ≡ before ++ (came_since calls ++ due)
    → text ++ take (told + n) front ≡ before ++ (came_since calls' ++ due)
told_kept text before calls calls' due front told n b noted none is kept =
    ap (λ l. text ++ l) (take-add told n front ∙ ap (λ l. take told front ++ l) (sym is))
    ∙ sym (append_assoc text (take told front) b)
    ∙ ap (λ l. l ++ b) kept ∙ append_assoc before (came_since calls ++ due) b
    ∙ ap (λ l. before ++ l) (ap (λ d. (came_since calls ++ d) ++ b) none ∙ ap (λ l. l ++ b) (append-nil (came_since calls))
    ∙ sym (ap came_since noted ∙ since-Came calls b) ∙ sym (append-nil (came_since calls')) ∙ ap (λ d. came_since calls' ++ d) (sym none))

no_lines : (bytes : List ℕ) → HasNoFeed bytes → lines_in bytes ≡ 0
no_lines [] bare = refl
no_lines (byte ∷ bytes) bare = rw (ne_eqb byte 10 bare.0) (no_lines bytes bare.1)

-- what is told of a front without line feeds adds no line
pub told_lines : (start count : ℕ) (calls calls' : List PeerCall) (due front : List ℕ) (told n : ℕ) (b : List ℕ) → calls' ≡ calls ++ Came b ∷ [] → due ≡ []
    → HasNoFeed front → b ≡ take n (drop told front) → count ≡ counted start (came_of calls ++ due) → count ≡ counted start (came_of calls' ++ due)
told_lines start count calls calls' due front told n b noted none bare is counts =
    let all = ap lines_in (sym (take-append-drop told front)) ∙ lines_in-append (take told front) (drop told front) in
    let part = ap lines_in (more_given front told n b is) ∙ lines_in-append b (drop (told + n) front) in
    let zero_b : lines_in b ≡ 0 = omega (arith, all, part, no_lines front bare) in
    let came : lines_in (came_of calls' ++ due) ≡ lines_in (came_of calls ++ due) =
    lines_in-append (came_of calls') due ∙ ap (λ k. k + lines_in due) (ap lines_in (ap came_of noted ∙ came-Came calls b)
    ∙ lines_in-append (came_of calls) b ∙ ap (λ k. lines_in (came_of calls) + k) zero_b ∙ add-zero (lines_in (came_of calls)))
    ∙ sym (lines_in-append (came_of calls) due) in
    counts ∙ ap (λ k. min 18446744073709551615 (start + k)) (sym came)

pub unseen_Came : (unseen : List ℕ) (of : List ℕ → List ℕ) (calls calls' : List PeerCall) (b : List ℕ) → calls' ≡ calls ++ Came b ∷ []
    → unseen ≡ of (gone_of calls) → unseen ≡ of (gone_of calls')
unseen_Came unseen of calls calls' b noted so = so ∙ ap of (sym (ap gone_of noted ∙ gone-Came calls b))

pub answers_Came : (start count : ℕ) (calls calls' : List PeerCall) (b : List ℕ) → calls' ≡ calls ++ Came b ∷ []
    → count ≡ answered start (gone_of calls) → count ≡ answered start (gone_of calls')
answers_Came start count calls calls' b noted counts = counts ∙ ap (answered start) (sym (ap gone_of noted ∙ gone-Came calls b))

pub begun_Came : (begun : Option ℕ) (calls calls' : List PeerCall) (b : List ℕ) → calls' ≡ calls ++ Came b ∷ []
    → begun ≡ begun_in (gone_of calls) → begun ≡ begun_in (gone_of calls')
begun_Came begun calls calls' b noted is = is ∙ ap begun_in (sym (ap gone_of noted ∙ gone-Came calls b))

none_left : (k : ℕ) → drop {A = ℕ} k [] ≡ []
none_left zero = refl
none_left (suc k) = refl

pub nothing_given : (lines : List ℕ) (given n : ℕ) → drop given lines ≡ [] → drop (given + n) lines ≡ []
nothing_given lines given n none = sym (drop-drop n given lines) ∙ ap (drop n) none ∙ none_left n

-- ---- a call that gave nothing

pub quiet_kept : (text before : List ℕ) (calls calls' : List PeerCall) (due : List ℕ) → came_since calls' ≡ came_since calls
    → text ≡ before ++ (came_since calls ++ due) → text ≡ before ++ (came_since calls' ++ due)
quiet_kept text before calls calls' due same kept = kept ∙ ap (λ l. before ++ (l ++ due)) (sym same)

pub quiet_lines : (start count : ℕ) (calls calls' : List PeerCall) (due : List ℕ) → came_of calls' ≡ came_of calls
    → count ≡ counted start (came_of calls ++ due) → count ≡ counted start (came_of calls' ++ due)
quiet_lines start count calls calls' due same counts = counts ∙ ap (λ l. counted start (l ++ due)) (sym same)

pub ruleset quiet_calls = (since-Went, since-Flush, came-Went, came-Flush, gone-Went, gone-Flush)

-- ---- a read

keeps_consumes : (a b c : Option (List ℕ)) (bytes : List ℕ) → Keeps a b → Consumes b c bytes → Consumes a c bytes
keeps_consumes None b c bytes k more = tt
keeps_consumes (Some x) None c bytes k more = absurd k
keeps_consumes (Some x) (Some y) None bytes k more = absurd more
keeps_consumes (Some x) (Some y) (Some z) bytes k more = sym k ∙ more

or_none : (b : Bool) → b ≡ (b || false)
or_none true = refl
or_none false = refl

pub gives_read : {E : Type 0} (due due' front front' : List ℕ) (peer peer' : PeerState) (mid : Option (List ℕ)) (calls calls' : List PeerCall) (rf rf' wf wf' : Bool)
    (origin origin' : PeerOrigin) (n : ℕ) (piece : List ℕ)
    → n ≤ length piece → Keeps (prepend_known (due ++ front) peer.remaining) mid → Consumes mid (prepend_known (due' ++ front') peer'.remaining) (take n piece)
    → (n ≡ 0 → 0 < length piece → IsAtEnd (prepend_known (due' ++ front') peer'.remaining)) → calls' ≡ calls ++ Came (take n piece) ∷ [] → rf' ≡ rf → wf' ≡ wf → origin' ≡ origin
    → Gives {E = E} (state_over due front peer calls rf wf origin) (Ok n) piece (state_over due' front' peer' calls' rf' wf' origin')
gives_read {E} due due' front front' peer peer' mid calls calls' rf rf' wf wf' origin origin' n piece within keeps takes end noted reading writing same = record {
  origin = ap (λ o. Some o) same;
  within = (within, sym (length-take-le n piece within));
  bytes = (keeps_consumes _ mid _ (take n piece) keeps takes, end);
  noted = noted;
  failed = reading ∙ or_none rf;
  contents = ap (λ l. Some l) (ap gone_of noted ∙ gone-Came calls (take n piece));
  writing = writing;
}
