-- A group more in the journal.
use Rattle.std.proofs.Common.{◌≡◌, ◌≤◌, Option, None, Some, ℕ, Bool, true, false, List, [], ◌∷◌, ◌++◌, take, refl, sym, ap, subst, ◌∙◌, append_assoc, append-nil}
use Rattle.std.specs.List.{concat}
use Rattle.timer_script.specs.Peer.{PeerCall, Came, Told}
use Rattle.timer_script.specs.Service.{came_of}
use Rattle.timer_durable.specs.Answers.{counted, answers_of, answered}
use Rattle.timer_durable.specs.Types.{LAST, Beginning}
use Rattle.timer_durable.specs.Durable.{came_since, last_told, totals_of, IsWanted, IsCounting}
use Rattle.timer_durable.proofs.Counting.{counted_more, counted_all}
use Rattle.timer_durable.proofs.Giving.{came-Came, since-Came, since-Told, last-Told}

pub was_alive : (b : Bool) → (b ≡ true → ⊥) → b ≡ false
was_alive true not = absurd (not refl)
was_alive false not = refl

pub concat-push : (groups : List (List ℕ)) (lines : List ℕ) → concat (groups ++ lines ∷ []) ≡ concat groups ++ lines
concat-push [] lines = append-nil lines
concat-push (group ∷ groups) lines = ap (λ l. group ++ l) (concat-push groups lines) ∙ sym (append_assoc group (concat groups) lines)

pub kept_more : (before since due front front' : List ℕ) (told : ℕ) (groups groups' : List (List ℕ)) (lines : List ℕ) → due ≡ [] → told ≡ 0
    → groups' ≡ groups ++ lines ∷ [] → concat groups ++ take told front ≡ before ++ (since ++ due) → concat groups' ++ take told front' ≡ before ++ (since ++ lines)
kept_more before since due front front' told groups groups' lines none untold more kept =
    ap (λ n. concat groups' ++ take n front') untold ∙ append-nil (concat groups') ∙ ap concat more ∙ concat-push groups lines
    ∙ ap (λ l. l ++ lines) (sym (append-nil (concat groups)) ∙ ap (λ n. concat groups ++ take n front) (sym untold) ∙ kept
    ∙ ap (λ d. before ++ (since ++ d)) none ∙ ap (λ l. before ++ l) (append-nil since))
    ∙ append_assoc before since lines

pub lines_more : (start count count' : ℕ) (came due lines : List ℕ) → due ≡ [] → count ≡ counted start (came ++ due) → count' ≡ counted count lines
    → count' ≡ counted start (came ++ lines)
lines_more start count count' came due lines none was is =
    is ∙ ap (λ k. counted k lines) (was ∙ ap (λ d. counted start (came ++ d)) none ∙ ap (counted start) (append-nil came)) ∙ counted_more start came lines

pub none_came : (text before : List ℕ) (calls calls' : List PeerCall) (due : List ℕ) → calls' ≡ calls ++ Came [] ∷ [] → text ≡ before ++ (came_since calls ++ due)
    → text ≡ before ++ (came_since calls' ++ due)
none_came text before calls calls' due noted kept =
    kept ∙ ap (λ l. before ++ (l ++ due)) (sym (ap came_since noted ∙ since-Came calls [] ∙ append-nil (came_since calls)))

pub no_line_came : (start count : ℕ) (calls calls' : List PeerCall) (due : List ℕ) → calls' ≡ calls ++ Came [] ∷ [] → count ≡ counted start (came_of calls ++ due)
    → count ≡ counted start (came_of calls' ++ due)
no_line_came start count calls calls' due noted was =
    was ∙ ap (λ l. counted start (l ++ due)) (sym (ap came_of noted ∙ came-Came calls [] ∙ append-nil (came_of calls)))

-- ---- the journal begins anew

pub kept_anew : (first state front : List ℕ) (told : ℕ) (due : List ℕ) (of : List ℕ → List ℕ) (states states' calls calls' : List PeerCall)
    (groups' : List (List ℕ)) → told ≡ 0 → due ≡ [] → groups' ≡ first ∷ [] → first ≡ of state → states' ≡ states ++ Told state ∷ []
    → calls' ≡ calls ++ Told state ∷ [] → concat groups' ++ take told front ≡ of (last_told states') ++ (came_since calls' ++ due)
kept_anew first state front told due of states states' calls calls' groups' untold none anew is state_told told_calls =
    ap (λ n. concat groups' ++ take n front) untold ∙ append-nil (concat groups') ∙ ap concat anew ∙ append-nil first ∙ is
    ∙ ap of (sym (ap last_told state_told ∙ last-Told states state))
    ∙ sym (append-nil (of (last_told states')))
    ∙ ap (λ l. of (last_told states') ++ l) (sym ((λ i. (ap came_since told_calls ∙ since-Told calls state) i ++ none i)))

pub wanted_facts : (every : Option ℕ) (is_live has_ended is_dead : Bool) (due : List ℕ) (since : ℕ) → IsWanted every is_live has_ended is_dead due since
    → (is_live ≡ true) × (has_ended ≡ false) × (is_dead ≡ false) × (due ≡ [])
wanted_facts None is_live has_ended is_dead due since wanted = absurd wanted
wanted_facts (Some every) is_live has_ended is_dead due since wanted = (wanted.1, wanted.2, wanted.3, wanted.4)

-- counts are kept before the lines that were kept are played, whenever a state is wanted, and later if there are snapshots
pub counting_early : (is_live : Bool) (every : Option ℕ) → is_live ≡ false → IsCounting is_live every
counting_early false every early = tt
counting_early true every early = absurd cc

pub counting_wanted : (every : Option ℕ) (is_live has_ended is_dead : Bool) (due : List ℕ) (since : ℕ) → IsWanted every is_live has_ended is_dead due since
    → IsCounting is_live every
counting_wanted None is_live has_ended is_dead due since wanted = absurd wanted
counting_wanted (Some every) false has_ended is_dead due since wanted = tt
counting_wanted (Some every) true has_ended is_dead due since wanted = tt

pub counting_live : (is_live : Bool) (every : Option ℕ) → is_live ≡ true → IsCounting is_live every → IsCounting true every
counting_live is_live every live counting = subst (λ l. IsCounting l every) live counting

pub totals_are : (start so_far : Beginning) (came gone due : List ℕ) → so_far.lines ≡ counted start.lines (came ++ due) → so_far.answers ≡ answered start.answers gone
    → due ≡ [] → so_far.lines ≤ LAST → so_far.answers ≤ LAST → so_far ≡ totals_of start came gone
totals_are start so_far came gone due lines_are answers_are none small few =
    let lines = counted_all start.lines so_far.lines came (lines_are ∙ ap (counted start.lines) (ap (λ d. came ++ d) none ∙ append-nil came)) small in
    let answers = counted_all start.answers so_far.answers (answers_of gone) answers_are few in
    λ i. record { lines = lines i; answers = answers i }
