-- Text that grows by indented lines.
use Rattle.std.proofs.Common.{◌≡◌, ◌≢◌, ℕ, true, not, cond, eq-eqb, List, [], ◌∷◌, ◌++◌, decimal, codes, refl, sym, ap, subst, ◌∙◌, append_assoc, append-nil, Result, OnOk, Bool, false, Option, None, Some, inl, inr, lit≤}
use Rattle.std.specs.List.{concat}
use Rattle.std.proofs.lemmas.Result.{on_ok_weaker}
use Rattle.timer_script.proofs.FeedLemmas.{no_feed-append, is_bare, no_feed_if_bare, decimal_bare}
use Rattle.timer_script.specs.Script.{HasNoFeed}
use Rattle.timer_script.specs.Decorator.{HasGrown, Decoration, AreDecorated, EndsRead, AreReadsDecorated, AreDecoratedByReads}
use Rattle.timer_commands.specs.Indented.{AddsMarked, clock_line, HasGrownByPicture, HasGrownByIndented, HasGrownByBare, HasGrownByEnd, IsPictureIf, AddsPictures}
use Rattle.timer_commands.specs.IndentedLaws.{adds_nothing, adds_join, IsUnused, adds_line_of, adds_outs}
use Rattle.timer_script.specs.Types.{Event, Out, FacilityState}
use Rattle.timer_script.specs.Text.{lines_of}
use Rattle.timer_script.specs.Service.{last_line}
use Rattle.timer_script.proofs.TextLemmas.{end_line_is}
use Rattle.timer_commands.specs.declared.shows.Shows.{Shows}
use Rattle.timer_commands.specs.Shows.{is_covered}
use Rattle.timer_commands.specs.Wakeups.{wakeup_line, AddsWakeups}

-- a line that begins with the mark is added
pub adds_line : (mark : ℕ) (front : List ℕ) → mark ≢ 10 → HasNoFeed front → AddsMarked mark [] (mark ∷ front ++ 10 ∷ [])
adds_line mark front other free =
    let line : List ℕ = mark ∷ front ++ 10 ∷ [] in
    record {
      lines = line ∷ [];
      each = (record { front = mark ∷ front; is = refl; no_feed = (other, free) }, tt);
      text_is = sym (append-nil line);
      answer_is = ap (λ t. concat (cond (not t) (line ∷ []) [])) (sym (eq-eqb mark mark refl));
    }

-- nothing was added
pub grown_none : (text : List ℕ) → HasGrownByIndented text text
grown_none text = ([], sym (append-nil text), adds_nothing 32)

pub grown_join : (a b c : List ℕ) → HasGrownByIndented a b → HasGrownByIndented b c → HasGrownByIndented a c
grown_join a b c f g = (f.0 ++ g.0, g.1 ∙ ap (λ t. t ++ g.0) f.1 ∙ append_assoc a f.0 g.0, adds_join 32 [] [] f.0 g.0 f.2 g.2)

-- ---- bytes without a line feed

pub grown_more : (a b c : List ℕ) → HasGrownByIndented a b → HasGrown b c → HasGrown a c
grown_more a b c f g = (f.0 ++ g.0, g.1 ∙ ap (λ t. t ++ g.0) f.1 ∙ append_assoc a f.0 g.0)

pub bare_word : (a b word : List ℕ) → is_bare word ≡ true → b ≡ a ++ word → HasGrownByBare a b
bare_word a b word free e = (word, e, no_feed_if_bare word free)

pub bare_join : (a b c : List ℕ) → HasGrownByBare a b → HasGrownByBare b c → HasGrownByBare a c
bare_join a b c f g =
    (f.0 ++ g.0, g.1 ∙ ap (λ t. t ++ g.0) f.1 ∙ append_assoc a f.0 g.0, no_feed-append f.0 g.0 f.2 g.2)

-- a word and a number
pub numbered : (a b word : List ℕ) (n : ℕ) → is_bare word ≡ true → b ≡ a ++ word ++ decimal n → HasGrownByBare a b
numbered a b word n free e = (
  word ++ decimal n,
  e ∙ append_assoc a word (decimal n),
  no_feed-append word (decimal n) (no_feed_if_bare word free) (decimal_bare n),
)

pub numbered_ok : {E : Type 0} (result : Result Unit E) (a b word : List ℕ) (n : ℕ) → is_bare word ≡ true
    → OnOk result (b ≡ a ++ word ++ decimal n) → OnOk result (HasGrownByBare a b)
numbered_ok {E} result a b word n free = on_ok_weaker result (numbered a b word n free)

pub bare_ok : {E : Type 0} (result : Result Unit E) (a b c : List ℕ) → HasGrownByBare a b → OnOk result (HasGrownByBare b c)
    → OnOk result (HasGrownByBare a c)
bare_ok {E} result a b c f = on_ok_weaker result (bare_join a b c f)

-- words and numbers without a line feed
pub ruleset bare_numbers = (numbered, numbered_ok, bare_ok)

-- ---- lines

-- the front of a line that is indented
abbrev pub HasGrownByFront : List ℕ → List ℕ → Type 0
HasGrownByFront old new = HasGrownByBare (old ++ 32 ∷ []) new

pub begun : (a b word : List ℕ) (n : ℕ) → is_bare word ≡ true → b ≡ a ++ (32 ∷ word) ++ decimal n → HasGrownByFront a b
begun a b word n free e = numbered (a ++ 32 ∷ []) b word n free (e ∙ ap (λ t. t ++ decimal n) (sym (append_assoc a (32 ∷ []) word)))

pub end_join : (a b c : List ℕ) → HasGrownByBare a b → HasGrownByEnd b c → HasGrownByEnd a c
end_join a b c f g = (
  f.0 ++ g.0,
  g.1 ∙ ap (λ t. t ++ g.0 ++ 10 ∷ []) f.1 ∙ ap (λ t. t ++ 10 ∷ []) (append_assoc a f.0 g.0),
  no_feed-append f.0 g.0 f.2 g.2,
)

pub bare_ended : (a b c : List ℕ) → HasGrownByBare a b → c ≡ b ++ 10 ∷ [] → HasGrownByEnd a c
bare_ended a b c f e = (f.0, e ∙ ap (λ t. t ++ 10 ∷ []) f.1, f.2)

pub indented : (a c : List ℕ) → HasGrownByEnd (a ++ 32 ∷ []) c → HasGrownByIndented a c
indented a c f = (
  32 ∷ f.0 ++ 10 ∷ [],
  f.1 ∙ ap (λ t. t ++ 10 ∷ []) (append_assoc a (32 ∷ []) f.0) ∙ append_assoc a (32 ∷ f.0) (10 ∷ []),
  adds_line 32 f.0 (λ e. absurd cc) f.2,
)

pub line_joined : (a b c : List ℕ) → HasGrownByFront a b → HasGrownByEnd b c → HasGrownByIndented a c
line_joined a b c f g = indented a c (end_join (a ++ 32 ∷ []) b c f g)

pub line_ended : (a b c : List ℕ) → HasGrownByFront a b → c ≡ b ++ 10 ∷ [] → HasGrownByIndented a c
line_ended a b c f e = indented a c (bare_ended (a ++ 32 ∷ []) b c f e)

-- the line of the clock, and then indented lines
pub pictured : (a x b d : List ℕ) (n now : ℕ) → n ≡ now → x ≡ a ++ codes "  now " ++ decimal n → b ≡ x ++ 10 ∷ []
    → HasGrownByIndented b d → HasGrownByPicture now a d
pictured a x b d n now is number line f =
    let front : List ℕ = codes " now " ++ decimal n in
    let clock : List ℕ = clock_line n in
    let begin : b ≡ a ++ clock = line ∙ ap (λ t. t ++ 10 ∷ []) (number ∙ append_assoc a (codes "  now ") (decimal n))
    ∙ append_assoc a (32 ∷ front) (10 ∷ []) in
    let free = no_feed-append (codes " now ") (decimal n) (no_feed_if_bare (codes " now ") refl) (decimal_bare n) in
    let added = adds_join 32 [] [] clock f.0 (adds_line 32 front (λ e. absurd cc) free) f.2 in
    subst (λ k. HasGrownByPicture k a d) is
    (clock ++ f.0, f.1 ∙ ap (λ t. t ++ f.0) begin ∙ append_assoc a clock f.0, (f.0, refl, added))

-- The lines that a decorator adds are those with a mark.

-- what is added to a line is marked
record AreMarked (mark : ℕ) (A : Decoration) : Type 0 where
  pub within : (outs : List Out) (text : List ℕ) → A.Within (lines_of outs) text → AddsMarked mark (lines_of outs) text
  pub after : (serial : ℕ) (s : FacilityState) (added : List ℕ) → A.After serial s added → AddsMarked mark [] added
  pub after_read : (s : FacilityState) (added : List ℕ) → A.AfterRead s added → AddsMarked mark [] added

marked_lines : (mark : ℕ) (A : Decoration) → AreMarked mark A → (s t : FacilityState) (events : List Event) (answer text : List ℕ)
    → AreDecorated A s events t answer text → AddsMarked mark answer text
marked_lines mark A m s t [] answer text h =
    subst (λ z. AddsMarked mark z text) (sym h.1) (subst (AddsMarked mark []) (sym h.2) (adds_nothing mark))
marked_lines mark A m s t (event ∷ events) answer text h =
    let line = h.5 in
    let own = m.within line.answered.outs line.line line.answered.within in
    let one = adds_join mark (lines_of line.answered.outs) [] line.line line.added own (m.after s.next_serial h.0 line.added line.comes_after) in
    let here : AddsMarked mark h.1 h.2 = subst (λ z. AddsMarked mark z h.2) (append-nil _ ∙ sym line.answer_is)
    (subst (AddsMarked mark (lines_of line.answered.outs ++ [])) (sym line.text_is) one) in
    subst (λ z. AddsMarked mark z text) (sym h.7) (subst (AddsMarked mark (h.1 ++ h.3)) (sym h.8)
    (adds_join mark h.1 h.3 h.2 h.4 here (marked_lines mark A m h.0 t events h.3 h.4 h.6)))

marked_end : (mark : ℕ) (A : Decoration) → AreMarked mark A → (s : FacilityState) (events : List Event) (added : List ℕ)
    → EndsRead A events s added → AddsMarked mark [] added
marked_end mark A m s [] added ends = subst (AddsMarked mark []) (sym ends) (adds_nothing mark)
marked_end mark A m s (event ∷ events) added ends = m.after_read s added ends

marked_reads : (mark : ℕ) (A : Decoration) → AreMarked mark A → (s t : FacilityState) (reads : List (List Event)) (answer text : List ℕ)
    → AreReadsDecorated A s reads t answer text → AddsMarked mark answer text
marked_reads mark A m s t [] answer text h =
    subst (λ z. AddsMarked mark z text) (sym h.1) (subst (AddsMarked mark []) (sym h.2) (adds_nothing mark))
marked_reads mark A m s t (events ∷ reads) answer text h =
    let read = h.5 in
    let lines = marked_lines mark A m s h.0 events h.1 read.lines read.decorated in
    let one = adds_join mark h.1 [] read.lines read.added lines (marked_end mark A m h.0 events read.added read.ends) in
    let here : AddsMarked mark h.1 h.2 = subst (λ z. AddsMarked mark z h.2) (append-nil h.1)
    (subst (AddsMarked mark (h.1 ++ [])) (sym read.text_is) one) in
    subst (λ z. AddsMarked mark z text) (sym h.7) (subst (AddsMarked mark (h.1 ++ h.3)) (sym h.8)
    (adds_join mark h.1 h.3 h.2 h.4 here (marked_reads mark A m h.0 t reads h.3 h.4 h.6)))

-- and the end line is not
whole_text : (mark : ℕ) (A : Decoration) → IsUnused mark → AreMarked mark A → (s t : FacilityState) (events : List Event)
    (answer text : List ℕ) → AreDecoratedByReads A s events t answer text → AddsMarked mark (answer ++ last_line t) (text ++ last_line t)
whole_text mark A u m s t events answer text h = adds_join mark answer (last_line t) text (last_line t)
    (marked_reads mark A m s t h.reads answer text h.decorated) (adds_line_of mark u (last_line t) (end_line_is t.now _))

-- ---- the line of a wake-up

wakeup_is_marked : (quiet : Option ℕ) → AddsMarked 119 [] (wakeup_line quiet)
wakeup_is_marked None = adds_line 119 (codes "akeup never") (λ e. absurd cc) (no_feed_if_bare (codes "akeup never") refl)
wakeup_is_marked (Some tick) = adds_line 119 (codes "akeup " ++ decimal tick) (λ e. absurd cc)
    (no_feed-append (codes "akeup ") (decimal tick) (no_feed_if_bare (codes "akeup ") refl) (decimal_bare tick))

unused_w : IsUnused 119
unused_w = inr (lit≤ tt)

pub wakeups_marked : (s t : FacilityState) (events : List Event) (answer text : List ℕ) → AreDecoratedByReads AddsWakeups s events t answer text
    → AddsMarked 119 (answer ++ last_line t) (text ++ last_line t)
wakeups_marked = whole_text 119 AddsWakeups unused_w (record {
  within = λ outs text is. subst (AddsMarked 119 (lines_of outs)) (sym is) (adds_outs 119 unused_w outs);
  after = λ serial s added none. subst (AddsMarked 119 []) (sym none) (adds_nothing 119);
  after_read = λ s added h. subst (AddsMarked 119 []) (sym h.2) (wakeup_is_marked h.0);
})

picture_is_marked : (covered : Bool) (now : ℕ) (added : List ℕ) → IsPictureIf covered now added → AddsMarked 32 [] added
picture_is_marked true now added h = h.2
picture_is_marked false now added h = subst (AddsMarked 32 []) (sym h) (adds_nothing 32)

pub pictures_marked : (shows : Shows) (s t : FacilityState) (events : List Event) (answer text : List ℕ)
    → AreDecoratedByReads (AddsPictures shows) s events t answer text → AddsMarked 32 (answer ++ last_line t) (text ++ last_line t)
pictures_marked shows = whole_text 32 (AddsPictures shows) (inl (lit≤ tt)) (record {
  within = λ outs text h. h;
  after = λ serial s added h. picture_is_marked (is_covered shows s.now) s.now added h;
  after_read = λ s added none. subst (AddsMarked 32 []) (sym none) (adds_nothing 32);
})
