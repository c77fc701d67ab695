-- The lines of lists, and the timers of them that are kept.
use Rattle.std.proofs.Common.{◌≡◌, ◌<◌, ◌+◌, ℕ, suc, true, false, List, [], ◌∷◌, ◌++◌, length, codes, decimal, arith, sym, ap, subst, ◌∙◌, cond, append_assoc, append-nil, Option, None, Some, Result, OnOk}
use Rattle.std.proofs.lemmas.List.Elements.{filter-append}
use Rattle.std.proofs.lemmas.Grind.{flat_map-append}
use Rattle.std.proofs.lemmas.Result.{on_ok_weaker}
use Rattle.timer_links.specs.declared.kept.Node.{Node}
use Rattle.timer_links.specs.Lists.{list_at, node_at, first_key, AreApart, KeyedLists, Row, Rows}
use Rattle.timer_base.proofs.Basics.{some_same, some_none}
use Rattle.timer_wheels.proofs.bucket_lemmas.WalkLemmas.{IsGathering, next_row, found}
use Rattle.timer_commands.specs.declared.render.names.Naming.{Naming}
use Rattle.timer_commands.specs.declared.shows.Filter.{Filter}
use Rattle.timer_commands.specs.Shows.{is_kept}
use Rattle.timer_commands.specs.Pictures.{kept_rows, has_row, shows_rounds, rounds_text, node_text, rows_text, list_end, list_line, lines_below, visits_text}

-- ---- text after text

pub then : (a b c x y : List ℕ) → b ≡ a ++ x → c ≡ b ++ y → c ≡ a ++ (x ++ y)
then a b c x y f g = g ∙ ap (λ t. t ++ y) f ∙ append_assoc a x y

-- ---- a timer

word_number : (a b w d : List ℕ) → b ≡ a ++ w ++ d → b ≡ a ++ (w ++ d)
word_number a b w d e = e ∙ append_assoc a w d

pub two_numbers : (a b c w d x e : List ℕ) → b ≡ a ++ w ++ d → c ≡ b ++ x ++ e → c ≡ a ++ ((w ++ d) ++ (x ++ e))
two_numbers a b c w d x e f g = then a b c (w ++ d) (x ++ e) (word_number a b w d f) (word_number b c x e g)

pub node_rounds : (naming : Naming) (node : Node) (a b c : List ℕ) → shows_rounds naming ≡ true
    → b ≡ a ++ codes " " ++ decimal node.timer.serial → c ≡ b ++ codes ":" ++ decimal node.rounds → c ≡ a ++ node_text naming node
node_rounds naming node a b c k f g =
    let serial : List ℕ = codes " " ++ decimal node.timer.serial in
    two_numbers a b c (codes " ") (decimal node.timer.serial) (codes ":") (decimal node.rounds) f g
    ∙ ap (λ s. a ++ (serial ++ rounds_text s node.rounds)) (sym k)

pub node_alone : (naming : Naming) (node : Node) (a b : List ℕ) → shows_rounds naming ≡ false
    → b ≡ a ++ codes " " ++ decimal node.timer.serial → b ≡ a ++ node_text naming node
node_alone naming node a b k f =
    let serial : List ℕ = codes " " ++ decimal node.timer.serial in
    word_number a b (codes " ") (decimal node.timer.serial) f ∙ ap (λ t. a ++ t) (sym (append-nil serial))
    ∙ ap (λ s. a ++ (serial ++ rounds_text s node.rounds)) (sym k)

-- ---- what a wheel counted

pub visited : (a b c front : List ℕ) (n : ℕ) (visits : Option ℕ) → visits ≡ Some n → b ≡ a ++ front
    → c ≡ b ++ codes " visits " ++ decimal n → c ≡ a ++ (front ++ visits_text visits)
visited a b c front n visits k f g =
    then a b c front (codes " visits " ++ decimal n) f (word_number b c (codes " visits ") (decimal n) g)
    ∙ ap (λ v. a ++ (front ++ visits_text v)) (sym k)

pub unvisited : (a b front : List ℕ) (visits : Option ℕ) → visits ≡ None → b ≡ a ++ front → b ≡ a ++ (front ++ visits_text visits)
unvisited a b front visits k f = f ∙ ap (λ t. a ++ t) (sym (append-nil front)) ∙ ap (λ v. a ++ (front ++ visits_text v)) (sym k)

-- ---- one row more

kept_more : (kept : Filter) (row : Row) (past : Rows) → kept_rows kept (past ++ row ∷ [])
    ≡ kept_rows kept past ++ cond (is_kept kept row.1.timer) (row ∷ []) []
kept_more kept row past = filter-append (λ (r : Row). is_kept kept r.1.timer) past (row ∷ [])

-- the text is that of the rows so far that are kept
abbrev pub IsDrawn : Naming → Filter → List ℕ → List ℕ → Rows → Type 0
IsDrawn naming kept old new past = new ≡ old ++ rows_text naming (kept_rows kept past)

drawn_row : (naming : Naming) (kept : Filter) (row : Row) (old text new : List ℕ) (past : Rows) → is_kept kept row.1.timer ≡ true
    → new ≡ text ++ node_text naming row.1 → IsDrawn naming kept old text past → IsDrawn naming kept old new (past ++ row ∷ [])
drawn_row naming kept row old text new past k n h =
    let all : rows_text naming (kept_rows kept (past ++ row ∷ [])) ≡ rows_text naming (kept_rows kept past) ++ node_text naming row.1 =
    ap (rows_text naming) (kept_more kept row past ∙ ap (λ b. kept_rows kept past ++ cond b (row ∷ []) []) k)
    ∙ flat_map-append (λ (r : Row). node_text naming r.1) (kept_rows kept past) (row ∷ [])
    ∙ ap (λ t. rows_text naming (kept_rows kept past) ++ t) (append-nil (node_text naming row.1)) in
    then old text new (rows_text naming (kept_rows kept past)) (node_text naming row.1) h n ∙ ap (λ t. old ++ t) (sym all)

pub drawn_kept : (naming : Naming) (kept : Filter) (key : ℕ) (node same : Node) (at : Option Node) (old text new : List ℕ) (past : Rows)
    → Some same ≡ at → at ≡ Some node → is_kept kept same.timer ≡ true → new ≡ text ++ node_text naming same
    → IsDrawn naming kept old text past → IsDrawn naming kept old new (past ++ (key, node) ∷ [])
drawn_kept naming kept key node same at old text new past f e k n h =
    subst (λ z. IsDrawn naming kept old new (past ++ (key, z) ∷ [])) (some_same same node (f ∙ e))
    (drawn_row naming kept (key, same) old text new past k n h)

dropped : (kept : Filter) (row : Row) (past : Rows) → is_kept kept row.1.timer ≡ false
    → kept_rows kept (past ++ row ∷ []) ≡ kept_rows kept past
dropped kept row past k = kept_more kept row past ∙ ap (λ b. kept_rows kept past ++ cond b (row ∷ []) []) k ∙ append-nil (kept_rows kept past)

pub dropped_row : (kept : Filter) (key : ℕ) (node same : Node) (at : Option Node) (past : Rows) → Some same ≡ at → at ≡ Some node
    → is_kept kept same.timer ≡ false → kept_rows kept (past ++ (key, node) ∷ []) ≡ kept_rows kept past
dropped_row kept key node same at past f e k =
    subst (λ z. kept_rows kept (past ++ (key, z) ∷ []) ≡ kept_rows kept past) (some_same same node (f ∙ e))
    (dropped kept (key, same) past k)

pub drawn_dropped : (naming : Naming) (kept : Filter) (key : ℕ) (node same : Node) (at : Option Node) (old text : List ℕ) (past : Rows)
    → Some same ≡ at → at ≡ Some node → is_kept kept same.timer ≡ false → IsDrawn naming kept old text past
    → IsDrawn naming kept old text (past ++ (key, node) ∷ [])
drawn_dropped naming kept key node same at old text past f e k h =
    h ∙ ap (λ rows. old ++ rows_text naming rows) (sym (dropped_row kept key node same at past f e k))

-- ---- the end of a walk

-- where no key is next the rows that are behind are all
rows_end : (past left : Rows) → first_key left ≡ None → past ++ left ≡ past
rows_end past [] e = append-nil past
rows_end past (x ∷ xs) e = absurd (some_none x.0 e)

pub gathered_end : {P : Rows → Type 0} {l step : ℕ} {lists : KeyedLists} {at : Option ℕ} (g : IsGathering P l step lists at) → at ≡ None
    → P (list_at l lists)
gathered_end {P} g e = subst P (sym (g.walk.rows ∙ rows_end g.past g.walk.left (sym g.walk.next ∙ e))) g.holds

-- no row so far is kept
abbrev pub IsUnkept : Filter → Rows → Type 0
IsUnkept kept past = kept_rows kept past ≡ []

-- the next row is kept
pub kept_here : {l step : ℕ} {lists : KeyedLists} {at : Option ℕ} (kept : Filter) (g : IsGathering (IsUnkept kept) l step lists at)
    → l < length lists → AreApart lists → (key : ℕ) → at ≡ Some key → (same : Node) → Some same ≡ node_at key lists
    → is_kept kept same.timer ≡ true → has_row (kept_rows kept (list_at l lists)) ≡ true
kept_here {l} {step} {lists} {at} kept g b a key e same f k =
    let w = next_row l step lists at key g.past g.walk e in
    let is : same ≡ w.node = some_same same w.node (f ∙ found l step lists b a key g.past w) in
    let here : is_kept kept w.node.timer ≡ true = ap (λ n. is_kept kept n.timer) (sym is) ∙ k in
    let split : kept_rows kept (list_at l lists) ≡ kept_rows kept g.past ++ kept_rows kept ((key, w.node) ∷ w.rest) =
    ap (kept_rows kept) w.rows ∙ filter-append (λ (r : Row). is_kept kept r.1.timer) g.past ((key, w.node) ∷ w.rest) in
    ap has_row (split ∙ ap (λ rows. rows ++ kept_rows kept ((key, w.node) ∷ w.rest)) g.holds
    ∙ ap (λ b. cond b ((key, w.node) ∷ kept_rows kept w.rest) (kept_rows kept w.rest)) here)

-- ---- one list more

add_one : (n : ℕ) → suc n ≡ n + 1
add_one n = omega arith

pub line_more : (naming : Naming) (kept : Filter) (lists : KeyedLists) (n : ℕ) (old text new : List ℕ)
    → has_row (kept_rows kept (list_at n lists)) ≡ true → text ≡ old ++ lines_below naming kept lists n
    → new ≡ text ++ (codes " " ++ list_end naming n (kept_rows kept (list_at n lists)))
    → new ≡ old ++ lines_below naming kept lists (n + 1)
line_more naming kept lists n old text new k h e =
    let rows : Rows = kept_rows kept (list_at n lists) in
    then old text new (lines_below naming kept lists n) (list_line true naming n rows) h e
    ∙ ap (λ b. old ++ (lines_below naming kept lists n ++ list_line b naming n rows)) (sym k)
    ∙ ap (λ m. old ++ lines_below naming kept lists m) (add_one n)

pub no_line : (naming : Naming) (kept : Filter) (lists : KeyedLists) (n : ℕ) (old text : List ℕ)
    → has_row (kept_rows kept (list_at n lists)) ≡ false → text ≡ old ++ lines_below naming kept lists n
    → text ≡ old ++ lines_below naming kept lists (n + 1)
no_line naming kept lists n old text k h =
    let rows : Rows = kept_rows kept (list_at n lists) in
    h ∙ ap (λ t. old ++ t) (sym (append-nil (lines_below naming kept lists n)))
    ∙ ap (λ b. old ++ (lines_below naming kept lists n ++ list_line b naming n rows)) (sym k)
    ∙ ap (λ m. old ++ lines_below naming kept lists m) (add_one n)
