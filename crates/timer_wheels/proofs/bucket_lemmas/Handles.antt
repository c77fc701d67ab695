-- What a handle names: a timer that is held, pending or due, or nothing. And the state once it is removed.
use Rattle.std.proofs.Common.{◌≡◌, ◌≢◌, ◌<◌, ℕ, ◌==◌, Bool, false, List, [], ◌∷◌, refl, sym, ◌∙◌, ap, subst, inl, inr, arith, map, filter, not, if◌then◌else◌, Option, Some, None, IsSome}
use Rattle.std.specs.List.{AllByRecursion}
use Rattle.std.proofs.lemmas.Bool.{cases_eq, eq-eqb, eqb-true, ne_eqb}
use Rattle.timer_base.proofs.HeldLaws.{found_or_none, other_serial}
use Rattle.timer_base.proofs.Basics.{some_same, none_some, some_none, either}
use Rattle.timer_base.specs.Order.{in_order, AreDistinct, IsNotAmong}
use Rattle.timer_base.proofs.OrderLaws.{filter-in_order, AreDistinct-rising}
use Rattle.timer_base.specs.Pending.{timer_of, has_handle, first_timer, first_found, without_handle}
use Rattle.timer_base.specs.WheelState.{IsPending, IsDue, NamesOne, timer_at, due_at, held_at, after_removal}
use Rattle.timer_links.specs.Lists.{node_in, node_at, first_of, without_key, AreApart}
use Rattle.timer_wheels.specs.Types.{Handle, Timer, Entry, WheelState, Node, list_at, KeyedLists, Row, Rows}
use Rattle.timer_wheels.specs.BucketLists.{row_timer, row_timers, entry_of, entries_of, rows_below, pending_in, wheel_state, AreBuckets}
use Rattle.timer_wheels.proofs.bucket_lemmas.RowLemmas.{rows_below-without_key, list_at-without_key}
use Rattle.timer_wheels.proofs.bucket_lemmas.Calls.{HasNode, node_at-parts, apart_list, apart_rows}

-- A node under a key.

node_in-here : (key : ℕ) (x : Row) (xs : Rows) → x.0 ≡ key → node_in key (x ∷ xs) ≡ Some x.1
node_in-here key x xs k = rw (eq-eqb x.0 key k) refl

node_in-there : (key : ℕ) (x : Row) (xs : Rows) → x.0 ≢ key → node_in key (x ∷ xs) ≡ node_in key xs
node_in-there key x xs k = rw (ne_eqb x.0 key k) refl

-- what holds of each row holds of the one under the key
in_all : (P : Row → Type 0) (key : ℕ) (node : Node) (rows : Rows) → AllByRecursion P rows
    → node_in key rows ≡ Some node → P (key, node)
in_all P key node [] a e = absurd (some_none node (sym e))
in_all P key node (x ∷ xs) a e = elim (cases_eq x.0 key) [
  | inl k ↦
      let q : x.1 ≡ node = some_same x.1 node (sym (node_in-here key x xs k) ∙ e) in
      let p : P (x.0, x.1) = a.0 in
      subst (λ (i : ℕ). P (i, node)) k (subst (λ (m : Node). P (x.0, m)) q p)
  | inr k ↦ in_all P key node xs a.1 (sym (node_in-there key x xs k) ∙ e)
]

-- The timer of a handle among some rows.

-- the timer of the node, if it has the serial of the handle
abbrev pub timer_named : Handle → Option Node → Option Timer
timer_named handle None = None
timer_named handle (Some node) = if node.timer.serial == handle.serial then Some node.timer else None

abbrev entries_named : Handle → Option Node → List Entry
entries_named handle None = []
entries_named handle (Some node) =
    if node.timer.serial == handle.serial then (record { place = handle.place; timer = node.timer }) ∷ [] else []

other_place : (handle : Handle) (e : Entry) → e.place ≢ handle.place → has_handle handle e ≡ false
other_place handle e n = rw (ne_eqb e.place handle.place n) refl

none_with : (handle : Handle) (rows : Rows) → IsNotAmong handle.serial (row_timers rows)
    → filter (has_handle handle) (entries_of rows) ≡ []
none_with handle [] n = refl
none_with handle (x ∷ xs) n = rw (other_serial handle (entry_of x) n.0) (none_with handle xs n.1)

none_other : (handle : Handle) (node : Node) (rows : Rows) → node.timer.serial ≢ handle.serial
    → AllByRecursion (HasNode handle.place (Some node)) rows → filter (has_handle handle) (entries_of rows) ≡ []
none_other handle node [] n a = refl
none_other handle node (x ∷ xs) n a =
    let no : has_handle handle (entry_of x) ≡ false = elim (cases_eq x.0 handle.place) [
      | inl k ↦ other_serial handle (entry_of x) (λ (s : x.1.timer.serial ≡ handle.serial). n (ap (λ (y : Node). y.timer.serial)
          (sym (some_same x.1 node (a.0 k))) ∙ s))
      | inr k ↦ other_place handle (entry_of x) k
    ] in
    rw no (none_other handle node xs n a.1)

named_in : (handle : Handle) (found : Option Node) (rows : Rows) → AllByRecursion (HasNode handle.place found) rows
    → AreDistinct (row_timers rows) → filter (has_handle handle) (entries_of rows) ≡ entries_named handle (node_in handle.place rows)
named_in handle found [] a d = refl
named_in handle found (x ∷ xs) a d = elim (cases_eq x.0 handle.place) [
  | inl k ↦ elim (cases_eq x.1.timer.serial handle.serial) [
    | inl s ↦ rw (
      eq-eqb x.0 handle.place k,
      eq-eqb x.1.timer.serial handle.serial s,
      none_with handle xs (subst (λ (y : ℕ). IsNotAmong y (row_timers xs)) s d.0),
    ) (ap (λ (p : ℕ). let e : Entry = record { place = p; timer = x.1.timer } in e ∷ []) k)
    | inr s ↦ rw (eq-eqb x.0 handle.place k, ne_eqb x.1.timer.serial handle.serial s)
        (none_other handle x.1 xs s (subst (λ (o : Option Node). AllByRecursion (HasNode handle.place o) xs) (sym (a.0 k)) a.1))
  ]
  | inr k ↦ rw (ne_eqb x.0 handle.place k) (named_in handle found xs a.1 d.1)
]

-- the timer of the first entry
abbrev first_of_entries : List Entry → Option Timer
first_of_entries [] = None
first_of_entries (e ∷ es) = Some e.timer

first_timer-filter : (p : Entry → Bool) (es : List Entry) → first_timer p es ≡ first_of_entries (filter p es)
first_timer-filter p [] = refl
first_timer-filter p (e ∷ es) = elim (either (p e)) [
  | inl k ↦ rw k refl
  | inr k ↦ rw k (first_timer-filter p es)
]

one_in_order : (handle : Handle) (o : Option Node) → first_of_entries (in_order timer_of (entries_named handle o)) ≡ timer_named handle o
one_in_order handle None = refl
one_in_order handle (Some node) = elim (either (node.timer.serial == handle.serial)) [ inl k ↦ rw k refl | inr k ↦ rw k refl ]

one_first : (handle : Handle) (o : Option Node) → first_of_entries (entries_named handle o) ≡ timer_named handle o
one_first handle None = refl
one_first handle (Some node) = elim (either (node.timer.serial == handle.serial)) [ inl k ↦ rw k refl | inr k ↦ rw k refl ]

-- the node that is found has the handle's timer
pub record IsNamed (handle : Handle) (t : Timer) (found : Option Node) : Type 0 where
  pub node : Node
  pub at : found ≡ Some node
  pub timer : node.timer ≡ t
  pub serial : node.timer.serial ≡ handle.serial

named_node : (handle : Handle) (t : Timer) (found : Option Node) → timer_named handle found ≡ Some t → IsNamed handle t found
named_node handle t None e = absurd (none_some t e)
named_node handle t (Some node) e = elim (either (node.timer.serial == handle.serial)) [
  | inl s ↦
      let f : Some node.timer ≡ Some t = rw s at e in
      record { node = node; at = refl; timer = some_same node.timer t f; serial = eqb-true node.timer.serial handle.serial s }
  | inr s ↦ absurd (none_some t (rw s at e))
]

pending_named : (handle : Handle) (found : Option Node) (rows : Rows) → AllByRecursion (HasNode handle.place found) rows
    → AreDistinct (row_timers rows) → first_timer (has_handle handle) (pending_in rows) ≡ timer_named handle (node_in handle.place rows)
pending_named handle found rows a d =
    first_timer-filter (has_handle handle) (pending_in rows)
    ∙ (ap first_of_entries (filter-in_order timer_of (has_handle handle) (entries_of rows)
    ∙ ap (in_order timer_of) (named_in handle found rows a d)) ∙ one_in_order handle (node_in handle.place rows))

due_named : (handle : Handle) (found : Option Node) (rows : Rows) → AllByRecursion (HasNode handle.place found) rows
    → AreDistinct (row_timers rows) → first_timer (has_handle handle) (entries_of rows) ≡ timer_named handle (node_in handle.place rows)
due_named handle found rows a d =
    first_timer-filter (has_handle handle) (entries_of rows)
    ∙ (ap first_of_entries (named_in handle found rows a d) ∙ one_first handle (node_in handle.place rows))

-- A place has one node, which is pending or due.

-- the timers that are named on the two sides, and by the node wherever it is
record AreSides (handle : Handle) (pending due found : Option Node) : Type 0 where
  held : first_found (timer_named handle pending) (timer_named handle due) ≡ timer_named handle found
  one : (t : Timer) → timer_named handle pending ≡ Some t → timer_named handle due ≡ None

sides : (handle : Handle) (now : ℕ) (p d found : Option Node) → found ≡ first_of p d
    → ((m : Node) → p ≡ Some m → now < m.timer.deadline)
    → ((m : Node) → d ≡ Some m → (m.timer.deadline ≡ now) × (Some m ≡ found)) → AreSides handle p d found
sides handle now None d found e a b =
    record { held = sym (ap (timer_named handle) e); one = λ t f. absurd (none_some t f) }
sides handle now (Some m) None found e a b = record {
  held = found_or_none (timer_named handle (Some m)) ∙ sym (ap (timer_named handle) e);
  one = λ t f. refl;
}
sides handle now (Some m) (Some k) found e a b =
    let q : k.timer.deadline ≡ m.timer.deadline = ap (λ (y : Node). y.timer.deadline) (some_same k m ((b k refl).1 ∙ e)) in
    let past : k.timer.deadline ≡ now = (b k refl).0 in
    let later : now < m.timer.deadline = a m refl in
    absurd (omega arith)

-- a key's rows are those of the handle
same_rows : (handle : Handle) (node : Node) (rows : Rows) → AllByRecursion (HasNode handle.place (Some node)) rows
    → node.timer.serial ≡ handle.serial → entries_of (without_key handle.place rows) ≡ without_handle handle (entries_of rows)
same_rows handle node [] a s = refl
same_rows handle node (x ∷ xs) a s = elim (cases_eq x.0 handle.place) [
  | inl k ↦
      let q : x.1.timer.serial ≡ handle.serial = ap (λ (y : Node). y.timer.serial) (some_same x.1 node (a.0 k)) ∙ s in
      rw (eq-eqb x.0 handle.place k, eq-eqb x.1.timer.serial handle.serial q) (same_rows handle node xs a.1 s)
  | inr k ↦ rw (ne_eqb x.0 handle.place k) (ap (λ (r : List Entry). entry_of x ∷ r) (same_rows handle node xs a.1 s))
]

module _ {n last_tick now last : ℕ} {lists : KeyedLists} (b : AreBuckets n last_tick now last lists) (apart : AreApart lists)
    (handle : Handle) where
  abbrev w : WheelState
  w = wheel_state n last_tick now last lists

  abbrev rows : Rows
  rows = rows_below n lists

  abbrev past : Rows
  past = list_at n lists

  abbrev found : Option Node
  found = node_at handle.place lists

  rows_have : AllByRecursion (HasNode handle.place found) rows
  rows_have = apart_rows n handle.place lists (omega (arith, b.has_lists)) apart

  past_have : AllByRecursion (HasNode handle.place found) past
  past_have = apart_list n handle.place lists (omega (arith, b.has_lists)) apart

  past_distinct : AreDistinct (row_timers past)
  past_distinct = AreDistinct-rising 0 (row_timers past) b.due_in_order

  both : AreSides handle (node_in handle.place rows) (node_in handle.place past) found
  both = sides handle now (node_in handle.place rows) (node_in handle.place past) found (node_at-parts n handle.place lists b.has_lists)
      (λ m e. (in_all (λ row. IsPending last_tick now last (row_timer row)) handle.place m rows b.pending e).later)
      (λ m e. (
        (in_all (λ row. IsDue now last (row_timer row)) handle.place m past b.due e).deadline,
        in_all (HasNode handle.place found) handle.place m past past_have e refl,
      ))

  look_pending : timer_at handle w ≡ timer_named handle (node_in handle.place rows)
  look_pending = pending_named handle found rows rows_have b.distinct

  look_due : due_at handle w ≡ timer_named handle (node_in handle.place past)
  look_due = due_named handle found past past_have past_distinct

  -- a look: the node under the place, if it has the serial
  pub held_is : (o : Option Node) → o ≡ found → timer_named handle o ≡ held_at handle w
  held_is o e =
      ap (timer_named handle) e
      ∙ sym (ap (λ (x : Option Timer). first_found x (due_at handle w)) look_pending
      ∙ (ap (first_found (timer_named handle (node_in handle.place rows))) look_due ∙ both.held))

  pub names_one : NamesOne handle w
  names_one t e = look_due ∙ both.one t (sym look_pending ∙ e)

  -- a timer is found
  module _ (t : Timer) (e : held_at handle w ≡ Some t) where
    pub held_node : IsNamed handle t found
    held_node = named_node handle t found (held_is found refl ∙ e)

    pub held_used : IsSome found
    held_used = rw held_node.at refl

    pub removed_state : wheel_state n last_tick now last (map (without_key handle.place) lists) ≡ after_removal handle w
    removed_state =
        let h = held_node in
        let P : Rows → Option Node → Type 0 = λ r o. AllByRecursion (HasNode handle.place o) r in
        let a : pending_in (rows_below n (map (without_key handle.place) lists)) ≡ without_handle handle w.pending =
        ap pending_in (rows_below-without_key n handle.place lists)
        ∙ (ap (in_order timer_of) (same_rows handle h.node rows (subst (P rows) h.at rows_have) h.serial)
        ∙ sym (filter-in_order timer_of (λ (entry : Entry). not (has_handle handle entry)) (entries_of rows))) in
        let d : entries_of (list_at n (map (without_key handle.place) lists)) ≡ without_handle handle w.due =
        ap entries_of (list_at-without_key n handle.place lists)
        ∙ same_rows handle h.node past (subst (P past) h.at past_have) h.serial in
        rw (a, d) refl

-- a timer that is there
pub the_timer : (o : Option Timer) → IsSome o → (t : Timer) × (o ≡ Some t)
the_timer None i = absurd (cc)
the_timer (Some t) i = (t, refl)
