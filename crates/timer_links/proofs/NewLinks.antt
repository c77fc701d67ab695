-- Lemmas for `new`: the representation of empty lists.
use Rattle.std.proofs.Common.{◌≡◌, ◌<◌, ◌≤◌, ◌+◌, ℕ, zero, suc, List, [], ◌∷◌, ◌++◌, length, refl, sym, ◌∙◌, ap, subst, inl, inr, arith, length-append, replicate, None}
use Rattle.std.proofs.lemmas.Bool.{cases_eq}
use Rattle.std.proofs.lemmas.List.{get_or_append_left, get_or_push, length-replicate}
use Rattle.slab.specs.Slab.{Slab, get}
use Rattle.timer_links.specs.Types.{Node, Neighbours}
use Rattle.timer_links.specs.Lists.{list_at, row_count, KeyedLists}
use Rattle.timer_links.specs.Ring.{neighbours_at}
use Rattle.timer_links.specs.Links.{IsLinked}
use Rattle.timer_links.proofs.Rows.{none_is, node_at-none}

-- these are the roots of that many empty lists
pub record AreRoots (n : ℕ) (neighbours : List Neighbours) : Type 0 where
  pub many : length neighbours ≡ n
  pub each : (l : ℕ) → l < n → neighbours_at neighbours l ≡ record { before = l; after = l }

pub no_roots : (neighbours : List Neighbours) → neighbours ≡ [] → AreRoots 0 neighbours
no_roots neighbours e = record { many = rw e refl; each = λ l b. absurd (omega arith) }

pub one_more : (n : ℕ) (neighbours more : List Neighbours) → AreRoots n neighbours
    → more ≡ neighbours ++ record { before = n; after = n } ∷ [] → AreRoots (n + 1) more
one_more n neighbours more h e =
    let root : Neighbours = record { before = n; after = n } in
    let none : Neighbours = record { before = 0; after = 0 } in
    let m : length neighbours ≡ n = h.many in
    let P : List Neighbours → Type 0 = λ x. AreRoots (n + 1) x in
    subst P (sym e) (record {
      many = omega (arith, length-append neighbours (root ∷ []));
      each = λ l b. elim (cases_eq l n) [
        | inl q ↦ rw q (get_or_push neighbours root none n h.many)
        | inr o ↦ get_or_append_left neighbours (root ∷ []) none l (omega arith) ∙ h.each l (omega arith)
      ];
    })

abbrev pub no_rows : ℕ → KeyedLists
no_rows n = replicate n []

pub no_rows_at : (n l : ℕ) → list_at l (no_rows n) ≡ []
no_rows_at zero l = refl
no_rows_at (suc n) zero = refl
no_rows_at (suc n) (suc l) = no_rows_at n l

none_counted : (n : ℕ) → row_count (no_rows n) ≡ 0
none_counted zero = refl
none_counted (suc n) = omega (arith, none_counted n)

pub empty_linked : (n m : ℕ) (nodes : Slab Node) (neighbours : List Neighbours) → nodes.slots ≡ [] → AreRoots m neighbours
    → m ≤ n → n ≤ m → n ≤ 65537 → IsLinked n nodes neighbours (no_rows n)
empty_linked n m nodes neighbours e h a b few =
    let same : m ≡ n = omega arith in
    let len : length neighbours ≡ m = h.many in
    let none : (k : ℕ) → get nodes k ≡ None = λ k. rw e refl in
    record {
      many = length-replicate n [];
      few = few;
      rings = λ l d.
          let inside : l < m = omega arith in
          rw (no_rows_at n l) (record {
            forth = ap (λ (x : Neighbours). x.after) (h.each l inside);
            back_to = ap (λ (x : Neighbours). x.before) (h.each l inside);
          });
      held = λ k. none k ∙ sym (node_at-none k (no_rows n) (λ l d. rw (no_rows_at n l) tt));
      total = rw (e, none_counted n) refl;
      roots = omega arith;
      reached = λ k i. absurd (none_is (rw (none k) at i));
      numbered = let z : length neighbours ≤ 65537 = omega arith in omega arith;
    }
