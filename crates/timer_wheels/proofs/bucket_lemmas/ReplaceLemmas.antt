-- Lemmas for `replace_node`: the lists once another node is under the key of one.
use Rattle.std.proofs.Common.{◌≡◌, ◌<◌, ◌+◌, ℕ, [], ◌∷◌, ◌++◌, length, sym, ◌∙◌, ap, arith, length-set, length-append, get_or-set_same, get_or-set_other, Option, Some, map, slice_set}
use Rattle.timer_links.proofs.LinksCalls.{Held}
use Rattle.timer_links.proofs.Rows.{StandsIn, stands_in}
use Rattle.timer_links.specs.declared.kept.Node.{Node}
use Rattle.timer_links.specs.Lists.{list_at, node_at, with_row, without_key, AreApart, IsAloneIn, SetsNode, MovesBack, KeyedLists, Rows}
use Rattle.timer_wheels.proofs.bucket_lemmas.RowLemmas.{set_twice}

-- Another node under the key, at the back of a list.

module _ (key list : ℕ) (node : Node) (old mid : KeyedLists) (u : Held (node_at key old)) (apart : AreApart old)
    (set : SetsNode key node old mid) (apart2 : AreApart mid) where
  was : StandsIn key u.node old
  was = stands_in key u.node old u.is

  mid_is : mid ≡ slice_set old was.l (was.front ++ (key, node) ∷ was.rest)
  mid_is = set was.l was.front u.node was.rest was.in_range was.at

  mid_length : length mid ≡ length old
  mid_length = ap (λ (y : KeyedLists). length y) mid_is ∙ length-set old was.l (was.front ++ (key, node) ∷ was.rest)

  mid_at : list_at was.l mid ≡ was.front ++ (key, node) ∷ was.rest
  mid_at = ap (list_at was.l) mid_is ∙ get_or-set_same old was.l (was.front ++ (key, node) ∷ was.rest) [] was.in_range

  mid_apart : (node_at key mid ≡ Some node) × (map (without_key key) mid ≡ slice_set mid was.l (was.front ++ was.rest))
  mid_apart = apart2 was.l was.front (key, node) was.rest (let h : was.l < length old = was.in_range
      in let e : length mid ≡ length old = mid_length in omega arith) mid_at

  pub now_under : node_at key mid ≡ Some node
  now_under = mid_apart.0

  -- no row comes to a list, and none leaves one
  pub still_empty : list_at list old ≡ [] → list_at list mid ≡ []
  still_empty e =
      ap (list_at list) mid_is
      ∙ (get_or-set_other old was.l list (was.front ++ (key, node) ∷ was.rest) [] (λ (q : list ≡ was.l).
      let n : length (was.front ++ (key, u.node) ∷ was.rest) ≡ 0 = ap (λ (r : Rows). length r) (sym was.at ∙ (ap (λ (l : ℕ). list_at l old) (sym q) ∙ e)) in
      let a : length (was.front ++ (key, u.node) ∷ was.rest) ≡ length was.front + length ((key, u.node) ∷ was.rest)
      = length-append was.front ((key, u.node) ∷ was.rest) in
      omega arith)
      ∙ e)

  pub mid_in_range : list < length old → list < length mid
  mid_in_range h = let e : length mid ≡ length old = mid_length in omega arith

  same_others : map (without_key key) mid ≡ map (without_key key) old
  same_others =
      mid_apart.1
      ∙ (ap (λ (y : KeyedLists). slice_set y was.l (was.front ++ was.rest)) mid_is
      ∙ (set_twice old was.l (was.front ++ (key, node) ∷ was.rest) (was.front ++ was.rest)
      ∙ sym (apart was.l was.front (key, u.node) was.rest was.in_range was.at).1))

  pub replaced : (new : KeyedLists) → MovesBack key list mid new → new ≡ with_row list (key, node) (map (without_key key) old)
  replaced new m = m node now_under ∙ ap (with_row list (key, node)) same_others

-- the list in which it is alone is that in which the old one was
pub alone_before : (key : ℕ) (node : Node) (old mid : KeyedLists) (emptied : Option ℕ) → SetsNode key node old mid
    → IsAloneIn key mid emptied → IsAloneIn key old emptied
alone_before key node old mid emptied set alone l front was rest h at =
    let e : mid ≡ slice_set old l (front ++ (key, node) ∷ rest) = set l front was rest h at in
    let len : length mid ≡ length old = ap (λ (y : KeyedLists). length y) e ∙ length-set old l (front ++ (key, node) ∷ rest) in
    alone l front node rest (omega arith)
    (ap (list_at l) e ∙ get_or-set_same old l (front ++ (key, node) ∷ rest) [] h)
