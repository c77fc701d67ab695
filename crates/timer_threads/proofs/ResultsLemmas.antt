-- The ends and the readers that clients left.
use Rattle.std.proofs.Common.{◌≡◌, ◌<◌, ◌++◌, ◌||◌, ℕ, Bool, true, false, List, [], ◌∷◌, length, get_or, map, refl, sym, ◌∙◌, ap, arith}
use Rattle.std.specs.Prelude.{Some, is_none}
use Rattle.std.proofs.lemmas.List.{map_push, get_or-map, length-map}
use Rattle.timer_base.proofs.Basics.{some_same}
use Rattle.timer_threads.specs.Types.{Worked, RequestsEnded, ClientReader}
use Rattle.timer_threads.specs.Results.{NoneFailed, AllRequestsEnded, AreUnzipped}

pub AreUnzipped-more : (ws : List Worked) (es : List RequestsEnded) (rs : List ClientReader) (w : Worked) (e : RequestsEnded)
    → AreUnzipped ws es rs → w.ended ≡ Some e → AreUnzipped (ws ++ w ∷ []) (es ++ e ∷ []) (rs ++ w.reader ∷ [])
AreUnzipped-more ws es rs w e h is = record {
  ends_are = map_push (λ (v : Worked). v.ended) ws w ∙ ap (λ os. os ++ w.ended ∷ []) h.ends_are
      ∙ ap (λ o. map Some es ++ o ∷ []) is ∙ sym (map_push Some es e);
  readers_are = map_push (λ (v : Worked). v.reader) ws w ∙ ap (λ xs. xs ++ w.reader ∷ []) h.readers_are;
}

module _ (ws : List Worked) (es : List RequestsEnded) (rs : List ClientReader) (h : AreUnzipped ws es rs) where
  pub ends_many : length es ≡ length ws
  ends_many = sym (length-map es Some) ∙ ap (λ os. length os) (sym h.ends_are) ∙ length-map ws (λ (w : Worked). w.ended)

  pub readers_many : length rs ≡ length ws
  readers_many = ap (λ xs. length xs) (sym h.readers_are) ∙ length-map ws (λ (w : Worked). w.reader)

  -- what each client left
  pub ended_is : (k : ℕ) (w : Worked) (e : RequestsEnded) → k < length ws → (get_or ws k w).ended ≡ Some (get_or es k e)
  ended_is k w e l =
      sym (get_or-map (λ (v : Worked). v.ended) ws k w (Some e) l) ∙ ap (λ os. get_or os k (Some e)) h.ends_are
      ∙ get_or-map Some es k e (Some e) (let n = ends_many in omega (arith, l, n))

  pub ended_at : (k : ℕ) (w : Worked) (e : RequestsEnded) → k < length ws → (get_or ws k w).ended ≡ Some e → get_or es k e ≡ e
  ended_at k w e l is = some_same (get_or es k e) e (sym (ended_is k w e l) ∙ is)

  pub reader_at : (k : ℕ) (w : Worked) (r : ClientReader) → k < length ws → (get_or ws k w).reader ≡ get_or rs k r
  reader_at k w r l = sym (get_or-map (λ (v : Worked). v.reader) ws k w r l) ∙ ap (λ xs. get_or xs k r) h.readers_are

pub or_false : (a b : Bool) → a || b ≡ false → (a ≡ false) × (b ≡ false)
or_false true b h = absurd (cc)
or_false false b h = (refl, h)

-- a client whose requests could not be ended has failed
pub all_ended : (all : List Worked) → NoneFailed all → AllRequestsEnded all
all_ended all good k w l = (or_false (get_or all k w).failed (is_none (get_or all k w).ended) (good k w l)).1
