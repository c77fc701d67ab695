use Rattle.std.proofs.Common.{◌<◌, Bool, refl, [], ◌∷◌, length, arith, ◌↔◌, ◌≡◌, IsTrue, not, true, false}
use Rattle.timer_links.specs.Lists.{list_at, Rows}
use Rattle.timer_wheels.specs.BucketLists.{entries_of}
use Rattle.timer_wheels.proofs.buckets.Buckets.has_due.Goals as goal

not_empty : (rows : Rows) (empty : Bool) → IsTrue empty ↔ (rows ≡ []) → IsTrue (not empty) ↔ (0 < length (entries_of rows))
not_empty [] true f = ((λ x. absurd (cc)), (λ h. absurd (omega arith)))
not_empty [] false f = absurd (let h : false ≡ true = f.1 refl in cc)
not_empty (x ∷ xs) true f = absurd (let h : x ∷ xs ≡ [] = f.0 refl in cc)
not_empty (x ∷ xs) false f = ((λ h. omega arith), (λ h. refl))

pub returns : goal.returns
returns g c =
    let b = c.args.self.now in
    not_empty (list_at b.slots b.links.lists) c.is_empty.result c.is_empty.ensures
