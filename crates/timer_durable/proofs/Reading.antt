-- Bytes that were read stand behind those that came before.
use Rattle.std.proofs.Common.{◌≡◌, ℕ, List, ◌++◌, Option, None, Some, refl, sym, ap, ◌∙◌, append_assoc, Ok, Err, take}
use Rattle.std.specs.Io.KnownBytes.{prepend_known, Keeps, Consumes}
use Rattle.std.proofs.KnownBytes.{Keeps-refl, Keeps-trans}
use Rattle.timer_script.specs.Peer.{PeerState, Gives}
use Rattle.timer_durable.specs.Durable.{HasReadOn}

prepend-kept : (a b : Option (List ℕ)) (bytes : List ℕ) → Keeps a b → Keeps (prepend_known bytes a) (prepend_known bytes b)
prepend-kept None b bytes k = tt
prepend-kept (Some x) None bytes k = absurd k
prepend-kept (Some x) (Some y) bytes k = ap (λ l. bytes ++ l) k

prepend-more : (a b : Option (List ℕ)) (bytes more : List ℕ) → Consumes a b more → Keeps (prepend_known bytes a) (prepend_known (bytes ++ more) b)
prepend-more None b bytes more c = tt
prepend-more (Some x) None bytes more c = absurd c
prepend-more (Some x) (Some y) bytes more c = append_assoc bytes more y ∙ ap (λ l. bytes ++ l) (sym c)

pub read_none : (p : PeerState) (bytes : List ℕ) → HasReadOn p bytes p bytes
read_none p bytes = record { kept = Keeps-refl (prepend_known bytes p.remaining); contents = refl; writing = refl }

pub read_some : {E : Type 0} (p q : PeerState) (n : ℕ) (piece bytes bytes' : List ℕ) → Gives {E = E} p (Ok n) piece q
    → bytes' ≡ bytes ++ take n piece → HasReadOn p bytes q bytes'
read_some p q n piece bytes bytes' gives is = rw is (record {
  kept = prepend-more p.remaining q.remaining bytes (take n piece) gives.bytes.0;
  contents = gives.contents;
  writing = gives.writing;
})

pub read_failed : {E : Type 0} (p q : PeerState) (e : E) (piece bytes : List ℕ) → Gives p (Err e) piece q → HasReadOn p bytes q bytes
read_failed p q e piece bytes gives = record {
  kept = prepend-kept p.remaining q.remaining bytes gives.bytes;
  contents = gives.contents;
  writing = gives.writing;
}

pub read_on : (p q r : PeerState) (a b c : List ℕ) → HasReadOn p a q b → HasReadOn q b r c → HasReadOn p a r c
read_on p q r a b c one two = record {
  kept = Keeps-trans (prepend_known a p.remaining) (prepend_known b q.remaining) (prepend_known c r.remaining) one.kept two.kept;
  contents = two.contents ∙ one.contents;
  writing = two.writing ∙ one.writing;
}
