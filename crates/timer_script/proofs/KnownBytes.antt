-- Known bytes after one more piece.
use Rattle.std.proofs.Common.{ℕ, ◌+◌, ◌-◌, ◌≤◌, Bool, List, ◌++◌, length, take, drop, Option, sym, ap, subst, ◌∙◌, arith, take-add}
use Rattle.std.proofs.lemmas.List.{take_rest, length-append}
use Rattle.std.specs.Io.KnownBytes.{Consumes, Appends}
use Rattle.std.proofs.KnownBytes.{Consumes-kept, Consumes-trans, Appends-trans}
use Rattle.timer_script.specs.Types.{MAX_BYTES, ReadFault}
use Rattle.timer_script.specs.declared.fault.ReadFault.TheVariants as reads
use Rattle.timer_script.specs.Input.{HasRead, FailsToRead, StopsReading}

pub reads_more : (a b c : Option (List ℕ)) (failed : Bool) (old new : List ℕ) (n : ℕ) → Consumes a b old → HasRead b c failed old new n
    → Consumes a c new
reads_more a b c failed old new n before h = subst (Consumes a c) (sym h.joined) (Consumes-trans a b c old h.more before h.taken)

pub sends_more : (a b c : Option (List ℕ)) (text : List ℕ) (i n : ℕ) → Appends a b (take i text)
    → Appends b c (take n (take (length text - i) (drop i text))) → Appends a c (take (i + n) text)
sends_more a b c text i n before h =
    let both = Appends-trans a b c (take i text) (take n (take (length text - i) (drop i text))) before h in
    subst (Appends a c) (ap (λ t. take i text ++ take n t) (take_rest text i) ∙ sym (take-add i n text)) both

-- a read that failed after these bytes stops the reading
pub stops_reading : (fault : ReadFault) (a b c : Option (List ℕ)) (failed : Bool) (old : List ℕ) (room : ℕ) → Consumes a b old
    → length old ≤ MAX_BYTES → length old + room ≤ MAX_BYTES + 1
    → FailsToRead fault room b c failed → StopsReading fault a c failed
stops_reading reads.Read a b c failed old room got short fits h = ((old, Consumes-kept a b c old got h.0, short), h.1)
stops_reading reads.TooLong a b c failed old room got short fits h = absurd h
stops_reading reads.OutOfMemory a b c failed old room got short fits h =
    ((old ++ h.0.0, Consumes-trans a b c old h.0.0 got h.0.1, omega (arith, h.0.2, length-append old h.0.0)), h.1)
