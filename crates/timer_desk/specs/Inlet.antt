-- What the owner knows of a line, and what each result of an `Inlet`'s calls appends to it.
use Rattle.std.specs.Prelude.{◌≡◌, List, [], ◌∷◌, Bool, true}
use Rattle.std.proofs.Common.{◌∙◌, refl}
use Rattle.timer_desk.specs.Types.{Numbered, Word}
use Rattle.timer_desk.specs.declared.inlet.Taken.{Taken}
use Rattle.timer_desk.specs.declared.inlet.Taken.TheVariants.{Got}
use Rattle.timer_desk.specs.declared.inlet.Put.{Put}
use Rattle.timer_desk.specs.declared.inlet.Put.TheVariants.{Done, Full, NoMemory}
use Rattle.timer_desk.specs.Extends.{Extends, Extends-refl, Extends-trans}

-- what the owner knows of a line
pub record LineState : Type 0 where
  -- the requests taken from it, in order
  pub got : List Numbered
  -- the requests that are known to stand in it, in order
  pub standing : List Numbered
  -- the words put into it, in order
  pub given : List Word

-- a kind of line: what holds of each line of a type
pub record LineKind (I : Type 0) : Type 1 where
  pub state : I → LineState
  -- `same a b`: b is the line of a, at the same moment or later
  pub same : I → I → Type 0
  -- the owner knows of no room for another word
  pub is_full : I → Type 0
  -- whether `take` may run out of memory
  pub take_may_refuse : Bool
  -- whether `put` may run out of memory
  pub put_may_refuse : Bool
  pub reflexive : (a : I) → same a a
  pub transitive : (a b c : I) → same a b → same b c → same a c

module _ {I X : Type 0} (line : I → X) (state : I → LineState) where
  -- the line is the same one, and more may have been got and given
  pub record SameLine (a b : I) : Type 0 where
    pub line_is : line a ≡ line b
    pub got_grows : Extends (state a).got (state b).got
    pub given_grows : Extends (state a).given (state b).given

  pub SameLine-refl : (a : I) → SameLine a a
  SameLine-refl a = record {
    line_is = refl;
    got_grows = Extends-refl (state a).got;
    given_grows = Extends-refl (state a).given;
  }

  pub SameLine-trans : (a b c : I) → SameLine a b → SameLine b c → SameLine a c
  SameLine-trans a b c p q = record {
    line_is = p.line_is ∙ q.line_is;
    got_grows = Extends-trans (state a).got (state b).got (state c).got p.got_grows q.got_grows;
    given_grows = Extends-trans (state a).given (state b).given (state c).given p.given_grows q.given_grows;
  }

-- the request that was taken, if one was
abbrev pub taken_of : Taken → List Numbered
taken_of (Got n) = n ∷ []
taken_of taken = []

-- the word, if it was put
abbrev pub put_of : Put → Word → List Word
put_of Done w = w ∷ []
put_of put w = []

-- a result other than `Done` hands the word back; `NoMemory` only if the line may run out of memory
abbrev pub HandsBack : Bool → Put → Word → Type 0
HandsBack may_refuse Done w = Unit {0}
HandsBack may_refuse (Full v) w = v ≡ w
HandsBack may_refuse (NoMemory v) w = (v ≡ w) × (may_refuse ≡ true)
