-- The peer of a server, and the order of the bytes that come from it and go to it, and of the states that it keeps.
use Rattle.std.specs.Prelude.{◌≡◌, ℕ, ◌||◌, Bool, List, [], ◌∷◌, ◌++◌, take, Option, None, Some, Result, Ok, Err, is_err}
use Rattle.std.specs.Io.{ReadsAtMost, WritesAtMost}
use Rattle.std.specs.Io.KnownBytes.{Keeps, ReadConsumes, WriteAppends}
use Rattle.timer_script.specs.Watched.{took_nothing}

-- one call: a read gave these bytes, a write took these, a flush, or it was told this state; a call that failed gave
-- and took none
pub data PeerCall : Type 0 where
  Came : List ℕ → PeerCall
  Went : List ℕ → PeerCall
  Flush : PeerCall
  Told : List ℕ → PeerCall

-- what a peer that keeps what came goes on with: no call changes it
pub record PeerOrigin : Type 0 where
  -- the bytes that it had taken at first, if they are known
  pub contents : Option (List ℕ)
  -- the lines that it gives again, which came in an earlier process
  pub again : List ℕ
  -- how many lines and answers there were before these
  pub lines : ℕ
  pub answers : ℕ
  -- how many answers its other side has seen, if that is known
  pub seen : Option ℕ

-- what is known of a peer
pub record PeerState : Type 0 where
  -- what it goes on with, if it keeps what came
  pub origin : Option PeerOrigin
  -- the bytes that it has still to give, and those that it took, if they are known
  pub remaining : Option (List ℕ)
  pub contents : Option (List ℕ)
  -- the calls so far, if they are known
  pub calls : Option (List PeerCall)
  -- a read failed, or a state was not kept
  pub read_failed : Bool
  -- a write or a flush failed, or a write took no byte of a piece that is not empty
  pub write_failed : Bool

-- known calls are followed by these
abbrev pub Grows : Option (List PeerCall) → Option (List PeerCall) → List PeerCall → Type 0
Grows None new more = Unit {0}
Grows (Some xs) None more = ⊥
Grows (Some xs) (Some ys) more = ys ≡ xs ++ more

-- how many bytes a call gave or took
abbrev pub count_in : {E : Type 0} → Result ℕ E → ℕ
count_in (Ok n) = n
count_in (Err e) = 0

-- one read
pub record Gives {E : Type 0} (old : PeerState) (result : Result ℕ E) (piece : List ℕ)
    (new : PeerState) : Type 0 where
  pub origin : new.origin ≡ old.origin
  pub within : ReadsAtMost result piece
  pub bytes : ReadConsumes old.remaining new.remaining result piece
  pub noted : Grows old.calls new.calls (Came (take (count_in result) piece) ∷ [])
  pub failed : new.read_failed ≡ (old.read_failed || is_err result)
  pub contents : new.contents ≡ old.contents
  pub writing : new.write_failed ≡ old.write_failed

-- one write
pub record Takes {E : Type 0} (old : PeerState) (result : Result ℕ E) (piece : List ℕ)
    (new : PeerState) : Type 0 where
  pub origin : new.origin ≡ old.origin
  pub within : WritesAtMost result piece
  pub bytes : WriteAppends old.contents new.contents result piece
  pub noted : Grows old.calls new.calls (Went (take (count_in result) piece) ∷ [])
  pub failed : new.write_failed ≡ (old.write_failed || took_nothing result piece)
  pub remaining : new.remaining ≡ old.remaining
  pub reading : new.read_failed ≡ old.read_failed

-- one flush
pub record Flushes {E : Type 0} (old : PeerState) (result : Result Unit E) (new : PeerState) : Type 0 where
  pub origin : new.origin ≡ old.origin
  pub bytes : Keeps old.contents new.contents
  pub noted : Grows old.calls new.calls (Flush ∷ [])
  pub failed : new.write_failed ≡ (old.write_failed || is_err result)
  pub remaining : new.remaining ≡ old.remaining
  pub reading : new.read_failed ≡ old.read_failed

-- the call that told a state, if it was kept
abbrev pub told_in : {E : Type 0} → Result Unit E → List ℕ → List PeerCall
told_in (Ok u) text = Told text ∷ []
told_in (Err e) text = []

-- one state that it was to keep
pub record KeepsState {E : Type 0} (old : PeerState) (result : Result Unit E) (text : List ℕ)
    (new : PeerState) : Type 0 where
  pub origin : new.origin ≡ old.origin
  pub noted : Grows old.calls new.calls (told_in result text)
  pub failed : new.read_failed ≡ (old.read_failed || is_err result)
  pub remaining : new.remaining ≡ old.remaining
  pub contents : new.contents ≡ old.contents
  pub writing : new.write_failed ≡ old.write_failed
