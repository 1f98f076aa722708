-- What crosses the border of a group, in order: exchanges, and bytes that are put to its output and
-- its error. This project's own rules.
use Rattle.std.specs.Prelude.{◌≡◌, ◌≢◌, ◌≤◌, ℕ, List, [], ◌∷◌, ◌++◌, take, Option, Some}
use Rattle.dos_world.specs.declared.Question.{Question}
use Rattle.dos_io.specs.Outside.{counted_to_limit, grown, Rose}
use Rattle.dos_io.specs.Shims.{ShimState, Stopped}
use Rattle.dos_io.specs.declared.border.Stream.{Stream}
use Rattle.dos_io.specs.declared.border.Stream.TheVariants.{Output, Error}
use Rattle.dos_io.specs.declared.exchange.Exchange.{Exchange}
use Rattle.dos_io.specs.declared.shim.ShimStop.{ShimStop}

-- ---- crossings

-- an exchange with the shim, or bytes put to a stream
pub data Crossing : Type 0 where
  exchanged : Exchange → Crossing
  put : Stream → List ℕ → Crossing

-- of bytes put to the second of these streams, those that went to the first
abbrev pub going_to : Stream → Stream → List ℕ → List ℕ
going_to Output Output bytes = bytes
going_to Output Error bytes = []
going_to Error Output bytes = []
going_to Error Error bytes = bytes

-- the exchanges among them
abbrev pub exchanges_of : List Crossing → List Exchange
exchanges_of [] = []
exchanges_of (exchanged e ∷ cs) = e ∷ exchanges_of cs
exchanges_of (put stream bytes ∷ cs) = exchanges_of cs

-- the bytes among them that went to a stream
abbrev pub bytes_to : Stream → List Crossing → List ℕ
bytes_to s [] = []
bytes_to s (exchanged e ∷ cs) = bytes_to s cs
bytes_to s (put stream bytes ∷ cs) = going_to s stream bytes ++ bytes_to s cs

-- ---- what a border shows

-- what its shim shows, and of each stream what is told and its count of faults
pub record BorderState : Type 0 where
  pub shim : ShimState
  pub output : Option (List ℕ)
  pub error : Option (List ℕ)
  pub out_faults : ℕ
  pub err_faults : ℕ

-- what is told of a stream
abbrev pub told_of : Stream → BorderState → Option (List ℕ)
told_of Output b = b.output
told_of Error b = b.error

-- how often a put to it has failed
abbrev pub faults_of : Stream → BorderState → ℕ
faults_of Output b = b.out_faults
faults_of Error b = b.err_faults

-- These crossings are told more.
pub record Tells (before : BorderState) (crossings : List Crossing) (after : BorderState) : Type 0
  where
    pub exchanges : after.shim.told ≡ before.shim.told ++ exchanges_of crossings
    pub bytes : (stream : Stream)
        → told_of stream after ≡ grown (told_of stream before) (bytes_to stream crossings)

-- ---- faults

-- the shim hasn't stopped
pub record ShimStands (before after : BorderState) : Type 0 where
  pub stops : after.shim.stops ≡ before.shim.stops
  pub last : after.shim.last ≡ before.shim.last

-- nothing failed
pub record BorderStands (before after : BorderState) : Type 0 where
  pub shim : ShimStands before after
  pub faults : (stream : Stream) → faults_of stream after ≡ faults_of stream before

-- This alone has crossed it.
pub record Crosses (before : BorderState) (crossing : Crossing) (after : BorderState) : Type 0 where
  pub tells : Tells before (crossing ∷ []) after
  pub stands : BorderStands before after

-- The shim stopped, so, at this question, and nothing has crossed.
pub record StopsAt (before : BorderState) (question : Question) (stop : ShimStop)
    (after : BorderState) : Type 0 where
  pub shim : Stopped before.shim question stop after.shim
  pub told : (stream : Stream) → told_of stream after ≡ told_of stream before
  pub faults : (stream : Stream) → faults_of stream after ≡ faults_of stream before

-- ---- who failed

-- the shim alone, which stopped so
pub record ShimFails (before : BorderState) (stop : ShimStop) (after : BorderState) : Type 0 where
  pub stops : after.shim.stops ≡ counted_to_limit before.shim.stops
  pub last : after.shim.last ≡ Some stop
  pub faults : (stream : Stream) → faults_of stream after ≡ faults_of stream before

-- the sink of a stream alone
pub record SinkFails (before : BorderState) (stream : Stream) (after : BorderState) : Type 0 where
  pub shim : ShimStands before after
  pub later : faults_of stream before ≤ faults_of stream after
  pub rose : Rose (faults_of stream before) (faults_of stream after)
  pub others : (other : Stream) → other ≢ stream
      → faults_of other after ≡ faults_of other before

-- A put of this piece failed: a front of it was put, and nothing else has crossed.
pub record BreaksAt (before : BorderState) (stream : Stream) (piece : List ℕ)
    (after : BorderState) : Type 0 where
  pub front : (k : ℕ) × Tells before (put stream (take k piece) ∷ []) after
  pub fails : SinkFails before stream after
