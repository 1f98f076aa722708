-- What a call is seen by from outside, before it and after it. This project's own rules.
use Rattle.std.specs.Prelude.{◌≡◌, ◌≢◌, ◌⊎◌, ℕ, Bool, List, Option, Some, IsTrue, IfSome}
use Rattle.logged_runs.specs.Recording.{HostSeen}
use Rattle.dos_io.specs.Outside.{grown, GrewByFront, Rose}
use Rattle.worker_pool.specs.Ran.{GrewBy}
use Rattle.dos_words.specs.Numbers.{Text}

-- What the files, the host and the two outputs tell, and the workers' tally.
pub record Outside : Type 0 where
  pub files_tell : Bool
  pub files : Text → Option (List ℕ)
  pub files_after : Text → Option (List ℕ)
  pub host : HostSeen
  pub host_after : HostSeen
  pub out : Option (List ℕ)
  pub out_after : Option (List ℕ)
  pub err : Option (List ℕ)
  pub err_after : Option (List ℕ)
  pub tally : ℕ
  pub tally_after : ℕ

-- in this order
abbrev pub outside : Bool → (files files_after : Text → Option (List ℕ))
    → (host host_after : HostSeen) → (out out_after err err_after : Option (List ℕ))
    → (tally tally_after : ℕ) → Outside
outside files_tell files files_after host host_after out out_after err err_after tally tally_after =
    record {
      files_tell = files_tell;
      files = files;
      files_after = files_after;
      host = host;
      host_after = host_after;
      out = out;
      out_after = out_after;
      err = err;
      err_after = err_after;
      tally = tally;
      tally_after = tally_after;
    }

-- How often the files, the host and the two outputs have failed.
pub record Faults : Type 0 where
  pub files : ℕ
  pub files_after : ℕ
  pub host : ℕ
  pub host_after : ℕ
  pub out : ℕ
  pub out_after : ℕ
  pub err : ℕ
  pub err_after : ℕ

-- in this order
abbrev pub faults : (files files_after host host_after out out_after err err_after : ℕ) → Faults
faults files files_after host host_after out out_after err err_after = record {
  files = files;
  files_after = files_after;
  host = host;
  host_after = host_after;
  out = out;
  out_after = out_after;
  err = err;
  err_after = err_after;
}

-- ---- the two outputs

-- each grew by these bytes
pub record Grew (o : Outside) (output error : List ℕ) : Type 0 where
  pub out_is : o.out_after ≡ grown o.out output
  pub err_is : o.err_after ≡ grown o.err error

-- Output grew by all its bytes, and so did error, and then by a front of the last ones.
pub record GrewUpToLast (o : Outside) (output error last : List ℕ) : Type 0 where
  pub out_is : o.out_after ≡ grown o.out output
  pub err_is : GrewByFront (grown o.err error) o.err_after last

-- an output failed
abbrev pub OutputFailed : Faults → Type 0
OutputFailed f = Rose f.out f.out_after ⊎ Rose f.err f.err_after

-- ---- the files and the host

-- No file changed.
abbrev pub FilesStay : Outside → Type 0
FilesStay o = (name : Text) → o.files_after name ≡ o.files name

-- No file but this one changed.
abbrev pub OthersStay : Outside → Text → Type 0
OthersStay o kept = (name : Text) → name ≢ kept → o.files_after name ≡ o.files name

-- The file of this name holds these bytes, as far as files tell.
pub record FileHolds (o : Outside) (name : Text) (bytes : List ℕ) : Type 0 where
  pub where_told : IfSome (o.files name) (λ before. o.files_after name ≡ Some bytes)
  pub where_all_tell : IsTrue o.files_tell → o.files_after name ≡ Some bytes

-- The host was asked nothing, and what it tells stays.
abbrev pub HostStays : Outside → Type 0
HostStays o = o.host_after ≡ o.host

-- The workers ran nothing.
abbrev pub TallyStays : Outside → Type 0
TallyStays o = o.tally_after ≡ o.tally

-- Error grew by these bytes; output, the files, the host and the tally stay.
pub record Says (o : Outside) (last : List ℕ) : Type 0 where
  pub out_stays : o.out_after ≡ o.out
  pub err_says : o.err_after ≡ grown o.err last
  pub files_stay : FilesStay o
  pub host_stays : HostStays o
  pub tally_stays : TallyStays o

-- The tally grew by so many instructions, modulo 2^64.
abbrev pub Counted : Outside → ℕ → Type 0
Counted o work = GrewBy o.tally o.tally_after work
