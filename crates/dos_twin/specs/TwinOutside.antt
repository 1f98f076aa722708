-- What a twin's call is seen by from outside, before it and after it. This project's own rules.
use Rattle.std.specs.Prelude.{◌≡◌, ◌⊎◌, ℕ, List, Option}
use Rattle.dos_io.specs.Hosts.{Told}
use Rattle.dos_io.specs.Outside.{grown, Rose}
use Rattle.dos_words.specs.Numbers.{Text}

-- What the files, the host and the four outputs tell, and the tally of the leader's workers.
pub record TwinOutside : Type 0 where
  pub files : Text → Option (List ℕ)
  pub files_after : Text → Option (List ℕ)
  pub host : Option Told
  pub host_after : Option Told
  pub out : Option (List ℕ)
  pub out_after : Option (List ℕ)
  pub err : Option (List ℕ)
  pub err_after : Option (List ℕ)
  pub second_out : Option (List ℕ)
  pub second_out_after : Option (List ℕ)
  pub second_err : Option (List ℕ)
  pub second_err_after : Option (List ℕ)
  pub tally : ℕ
  pub tally_after : ℕ

-- in this order
abbrev pub twin_outside : (files files_after : Text → Option (List ℕ))
    → (host host_after : Option Told) → (out out_after err err_after : Option (List ℕ))
    → (second_out second_out_after second_err second_err_after : Option (List ℕ))
    → (tally tally_after : ℕ) → TwinOutside
twin_outside files files_after host host_after out out_after err err_after second_out
    second_out_after second_err second_err_after tally tally_after = record {
      files = files;
      files_after = files_after;
      host = host;
      host_after = host_after;
      out = out;
      out_after = out_after;
      err = err;
      err_after = err_after;
      second_out = second_out;
      second_out_after = second_out_after;
      second_err = second_err;
      second_err_after = second_err_after;
      tally = tally;
      tally_after = tally_after;
    }

-- How often the files, the host and the four outputs have failed.
pub record TwinFaults : Type 0 where
  pub files : ℕ
  pub files_after : ℕ
  pub host : ℕ
  pub host_after : ℕ
  pub out : ℕ
  pub out_after : ℕ
  pub err : ℕ
  pub err_after : ℕ
  pub second_out : ℕ
  pub second_out_after : ℕ
  pub second_err : ℕ
  pub second_err_after : ℕ

-- in this order
abbrev pub twin_faults : (files files_after host host_after out out_after err err_after : ℕ)
    → (second_out second_out_after second_err second_err_after : ℕ) → TwinFaults
twin_faults files files_after host host_after out out_after err err_after second_out
    second_out_after second_err second_err_after = record {
      files = files;
      files_after = files_after;
      host = host;
      host_after = host_after;
      out = out;
      out_after = out_after;
      err = err;
      err_after = err_after;
      second_out = second_out;
      second_out_after = second_out_after;
      second_err = second_err;
      second_err_after = second_err_after;
    }

-- one of the four outputs failed
abbrev pub TwinOutputFailed : TwinFaults → Type 0
TwinOutputFailed f =
    Rose f.out f.out_after ⊎ Rose f.err f.err_after ⊎ Rose f.second_out f.second_out_after
    ⊎ Rose f.second_err f.second_err_after

-- no file changed
abbrev pub TwinFilesStay : TwinOutside → Type 0
TwinFilesStay o = (name : Text) → o.files_after name ≡ o.files name

-- The leader's error grew by these bytes, and all else stays.
pub record TwinSays (o : TwinOutside) (last : List ℕ) : Type 0 where
  pub out_stays : o.out_after ≡ o.out
  pub err_says : o.err_after ≡ grown o.err last
  pub second_out_stays : o.second_out_after ≡ o.second_out
  pub second_err_stays : o.second_err_after ≡ o.second_err
  pub files_stay : TwinFilesStay o
  pub host_stays : o.host_after ≡ o.host
  pub tally_stays : o.tally_after ≡ o.tally
