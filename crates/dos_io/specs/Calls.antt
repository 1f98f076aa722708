-- The calls of an object in memory, which fail at the numbers that it is given: this project's own
-- rules.
use Rattle.std.specs.Prelude.{ℕ, ◌-◌, Bool, not, ◌&&◌, ◌==◌, nat_le, if◌then◌else◌, List, ◌++◌}
use Rattle.std.specs.Prelude.{length}
use Rattle.std.specs.List.{list_any}
use Rattle.dos_io.specs.Outside.{counted_to_limit}

-- the numbers of the calls that are to fail, counted from 1; how many were made; how many failed
pub record CallState : Type 0 where
  pub failing : List ℕ
  pub made : ℕ
  pub faults : ℕ

-- before the first call
abbrev pub no_calls : List ℕ → CallState
no_calls failing = record { failing = failing; made = 0; faults = 0 }

-- the number of the next call is one of those that are to fail
abbrev pub next_is_to_fail : CallState → Bool
next_is_to_fail calls = list_any (λ number. number == counted_to_limit calls.made) calls.failing

-- the next call succeeds: it isn't to fail, and what it asks for can be done
abbrev pub succeeds : CallState → Bool → Bool
succeeds calls possible = not (next_is_to_fail calls) && possible

-- after one call more, which succeeded or failed
abbrev pub after_call : CallState → Bool → CallState
after_call calls success =
    record {
      failing = calls.failing;
      made = counted_to_limit calls.made;
      faults = if success then calls.faults else counted_to_limit calls.faults;
    }

-- a sink in memory: its bytes, how many it has room for in all, and its calls
pub record SinkState : Type 0 where
  pub bytes : List ℕ
  pub room : ℕ
  pub calls : CallState

-- the next put succeeds, with this piece: it fits into the room that is left
abbrev pub put_succeeds : SinkState → List ℕ → Bool
put_succeeds sink piece = succeeds sink.calls
    (nat_le (length piece) (sink.room - length sink.bytes))

-- after a put of this piece, of which a put that fails keeps nothing
abbrev pub after_put : SinkState → List ℕ → SinkState
after_put sink piece = record {
  bytes = if put_succeeds sink piece then sink.bytes ++ piece else sink.bytes;
  room = sink.room;
  calls = after_call sink.calls (put_succeeds sink piece);
}
