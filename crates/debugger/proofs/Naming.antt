-- Which threads are known where all who are born are. This project's own.
use Rattle.std.proofs.Common.{◌≡◌, ℕ, true, refl, ap, Option, Some, None, []}
use Rattle.std.specs.Prelude.{Bool, ◌&&◌, ◌||◌, nat_le, length, false}
use Rattle.gdb_packets.specs.declared.ids.ThreadId.{ThreadId}
use Rattle.flat_machine.specs.Opening.{opening}
use Rattle.group_moves.specs.Moments.{first_moment}
use Rattle.debug_session.specs.Actions.{thread_named}
use Rattle.debug_session.specs.Positions.{Position, at_start}
use Rattle.debugger.specs.Standing.{SessionView}
use Rattle.debug_client.specs.Births.{BirthTables, has_home, has_named, knows_id}

pub whole_home : (b : BirthTables) → b.is_whole ≡ true → (t : ℕ) → has_home b t ≡ true
whole_home b whole t = ap (λ (known : Bool). known || nat_le t (length b.homes)) whole

pub whole_id : (b : BirthTables) → b.is_whole ≡ true → (id : ThreadId) → knows_id b id ≡ true
whole_id b whole id = by (thread_named id)
  where
    by : (thread : Option ℕ) → has_named b thread ≡ true
    by None = refl
    by (Some t) = whole_home b whole t

pub first_true : (a b : Bool) → (a && b) ≡ true → a ≡ true
first_true true b both = refl
first_true false b both = both

-- a position, whichever it is
pub some_place : SessionView → Position
some_place k = at_start (first_moment (opening k.playback.images k.playback.config)) []
