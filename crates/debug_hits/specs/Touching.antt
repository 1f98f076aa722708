-- What is touched, as the code has it. This project's own words.
use Rattle.std.specs.Prelude.{ℕ, ◌+◌, ◌&&◌, ◌||◌, Bool, true, false, Option, Some, None, nat_le}
use Rattle.std.specs.Prelude.{nat_lt}
use Rattle.debug_session.specs.Accesses.{Touch}
use Rattle.debug_hits.specs.declared.touches.Touch.{Touch as touch_type}

-- what the code's type stands for
abbrev pub touch_named : touch_type → Touch
touch_named touch = record {
  address = touch.address;
  count = touch.count;
  is_read = touch.is_read;
  is_written = touch.is_written;
}

-- that it is read, and where writes count, too, that it is written
abbrev pub counts : (may_write : Bool) → Touch → Bool
counts false touch = touch.is_read
counts true touch = touch.is_read || touch.is_written

-- a place is one of so many from this one on
abbrev pub is_between : (first count : ℕ) → Option ℕ → Bool
is_between first count None = false
is_between first count (Some place) = nat_le first place && nat_lt place (first + count)
