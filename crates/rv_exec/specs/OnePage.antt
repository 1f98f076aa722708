-- The memory of a thread that has one page, of frame 0, which is the only one: what the memory of
-- the tests shows.
use Rattle.std.specs.Prelude.{ℕ, ◌≡◌, ◌/◌, Option, Some, None, false, ◌==◌, if◌then◌else◌}
use Rattle.dos_world.specs.World.{World, entry_at, owner_of}
use Rattle.dos_world.specs.declared.Entry.{Entry}
use Rattle.rv_exec.specs.declared.one_page.OnePage.{OnePage}

-- the one page's entry
abbrev pub entry_of : OnePage → Entry
entry_of m = record { frame = 0; write = m.write; exec = m.exec; shared = false }

-- the entry of an address: that of the one page, or none
abbrev pub entry_of_page : OnePage → ℕ → Option Entry
entry_of_page m address = if address / 4096 == m.page then Some (entry_of m) else None

-- w is such a world for t, with these bytes
pub record IsOnePage (m : OnePage) (t : ℕ) (w : World) : Type 0 where
  pub is_thread : t ≡ m.thread
  pub is_entry : (address : ℕ) → entry_at w t address ≡ entry_of_page m address
  pub is_owner : owner_of w 0 ≡ m.owner
  pub are_bytes : w.bytes ≡ m.bytes.value
