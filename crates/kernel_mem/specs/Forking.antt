-- What a fork does to frames and a table. This project's own rules.
use Rattle.std.specs.Prelude.{◌≡◌, ◌+◌, ℕ, not, false, List, [], Some, Result, Ok, Err}
use Rattle.std.specs.Prelude.{slice_get, ◌==◌, if◌then◌else◌}
use Rattle.dos_world.specs.World.{World, Process, Holdings, Thread, live, released, is_free}
use Rattle.dos_world.specs.World.{page_of}
use Rattle.dos_world.specs.Kernel.{answered, lowest_free_frame, with_fresh}
use Rattle.dos_world.specs.Calls.{Call}
use Rattle.dos_world.specs.ThreadCalls.{ready_thread}
use Rattle.dos_world.specs.declared.Entry.{Entry}
use Rattle.page_store.specs.Store.{KeepsFrames, Store, owner_at, uses_at}
use Rattle.kernel_mem.specs.MemoryWorld.{HasAllHome}

-- what each entry of a space names isn't Free
abbrev pub AreTaken : List (ℕ × Entry) → Store → Type 0
AreTaken space s = (i : ℕ) (e : ℕ × Entry) → slice_get space i ≡ Some e
    → is_free (owner_at s e.1.frame) ≡ false

-- ---- one entry

-- A private entry gets a fresh frame of t's with the same bytes, and a shared one keeps its frame.
abbrev pub entry_copied : World → ℕ → Entry → World × Entry
entry_copied w t e = (
  if e.shared then w else with_fresh w t (page_of w.bytes e.frame),
  if e.shared then e else record e { frame = lowest_free_frame w },
)

-- One use more, of this frame; all pages are home, and what was in use still is.
pub record IsUsedMore (old : Store) (frame : ℕ) (new : Store) : Type 0 where
  pub home : HasAllHome new
  pub frames : KeepsFrames old new
  pub uses : (f : ℕ) → uses_at new f ≡ uses_at old f + (if frame == f then 1 else 0)
  pub taken : (f : ℕ) → is_free (owner_at old f) ≡ false → is_free (owner_at new f) ≡ false

-- how many frames a copy of an entry takes
abbrev pub taken_by : Entry → ℕ
taken_by e = if not e.shared then 1 else 0

-- ---- a process

-- what a process has, with these pages
abbrev pub with_space : List (ℕ × Entry) → Holdings → Holdings
with_space space h = record h { space = space }

-- the thread of a child, of a thread like this
abbrev pub child_begun : ℕ → Thread → Thread
child_begun child thread =
    ready_thread child (released (answered 0 thread.registers)) thread.mask thread.saved

-- a process that has the same as another, but no page
abbrev pub child_without : ℕ → Holdings → Process
child_without parent h = record { parent = parent; life = live (record h { space = [] }) }

-- t's call of fork; its arguments are of no account
abbrev pub fork_call : World → ℕ → ℕ → Call
fork_call w t p = record { world = w; thread = t; process = p; a0 = 0; a1 = 0; a2 = 0 }

-- what a fork comes to: the world with the child, or the refusal
abbrev pub fork_result : Result ℕ ℕ → World → Result World ℕ
fork_result (Ok child) w = Ok w
fork_result (Err code) w = Err code
