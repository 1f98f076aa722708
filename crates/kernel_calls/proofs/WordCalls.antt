-- What futex_wait comes to, once the page of its word is granted.
use Rattle.std.proofs.Common.{◌≡◌, ℕ, ◌+◌, ◌*◌, cond, List, Option, sym, ap, ◌∙◌}
use Rattle.std.specs.Prelude.{◌==◌, ◌%◌}
use Rattle.dos_world.specs.World.{World}
use Rattle.dos_world.specs.Bytes.{loaded}
use Rattle.dos_world.specs.FutexCalls.{asleep_at, futex_wait_at, futex_word}
use Rattle.dos_world.specs.Kernel.{opened}
use Rattle.dos_world.specs.Play.{Play, done}
use Rattle.dos_world.specs.Services.{Call, Served as FlatServed, waits, refuses_in}
use Rattle.dos_world.specs.declared.Access.TheVariants.{Load}
use Rattle.dos_world.specs.declared.Entry.{Entry}
use Rattle.page_store.specs.Store.{Store, joined}
use Rattle.proc_table.specs.Tables.{Tables}
use Rattle.kernel_mem.specs.MemoryWorld.{in_world}
use Rattle.kernel_calls.specs.StateWorld.{sent, world_of}
use Rattle.kernel_calls.specs.CallResults.{call_in}
use Rattle.kernel_calls.specs.declared.state.State.{State}
use Rattle.kernel_calls.specs.declared.state.Asked.{Asked}

-- a call of futex_wait, by the word and by the world in which its page is granted
abbrev pub by_word : Entry → Call → ℕ → World → Play FlatServed
by_word entry call word w =
    cond (word == call.a1) (done (waits (asleep_at w entry call))) (refuses_in w 11 call)

-- the word that was read, and the frames that were granted
pub wait_looked : (s : State) (a : Asked) (entry : Entry) (word : ℕ) (frames : Store)
    → frames.pages ≡ s.frames.pages
    → ((w : World) → opened (in_world w s.frames s.table) a.thread a.a0 Load
    ≡ in_world w frames s.table)
    → ((w : World) (T : Tables)
    → loaded (in_world w frames T) (4096 * entry.frame + a.a0 % 4096) 4 ≡ word)
    → (q : ℕ) (o e : List ℕ)
    → futex_wait_at entry (call_in (sent o e (world_of q s)) a)
    ≡ by_word entry (call_in (sent o e (world_of q s)) a) word
    (in_world (sent o e (world_of q s)) frames s.table)
wait_looked s a entry word frames pages opens reads q o e =
    ap (λ n. by_word entry call n (opened w a.thread a.a0 Load)) word_is
    ∙ ap (by_word entry call word) (opens w)
  where
    w : World
    w = sent o e (world_of q s)

    call : Call
    call = call_in w a

    word_is : futex_word entry call ≡ word
    word_is = ap (λ (ps : List (Option (List ℕ))). loaded (record w { bytes = joined ps })
        (4096 * entry.frame + a.a0 % 4096) 4) (sym pages) ∙ reads w s.table
