-- One fresh page, as the flat world has it.
use Rattle.std.proofs.Common.{◌≡◌, ℕ, Some, unwrap_or, ap}
use Rattle.std.specs.Prelude.{position, slice_set}
use Rattle.dos_world.specs.World.{World, is_free}
use Rattle.dos_world.specs.declared.Owner.TheVariants.{Of}
use Rattle.dos_world.specs.Kernel.{with_entry}
use Rattle.dos_world.specs.MemoryCalls.{page_mapped, private_entry}
use Rattle.page_store.specs.Store.{Store, with_owned}
use Rattle.proc_table.specs.Tables.{Tables, held_by}
use Rattle.kernel_mem.specs.MemoryWorld.{in_world}

abbrev with_frame : World → Store → Tables → ℕ → ℕ → ℕ → ℕ → ℕ → World
with_frame w s T t p rights page n =
    record (in_world w s (held_by (with_entry page (private_entry n rights)) T p)) {
      owners = slice_set s.owners n (Of t);
    }

pub page_step : (w : World) (s : Store) (T : Tables) (t p rights page f : ℕ)
    → Some f ≡ position is_free s.owners
    → in_world w (with_owned s f t) (held_by (with_entry page (private_entry f rights)) T p)
    ≡ page_mapped t p rights (in_world w s T) page
page_step w s T t p rights page f found =
    ap (λ n. with_frame w s T t p rights page n) (ap (λ o. unwrap_or o 0) found)
