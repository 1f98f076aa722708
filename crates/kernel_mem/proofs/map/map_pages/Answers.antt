use Rattle.std.proofs.Common.{◌≡◌, ◌≤◌, ℕ, true, false, List, Result, Ok, Err, sym, ap, ◌∙◌, arith}
use Rattle.std.specs.Prelude.{◌/◌, nat_le, nat_lt}
use Rattle.std.proofs.lemmas.Bool.Decides.{nat_tests}
use Rattle.dos_world.specs.declared.Entry.{Entry}
use Rattle.dos_world.specs.World.{World}
use Rattle.dos_world.specs.Kernel.{free_frames}
use Rattle.dos_world.specs.MemoryCalls.{mapped}
use Rattle.proc_table.specs.Tables.{thread_in}
use Rattle.kernel_mem.specs.Ranges.{are_range, maps_any, range_call}
use Rattle.kernel_mem.specs.MemoryWorld.{in_world}
use Rattle.kernel_mem.proofs.Children.{caller_space, enough, to-process, too_few}
use Rattle.kernel_mem.proofs.Runs.{map_is}
use Rattle.kernel_mem.proofs.map.map_pages.Goals as goal

small : (n : ℕ) → n ≤ 7 → nat_le n 7 ≡ true
small n h = grind (arith, nat_tests)

none_mapped : {lent space : List (ℕ × Entry)} (page pages : ℕ) → lent ≡ space
    → false ≡ maps_any lent page pages → maps_any space page pages ≡ false
none_mapped page pages same none =
    ap (λ (es : List (ℕ × Entry)). maps_any es page pages) (sym same) ∙ sym none

pub returns-then-free_count-pages-clause-maps : goal.returns-then-free_count-pages-clause-maps
returns-then-free_count-pages-clause-maps c =
    let none = none_mapped (c.args.address / 4096) c.args.pages
    (caller_space c.requires.caller c.process_of-pid.result c.process_of-pid.ensures
    c.space.result.now.entries c.space.ensures.entries) c.if-any_mapped.ensures in
    to-process (λ p. (w : World)
    → mapped (range_call
    (in_world w c.args.frames.now c.args.table.now) c.args.tid p c.args.address
    c.args.pages c.args.rights) ≡ Err 12)
    (thread_in c.args.table.now.threads c.args.tid) c.process_of-pid.result c.process_of-pid.ensures
    (λ w. map_is (are_range c.args.address c.args.pages) (nat_le c.args.rights 7) _
    (nat_lt (free_frames (in_world w c.args.frames.now c.args.table.now)) c.args.pages) true
    _ c.if-not-is_range.ensures (small c.args.rights (omega arith)) none
    (too_few w c.args.frames.now c.args.table.now c.args.pages
    (omega (arith, c.free_count.ensures, c.if-free_count-pages.true))))

pub returns-clause-maps : goal.returns-clause-maps
returns-clause-maps c =
    let none = none_mapped (c.args.address / 4096) c.args.pages
    (caller_space c.requires.caller c.process_of-pid.result c.process_of-pid.ensures
    c.space.result.now.entries c.space.ensures.entries) c.if-any_mapped.ensures in
    to-process (λ p. (w : World)
    → mapped (range_call
    (in_world w c.args.frames.now c.args.table.now) c.args.tid p c.args.address
    c.args.pages c.args.rights)
    ≡ Ok (in_world w c.map_run.new.frames c.map_run.new.table))
    (thread_in c.args.table.now.threads c.args.tid) c.process_of-pid.result c.process_of-pid.ensures
    (λ w. map_is (are_range c.args.address c.args.pages) (nat_le c.args.rights 7) _
    (nat_lt (free_frames (in_world w c.args.frames.now c.args.table.now)) c.args.pages)
    false _ c.if-not-is_range.ensures (small c.args.rights (omega arith)) none
    (enough w c.args.frames.now c.args.table.now c.args.pages
    (omega (arith, c.free_count.ensures, c.if-free_count-pages.false)))
    ∙ ap ok (c.map_run.ensures.maps w c.args.address c.args.pages))
  where
    ok : World → Result World ℕ
    ok w = Ok w
