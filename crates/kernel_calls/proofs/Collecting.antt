-- A child that has ended is collected.
use Rattle.std.proofs.Common.{◌≡◌, ℕ, suc, Option, Some, None, refl, sym, ap, subst, ◌∙◌, arith}
use Rattle.std.specs.Prelude.{◌&&◌, ◌||◌, ◌==◌, map}
use Rattle.std.proofs.lemmas.Bool.{and_parts}
use Rattle.dos_world.specs.Numbered.{changed, numbers_of}
use Rattle.dos_world.specs.World.{World, all_holdings, first_of, has_ended, is_child, registers_by}
use Rattle.dos_world.specs.Kernel.{answered_two}
use Rattle.dos_world.specs.Play.{done}
use Rattle.dos_world.specs.Calls.{Call, returns_two, went}
use Rattle.dos_world.specs.ProcessCalls.{any_process, children_where, collected, collected_by, wait}
use Rattle.dos_world.specs.ProcessCalls.{wait_by}
use Rattle.dos_laws.proofs.StandsWaits.{filtered_at, held_same, place_is}
use Rattle.proc_table.specs.Children.{after_wait, children_in, outcome, outcome_by, status_of_ended}
use Rattle.proc_table.specs.Tables.{Tables, thread_by}
use Rattle.proc_table.specs.declared.collected.Collected.TheVariants.{Got}
use Rattle.kernel_calls.specs.StateWorld.{IsCounted, IsSound, sent, world_of}
use Rattle.kernel_calls.specs.CallResults.{ActsQuietly, call_in}
use Rattle.kernel_calls.specs.declared.state.State.{State}
use Rattle.kernel_calls.specs.declared.state.Asked.{Asked}
use Rattle.kernel_calls.specs.declared.state.Served.TheVariants.{Went}
use Rattle.kernel_calls.proofs.Counted.{counted_of, counted_like, counted-thread_by}

-- by whom it comes to a child that has ended
module _ (c : Call) (p status : ℕ) where
  pub got : (any ends : Option ℕ) → Got p status ≡ outcome_by any ends c.world.processes
      → wait_by any ends c ≡ returns_two (collected c.world p) p status c
  got None ends e = cc
  got (Some any) None e = cc
  got (Some any) (Some n) e =
      let same : n ≡ p = cc in
      let told : status_of_ended c.world.processes n ≡ status = cc in
      ap (λ k. returns_two (collected c.world n) n k c) told
      ∙ ap (λ m. returns_two (collected c.world m) m status c) same

  -- it is the first
  pub is_first : (any ends : Option ℕ) → Got p status ≡ outcome_by any ends c.world.processes
      → ends ≡ Some p
  is_first None ends e = cc
  is_first (Some any) None e = cc
  is_first (Some any) (Some n) e = cc

-- it has ended, so what the live processes have stays
collected_held : (w : World) (parent which p : ℕ)
    → first_of (children_in has_ended w.processes parent which) ≡ Some p
    → all_holdings (changed collected_by w.processes p) ≡ all_holdings w.processes
collected_held w parent which p e =
    let at =
    filtered_at (λ n. (which == 0) || (which == n))
    (numbers_of (λ process. is_child parent process && has_ended process) w.processes) 0 p e in
    let found =
    place_is (λ process. is_child parent process && has_ended process) 1 w.processes at.0 p at.1 in
    let ends = and_parts (is_child parent found.1) (has_ended found.1) found.4 in
    let is : suc found.0 ≡ p = omega (arith, found.2) in
    subst (λ n. all_holdings (changed collected_by w.processes n) ≡ all_holdings w.processes) is
    (held_same w found.0 found.1 found.3 ends.1)

module _ (s new : State) (a : Asked) (p status byte : ℕ) (table : Tables)
    (is : Got p status ≡ outcome s.table.processes a.process a.a0)
    (collects : table ≡ record s.table { processes = after_wait (Got p status) s.table.processes })
    (told : byte ≡ status)
    (answers : new ≡ record s {
      table =
          thread_by (registers_by (answered_two p byte)) table a.thread;
    }) where
  pub collects_child : ActsQuietly wait s a Went new
  collects_child q o e =
      let c : Call = call_in (sent o e (world_of q s)) a in
      got c p status (first_of (children_where any_process c))
      (first_of (children_where has_ended c)) is
      ∙ ap (λ T. done (went (sent o e (world_of q (record s {
        table =
            thread_by (registers_by (answered_two p status)) T a.thread;
      }))))) (sym collects)
      ∙ ap (λ k. done (went (sent o e (world_of q (record s {
        table =
            thread_by (registers_by (answered_two p k)) table a.thread;
      }))))) (sym told)
      ∙ ap (λ x. done (went (sent o e (world_of q x)))) (sym answers)

  pub counted-collected : IsSound s → IsCounted new
  counted-collected sound = subst IsCounted (sym answers)
      (counted-thread_by (record s { table = table }) a.thread
      (registers_by (answered_two p byte))
      (subst (λ T. IsCounted (record s { table = T })) (sym collects)
      (counted_like s (record s {
        table = record s.table { processes = changed collected_by s.table.processes p };
      })
      (record {
        home = sound.counted.home;
        round = refl;
        room = refl;
        frames = refl;
        uses = refl;
        readers = refl;
        writers = refl;
        processes = ap (map counted_of) (collected_held (world_of 16 s) a.process a.a0 p
            (is_first (call_in (world_of 16 s) a) p status
            (first_of (children_in any_process s.table.processes a.process a.a0))
            (first_of (children_in has_ended s.table.processes a.process a.a0)) is));
      })
      sound.counted)))
