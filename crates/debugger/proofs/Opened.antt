-- A session at the start of a run.
use Rattle.std.proofs.Common.{◌≡◌, ℕ, suc, ◌+◌, ◌<◌, ◌^◌, List, [], ◌∷◌, length, take}
use Rattle.std.proofs.Common.{true, false, Some, refl, sym, ap, ◌∙◌, subst, arith}
use Rattle.std.specs.Prelude.{slice_get}
use Rattle.std.proofs.lemmas.Bool.{true≢false}
use Rattle.elf_image.specs.Image.{Image}
use Rattle.flat_machine.specs.Opening.{page_count, processes_from}
use Rattle.group_moves.specs.Moments.{Moment}
use Rattle.debug_session.specs.Positions.{Position, all_moments, position_after}
use Rattle.recorded_walk.specs.Laws.{HistoriesStart}
use Rattle.recorded_walk.specs.Playbacks.{IsAtPlace, IsStartOf, Stands}
use Rattle.debug_client.specs.Births.{BirthTables, KnowsBirths, has_processes, no_births}
use Rattle.debug_client.specs.Clients.{ClientView, opening_client}
use Rattle.debug_client.proofs.Laws.{run_within}
use Rattle.debugger.specs.Standing.{IsSessionReady, KnowsUpTo, SessionView}
use Rattle.debugger.proofs.Moments.{count_all, moment_behind_moves, take_one_more}
use Rattle.debugger.proofs.Ready.{NotesNow}

-- each image has a process
count_processes : (frame : ℕ) (images : List Image)
    → length (processes_from frame images) ≡ length images
count_processes frame [] = refl
count_processes frame (image ∷ images) = ap suc (count_processes (frame + page_count image) images)

module _ (starts : HistoriesStart) (k : SessionView) (running : k.playback.failed ≡ false)
    (stands : Stands k.playback) (first : k.playback.moves ≡ 0) (nowhere : k.furthest ≡ 0)
    (b : BirthTables) (notes : NotesNow b k.births k.playback.walk.state)
    (none : b ≡ no_births (length k.names)) (known : KnowsBirths b [])
    (client : k.client ≡ opening_client (length k.names))
    (named : length k.names ≡ length k.playback.images) (few_names : length k.names < 2 ^ 32)
  where
    place : (start : Position) → IsStartOf k.playback start → IsAtPlace k.playback start
    place start is = subst (λ n. IsAtPlace k.playback (position_after n start)) first (stands start
        is)

    knows : (start : Position) → IsStartOf k.playback start → KnowsUpTo k start
    knows start is =
        let count = count_all start in
        let here = place start is in
        let get : slice_get (all_moments start) 0 ≡ Some start.moment =
        moment_behind_moves 0 start (ap (λ (at : Position). at.past) is.is) (omega (arith, count))
        in
        record {
          known = subst (λ n. KnowsBirths k.births (take (n + 1) (all_moments start))) (sym nowhere)
              (subst (KnowsBirths k.births) (sym (take_one_more (all_moments start) 0 start.moment
              get))
              (notes.known [] start.moment k.playback.walk.config.quantum start.moment.world.output
              start.moment.world.error (ap (λ (m : Moment). m.world) here.moment) known));
          few = omega (arith, count, nowhere);
          whole = λ whole. absurd (true≢false (sym whole ∙ notes.whole
              ∙ ap (λ (x : BirthTables). x.is_whole) none));
        }

    processes : length k.playback.walk.state.table.processes ≡ length k.names
    processes =
        let found = starts k.playback.images k.playback.config k.playback.entries in
        let start : Position = found.0 in
        let here = place start found.1 in
        sym (ap (λ (m : Moment). length m.world.processes) here.moment)
        ∙ ap (λ (at : Position). length at.moment.world.processes) found.1.is
        ∙ count_processes 0 k.playback.images ∙ sym named

    pub first_ready : IsSessionReady k
    first_ready = record {
      running = running;
      stands = stands;
      behind = omega (arith, first);
      reach = omega (arith, nowhere);
      births = knows;
      there = notes.there;
      told = (let there = notes.there.first_threads in
          ap (λ (c : ClientView). has_processes k.births c.told) client
          ∙ run_within k.births 1 (length k.names) (omega (arith, there, processes)));
      images = notes.images ∙ ap (λ (x : BirthTables). x.images) none;
      names = few_names;
    }
