-- What is told of a session's moment, by what its state and its client tell.
use Rattle.std.proofs.Common.{◌≡◌, ◌≤◌, ◌∙◌, ℕ, List, Option, false, true, ap, arith, length, refl}
use Rattle.std.proofs.Common.{subst, sym}
use Rattle.std.specs.Prelude.{nat_le}
use Rattle.std.proofs.lemmas.Bool.{le-leb}
use Rattle.dos_world.specs.Numbered.{numbers_of}
use Rattle.dos_world.specs.World.{Process, Thread, World, belongs_to, first_of, first_thread}
use Rattle.dos_world.specs.World.{thread_at}
use Rattle.proc_table.specs.Tables.{thread_in}
use Rattle.group_moves.specs.Moments.{Moment}
use Rattle.kernel_calls.specs.StateWorld.{sent, world_of}
use Rattle.kernel_calls.specs.declared.state.State.{State}
use Rattle.debug_session.specs.Positions.{Position, all_moments}
use Rattle.debug_session.specs.Recordings.{Recording}
use Rattle.debug_session.specs.Sessions.{Session}
use Rattle.recorded_walk.specs.Playbacks.{IsStartOf}
use Rattle.debug_client.specs.Births.{AreBirthsKnown, has_process}
use Rattle.debug_client.specs.Clients.{session_of}
use Rattle.debugger.proofs.Passed.{or_second}
use Rattle.debugger.specs.Standing.{IsAsked, IsSessionReady, SessionView, here, recording_of}
use Rattle.debugger.proofs.Here.{births_asked, world_here}

module _ (seen k : SessionView) (is : seen ≡ k) (kept : seen.failed ≡ false → IsSessionReady seen)
    (running : k.failed ≡ false) where
  ready_seen : IsSessionReady seen
  ready_seen = kept (ap (λ (x : SessionView). x.failed) is ∙ running)

  pub ready_of : IsSessionReady k
  ready_of = subst IsSessionReady is ready_seen

  -- what client and state tell of each session and each world of theirs
  pub seen_by : {A : Type 0} (f : Session → World → A) (result : A) (state : State)
      → state ≡ seen.playback.walk.state
      → ((r : Recording) (at : Position) (q : ℕ) (o e : List ℕ)
      → AreBirthsKnown seen.births (all_moments at)
      → result ≡ f (session_of seen.client r at) (sent o e (world_of q state)))
      → (start : Position) (s : Session) → IsStartOf k.playback start → IsAsked k start s
      → result ≡ f s (here k start).moment.world
  seen_by f result state state_is tells =
      subst (λ (x : SessionView). (start : Position) (s : Session) → IsStartOf x.playback start
      → IsAsked x start s → result ≡ f s (here x start).moment.world) is there
    where
      there : (start : Position) (s : Session) → IsStartOf seen.playback start
          → IsAsked seen start s → result ≡ f s (here seen start).moment.world
      there start s is_start asked =
          let m : Moment = (here seen start).moment in
          let q : ℕ = seen.playback.walk.config.quantum in
          let one : Session = session_of seen.client (recording_of seen) s.position in
          tells (recording_of seen) s.position q m.world.output m.world.error
          (births_asked seen ready_seen start is_start s asked)
          ∙ ap (λ (x : State). f one (sent m.world.output m.world.error (world_of q x))) state_is
          ∙ ap (f one) (sym (world_here seen ready_seen start is_start))
          ∙ ap (λ (x : Session). f x m.world) (sym asked.is)

  -- what is there in the state
  pub world_seen : {A : Type 0} (f : World → A) (g : State → A) (state : State)
      → state ≡ seen.playback.walk.state
      → ((q : ℕ) (o e : List ℕ) (x : State) → f (sent o e (world_of q x)) ≡ g x)
      → (start : Position) → IsStartOf k.playback start
      → f (here k start).moment.world ≡ g state
  world_seen f g state state_is tells =
      subst (λ (x : SessionView). (start : Position) → IsStartOf x.playback start
      → f (here x start).moment.world ≡ g state) is there
    where
      there : (start : Position) → IsStartOf seen.playback start
          → f (here seen start).moment.world ≡ g state
      there start is_start =
          let m : Moment = (here seen start).moment in
          ap f (world_here seen ready_seen start is_start)
          ∙ tells seen.playback.walk.config.quantum m.world.output m.world.error
          seen.playback.walk.state
          ∙ ap g (sym state_is)

  pub threads_seen : (state : State) → state ≡ seen.playback.walk.state
      → (start : Position) → IsStartOf k.playback start
      → (here k start).moment.world.threads ≡ state.table.threads
  threads_seen state state_is =
      world_seen (λ (w : World). w.threads) (λ (x : State). x.table.threads) state state_is
      (λ q o e x. refl)

  pub thread_seen : (state : State) → state ≡ seen.playback.walk.state → (t : ℕ)
      → (start : Position) → IsStartOf k.playback start
      → thread_at (here k start).moment.world t ≡ thread_in state.table.threads t
  thread_seen state state_is t start is_start =
      ap (λ (ts : List (Option Thread)). thread_in ts t)
      (threads_seen state state_is start is_start)

  pub processes_seen : (state : State) → state ≡ seen.playback.walk.state
      → (start : Position) → IsStartOf k.playback start
      → (here k start).moment.world.processes ≡ state.table.processes
  processes_seen state state_is =
      world_seen (λ (w : World). w.processes) (λ (x : State). x.table.processes) state state_is
      (λ q o e x. refl)

  pub begun_seen : (start : Position) → IsStartOf k.playback start
      → (here k start).moment.begun_rounds ≡ seen.playback.walk.begun_rounds
  begun_seen =
      subst (λ (x : SessionView). (start : Position) → IsStartOf x.playback start
      → (here x start).moment.begun_rounds ≡ seen.playback.walk.begun_rounds) is
      (λ start is_start. ap (λ (m : Moment). m.begun_rounds)
      (ready_seen.stands start is_start).moment)

  pub made_seen : (start : Position) → IsStartOf k.playback start
      → (here k start).moment.made ≡ seen.playback.walk.made
  made_seen =
      subst (λ (x : SessionView). (start : Position) → IsStartOf x.playback start
      → (here x start).moment.made ≡ seen.playback.walk.made) is
      (λ start is_start. ap (λ (m : Moment). m.made) (ready_seen.stands start is_start).moment)

  -- the last process that was born is known
  pub process_known : (state : State) → state ≡ seen.playback.walk.state → (child : ℕ)
      → child ≡ length state.table.processes → has_process k.births child ≡ true
  process_known state state_is child last =
      let many : length k.playback.walk.state.table.processes ≤ length k.births.first_threads =
      ready_of.there.first_threads in
      let same : length state.table.processes ≡ length k.playback.walk.state.table.processes =
      ap (λ (x : State). length x.table.processes) state_is
      ∙ ap (λ (x : SessionView). length x.playback.walk.state.table.processes) is in
      or_second k.births.is_whole (nat_le child (length k.births.first_threads))
      (le-leb child (length k.births.first_threads) (omega (arith, many, same, last)))

  -- the thread that a process was born with
  pub first_seen : (state : State) → state ≡ seen.playback.walk.state → (p child : ℕ)
      → p ≡ child → (start : Position) → IsStartOf k.playback start
      → first_thread (here k start).moment.world p
      ≡ first_of (numbers_of (belongs_to child) state.table.threads)
  first_seen state state_is p child same start is_start =
      ap (λ (ts : List (Option Thread)). first_of (numbers_of (belongs_to p) ts))
      (threads_seen state state_is start is_start)
      ∙ ap (λ n. first_of (numbers_of (belongs_to n) state.table.threads)) same
