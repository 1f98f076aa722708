-- What a call of a service does: which play it plays, over what crosses the border. This project's
-- own words.
use Rattle.std.specs.Prelude.{◌≡◌, ℕ, List, [], ◌∷◌, ◌++◌, map, Some, Result, All}
use Rattle.std.specs.Prelude.{IfOk, IfErr, ⊤}
use Rattle.dos_world.specs.World.{World}
use Rattle.dos_world.specs.Play.{Answer, Outcome, Play, done, ask, over, gives, asks}
use Rattle.dos_world.specs.Services.{Served as FlatServed, went}
use Rattle.dos_world.specs.declared.Question.{Question}
use Rattle.dos_world.specs.declared.Question.TheVariants.{Signals, Input, Clock, End}
use Rattle.dos_io.specs.Borders.{BorderState, BorderStands, BreaksAt, Crossing, StopsAt, Tells}
use Rattle.dos_io.specs.Borders.{ShimFails, SinkFails, bytes_to, exchanged, exchanges_of, going_to}
use Rattle.dos_io.specs.Borders.{put}
use Rattle.dos_io.specs.Outside.{IsFront}
use Rattle.dos_io.specs.Exchanges.{answer_of, question_of}
use Rattle.dos_io.specs.Shims.{HasNoEnd}
use Rattle.dos_io.specs.declared.border.Stream.{Stream}
use Rattle.dos_io.specs.declared.border.Stream.TheVariants.{Output, Error}
use Rattle.dos_io.specs.declared.shim.ShimStop.{ShimStop}
use Rattle.dos_io.specs.declared.shim.ShimStop.TheVariants.{HostFault as host_fault}
use Rattle.dos_io.specs.declared.shim.ShimStop.TheVariants.{LogFull as log_full, Misfit as misfit}
use Rattle.dos_io.specs.declared.shim.ShimStop.TheVariants.{Memory as memory}
use Rattle.dos_laws.specs.Standing.{IsFit}
use Rattle.page_store.specs.Store.{KeepsFrames}
use Rattle.proc_table.specs.Tables.{Tables}
use Rattle.kernel_calls.specs.StateWorld.{IsSound, sent, way_in, world_of}
use Rattle.kernel_calls.specs.declared.state.State.{State}
use Rattle.kernel_calls.specs.declared.state.Served.{Served}
use Rattle.kernel_calls.specs.declared.state.RunStop.{RunStop}
use Rattle.kernel_calls.specs.declared.state.RunStop.TheVariants.{HostFault, LogFull, Misfit}
use Rattle.kernel_calls.specs.declared.state.RunStop.TheVariants.{OutFault, ErrFault, Memory}

-- ---- plays over crossings

-- With these bytes sent to output and error before, a play asks exactly what was asked in these
-- crossings, one after another, each once the bytes before it were put, and their answers leave
-- that other play.
abbrev pub GoesOver : {A : Type 0} → (output error : List ℕ) → List Crossing → Play A → Play A
    → Type 0
GoesOver o e [] play left = play ≡ left
GoesOver o e (exchanged x ∷ cs) (done a) left = ⊥
GoesOver o e (exchanged x ∷ cs) (ask question output error next) left =
    (question ≡ question_of x) × (output ≡ o) × (error ≡ e)
    × GoesOver o e cs (next (answer_of x)) left
GoesOver o e (put stream bytes ∷ cs) play left =
    GoesOver (o ++ going_to Output stream bytes) (e ++ going_to Error stream bytes) cs play left

-- the world with these bytes sent so far, and then those that crossed
abbrev pub sent_then : List Crossing → (output error : List ℕ) → World → World
sent_then cs o e w = sent (o ++ bytes_to Output cs) (e ++ bytes_to Error cs) w

-- ---- who stops a run

-- the shim, which stops so, or a sink, which fails
pub data Stopper : Type 0 where
  by_shim : ShimStop → Stopper
  by_sink : Stream → Stopper

abbrev pub stopper : RunStop → Stopper
stopper HostFault = by_shim host_fault
stopper LogFull = by_shim log_full
stopper (Misfit m) = by_shim (misfit m)
stopper Memory = by_shim memory
stopper OutFault = by_sink Output
stopper ErrFault = by_sink Error

-- the run isn't over with what was asked
abbrev pub IsBeforeEnd : Question → Type 0
IsBeforeEnd (Signals round) = ⊤
IsBeforeEnd (Input round tid max) = ⊤
IsBeforeEnd (Clock round tid) = ⊤
IsBeforeEnd (End ending rounds) = ⊥

-- ---- plays

-- From the world of the old state, with any bytes sent before, a play goes over crossings on to
-- what is left of it in the world of the new state, with the bytes sent before and those that
-- crossed. Nothing failed, and the run wasn't told to be over.
pub record PlaysOn {A : Type 0} (q : ℕ) (play : World → Play A) (old : State)
    (before : BorderState) (left : World → Play A) (new : State) (after : BorderState) : Type 0
  where
    pub crossings : List Crossing
    pub tells : Tells before crossings after
    pub stands : BorderStands before after
    pub running : HasNoEnd (exchanges_of crossings)
    pub goes : (o e : List ℕ)
        → GoesOver o e crossings (play (sent o e (world_of q old)))
        (left (sent_then crossings o e (world_of q new)))

-- The shim stopped at a question to which the play has come.
pub record StopsAsking {A : Type 0} (q : ℕ) (play : World → Play A) (why : ShimStop) (old : State)
    (before after : BorderState) : Type 0 where
  pub crossings : List Crossing
  pub tells : Tells before crossings after
  pub fails : ShimFails before why after
  pub question : Question
  pub running : IsBeforeEnd question
  pub asked : after.shim.asked ≡ Some question
  pub goes : (o e : List ℕ) → (next : Answer → Play A)
      × GoesOver o e crossings (play (sent o e (world_of q old)))
      (ask question (o ++ bytes_to Output crossings) (e ++ bytes_to Error crossings) next)

-- These are fronts of what a play has sent to output and to error: in the world where it gives
-- something, or by then where it needs an answer.
abbrev pub AreFrontsOf : {A : Type 0} → (A → World) → (output error : List ℕ) → Outcome A → Type 0
AreFrontsOf world output error (gives a rest) =
    IsFront output (world a).output × IsFront error (world a).error
AreFrontsOf world output error (asks question all_output all_error) =
    IsFront output all_output × IsFront error all_error

-- A sink failed, and cut the play off, which would go on and send what the last bytes that crossed
-- are a front of.
pub record IsCutOff {A : Type 0} (q : ℕ) (world : A → World) (play : World → Play A)
    (stream : Stream) (old : State) (before after : BorderState) : Type 0 where
  pub crossings : List Crossing
  pub tells : Tells before crossings after
  pub fails : SinkFails before stream after
  pub goes : (o e : List ℕ) → (left : Play A)
      × GoesOver o e crossings (play (sent o e (world_of q old))) left
      × AreFrontsOf world (o ++ bytes_to Output crossings) (e ++ bytes_to Error crossings)
      (over [] left)

abbrev pub StopsIn : {A : Type 0} → ℕ → (A → World) → (World → Play A) → Stopper → State
    → (before after : BorderState) → Type 0
StopsIn q world play (by_shim why) old before after = StopsAsking q play why old before after
StopsIn q world play (by_sink stream) old before after = IsCutOff q world play stream old before
    after

-- The call plays this play: on to what is left of it, by the answer; or to the question at which
-- the shim stopped; or a sink cut it off.
pub record Plays {T A : Type 0} (q : ℕ) (world : A → World) (play : World → Play A)
    (left : T → World → Play A) (result : Result T RunStop) (old : State) (before : BorderState)
    (new : State) (after : BorderState) : Type 0 where
  pub goes : IfOk result (λ x. PlaysOn q play old before (left x) new after)
  pub stops : IfErr result (λ stop. StopsIn q world play (stopper stop) old before after)

-- What the old state's world becomes is the new one's, as f says, whatever bytes were sent; and it
-- stays sound, in its round, of as many frames and marked as before.
pub record Becomes (f : World → World) (old new : State) : Type 0 where
  pub becomes : (q : ℕ) (o e : List ℕ) → f (sent o e (world_of q old)) ≡ sent o e (world_of q new)
  pub sound : IsSound new
  pub round : new.round ≡ old.round
  pub frames : KeepsFrames old.frames new.frames

-- ---- services

-- From the world of the old state, with any bytes sent before, a play goes over these crossings,
-- whose answers fit and of which none is the end, and on this way: in the world of the new state,
-- with the bytes sent before and those that crossed. Nothing failed.
pub record Answers (play : World → Play FlatServed) (old : State) (before : BorderState)
    (way : Served) (new : State) (after : BorderState) : Type 0 where
  pub crossings : List Crossing
  pub tells : Tells before crossings after
  pub stands : BorderStands before after
  pub fits : All IsFit (map answer_of (exchanges_of crossings))
  pub running : HasNoEnd (exchanges_of crossings)
  pub goes : (q : ℕ) (o e : List ℕ)
      → GoesOver o e crossings (play (sent o e (world_of q old)))
      (done (way_in way (sent_then crossings o e (world_of q new))))

-- The shim stopped at the play's first question, and nothing has crossed.
pub record AsksFirst (play : World → Play FlatServed) (old : State) (before : BorderState)
    (stop : ShimStop) (after : BorderState) : Type 0 where
  pub question : Question
  pub running : IsBeforeEnd question
  pub asks : (q : ℕ) (o e : List ℕ) → over [] (play (sent o e (world_of q old))) ≡ asks question o e
  pub stopped : StopsAt before question stop after

-- the world with these bytes more sent to a stream
abbrev pub with_more : Stream → List ℕ → World → World
with_more Output bytes w = record w { output = w.output ++ bytes }
with_more Error bytes w = record w { error = w.error ++ bytes }

-- A sink failed in a play that goes on and sends these bytes to it: a front of them has crossed,
-- and nothing else. The world in which the play goes on is the new state's, but for the table, in
-- which the caller has its answer. So the new state's owners are those of that world: the old ones,
-- with the grants of what was read.
pub record FaultsIn (stream : Stream) (play : World → Play FlatServed) (old : State)
    (before : BorderState) (new : State) (after : BorderState) : Type 0 where
  pub bytes : List ℕ
  pub breaks : BreaksAt before stream bytes after
  pub table : Tables
  pub goes : (q : ℕ) (o e : List ℕ) → over [] (play (sent o e (world_of q old)))
      ≡ gives
      (went (with_more stream bytes (sent o e (world_of q (record new { table = table }))))) []

abbrev pub StopsBy : Stopper → (World → Play FlatServed) → State → BorderState → State
    → BorderState → Type 0
StopsBy (by_shim stop) play old before new after = AsksFirst play old before stop after
StopsBy (by_sink stream) play old before new after = FaultsIn stream play old before new after

-- A call of a service plays this play: to its end, from which the thread goes on this way; or to
-- the question at which the shim stopped; or a sink cut it off.
pub record PlaysOnce (play : World → Play FlatServed) (result : Result Served RunStop)
    (old : State) (before : BorderState) (new : State) (after : BorderState) : Type 0 where
  pub ends : IfOk result (λ way. Answers play old before way new after)
  pub stops : IfErr result (λ stop. StopsBy (stopper stop) play old before new after)
