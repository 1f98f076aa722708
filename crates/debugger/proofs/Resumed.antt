-- What a packet that resumes comes to, by the calls that make it.
use Rattle.std.proofs.Common.{◌≡◌, ◌∙◌, ◌++◌, ◌∷◌, ℕ, List, [], map, Option, Some, None, false}
use Rattle.std.proofs.Common.{true}
use Rattle.std.proofs.Common.{ap, append_assoc, cond, refl, subst, sym, Bool}
use Rattle.std.specs.Prelude.{◌&&◌, if◌then◌else◌}
use Rattle.std.proofs.lemmas.Bool.{eqb-true}
use Rattle.std.proofs.lemmas.List.{map-append}
use Rattle.gdb_packets.specs.declared.resumptions.Resumption.{Resumption}
use Rattle.debug_session.specs.Actions.{thread_named}
use Rattle.debug_session.specs.Connections.{reply_text}
use Rattle.debug_session.specs.Goals.{halt_gone}
use Rattle.debug_session.specs.Halts.{Halt, halt_at, halted_session, puts_from}
use Rattle.debug_session.specs.Homes.{is_some_number}
use Rattle.debug_session.specs.Positions.{Position, position_after}
use Rattle.debug_session.specs.Resuming.{Answered, console, halt_of, halted, is_step, owed_to}
use Rattle.debug_session.specs.Resuming.{Reply, halt_or, packet, puts_told}
use Rattle.debug_session.specs.Sessions.{Session, home_pair}
use Rattle.debug_session.specs.Stops.{console_text, stop_text}
use Rattle.debug_session.specs.declared.stops.Cause.TheVariants.{Plainly}
use Rattle.recorded_walk.specs.Playbacks.{IsStartOf}
use Rattle.debug_client.specs.Births.{BirthTables, has_home, has_named, knows_named}
use Rattle.std.proofs.lemmas.Bool.{and_parts}
use Rattle.debugger.specs.declared.forwards.Put.{Put}
use Rattle.debugger.specs.declared.halts.Halt.{Halt as Kept}
use Rattle.debugger.specs.declared.resuming.Direction.{Direction}
use Rattle.debugger.specs.Halting.{goes, halt_meant, puts_before, resumed_by}
use Rattle.debugger.specs.Standing.{IsAsked, IsSame, IsSameRun, SessionView, IsSessionOf, here}
use Rattle.debugger.specs.Standing.{session_at}
use Rattle.debugger.proofs.Pathway.{puts_none}
use Rattle.debugger.proofs.Lasting.{asked_on, shown_asked, shown_at, start_on}

reply_console : (bs : List (List ℕ)) → map reply_text (map console bs) ≡ map console_text bs
reply_console [] = refl
reply_console (b ∷ bs) = ap (λ (cs : List (List ℕ)). console_text b ∷ cs) (reply_console bs)

module _ (old mid gone new : SessionView) (rs : List Resumption) (direction : Direction)
    (s : Session) (kept : Kept) (puts : List Put) (before told after : List (List ℕ))
    (text : List ℕ) (shows : IsSessionOf old s) (known : IsSame old mid)
    (moves : mid.playback.moves ≡ old.playback.moves) (came : IsSame mid gone)
    (halt_is : (start : Position) (x : Session) → IsStartOf mid.playback start
    → IsAsked mid start x → x.position ≡ here mid start
    → (halt_of x rs (goes x rs direction) ≡ halt_meant x rs start kept)
    × (map console (puts_before kept.moves puts) ≡ puts_told x (halt_meant x rs start kept)))
    (tells : told ≡ before ++ map console_text (puts_before kept.moves puts))
    (halted_is : (start : Position) (x : Session) → IsStartOf gone.playback start
    → IsAsked gone start x
    → (session_at new (here new start) ≡ halted_session x (halt_meant x rs start kept))
    × (text ≡ stop_text (halt_meant x rs start kept).stop))
    (run : IsSameRun gone new) (running : new.failed ≡ false)
    (put : after ≡ told ++ text ∷ []) where
  abbrev start : Position
  start = shows.start

  start_mid : IsStartOf mid.playback start
  start_mid = start_on old mid known.run start shows.start_is

  start_gone : IsStartOf gone.playback start
  start_gone = start_on mid gone came.run start start_mid

  asked_mid : IsAsked mid start s
  asked_mid = asked_on old mid known start s (shown_asked old s shows)

  asked_gone : IsAsked gone start s
  asked_gone = asked_on mid gone came start s asked_mid

  there : s.position ≡ here mid start
  there = shown_at old s shows ∙ ap (λ n. position_after n start) (sym moves)

  found : (halt_of s rs (goes s rs direction) ≡ halt_meant s rs start kept)
      × (map console (puts_before kept.moves puts) ≡ puts_told s (halt_meant s rs start kept))
  found = halt_is start s start_mid asked_mid there

  stops : (session_at new (here new start) ≡ halted_session s (halt_meant s rs start kept))
      × (text ≡ stop_text (halt_meant s rs start kept).stop)
  stops = halted_is start s start_gone asked_gone

  said : after ≡ before ++ map reply_text (halted s (halt_meant s rs start kept)).1
  said =
      let stop : List (List ℕ) = stop_text (halt_meant s rs start kept).stop ∷ [] in
      let bytes : List (List ℕ) = puts_before kept.moves puts in
      put
      ∙ ap (λ (ts : List (List ℕ)). ts ++ text ∷ []) tells
      ∙ append_assoc before (map console_text bytes) (text ∷ [])
      ∙ ap (λ (t : List ℕ). before ++ (map console_text bytes ++ t ∷ [])) stops.1
      ∙ ap (λ (ts : List (List ℕ)). before ++ (ts ++ stop)) (sym (reply_console bytes))
      ∙ ap (λ (xs : List Reply). before ++ (map reply_text xs ++ stop)) found.1
      ∙ ap (λ (ts : List (List ℕ)). before ++ ts)
      (sym (map-append reply_text (puts_told s (halt_meant s rs start kept))
      (packet (stop_text (halt_meant s rs start kept).stop) ∷ [])))

  pub resumes_so : IsSessionOf new (resumed_by s rs direction).0
      × (after ≡ before ++ map reply_text (resumed_by s rs direction).1)
  resumes_so =
      subst (λ (x : Answered). IsSessionOf new x.0 × (after ≡ before ++ map reply_text x.1))
      (sym (ap (halted s) found.0)) (
        record {
          running = running;
          start = start;
          start_is = start_on gone new run start start_gone;
          is = sym stops.0;
        },
        said,
      )

-- ---- a step that is owed

some_is : (t : ℕ) (o : Option ℕ) → is_some_number t o ≡ true → o ≡ Some t
some_is t None is = cc
some_is t (Some k) is = ap (λ n. Some n) (sym (eqb-true t k is))

-- The thread whose step is owed is one that a resumption names.
pub owed_known : (b : BirthTables) (owed : Option ℕ) (rs : List Resumption) (t : ℕ)
    → owed_to owed rs ≡ Some t → knows_named b rs ≡ true → has_home b t ≡ true
owed_known b None rs t is known = cc
owed_known b (Some u) [] t is known = cc
owed_known b (Some u) (r ∷ rs) t is known =
    by (is_step r.action && is_some_number u (thread_named r.threads)) refl is
  where
    by : (x : Bool) → (is_step r.action && is_some_number u (thread_named r.threads)) ≡ x
        → (if x then Some u else None) ≡ Some t → has_home b t ≡ true
    by true holds some =
        let same : u ≡ t = cc in
        let names : thread_named r.threads ≡ Some t =
        some_is u (thread_named r.threads) (and_parts (is_step r.action)
        (is_some_number u (thread_named r.threads)) holds).1 ∙ ap (λ n. Some n) same in
        ap (has_named b) (sym names)
        ∙ (and_parts (has_named b (thread_named r.threads)) (knows_named b rs) known).0
    by false fails none = cc

-- ---- where a session halts

module _ (s : Session) (rs : List Resumption) (other : Halt) where
  pub of_goal : (round made : ℕ) → s.goal ≡ Some (round, made)
      → halt_of s rs other ≡ halt_gone s rs round made
  of_goal round made is =
      ap (λ (g : Option (ℕ × ℕ)). halt_or s rs g (owed_to s.owed rs) other) is

  pub of_owed : (t : ℕ) → s.goal ≡ None → owed_to s.owed rs ≡ Some t
      → halt_of s rs other ≡ halt_at s.position (home_pair s t) Plainly
  of_owed t none is =
      ap (λ (g : Option (ℕ × ℕ)). halt_or s rs g (owed_to s.owed rs) other) none
      ∙ ap (λ (o : Option ℕ). halt_or s rs None o other) is

  pub of_other : s.goal ≡ None → owed_to s.owed rs ≡ None → halt_of s rs other ≡ other
  of_other none is =
      ap (λ (g : Option (ℕ × ℕ)). halt_or s rs g (owed_to s.owed rs) other) none
      ∙ ap (λ (o : Option ℕ). halt_or s rs None o other) is

module _ (s : Session) (halt : Halt) where
  abbrev told_by : Option (ℕ × ℕ) → List Reply
  told_by g = elim g [
    | Some goal ↦ []
    | None ↦ map console (puts_from s.position halt.position)
  ]

  pub told_goal : (goal : ℕ × ℕ) → s.goal ≡ Some goal → puts_told s halt ≡ []
  told_goal goal is = ap told_by is

  pub told_way : s.goal ≡ None
      → puts_told s halt ≡ map console (puts_from s.position halt.position)
  told_way none = ap told_by none
