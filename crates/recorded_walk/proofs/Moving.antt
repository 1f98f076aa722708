-- What a move by the answers of a replayer leads to.
use Rattle.std.proofs.Common.{ℕ, ◌+◌, ◌≡◌, ◌≢◌, sym, ap, ◌∙◌, subst, List, [], ◌∷◌, ◌++◌}
use Rattle.std.proofs.Common.{map, Option, Some, None, append_assoc, ap₂, arith, length, min}
use Rattle.std.specs.Prelude.{IsSome, IfSome}
use Rattle.std.proofs.lemmas.List.{append_cancel_left, drop-map, length-append, length-take}
use Rattle.std.proofs.lemmas.List.{map-append}
use Rattle.dos_world.specs.World.{World}
use Rattle.dos_world.specs.declared.Config.{Config}
use Rattle.dos_io.specs.Shims.{ShimState}
use Rattle.dos_world.specs.Play.{Play, done, ask}
use Rattle.dos_world.specs.declared.Question.{Question}
use Rattle.dos_io.specs.Borders.{BorderState, exchanges_of, bytes_to}
use Rattle.dos_io.specs.Exchanges.{question_of}
use Rattle.dos_io.specs.declared.border.Stream.TheVariants.{Output, Error}
use Rattle.dos_io.specs.declared.exchange.Exchange.{Exchange}
use Rattle.dos_io.specs.declared.shim.ShimStop.{ShimStop}
use Rattle.dos_io.specs.declared.shim.ShimStop.TheVariants as shim_stops
use Rattle.dos_world.specs.declared.Misfit.{Misfit}
use Rattle.dos_io.specs.Outside.{grown}
use Rattle.flat_machine.specs.Fits.{first_misfit}
use Rattle.group_rounds.proofs.PlayLaws.{goes-exchanges}
use Rattle.group_moves.specs.Moments.{Moment, kind_at}
use Rattle.group_walk.specs.Plays.{moved}
use Rattle.group_walk.specs.Walks.{Walk, moment_in}
use Rattle.kernel_calls.specs.Plays.{PlaysOn, StopsAsking, StopsIn, sent_then, stopper}
use Rattle.kernel_calls.specs.declared.state.RunStop.{RunStop}
use Rattle.kernel_calls.specs.declared.state.RunStop.TheVariants as stops
use Rattle.kernel_calls.specs.StateWorld.{sent, world_of}
use Rattle.log_text.specs.LogText.{Log, exchanges, exchanges_from}
use Rattle.shim_log.specs.Replay.{FollowsLog, IsMisfitOf, IsReplay, ReplayState, StandsNext}
use Rattle.shim_log.specs.Replay.{entries_used, replayer_state}
use Rattle.shim_log.proofs.ReplayLaws.{goes_on, stands_next}
use Rattle.dpg_run.specs.Fits.{asked_and_answered}
use Rattle.debug_session.specs.Recordings.{LogEntry, followed}
use Rattle.recorded_walk.specs.Following.{entries_left}
use Rattle.recorded_walk.specs.Tracks.{MisfitsBy, MovesNowhere, MovesOnTo, moment_sent}
use Rattle.recorded_walk.proofs.FollowLaws.{follow_moved, followed_on, misfit_moved}
use Rattle.recorded_walk.proofs.FollowLaws.{misfit_on, misfits_here, not_followed}

-- what is said of a question and a stop, where they are known
stops_so : (asked : Option Question) (last : Option ShimStop) (question : Question)
    (stop : ShimStop) (P : Question → ShimStop → Type 0) → asked ≡ Some question → last ≡ Some stop
    → IfSome asked (λ q. IfSome last (P q)) → P question stop
stops_so asked last question stop P at so h =
    subst (λ (o : Option ShimStop). IfSome o (P question)) so
    (subst (λ (o : Option Question). IfSome o (λ q. IfSome last (P q))) at h)

-- ---- the entries of a replayer

-- the entries that are left are those of the exchanges that are left
left_are : (p : ReplayState)
    → entries_left p ≡ map asked_and_answered (exchanges_from (entries_used p) p.log)
left_are p = drop-map asked_and_answered (entries_used p) (exchanges p.log)

-- What is left is the entries of what was told since, and then what is left later.
pub left_behind_told : (s t : ReplayState) (more : List Exchange) → FollowsLog s t
    → (replayer_state t).told ≡ (replayer_state s).told ++ more
    → entries_left s ≡ map asked_and_answered more ++ entries_left t
left_behind_told s t more follows told =
    left_are s ∙ ap (map asked_and_answered) rest
    ∙ map-append asked_and_answered more (exchanges_from (entries_used t) t.log)
    ∙ ap (λ es. map asked_and_answered more ++ es) (sym (left_are t))
  where
    same : exchanges_from t.start t.log ≡ exchanges_from s.start s.log
    same = ap (λ n. exchanges_from n t.log) follows.start_same
        ∙ ap (λ (l : Log). exchanges_from s.start l) follows.log_same

    before : List Exchange
    before = (replayer_state s).told

    rest : exchanges_from (entries_used s) s.log ≡ more ++ exchanges_from (entries_used t) t.log
    rest =
        append_cancel_left before (exchanges_from (entries_used s) s.log)
        (more ++ exchanges_from (entries_used t) t.log)
        (sym (goes_on s) ∙ sym same ∙ goes_on t
        ∙ ap (λ es. es ++ exchanges_from (entries_used t) t.log) told
        ∙ append_assoc before more (exchanges_from (entries_used t) t.log))

-- Where it stopped by a misfit, the next entry that is left is of another question.
pub record IsAnother (p : ReplayState) (asked kept : Question) : Type 0 where
  pub next : Exchange
  pub behind : List LogEntry
  pub is : entries_left p ≡ asked_and_answered next ∷ behind
  pub question : question_of next ≡ kept
  pub other : question_of next ≢ asked

pub is_another : (p : ReplayState) (asked : Question) (stop : ShimStop)
    (misfit : IsMisfitOf p asked stop) → IsAnother p asked misfit.kept
is_another p asked stop misfit =
    let stands : StandsNext p misfit.kept = stands_next p asked stop misfit in
    let told : List Exchange = (replayer_state p).told in
    let rest : exchanges_from (entries_used p) p.log ≡ stands.next ∷ stands.behind =
    append_cancel_left told (exchanges_from (entries_used p) p.log) (stands.next ∷ stands.behind)
    (sym (goes_on p) ∙ stands.log_is) in
    record {
      next = stands.next;
      behind = map asked_and_answered stands.behind;
      is = left_are p ∙ ap (map asked_and_answered) rest;
      question = stands.question;
      other = λ eq. misfit.differ (sym stands.question ∙ eq);
    }

-- a misfit by which a shim stopped
found_is : (found other : Misfit) → shim_stops.Misfit found ≡ shim_stops.Misfit other
    → found ≡ other
found_is found other is = cc

-- As many entries more are used as were told since.
used_more : (s t : ReplayState) (more : List Exchange) (asked : Question) (stop : ShimStop)
    → FollowsLog s t → (replayer_state t).told ≡ (replayer_state s).told ++ more
    → IsMisfitOf t asked stop → entries_used t ≡ entries_used s + length more
used_more s t more asked stop follows told misfit =
    let stands : StandsNext t misfit.kept = stands_next t asked stop misfit in
    let same : exchanges_from t.start t.log ≡ exchanges_from s.start s.log =
    ap (λ n. exchanges_from n t.log) follows.start_same
    ∙ ap (λ (l : Log). exchanges_from s.start l) follows.log_same in
    let within : min t.answered (length (exchanges_from t.start t.log)) ≡ t.answered =
    sym (length-take t.answered (exchanges_from t.start t.log)) ∙ stands.count in
    let fewer : min s.answered (length (exchanges_from t.start t.log))
    ≡ length (replayer_state s).told =
    ap (λ (es : List Exchange). min s.answered (length es)) same
    ∙ sym (length-take s.answered (exchanges_from s.start s.log)) in
    let sum : t.answered ≡ length (replayer_state s).told + length more =
    sym stands.count ∙ ap length told ∙ length-append (replayer_state s).told more in
    let start = follows.start_same in
    let later = follows.answered_more in
    omega (arith, within, fewer, sum, start, later)

-- ---- moves

module _ (old : Walk) (s t : ReplayState) (before after : BorderState)
    (is_before : before.shim ≡ replayer_state s) (is_after : after.shim ≡ replayer_state t)
    (follows : FollowsLog s t)
    (next : (o e : List ℕ) → IsSome (kind_at old.config.rounds (moment_sent old o e))) where
  -- what the move's play is in a world
  abbrev played : World → Play Moment
  played w = moved old.config.rounds (moment_in old w)

  told_more : (more : List Exchange) → after.shim.told ≡ before.shim.told ++ more
      → (replayer_state t).told ≡ (replayer_state s).told ++ more
  told_more more h =
      ap (λ (x : ShimState). x.told) (sym is_after) ∙ h
      ∙ ap (λ (x : ShimState). x.told ++ more) is_before

  -- it leads to where the walk stands then
  pub moves_on : (new : Walk) → new.config ≡ old.config
      → PlaysOn old.config.quantum played old.state before (λ w. done (moment_in new w)) new.state
      after
      → (output error : List ℕ) → before.output ≡ Some [] → before.error ≡ Some []
      → after.output ≡ Some output → after.error ≡ Some error
      → MovesOnTo old s new t output error
  moves_on new config h output error no_output no_error put_output put_error o e =
      follow_moved old.config.rounds (entries_left s) (moment_sent old o e) (next o e)
      ∙ ap (λ es. followed es (played (sent o e (world_of old.config.quantum old.state))))
      (left_behind_told s t (exchanges_of h.crossings) follows
      (told_more (exchanges_of h.crossings) h.tells.exchanges))
      ∙ followed_on (exchanges_of h.crossings) (entries_left t)
      (played (sent o e (world_of old.config.quantum old.state)))
      (done (moment_in new (sent_then h.crossings o e (world_of old.config.quantum new.state))))
      (goes-exchanges o e h.crossings _ _ (h.goes o e))
      ∙ ap₂ (λ (x y : List ℕ). Some (
        moment_in new (sent (o ++ x) (e ++ y) (world_of old.config.quantum new.state)),
        entries_left t,
      )) out_are err_are
      ∙ ap (λ (c : Config). Some (
        moment_in new (sent (o ++ output) (e ++ error) (world_of c.quantum new.state)),
        entries_left t,
      )) (sym config)
    where
      bytes_are : (b : Option (List ℕ)) (a put : List ℕ) → b ≡ Some [] → Some a ≡ grown b put
          → put ≡ a
      bytes_are None a put none is = absurd cc
      bytes_are (Some b) a put none is = cc

      out_are : bytes_to Output h.crossings ≡ output
      out_are = bytes_are before.output output (bytes_to Output h.crossings) no_output
          (sym put_output ∙ h.tells.bytes Output)

      err_are : bytes_to Error h.crossings ≡ error
      err_are = bytes_are before.error error (bytes_to Error h.crossings) no_error
          (sym put_error ∙ h.tells.bytes Error)

  -- where the replayer stopped, it leads nowhere
  pub moves_nowhere : (why : ShimStop) → IsReplay t
      → StopsAsking old.config.quantum played why old.state before after
      → MovesNowhere old s
  moves_nowhere why kept h o e =
      follow_moved old.config.rounds (entries_left s) (moment_sent old o e) (next o e)
      ∙ ap (λ es. followed es (played (sent o e (world_of old.config.quantum old.state))))
      (left_behind_told s t (exchanges_of h.crossings) follows
      (told_more (exchanges_of h.crossings) h.tells.exchanges))
      ∙ followed_on (exchanges_of h.crossings) (entries_left t)
      (played (sent o e (world_of old.config.quantum old.state)))
      (ask h.question (o ++ bytes_to Output h.crossings) (e ++ bytes_to Error h.crossings)
      (h.goes o e).0)
      (goes-exchanges o e h.crossings _ _ (h.goes o e).1)
      ∙ ap (λ es. followed es (ask h.question (o ++ bytes_to Output h.crossings)
      (e ++ bytes_to Error h.crossings) (h.goes o e).0)) another.is
      ∙ not_followed another.next another.behind h.question (o ++ bytes_to Output h.crossings)
      (e ++ bytes_to Error h.crossings) (h.goes o e).0 another.other
    where
      misfit : IsMisfitOf t h.question why
      misfit = stops_so t.asked t.last h.question why (IsMisfitOf t)
          (ap (λ (x : ShimState). x.asked) (sym is_after) ∙ h.asked)
          (ap (λ (x : ShimState). x.last) (sym is_after) ∙ h.fails.last) kept.stop

      another : IsAnother t h.question misfit.kept
      another = is_another t h.question why misfit

  -- and by this misfit
  pub misfits : (found : Misfit) → IsReplay t
      → StopsAsking old.config.quantum played (shim_stops.Misfit found) old.state before after
      → MisfitsBy found old s
  misfits found kept h o e =
      misfit_moved old.config.rounds (entries_used s) (entries_left s) (moment_sent old o e)
      (next o e)
      ∙ ap (λ es. first_misfit (entries_used s) es
      (played (sent o e (world_of old.config.quantum old.state))))
      (left_behind_told s t (exchanges_of h.crossings) follows
      (told_more (exchanges_of h.crossings) h.tells.exchanges))
      ∙ misfit_on (entries_used s) (entries_used t) (exchanges_of h.crossings) (entries_left t)
      (played (sent o e (world_of old.config.quantum old.state))) asking
      (used_more s t (exchanges_of h.crossings) h.question (shim_stops.Misfit found) follows
      (told_more (exchanges_of h.crossings) h.tells.exchanges) misfit)
      (goes-exchanges o e h.crossings _ _ (h.goes o e).1)
      ∙ ap (λ es. first_misfit (entries_used t) es asking) another.is
      ∙ misfits_here (entries_used t) another.next another.behind h.question
      (o ++ bytes_to Output h.crossings) (e ++ bytes_to Error h.crossings) (h.goes o e).0
      another.other
      ∙ ap (λ (q : Question).
      Some (record { entry = entries_used t; kept = q; asked = h.question }))
      another.question
      ∙ ap Some (sym (found_is found _ misfit.says))
    where
      misfit : IsMisfitOf t h.question (shim_stops.Misfit found)
      misfit = stops_so t.asked t.last h.question (shim_stops.Misfit found) (IsMisfitOf t)
          (ap (λ (x : ShimState). x.asked) (sym is_after) ∙ h.asked)
          (ap (λ (x : ShimState). x.last) (sym is_after) ∙ h.fails.last) kept.stop

      another : IsAnother t h.question misfit.kept
      another = is_another t h.question (shim_stops.Misfit found) misfit

      asking : Play Moment
      asking = ask h.question (o ++ bytes_to Output h.crossings) (e ++ bytes_to Error h.crossings)
          (h.goes o e).0

  pub misfits_by : (stop : RunStop) (found : Misfit) → stop ≡ stops.Misfit found
      → IsReplay t
      → StopsIn old.config.quantum (λ (m : Moment). m.world) played (stopper stop) old.state before
      after
      → MisfitsBy found old s
  misfits_by stop found is kept h =
      misfits found kept
      (subst (λ (x : RunStop). StopsIn old.config.quantum (λ (m : Moment). m.world) played
      (stopper x) old.state before after) is h)

  -- the same of a run's stop
  pub moves_nowhere_by : (stop : RunStop) (found : Misfit) → stop ≡ stops.Misfit found
      → IsReplay t
      → StopsIn old.config.quantum (λ (m : Moment). m.world) played (stopper stop) old.state before
      after
      → MovesNowhere old s
  moves_nowhere_by stop found is kept h =
      moves_nowhere (shim_stops.Misfit found) kept
      (subst (λ (x : RunStop). StopsIn old.config.quantum (λ (m : Moment). m.world) played
      (stopper x) old.state before after) is h)
