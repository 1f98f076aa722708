-- Moves of a walk, one after another, over a state's calls.
use Rattle.std.proofs.Common.{ℕ, suc, ◌≤◌, ◌≡◌, refl, sym, ap, ◌∙◌, subst}
use Rattle.std.proofs.Common.{List, ◌++◌, None, arith}
use Rattle.dos_world.specs.Play.{done, gives, over}
use Rattle.dos_world.specs.declared.Config.{Config}
use Rattle.dos_io.specs.Borders.{BorderState, bytes_to, exchanges_of}
use Rattle.dos_io.specs.declared.border.Stream.TheVariants.{Output, Error}
use Rattle.group_moves.specs.Moments.{Moment, kind_at}
use Rattle.kernel_calls.specs.Plays.{PlaysOn, Stopper, StopsIn, sent_then}
use Rattle.kernel_calls.specs.StateWorld.{sent, world_of}
use Rattle.kernel_calls.proofs.Playing.{plays_and, plays_behind, plays_still, stops_after}
use Rattle.kernel_calls.proofs.Playing.{stops_before}
use Rattle.group_rounds.proofs.PlayLaws.{goes-exchanges, goes-over_more}
use Rattle.group_rounds.proofs.WorkLaws.{since_more}
use Rattle.group_rounds.specs.Rounds.{answers_since}
use Rattle.group_walk.specs.Plays.{moved, walked}
use Rattle.group_walk.specs.Walks.{HasWalked, Walk, moment_in, world_there}
use Rattle.group_walk.proofs.WalkFronts.{fronts_walked}
use Rattle.group_walk.proofs.Walking.{walked_over, walked_stays}

-- So many moves from where a walk stood are played as far as where it stands now, with some left.
abbrev pub WalksOn : (config : Config) → (moves left : ℕ) → (old now : Walk)
    → (before after : BorderState) → Type 0
WalksOn config moves left old now before after =
    PlaysOn config.quantum (λ w. walked moves config.rounds (moment_in old w)) old.state before
    (λ w. walked left config.rounds (moment_in now w)) now.state after

-- They are played to their end.
abbrev pub WalksTo : (config : Config) → (moves : ℕ) → (old now : Walk)
    → (before after : BorderState) → Type 0
WalksTo config moves old now before after =
    PlaysOn config.quantum (λ w. walked moves config.rounds (moment_in old w)) old.state before
    (λ w. done (moment_in now w)) now.state after

pub walks_nothing : (config : Config) (moves : ℕ) (walk : Walk) (b : BorderState)
    → WalksOn config moves moves walk walk b b
walks_nothing config moves walk b =
    plays_still config.quantum (λ w. walked moves config.rounds (moment_in walk w))
    (λ w. walked moves config.rounds (moment_in walk w)) walk.state walk.state b (λ o e. refl)

module _ (config : Config) (moves left : ℕ) (old now : Walk) (before between : BorderState)
    (is : now.config ≡ config) (so_far : WalksOn config moves left old now before between) where
  -- no move is left
  pub walks_all : left ≤ 0 → WalksTo config moves old now before between
  walks_all none =
      let nothing : left ≡ 0 = omega (arith, none) in
      subst (λ n. WalksOn config moves n old now before between) nothing so_far

  -- no move is next
  pub walks_short : ((o e : List ℕ)
      → kind_at now.config.rounds (moment_in now (world_there now o e)) ≡ None)
      → WalksTo config moves old now before between
  walks_short none =
      plays_and config.quantum (λ w. walked moves config.rounds (moment_in old w))
      (λ w. walked left config.rounds (moment_in now w)) (λ w. done (moment_in now w)) old.state
      now.state now.state before between between so_far
      (plays_still config.quantum (λ w. walked left config.rounds (moment_in now w))
      (λ w. done (moment_in now w)) now.state now.state between
      (λ o e. walked_stays left config.rounds
      (moment_in now (sent o e (world_of config.quantum now.state)))
      (subst (λ (k : Config). kind_at k.rounds
      (moment_in now (sent o e (world_of k.quantum now.state))) ≡ None) is (none o e))))

  module _ (later : ℕ) (one : left ≡ suc later) where
    more : WalksOn config moves (suc later) old now before between
    more = subst (λ n. WalksOn config moves n old now before between) one so_far

    -- a move more
    pub walks_more : (new : Walk) (after : BorderState)
        → PlaysOn now.config.quantum (λ w. moved now.config.rounds (moment_in now w)) now.state
        between (λ w. done (moment_in new w)) new.state after
        → WalksOn config moves later old new before after
    walks_more new after h =
        plays_and config.quantum (λ w. walked moves config.rounds (moment_in old w))
        (λ w. walked (suc later) config.rounds (moment_in now w))
        (λ w. walked later config.rounds (moment_in new w)) old.state now.state new.state before
        between after more
        (plays_behind config.quantum (λ w. moved config.rounds (moment_in now w))
        (λ w. done (moment_in new w)) (λ next. walked later config.rounds next) now.state
        new.state between after
        (subst (λ (k : Config). PlaysOn k.quantum (λ w. moved k.rounds (moment_in now w))
        now.state between (λ w. done (moment_in new w)) new.state after) is h))

    -- a move that stops
    pub walks_stop : (by : Stopper) (after : BorderState)
        → StopsIn now.config.quantum (λ (m : Moment). m.world)
        (λ w. moved now.config.rounds (moment_in now w)) by now.state between after
        → StopsIn config.quantum (λ (m : Moment). m.world)
        (λ w. walked moves config.rounds (moment_in old w)) by old.state before after
    walks_stop by after h =
        stops_after config.quantum (λ (m : Moment). m.world)
        (λ w. walked moves config.rounds (moment_in old w))
        (λ w. walked (suc later) config.rounds (moment_in now w)) old.state now.state before
        between after by more
        (stops_before config.quantum (λ (m : Moment). m.world) (λ (m : Moment). m.world)
        (λ w. moved config.rounds (moment_in now w)) (λ next. walked later config.rounds next)
        now.state between after
        (λ o e m out err. fronts_walked o e later config.rounds m out err) by
        (subst (λ (k : Config). StopsIn k.quantum (λ (m : Moment). m.world)
        (λ w. moved k.rounds (moment_in now w)) by now.state between after) is h))

-- ---- the moment to which they lead

pub walks_there : (moves : ℕ) (old new : Walk) (before after : BorderState)
    → new.config ≡ old.config → WalksTo old.config moves old new before after
    → HasWalked moves old new before after
walks_there moves old new before after is h o e = (
  o ++ bytes_to Output h.crossings,
  e ++ bytes_to Error h.crossings,
  λ more.
      let limit = old.config.rounds in
      let m : Moment = moment_in old (world_there old o e) in
      let w = sent_then h.crossings o e (world_of old.config.quantum new.state) in
      sym (walked_over moves limit (answers_since before.shim.told after.shim.told ++ more) m)
      ∙ ap (λ answers. over (answers ++ more) (walked moves limit m))
      (since_more before.shim.told after.shim.told (exchanges_of h.crossings) h.tells.exchanges)
      ∙ goes-over_more (exchanges_of h.crossings) more (walked moves limit m)
      (done (moment_in new w))
      (goes-exchanges o e h.crossings (walked moves limit m) (done (moment_in new w)) (h.goes o e))
      ∙ ap (λ (k : Config). gives (moment_in new
      (sent_then h.crossings o e (world_of k.quantum new.state))) more) (sym is),
)

-- one move leads to the next moment
pub move_there : (old new : Walk) (before after : BorderState) → new.config ≡ old.config
    → PlaysOn old.config.quantum (λ w. moved old.config.rounds (moment_in old w)) old.state before
    (λ w. done (moment_in new w)) new.state after
    → HasWalked 1 old new before after
move_there old new before after is h =
    walks_there 1 old new before after is
    (walks_more old.config 1 1 old old before before refl (walks_nothing old.config 1 old before) 0
    refl new after h)
