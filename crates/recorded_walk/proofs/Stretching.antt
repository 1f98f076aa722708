-- Instructions one after another: where the entries lead over them, and what is ahead then.
use Rattle.std.proofs.Common.{ℕ, zero, suc, ◌+◌, ◌≡◌, ◌∙◌, refl, sym, ap, subst, arith, List}
use Rattle.std.proofs.Common.{◌∷◌, Option, Some, Bool}
use Rattle.std.specs.Prelude.{All}
use Rattle.dos_world.specs.Play.{Play}
use Rattle.dos_world.specs.World.{thread_at}
use Rattle.dos_world.specs.declared.Config.{Config}
use Rattle.debug_session.specs.Positions.{Position, position_after}
use Rattle.debug_session.specs.Recordings.{LogEntry, followed, recorded_from}
use Rattle.elf_image.specs.Image.{Image}
use Rattle.flat_machine.specs.Opening.{opening}
use Rattle.group_moves.specs.Moves.{MoveKind, move_of, runs}
use Rattle.group_moves.specs.Moments.{Moment, first_moment}
use Rattle.group_moves.specs.Places.{Scene}
use Rattle.group_walk.specs.Stretches.{HasGoneOn, IsElsewhere, IsSameGroup, KeepsFrame}
use Rattle.group_walk.specs.Stretches.{GoesManyOn, GoesOneOn}
use Rattle.shim_log.specs.Replay.{ReplayState}
use Rattle.group_walk.specs.Walks.{Walk}
use Rattle.recorded_walk.specs.Following.{entries_left, follow, follow_one, log_entries}
use Rattle.recorded_walk.specs.Playbacks.{AreSilentMoves, IsSilentMove, IsStart, IsStartOf}
use Rattle.recorded_walk.specs.Playbacks.{MovesSilently}
use Rattle.recorded_walk.specs.Tracks.{HasCome, moment_sent}
use Rattle.recorded_walk.specs.declared.track.Track.{Track}
use Rattle.recorded_walk.proofs.Coming.{follow_on}
use Rattle.recorded_walk.proofs.Kept.{there}
use Rattle.recorded_walk.proofs.Places.{IsThere, is_first, is_there, one_by, seen_of}

-- ---- where the entries lead

-- An instruction uses no entry.
pub one_run : (stops kept : List ℕ) (limit t : ℕ) (left : List LogEntry) (m next : Moment)
    → GoesOneOn stops kept limit t m next → follow_one limit left m ≡ Some (next, left)
one_run stops kept limit t left m next run =
    ap (λ (kind : Option MoveKind). one_by limit left m kind
    (followed left (move_of m.world m.place))) run.kind
    ∙ ap (λ (p : Play Scene). one_by limit left m (Some (runs t)) (followed left p)) run.move
    ∙ ap (λ (x : Moment). Some (x, left)) (sym run.behind)

-- Nor do so many.
pub follow_run : (stops kept : List ℕ) (count limit t n : ℕ) (entries left : List LogEntry)
    (first m last : Moment) → follow n limit entries first ≡ Some (m, left)
    → GoesManyOn stops kept count limit t m last
    → follow (n + count) limit entries first ≡ Some (last, left)
follow_run stops kept zero limit t n entries left first m last is run =
    let same : n + 0 ≡ n = omega arith in
    ap (λ k. follow k limit entries first) same ∙ is
    ∙ ap (λ (x : Moment). Some (x, left)) (sym run)
follow_run stops kept (suc count) limit t n entries left first m last is (next, one, rest) =
    let same : n + suc count ≡ suc n + count = omega arith in
    ap (λ k. follow k limit entries first) same
    ∙ follow_run stops kept count limit t (suc n) entries left first next last
    (follow_on n limit entries left first m is ∙ one_run stops kept limit t left m next one) rest

-- ---- a track

-- where no move was made
pub has_not_run : (stops kept : List ℕ) (old new : Walk) → new ≡ old
    → HasGoneOn stops kept 0 old new
has_not_run stops kept old new same =
    subst (HasGoneOn stops kept 0 old) (sym same) (record { thread = 0; runs = λ o e. refl })

-- It stands where the instructions lead, with the same bytes sent and the same entries left.
pub come_run : (first : Moment) (stops kept : List ℕ) (count : ℕ) (old new : Track)
    → HasGoneOn stops kept count old.walker new.walker → new.walker.config ≡ old.walker.config
    → new.shim ≡ old.shim → new.moves ≡ old.moves + count → HasCome first old
    → HasCome first new
come_run first stops kept count old new run config shim moves come =
    record {
      output = come.output;
      error = come.error;
      is = ap (λ (p : ReplayState). follow new.moves new.walker.config.rounds (log_entries p.log)
          first) shim
          ∙ ap (λ (c : Config). follow new.moves c.rounds (log_entries old.shim.log) first) config
          ∙ ap (λ n. follow n old.walker.config.rounds (log_entries old.shim.log) first) moves
          ∙ follow_run stops kept count old.walker.config.rounds run.thread old.moves
          (log_entries old.shim.log) (entries_left old.shim) first
          (moment_sent old.walker come.output come.error)
          (moment_sent new.walker come.output come.error) come.is
          (run.runs come.output come.error)
          ∙ ap (λ (p : ReplayState). Some (
            moment_sent new.walker come.output come.error,
            entries_left p,
          )) (sym shim);
    }

-- ---- what is ahead

some_same : (a b : MoveKind) → ◌≡◌ {A = Option MoveKind} (Some a) (Some b) → a ≡ b
some_same a b is = cc

module _ (images : List Image) (config : Config) (entries : List LogEntry) (start : Position)
    (is_start : IsStart images config entries start) (stops kept : List ℕ) (t : ℕ) where
  -- one instruction
  is_silent : (n : ℕ) (m next : Moment) (left : List LogEntry)
      → IsThere images config entries start is_start n m left
      → GoesOneOn stops kept config.rounds t m next
      → IsSilentMove stops kept t (position_after n start)
  is_silent n m next left here run =
      let step = is_first config.rounds left m next left
      (one_run stops kept config.rounds t left m next run) in
      let kind : step.kind ≡ runs t = some_same step.kind (runs t) (sym step.is ∙ run.kind) in
      let more : is_start.most + 1 ≡ suc is_start.most = omega arith in
      record {
        next = next;
        later = recorded_from is_start.most config.rounds left next;
        ahead = here.future 1 ∙ ap (λ k. recorded_from k config.rounds left m) more
            ∙ step.moves is_start.most
            ∙ ap (λ k. (k, next) ∷ recorded_from is_start.most config.rounds left next) kind;
        elsewhere = subst (λ (x : Moment). IsElsewhere stops (thread_at x.world t))
            (sym here.moment) run.elsewhere;
        same = subst (λ (x : Moment). IsSameGroup x.world next.world) (sym here.moment) run.same;
        keeps = subst (λ (x : Moment). All (KeepsFrame x.world next.world) kept) (sym here.moment)
            run.keeps;
        round = ap (λ (x : Moment). x.begun_rounds) run.behind
            ∙ ap (λ (x : Moment). x.begun_rounds) (sym here.moment);
        made = ap (λ (x : Moment). x.made) run.behind
            ∙ ap (λ (x : Moment). suc x.made) (sym here.moment);
      }

  -- so many
  pub are_silent : (count n : ℕ) (m last : Moment) (left : List LogEntry)
      → follow n config.rounds entries (first_moment (opening images config)) ≡ Some (m, left)
      → GoesManyOn stops kept count config.rounds t m last
      → AreSilentMoves stops kept count t (position_after n start)
  are_silent zero n m last left is run = tt
  are_silent (suc count) n m last left is (next, one, rest) = (
    is_silent n m next left (is_there images config entries start is_start n m left is) one,
    are_silent count (suc n) next last left
        (follow_on n config.rounds entries left (first_moment (opening images config)) m is
        ∙ one_run stops kept config.rounds t left m next one) rest,
  )

-- what is seen of a track
pub runs_silently : (images : List Image) (config : Config) (old new : Track) (reached : ℕ)
    (failed : Bool) (stops kept : List ℕ) (count : ℕ)
    → HasCome (first_moment (opening images config)) old → old.walker.config ≡ config
    → HasGoneOn stops kept count old.walker new.walker → (start : Position)
    → IsStartOf (seen_of images config old reached failed) start
    → MovesSilently stops kept count (position_after old.moves start)
runs_silently images config old new reached failed stops kept count come same run start is_start =
    record {
      thread = run.thread;
      silent = are_silent images config (log_entries old.shim.log) start is_start stops kept
          run.thread count old.moves (moment_sent old.walker come.output come.error)
          (moment_sent new.walker come.output come.error) (entries_left old.shim)
          (there images config old same come)
          (subst (λ (c : Config). GoesManyOn stops kept count c.rounds run.thread
          (moment_sent old.walker come.output come.error)
          (moment_sent new.walker come.output come.error)) same
          (run.runs come.output come.error));
    }
