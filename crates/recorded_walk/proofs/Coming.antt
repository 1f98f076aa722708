-- How far a track has come.
use Rattle.std.proofs.Common.{ℕ, suc, ◌+◌, ◌≡◌, ◌∙◌, sym, ap, arith, List, [], ◌++◌}
use Rattle.std.proofs.Common.{drop, length, ◌∷◌, ◌≤◌, Option, Some, None}
use Rattle.dos_world.specs.declared.Config.{Config}
use Rattle.debug_session.specs.Recordings.{LogEntry}
use Rattle.elf_image.specs.Image.{Image}
use Rattle.flat_machine.specs.Opening.{opening}
use Rattle.group_moves.specs.Moments.{Moment, first_moment}
use Rattle.group_rounds.specs.Kernels.{Held, kernel_world}
use Rattle.group_walk.specs.Walks.{moment_of}
use Rattle.group_walk.specs.declared.walker.MoveKind.{MoveKind as kind_type}
use Rattle.std.proofs.lemmas.List.{length-append, length-map}
use Rattle.dos_io.specs.declared.exchange.Exchange.TheVariants.{End}
use Rattle.dpg_run.specs.Fits.{asked_and_answered}
use Rattle.log_text.specs.LogText.{Log, exchanges}
use Rattle.shim_log.specs.Replay.{IsReplay, ReplayState, entries_used}
use Rattle.recorded_walk.specs.Following.{entries_left, follow, follow_one, log_entries}
use Rattle.recorded_walk.specs.Tracks.{HasCome, HasStepped, IsOfSameRun, moment_sent}
use Rattle.recorded_walk.specs.declared.track.Track.{Track}

-- where the entries lead behind one move more
pub follow_on : (n limit : ℕ) (entries left : List LogEntry) (first m : Moment)
    → follow n limit entries first ≡ Some (m, left)
    → follow (suc n) limit entries first ≡ follow_one limit left m
follow_on n limit entries left first m is =
    ap (λ (x : Option (Moment × List LogEntry)). elim x [
      | None ↦ None
      | Some (reached, left) ↦ follow_one limit left reached
    ]) is

-- a replayer that was asked nothing yet has all entries left
pub all_left : (p : ReplayState) → entries_used p ≡ 0 → log_entries p.log ≡ entries_left p
all_left p none = ap (λ n. drop n (log_entries p.log)) (sym none)

-- It has used no more than there are.
pub used_few : (p : ReplayState) → IsReplay p → entries_used p ≤ length (log_entries p.log)
used_few p h =
    let all : length (log_entries p.log) ≡ length p.log.entries + 1 =
    length-map (exchanges p.log) asked_and_answered
    ∙ length-append p.log.entries (End p.log.ending p.log.rounds ∷ []) in
    let few = h.few in omega (arith, all, few)

pub used_none : (p : ReplayState) → p.start ≡ 0 → p.answered ≡ 0
    → entries_used p ≤ length (log_entries p.log)
used_none p whole fresh = omega (arith, whole, fresh)

-- A track without a move is at the start.
pub has_begun : (images : List Image) (config : Config) (kernel : Held) (t : Track)
    → kernel_world kernel ≡ opening images config
    → moment_of t.walker ≡ first_moment (kernel_world kernel) → t.shim.start ≡ 0
    → t.shim.answered ≡ 0 → t.moves ≡ 0 → HasCome (first_moment (opening images config)) t
has_begun images config kernel t opened first whole fresh start =
    let none : entries_used t.shim ≡ 0 = omega (arith, whole, fresh) in
    record {
      output = [];
      error = [];
      is = ap (λ n. follow n t.walker.config.rounds (log_entries t.shim.log)
          (first_moment (opening images config))) start
          ∙ ap (λ (m : Moment). Some (m, log_entries t.shim.log))
          (ap first_moment (sym opened) ∙ sym first)
          ∙ ap (λ es. Some (moment_sent t.walker [] [], es)) (all_left t.shim none);
    }

-- A move more leads on.
pub moved_is : (first : Moment) (kind : kind_type) (old new : Track)
    → HasStepped (Some kind) old new → IsOfSameRun old new → (come : HasCome first old)
    → follow new.moves new.walker.config.rounds (log_entries new.shim.log) first
    ≡ Some (
      moment_sent new.walker (come.output ++ new.out.bytes.items)
          (come.error ++ new.err.bytes.items),
      entries_left new.shim,
    )
moved_is first kind old new stepped same come =
    let one : new.moves ≡ suc old.moves = (let more = stepped.0 in omega (arith, more)) in
    ap (λ (l : Log). follow new.moves new.walker.config.rounds (log_entries l) first) same.log
    ∙ ap (λ (c : Config). follow new.moves c.rounds (log_entries old.shim.log) first) same.config
    ∙ ap (λ n. follow n old.walker.config.rounds (log_entries old.shim.log) first) one
    ∙ follow_on old.moves old.walker.config.rounds (log_entries old.shim.log)
    (entries_left old.shim) first (moment_sent old.walker come.output come.error) come.is
    ∙ stepped.2 come.output come.error

pub has_moved_on : (first : Moment) (kind : kind_type) (old new : Track)
    → HasStepped (Some kind) old new → IsOfSameRun old new → HasCome first old → HasCome first new
has_moved_on first kind old new stepped same come =
    record {
      output = come.output ++ new.out.bytes.items;
      error = come.error ++ new.err.bytes.items;
      is = moved_is first kind old new stepped same come;
    }

pub same_run_on : (t u v : Track) → IsOfSameRun t u → IsOfSameRun u v → IsOfSameRun t v
same_run_on t u v h k = record {
  log = k.log ∙ h.log;
  start = k.start ∙ h.start;
  config = k.config ∙ h.config;
}
