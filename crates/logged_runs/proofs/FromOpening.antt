-- A run of a kernel in which no round was run is one of its images.
use Rattle.std.proofs.Common.{ℕ, ◌-◌, ◌≡◌, refl, sym, ap, ◌∙◌, subst, List, [], ◌∷◌, ◌++◌, map}
use Rattle.std.proofs.Common.{Option}
use Rattle.dos_world.specs.Play.{Play, over, questions, asks}
use Rattle.dos_world.specs.World.{World}
use Rattle.dos_world.specs.declared.Config.{Config}
use Rattle.dos_world.specs.declared.Ending.{Ending}
use Rattle.dos_world.specs.declared.Question.{Question}
use Rattle.dos_io.specs.Exchanges.{question_of, answer_of}
use Rattle.dos_io.specs.Shims.{HasNoEnd}
use Rattle.dos_io.specs.declared.exchange.Exchange.{Exchange}
use Rattle.dos_io.specs.declared.exchange.Exchange.TheVariants.{End}
use Rattle.elf_image.specs.Image.{Image}
use Rattle.flat_machine.specs.Opening.{opening}
use Rattle.group_rounds.specs.Plays.{GoesOn}
use Rattle.group_rounds.specs.Rounds.{answers_since}
use Rattle.group_rounds.specs.StatePlays.{telling, ToldMore}
use Rattle.group_rounds.specs.Kernels.{Held, kernel_world}
use Rattle.worker_pool.specs.Ran.{GrewBy}
use Rattle.dpg_run.specs.Fits.{FitsFrom}
use Rattle.dpg_run.specs.Work.{group_work, work_from}
use Rattle.flat_machine.specs.Machine.{Finish, Seen, ends, machine_from, rounds_from, run_from}
use Rattle.flat_machine.specs.Machine.{status_in}
use Rattle.dpg_run.specs.GroupRuns.{AreEnded, AreFronts, CutGroup, RanGroup, StoppedGroup}
use Rattle.logged_runs.specs.Opened.{IsOpenedWith}
use Rattle.logged_runs.specs.Runs.{Ended, Halted, RanAhead, RanUntil, RanWhole}
use Rattle.logged_runs.proofs.FromWorld.{halted_cut, halted_so, ran_from, ran_from_ahead}
use Rattle.logged_runs.proofs.FromWorld.{ran_from_until, work_since}
use Rattle.logged_runs.proofs.RoundsAsk.{no_end_before, rounds_never}

-- ---- what is told has its end

has_end : (es : List Exchange) (ending : Ending) (rounds : ℕ)
    → HasNoEnd (es ++ End ending rounds ∷ []) → ⊥
has_end [] ending rounds h = h
has_end (End other count ∷ es) ending rounds h = h
has_end (e ∷ es) ending rounds h = has_end es ending rounds h

pub is_told : (ending : Ending) (rounds : ℕ) (told : List Exchange) → AreEnded ending rounds told
    → HasNoEnd told → ⊥
is_told ending rounds told ended none =
    has_end ended.before ending rounds (subst HasNoEnd ended.told_is none)

-- ---- from the kernel's world to the opening

-- The shim had told nothing before.
module _ (k : Held) (before told : List Exchange) (o e o1 e1 : Option (List ℕ))
    (fresh : before ≡ []) (images : List Image) (config : Config)
    (opened : IsOpenedWith k images config) where
  all_new : told ≡ before ++ told
  all_new = ap (λ es. es ++ told) (sym fresh)

  -- it came to its end
  pub ran_whole : (k' : Held) (ending : Ending) (tally tally' work : ℕ)
      → RanGroup k.config k.state (telling before o e) ending k'.state (telling told o1 e1) work
      → GrewBy tally tally' work
      → (seen : Seen) × RanWhole images config told seen
      × Ended k' ending seen o e o1 e1 tally tally'
  ran_whole = ran_from k before told told o e o1 e1 all_new (opening images config) config
      opened.world opened.config_is

  -- it came to a question
  pub ran_until : (asked : Option Question)
      (run : StoppedGroup k.config k.state (telling before o e) (telling told o1 e1) asked)
      → RanUntil images config told run.question run.more.output run.more.error
  ran_until = ran_from_until k before told told o e o1 e1 all_new (opening images config) config
      opened.world opened.config_is

  -- after so much work
  pub counted_since : (tally tally' : ℕ) → GrewBy tally tally' (work_from (kernel_world k) k.config
      (answers_since before told)) → GrewBy tally tally' (group_work images config
      (map answer_of told))
  counted_since = work_since k before told told o e o1 e1 all_new (opening images config) config
      opened.world opened.config_is

  pub halted_until : (asked : Option Question)
      (run : StoppedGroup k.config k.state (telling before o e) (telling told o1 e1) asked)
      (tally tally' : ℕ) → GrewBy tally tally' (work_from (kernel_world k) k.config
      (answers_since before told))
      → Halted o e o1 e1 tally tally' run.more.output run.more.error (group_work images config
      (map answer_of told))
  halted_until = halted_so k before told told o e o1 e1 all_new (opening images config) config
      opened.world opened.config_is

  -- and was told no end by then
  pub until_no_end : (question : Question) (output error : List ℕ)
      → RanUntil images config told question output error → HasNoEnd told
  until_no_end question output error ran =
      no_end_before told question (rounds_from (opening images config) config)
      (rounds_never config.scheme (config.rounds - (opening images config).rounds)
      (opening images config) 0)
      ran.asked

  -- it was cut off
  pub ran_ahead :
      (cut : CutGroup k.config k.state (telling before o e) (telling told o1 e1))
      → RanAhead images config told cut.more.output cut.more.error
  ran_ahead = ran_from_ahead k before told told o e o1 e1 all_new (opening images config) config
      opened.world opened.config_is

  pub halted_ahead : (cut : CutGroup k.config k.state (telling before o e) (telling told o1 e1))
      (tally tally' : ℕ) → GrewBy tally tally' (work_from (kernel_world k) k.config
      (answers_since before told))
      → Halted o e o1 e1 tally tally' cut.more.output cut.more.error (group_work images config
      (map answer_of told))
  halted_ahead = halted_cut k before told told o e o1 e1 all_new (opening images config) config
      opened.world opened.config_is
