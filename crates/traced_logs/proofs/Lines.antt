-- The lines of a run over a replayer that was asked nothing before.
use Rattle.std.proofs.Common.{◌≡◌, ℕ, sym, ap, ◌∙◌, subst, List, [], ◌++◌, map, Option}
use Rattle.std.proofs.Common.{None, take}
use Rattle.dos_world.specs.World.{World}
use Rattle.dos_world.specs.declared.Config.{Config}
use Rattle.dos_world.specs.declared.Scheme.TheVariants.{Ownership}
use Rattle.dos_io.specs.Exchanges.{answer_of}
use Rattle.dos_io.specs.Outside.{grown, GrewByFront}
use Rattle.dos_io.specs.Shims.{HasNoEnd}
use Rattle.dos_io.specs.declared.exchange.Exchange.{Exchange}
use Rattle.elf_image.specs.Image.{Image}
use Rattle.flat_machine.specs.Opening.{opening}
use Rattle.dpg_run.specs.Work.{group_work}
use Rattle.group_rounds.specs.Kernels.{Held, kernel_world}
use Rattle.worker_pool.specs.Ran.{GrewBy}
use Rattle.logged_runs.specs.Opened.{IsOpenedWith}
use Rattle.logged_runs.specs.Replaying.{config_of}
use Rattle.logged_runs.proofs.FromOpening.{counted_since}
use Rattle.page_trace.specs.Lines.{change_lines}
use Rattle.page_trace.specs.Trace.{trace}
use Rattle.page_trace.specs.Tracing.{Counts, TracesBy, TracesFront, trace_lines, traced}
use Rattle.log_text.specs.LogText.{Log, exchanges, exchanges_from}
use Rattle.log_text.specs.Ranges.{FitsLog}
use Rattle.shim_log.specs.Replay.{ReplayState, replayer_state}
use Rattle.shim_log.proofs.ReplayLaws.{ends_whole}
use Rattle.traced_logs.specs.TracedLogs.{TracedAhead, first_log_lines, group_lines, log_lines}

-- ---- from the kernel's world to the opening

module _ (k : Held) (images : List Image) (config : Config) (opened : IsOpenedWith k images config)
    (before told : List Exchange) (l l' : Option (List ℕ)) (fresh : before ≡ []) where
  of_group : (es : List Exchange) → told ≡ before ++ es
      → trace_lines k.config k.state (map answer_of es) ≡ group_lines images config told
  of_group es is =
      ap (λ (w : World). change_lines (trace w k.config (map answer_of es))) opened.world
      ∙ ap (λ (c : Config). change_lines (trace (opening images config) c (map answer_of es)))
      opened.config_is
      ∙ ap (group_lines images config) (sym (is ∙ ap (λ xs. xs ++ es) fresh))

  lines_grew : TracesBy (trace_lines k.config k.state) (traced before l) (traced told l')
      → l' ≡ grown l (group_lines images config told)
  lines_grew h = h.lines_are ∙ ap (grown l) (of_group h.exchanges h.told_is)

  lines_front : TracesFront (trace_lines k.config k.state) (traced before l) (traced told l')
      → GrewByFront l l' (group_lines images config told)
  lines_front h =
      subst (λ xs. GrewByFront l l' xs) (of_group h.exchanges h.told_is) h.front

-- ---- the log that the replayer was made of

module _ (k : Held) (before : List Exchange) (fresh : before ≡ []) (p : ReplayState) (log : Log)
    (same : p.log ≡ log) (first : p.start ≡ 0) (images : List Image)
    (opened : IsOpenedWith k images (config_of Ownership log.header)) (l l' : Option (List ℕ)) where
  abbrev told : List Exchange
  told = (replayer_state p).told

  told_first : told ≡ take p.answered (exchanges log)
  told_first =
      ap (λ (n : ℕ). take p.answered (exchanges_from n p.log)) first
      ∙ ap (λ (read : Log). take p.answered (exchanges read)) same

  -- all of it
  pub whole_lines : FitsLog log → (HasNoEnd told → ⊥)
      → TracesBy (trace_lines k.config k.state) (traced before l) (traced told l')
      → l' ≡ grown l (log_lines images log)
  whole_lines fits ended h =
      let fits : FitsLog p.log = subst FitsLog (sym same) fits in
      let all : told ≡ exchanges p.log =
      ends_whole p fits ended ∙ ap (λ (n : ℕ). exchanges_from n p.log) first in
      lines_grew k images (config_of Ownership log.header) opened before told l l' fresh h
      ∙ ap (λ es. grown l (group_lines images (config_of Ownership log.header) es))
      (all ∙ ap exchanges same)

  abbrev lines_over : List Exchange → List ℕ
  lines_over es = group_lines images (config_of Ownership log.header) es

  -- the first ones, as far as the run came
  pub until_lines : (count : ℕ) → count ≡ p.answered
      → TracesBy (trace_lines k.config k.state) (traced before l) (traced told l')
      → l' ≡ grown l (first_log_lines count images log)
  until_lines count at h =
      lines_grew k images (config_of Ownership log.header) opened before told l l' fresh h
      ∙ ap (λ (es : List Exchange). grown l (lines_over es)) told_first
      ∙ ap (λ (n : ℕ). grown l (first_log_lines n images log)) (sym at)

  pub ahead_lines : (t t' : ℕ) → Counts k.config k.state before told t t'
      → TracesFront (trace_lines k.config k.state) (traced before l) (traced told l')
      → TracedAhead images log l l' t t'
  ahead_lines t t' counted h = record {
    answered = p.answered;
    counted = subst (λ (es : List Exchange). GrewBy t t' (group_work images (config_of Ownership
        log.header)
        (map answer_of es))) told_first
        (counted_since k before told None None None None fresh images (config_of Ownership
        log.header) opened
        t t' counted);
    front = subst (λ (es : List Exchange). GrewByFront l l' (lines_over es)) told_first
        (lines_front k images (config_of Ownership log.header) opened before told l l' fresh h);
  }
