use Rattle.std.proofs.Common.{rules, refl}
use Rattle.group_save.proofs.recording.record_kernel.Goals as goal

pub returns : goal.returns
returns c = record {
  digest_is = refl;
  used_is = refl;
  config_is = refl;
  rounds = refl;
  given = c.threads.ensures;
  processes = c.in_ok-processes.ensures;
  threads = c.in_ok-threads.ensures.threads;
  budgets = c.in_ok-threads.ensures.budgets;
  pipes = c.in_ok-pipes.ensures;
  sleepers = c.in_ok-sleepers.ensures.sleepers;
  few_sleep = c.in_ok-sleepers.ensures.few;
  digest_count = search rules;
  digest_bytes = c.are_bytes.ensures;
  few_used = c.ranges.used.fits;
}
