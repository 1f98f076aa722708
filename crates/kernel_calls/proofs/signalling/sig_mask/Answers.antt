use Rattle.std.proofs.Common.{sym, ap, subst}
use Rattle.dos_world.specs.SignalCalls.{masked}
use Rattle.proc_table.specs.Tables.{Tables, IsLiveThread}
use Rattle.kernel_calls.proofs.Changed.{lives_changed}
use Rattle.kernel_calls.proofs.Counted.{all_counted, counted-table}
use Rattle.kernel_calls.proofs.signalling.sig_mask.Goals as goal

pub reply-requires : goal.reply-requires
reply-requires c = record {
  live = subst (λ (T : Tables). IsLiveThread T.threads c.args.asked.now.thread)
      (sym c.set_mask.ensures)
      (lives_changed (masked c.args.asked.now.a0) c.args.state.now.table.threads
      c.args.asked.now.thread c.requires.asked.live);
}

pub returns-clause-counted : goal.returns-clause-counted
returns-clause-counted c = counted-table c.args.state.now c.reply.new.state _
    c.requires.sound.counted c.reply.ensures.answers
    (ap (λ (T : Tables). all_counted T.processes) c.set_mask.ensures)
    (ap (λ (T : Tables). T.room) c.set_mask.ensures)
