use Rattle.std.proofs.Common.{sym, subst}
use Rattle.proc_table.specs.Tables.{Tables, IsLiveThread}
use Rattle.kernel_calls.specs.StateWorld.{IsCounted}
use Rattle.kernel_calls.proofs.Changed.{thread_stands}
use Rattle.kernel_calls.proofs.Counted.{counted-threads}
use Rattle.kernel_calls.proofs.threads.thread_new.Goals as goal

pub reply-requires : goal.reply-requires
reply-requires c = record {
  live = subst (λ (T : Tables). IsLiveThread T.threads c.args.asked.now.thread)
      (sym c.in-Ok.ensures.begins)
      (thread_stands c.args.state.now.table.threads _ c.args.asked.now.thread
      c.requires.asked.live);
}

pub returns-in-Ok-clause-counted : goal.returns-in-Ok-clause-counted
returns-in-Ok-clause-counted c =
    c.reply.ensures.counted
    (subst (λ (T : Tables). IsCounted (record c.args.state.now { table = T }))
    (sym c.in-Ok.ensures.begins)
    (counted-threads c.args.state.now _ c.requires.sound.counted))

pub returns-in-Err-clause-counted : goal.returns-in-Err-clause-counted
returns-in-Err-clause-counted c =
    c.refuse_call-in-Err.ensures.counted
    (subst (λ (T : Tables). IsCounted (record c.args.state.now { table = T }))
    (sym c.in-Err.ensures.full.2) c.requires.sound.counted)
