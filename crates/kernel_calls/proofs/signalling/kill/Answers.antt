use Rattle.std.proofs.Common.{◌==◌, ◌∙◌, sym, ap, subst}
use Rattle.dos_world.specs.Kernel.{pending_with}
use Rattle.proc_table.specs.Tables.{Tables, IsLiveThread}
use Rattle.kernel_calls.proofs.Changed.{lives_still}
use Rattle.kernel_calls.proofs.Counted.{all_counted, counted-table}
use Rattle.kernel_calls.proofs.Signalled.{post_counted, post_keeps, post_room}
use Rattle.kernel_calls.proofs.signalling.kill.Goals as goal

pub reply-requires : goal.reply-requires
reply-requires c = record {
  live = subst (λ (T : Tables). IsLiveThread T.threads c.args.asked.now.thread)
      (sym c.post_some.ensures)
      (post_keeps (λ T. IsLiveThread T.threads c.args.asked.now.thread) c.args.state.now.table
      c.args.asked.now.a0 c.args.asked.now.a1 (c.args.asked.now.a1 == 0) c.requires.asked.live
      (λ u. lives_still (pending_with c.args.asked.now.a1) c.args.state.now.table.threads u
      c.args.asked.now.thread c.requires.asked.live));
}

pub returns-clause-counted : goal.returns-clause-counted
returns-clause-counted c = counted-table c.args.state.now c.reply.new.state _
    c.requires.sound.counted c.reply.ensures.answers
    (ap (λ (T : Tables). all_counted T.processes) c.post_some.ensures
    ∙ post_counted c.args.state.now.table c.args.asked.now.a0 c.args.asked.now.a1
    (c.args.asked.now.a1 == 0))
    (ap (λ (T : Tables). T.room) c.post_some.ensures
    ∙ post_room c.args.state.now.table c.args.asked.now.a0 c.args.asked.now.a1
    (c.args.asked.now.a1 == 0))
