use Rattle.std.proofs.Common.{List, ℕ, length, ◌++◌, ap, codes}
use Rattle.dos_world.specs.World.{Thread}
use Rattle.kernel_calls.specs.StateWorld.{world_of}
use Rattle.debug_session.specs.Waits.{what_text}
use Rattle.debug_session.specs.Tables.{thread_parts, word_part, saved_part}
use Rattle.debug_answers.proofs.Behind.{put_as, two, two_put}
use Rattle.debug_answers.proofs.tables.put_thread_parts.Goals as goal

pub returns : goal.returns
returns c q =
    let w = world_of q c.args.state.now in
    let thread = c.thread.inside in
    let old = c.args.out.now.items in
    let what = c.put_what.new.out.items in
    let pending = c.put_pending.new.out.items in
    let mask = c.put_mask.new.out.items in
    let all = c.put_saved.new.out.items in
    let about : List ℕ = what_text w thread.process c.args.number in
    let some : List ℕ = word_part (codes "pending") thread.signals.pending in
    let masked : List ℕ = word_part (codes "mask") thread.signals.mask in
    let saved : List ℕ = saved_part (length thread.signals.saved) in
    put_as c.put_saved.result old all _ _
    (ap (λ (t : Thread). thread_parts w c.args.number t) c.thread.view_is)
    (two_put c.put_saved.result old mask all (about ++ some ++ masked) saved
    (two old pending mask (about ++ some) masked
    (two old what pending about some (c.in_ok-put_what.ensures q) c.in_ok-put_pending.ensures)
    c.in_ok-put_mask.ensures)
    c.put_saved.ensures)
