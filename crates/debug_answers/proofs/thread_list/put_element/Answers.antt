use Rattle.std.proofs.Common.{List, ℕ, ◌++◌, codes}
use Rattle.kernel_calls.specs.StateWorld.{world_of}
use Rattle.debug_session.specs.Stops.{pair_text}
use Rattle.debug_session.specs.Waits.{what_text}
use Rattle.debug_answers.proofs.Behind.{two, two_put}
use Rattle.debug_answers.proofs.thread_list.put_element.Goals as goal

pub returns : goal.returns
returns c q =
    let pair = c.args.pair in
    let old = c.args.out.now.items in
    let begun = c.put_opening.new.out.items in
    let told = c.put_what.new.out.items in
    let all = c.put_text.new.out.items in
    let opening : List ℕ = codes "<thread id=\"" ++ pair_text pair ++ codes "\">" in
    let what : List ℕ = what_text (world_of q c.args.state.now) pair.0 pair.1 in
    two_put c.put_text.result old told all (opening ++ what) (codes "</thread>")
    (two old begun told opening what c.in_ok-put_opening.ensures (c.in_ok-put_what.ensures q))
    c.put_text.ensures
