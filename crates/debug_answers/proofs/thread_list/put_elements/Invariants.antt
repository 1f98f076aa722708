use Rattle.std.proofs.Common.{◌≡◌, ◌++◌, ℕ, drop, flat_map}
use Rattle.kernel_calls.specs.StateWorld.{world_of}
use Rattle.debug_session.specs.Lists.{thread_element}
use Rattle.debug_answers.proofs.thread_list.put_elements.Given as goal

abbrev pub invariant-loop-i : goal.invariant-loop-i
invariant-loop-i l = (q : ℕ)
    → l.out.items ++ flat_map (thread_element (world_of q l.state)) (drop l.i l.pairs)
    ≡ l.fn.out.items ++ flat_map (thread_element (world_of q l.state)) l.pairs
