use Rattle.std.proofs.Common.{◌≡◌, ℕ, List, sym, ap, ◌∙◌, subst}
use Rattle.std.specs.Prelude.{filter}
use Rattle.dos_world.specs.World.{Sleeper, belongs_to}
use Rattle.dos_world.specs.Numbered.{numbers_of}
use Rattle.dos_world.specs.Kernel.{is_none_of_these, without_entries}
use Rattle.proc_table.specs.Tables.{Tables, IsProcess, with_ended, held_by}
use Rattle.kernel_calls.specs.Ending.{posted_in}
use Rattle.kernel_calls.specs.StateWorld.{IsSound, sent, world_of}
use Rattle.kernel_calls.specs.declared.state.State.{State}
use Rattle.kernel_calls.proofs.ProcessEnds.{are_used, ends, named, named-count, sound-ended}
use Rattle.kernel_calls.proofs.ProcessEnds.{still_live}
use Rattle.kernel_calls.proofs.ending.end_process.Goals as goal

pub drop_ends-requires-clause-count : goal.drop_ends-requires-clause-count
drop_ends-requires-clause-count c =
    named-count c.args.state.now c.requires.sound c.args.pid c.args.status c.requires.live

pub drop_ends-requires-clause-named : goal.drop_ends-requires-clause-named
drop_ends-requires-clause-named c =
    named c.args.state.now c.requires.sound c.args.pid c.args.status c.requires.live

pub drop_space-requires-clause-used : goal.drop_space-requires-clause-used
drop_space-requires-clause-used c =
    are_used c.args.state.now c.requires.sound c.args.pid c.args.status c.requires.live

pub end_process-requires : goal.end_process-requires
end_process-requires c = subst (λ (T : Tables). IsProcess T.processes c.args.pid)
    (sym c.drop_space.ensures.table)
    (still_live without_entries c.args.state.now.table.processes c.args.pid c.requires.live)

-- the state that is left
left : (c : goal.After-post_ended)
    → ◌≡◌ {A = State} (record c.args.state.now {
      frames = c.drop_space.new.frames;
      table =
          posted_in (with_ended
          (held_by without_entries c.args.state.now.table c.args.pid) c.args.pid
          c.args.status) c.parent-parent.result 17;
      pipes = c.drop_ends.new.pipes;
      futexes = filter
          (is_none_of_these
          (numbers_of (belongs_to c.args.pid) c.args.state.now.table.threads))
          c.args.state.now.futexes;
    })
    (record c.args.state.now {
      frames = c.drop_space.new.frames;
      table = c.post_ended.new.table;
      pipes = c.drop_ends.new.pipes;
      futexes = c.remove_all.new.self;
    })
left c =
    ap (λ (T : Tables). with_table T
    (filter (is_none_of_these
    (numbers_of (belongs_to c.args.pid) c.args.state.now.table.threads))
    c.args.state.now.futexes))
    (sym (c.post_ended.ensures
    ∙ ap (λ T. posted_in T c.parent-parent.result 17)
    (c.end_process.ensures
    ∙ ap (λ T. with_ended T c.args.pid c.args.status) c.drop_space.ensures.table)))
    ∙ ap (with_table c.post_ended.new.table)
    (ap (λ (ts : List ℕ). filter (is_none_of_these ts) c.args.state.now.futexes)
    (sym (c.deref.ensures.0 ∙ c.numbers_of-threads.ensures)) ∙ sym c.remove_all.ensures)
  where
    with_table : Tables → List Sleeper → State
    with_table T q = record c.args.state.now {
      frames = c.drop_space.new.frames;
      table = T;
      pipes =
          c.drop_ends.new.pipes;
      futexes = q;
    }

pub returns-clause-ends : goal.returns-clause-ends
returns-clause-ends c = λ q o e.
    ends c.args.state.now c.requires.sound c.args.pid c.args.status c.requires.live
    c.drop_space.new.frames c.drop_space.ensures.frames c.drop_ends.new.pipes
    c.drop_ends.ensures c.parent-parent.result c.parent-parent.ensures q o e
    ∙ ap (λ (x : State). sent o e (world_of q x)) (left c)

pub returns-clause-sound : goal.returns-clause-sound
returns-clause-sound c = subst IsSound (left c)
    (sound-ended c.args.state.now c.requires.sound c.args.pid c.args.status c.requires.live
    c.drop_space.new.frames c.drop_space.ensures.frames c.drop_ends.new.pipes
    c.drop_ends.ensures c.parent-parent.result c.parent-parent.ensures c.ranges.status.fits)
