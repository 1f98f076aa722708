use Rattle.std.proofs.Common.{◌≡◌, ◌≤◌, length}
use Rattle.page_store.specs.Store.{AreMarked}
use Rattle.group_rounds.specs.Kernels.{kernel_marked}
use Rattle.page_trace.specs.Trace.{changes}
use Rattle.page_trace.proofs.Changes.{PutSoFar}
use Rattle.page_trace.proofs.putting.put_changes.Given as goal

-- the lines so far, and the frames that are marked anew
abbrev pub invariant-loop-frame : goal.invariant-loop-frame
invariant-loop-frame g l = record {
  kernel : l.kernel ≡ kernel_marked l.fn.kernel l.kernel.state.frames.marked;
  level : AreMarked l.kernel.state.frames;
  put : PutSoFar l.round l.fn.kernel.state.frames.marked l.kernel.state.frames.marked
      l.kernel.state.frames.owners (g.T.Sink.told l.fn.lines) (g.T.Sink.told l.lines);
  later : g.T.Sink.faults l.fn.lines ≤ g.T.Sink.faults l.lines;
  steady : g.T.Sink.faults l.lines ≡ g.T.Sink.faults l.fn.lines;
}

-- how many changes are left
abbrev pub decreases-loop-frame : goal.decreases-loop-frame
decreases-loop-frame g l =
    length (changes l.round l.kernel.state.frames.marked l.kernel.state.frames.owners)
