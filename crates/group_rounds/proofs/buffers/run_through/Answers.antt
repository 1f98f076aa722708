use Rattle.std.proofs.Common.{◌≡◌, ◌∙◌, ap, sym, subst}
use Rattle.flat_machine.specs.Buffered.{Part, part}
use Rattle.dos_laws.specs.Taken.{IsPartIn}
use Rattle.proc_table.specs.Tables.{IsLiveThread}
use Rattle.quantum_run.specs.Packs.{words_held}
use Rattle.quantum_run.specs.Shows.{Pack}
use Rattle.kernel_calls.proofs.PutWords.{part-sound}
use Rattle.worker_pool.specs.Ran.{HasRun}
use Rattle.group_rounds.specs.Buffers.{part_in}
use Rattle.group_rounds.specs.Handing.{view_of}
use Rattle.group_rounds.proofs.buffers.run_through.Goals as goal

pub set_run-requires : goal.set_run-requires
set_run-requires c =
    let s = c.args.state.now in
    let p = c.run_pack_through.new.pack in
    let e = c.run_pack_through.ensures in
    let ran : HasRun (view_of s.frames s.table) c.args.pack.now p = record {
      finished = e.finished;
      thread = e.thread;
      process = e.process;
      frames = e.frames;
      budget = e.budget;
      room = e.room;
    } in
    subst (λ t. IsLiveThread s.table.threads t) (sym c.tid.ensures) (c.requires.part p ran).live

pub returns-clause-sound : goal.returns-clause-sound
returns-clause-sound c =
    let s = c.args.state.now in
    let p : Pack = c.run_pack_through.new.pack in
    let e = c.run_pack_through.ensures in
    let count = c.count-count.ensures in
    let ran : HasRun (view_of s.frames s.table) c.args.pack.now p = record {
      finished = e.finished;
      thread = e.thread;
      process = e.process;
      frames = e.frames;
      budget = e.budget;
      room = e.room;
    } in
    let same : part_in p ≡ part c.regs.result.now c.budget.result (words_held p) =
    ap (λ r. part r p.budget (words_held p)) (sym c.regs.ensures)
    ∙ ap (λ b. part c.regs.result.now b (words_held p)) (sym c.budget.ensures) in
    part-sound s c.set_run.new.self c.run_pack_through.new.frames c.tid.result c.budget.result
    c.regs.result.now (words_held p) c.set_run.ensures
    (record {
      home = record { home = e.home; owners = sym count.owners ∙ count.pages };
      owners = e.owners;
      uses = e.uses;
      marked = e.marked;
    }) e.puts
    (subst (λ (x : Part). IsPartIn s.frames.owners x) same (c.requires.part p ran).part_is)
    c.requires.sound
