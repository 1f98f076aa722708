use Rattle.std.proofs.Common.{◌≡◌, ℕ, sym, ap, subst, ◌∙◌}
use Rattle.dos_world.specs.World.{registers_by, set}
use Rattle.dos_world.specs.Kernel.{answered}
use Rattle.proc_table.specs.Tables.{Tables, IsLiveThread, thread_by}
use Rattle.kernel_calls.proofs.Changed.{changed_twice, lives_changed, registers_set}
use Rattle.kernel_calls.proofs.answering.answer_two_in.Goals as goal

-- it lives after the first answer
lives : (old new : Tables) (t value : ℕ) → new ≡ thread_by (registers_by (answered value)) old t
    → IsLiveThread old.threads t → IsLiveThread new.threads t
lives old new t value is live = subst (λ (T : Tables). IsLiveThread T.threads t) (sym is)
    (lives_changed (registers_by (answered value)) old.threads t live)

pub regs-requires : goal.regs-requires
regs-requires c = lives c.args.table.now c.answer_in.new.table c.args.tid c.args.first
    c.answer_in.ensures c.requires

pub set_regs-requires : goal.set_regs-requires
set_regs-requires c = lives c.args.table.now c.answer_in.new.table c.args.tid c.args.first
    c.answer_in.ensures c.requires

pub returns : goal.returns
returns c = c.set_regs.ensures
    ∙ registers_set c.answer_in.new.table c.args.tid (λ r. set r 11 c.args.second)
    c.regs.result.now c.set.new.self c.regs.ensures c.set.ensures
    ∙ ap (λ (T : Tables). thread_by (registers_by (λ r. set r 11 c.args.second)) T c.args.tid)
    c.answer_in.ensures
    ∙ changed_twice c.args.table.now c.args.tid (registers_by (answered c.args.first))
    (registers_by (λ r. set r 11 c.args.second))
