use Rattle.std.proofs.Common.{◌++◌, ◌∷◌, [], ◌∙◌, ap, ℕ}
use Rattle.std.specs.Int.{w32, to_le_bytes}
use Rattle.group_text.specs.GroupText.{saved_rows, registers_row, state_code}
use Rattle.group_writer.proofs.TextLaws.{behind}
use Rattle.group_writer.proofs.threads.put_thread.Goals as goal

pub returns : goal.returns
returns c =
    let t = c.args.thread.now in
    let tid = to_le_bytes w32 t.tid in
    let pid = to_le_bytes w32 t.pid in
    let state = state_code t.state ∷ [] in
    let registers = registers_row.text t.regs in
    let budget = to_le_bytes w32 t.budget in
    let pending = to_le_bytes w32 t.pending in
    let mask = to_le_bytes w32 t.mask in
    let saved = saved_rows.text t.saved.items in
    let signals = pending ++ (mask ++ saved) in
    let rest = registers ++ (budget ++ signals) in
    behind c.args.out.now.items _ _ tid (pid ++ (state ++ rest)) c.in_ok-put_u32.ensures
    (behind c.put_u32.new.out.items _ _ pid (state ++ rest) c.in_ok-put_u32-2.ensures
    (behind c.put_u32-2.new.out.items _ _ state rest
    (c.in_ok-put_byte.ensures
    ∙ ap (λ (n : ℕ). c.put_u32-2.new.out.items ++ n ∷ []) c.code_of.ensures)
    (behind c.put_byte.new.out.items _ _ registers (budget ++ signals) c.in_ok-put_registers.ensures
    (behind c.put_registers.new.out.items _ _ budget signals c.in_ok-put_u32-3.ensures
    (behind c.put_u32-3.new.out.items _ _ pending (mask ++ saved) c.in_ok-put_u32-4.ensures
    (behind c.put_u32-4.new.out.items _ _ mask saved c.in_ok-put_u32-5.ensures
    (c.in_ok-put_saved.ensures
    ∙ ap (λ rs. c.put_u32-5.new.out.items ++ saved_rows.text rs) c.deref.ensures.value)))))))
