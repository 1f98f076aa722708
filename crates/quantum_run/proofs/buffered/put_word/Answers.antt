use Rattle.std.proofs.Common.{◌+◌, ◌-◌, ◌*◌, ◌≡◌, arith, length, rules}
use Rattle.quantum_run.proofs.Paged.{put-is-written}
use Rattle.quantum_run.proofs.buffered.put_word.Goals as goal

pub returns : goal.returns
returns c =
    let at = 4 * c.args.number in
    let full : length c.args.page.now ≡ 4096 = search rules in
    let four : length c.args.word ≡ 4 = search rules in
    let count : (at + 4) - at ≡ length c.args.word = omega (arith, four) in
    put-is-written c.args.page.now c.copy_from_slice.new.self c.args.word at _
    c.copy_from_slice.ensures.after count (omega (arith, full, four, c.requires))
