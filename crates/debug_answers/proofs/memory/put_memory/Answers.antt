use Rattle.std.proofs.Common.{◌≡◌, ℕ, List, ◌+◌, ◌++◌, ◌∙◌, ap, sym, arith, [], append-nil, codes}
use Rattle.gdb_packets.specs.Hexadecimal.{bytes_digits}
use Rattle.kernel_calls.specs.StateWorld.{world_of}
use Rattle.debug_session.specs.Told.{bytes_told, memory_told}
use Rattle.debug_answers.proofs.Behind.{put_as, put_behind}
use Rattle.debug_answers.proofs.Reading.{none_answered, both_answered}
use Rattle.debug_answers.proofs.memory.put_memory.Goals as goal

pub returns-in_default : goal.returns-in_default
returns-in_default c q =
    let w = world_of q c.args.state.now in
    let p = c.args.process in
    let count = c.min-count.result in
    let first = c.min-first.result in
    put_as c.put_text.result c.args.out.now.items c.put_text.new.out.items (codes "E0e")
    (memory_told w p c.args.length c.args.from)
    (none_answered w p c.args.length c.args.from count first c.min-count.ensures
    (omega (arith, c.if-count-eq0.false)) (omega (arith, c.if-count-eq0.false, c.min-first.ensures))
    (omega (arith, c.min-first.ensures))
    (ap (bytes_told w p first) (sym c.from-start.ensures) ∙ c.in_default.ensures.told q))
    c.put_text.ensures

pub returns-in-None : goal.returns-in-None
returns-in-None c q =
    let w = world_of q c.args.state.now in
    let p = c.args.process in
    let count = c.min-count.result in
    let first = c.min-first.result in
    let next = c.from-start.result + c.from.result in
    let front = c.in-Some.front.now in
    let all : bytes_digits front ++ [] ≡ memory_told w p c.args.length c.args.from =
    both_answered w p c.args.length c.args.from count first c.min-count.ensures
    (omega (arith, c.if-count-eq0.false)) (omega (arith, c.if-count-eq0.false, c.min-first.ensures))
    (omega (arith, c.min-first.ensures)) next front []
    (omega (arith, c.from-start.ensures, c.from.ensures)) c.in-Some.ensures.count
    (c.in-Some.ensures.told q ∙ ap (bytes_told w p first) c.from-start.ensures)
    (sym (c.in-None.ensures.told q)) in
    c.in_ok-put_bytes_digits.ensures
    ∙ ap (λ (t : List ℕ). c.args.out.now.items ++ t) (sym (append-nil (bytes_digits front)) ∙ all)

pub returns-in-Some-bytes_in_page : goal.returns-in-Some-bytes_in_page
returns-in-Some-bytes_in_page c q =
    let w = world_of q c.args.state.now in
    let p = c.args.process in
    let count = c.min-count.result in
    let first = c.min-first.result in
    let next = c.from-start.result + c.from.result in
    let front = c.in-Some.front.now in
    let back = c.in-Some-bytes_in_page.back.now in
    let all : bytes_digits front ++ bytes_digits back
    ≡ memory_told w p c.args.length c.args.from =
    both_answered w p c.args.length c.args.from count first c.min-count.ensures
    (omega (arith, c.if-count-eq0.false)) (omega (arith, c.if-count-eq0.false, c.min-first.ensures))
    (omega (arith, c.min-first.ensures)) next front back
    (omega (arith, c.from-start.ensures, c.from.ensures)) c.in-Some.ensures.count
    (c.in-Some.ensures.told q ∙ ap (bytes_told w p first) c.from-start.ensures)
    (c.in-Some-bytes_in_page.ensures.told q) in
    put_behind c.put_bytes_digits-in-Some-bytes_in_page.result c.args.out.now.items
    c.put_bytes_digits.new.out.items c.put_bytes_digits-in-Some-bytes_in_page.new.out.items
    (bytes_digits front) (bytes_digits back) (memory_told w p c.args.length c.args.from)
    c.in_ok-put_bytes_digits.ensures all c.put_bytes_digits-in-Some-bytes_in_page.ensures
