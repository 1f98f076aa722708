use Rattle.std.proofs.Common.{◌*◌, ◌+◌, arith}
use Rattle.code_pages.proofs.Bytes.{written-then, written-at}
use Rattle.code_pages.proofs.LineLaws.{kept-then}
use Rattle.code_pages.proofs.learning.Code.match_block.Goals as goal

pub returns-clause-lines : goal.returns-clause-lines
returns-clause-lines c =
    let zero = c.args.lines.now.items in
    let one = c.match_part.new.lines.items in
    let two = c.match_part-2.new.lines.items in
    let three = c.match_part-3.new.lines.items in
    let four = c.match_part-4.new.lines.items in
    kept-then zero three four
    (kept-then zero two three
    (kept-then zero one two c.match_part.ensures.lines c.match_part-2.ensures.lines)
    c.match_part-3.ensures.lines) c.match_part-4.ensures.lines

pub returns-clause-bytes : goal.returns-clause-bytes
returns-clause-bytes c =
    let b = 256 * c.args.block in
    let all = c.args.bytes.now in
    let zero = c.args.self.now.bytes in
    let one = c.match_part.new.self.bytes in
    let two = c.match_part-2.new.self.bytes in
    let three = c.match_part-3.new.self.bytes in
    let four = c.match_part-4.new.self.bytes in
    written-then b (b + 192) (b + 256) zero three four all (omega arith) (omega arith)
    (written-then b (b + 128) (b + 192) zero two three all (omega arith) (omega arith)
    (written-then b (b + 64) (b + 128) zero one two all (omega arith) (omega arith)
    (written-at _ _ b (b + 64) zero one all (omega arith) (omega arith)
    c.match_part.ensures.bytes)
    (written-at _ _ (b + 64) (b + 128) one two all (omega arith) (omega arith)
    c.match_part-2.ensures.bytes))
    (written-at _ _ (b + 128) (b + 192) two three all (omega arith) (omega arith)
    c.match_part-3.ensures.bytes))
    (written-at _ _ (b + 192) (b + 256) three four all (omega arith) (omega arith)
    c.match_part-4.ensures.bytes)
