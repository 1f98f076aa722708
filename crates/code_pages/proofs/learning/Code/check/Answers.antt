use Rattle.std.proofs.Common.{◌*◌, ◌+◌, arith, inl, inr, refl}
use Rattle.code_pages.proofs.Bytes.{written-then, written-at, block-is}
use Rattle.code_pages.proofs.LineLaws.{kept-then}
use Rattle.code_pages.proofs.learning.Code.check.Goals as goal

pub returns-then-block-lt15-clause-lines : goal.returns-then-block-lt15-clause-lines
returns-then-block-lt15-clause-lines c =
    kept-then c.args.lines.now.items c.match_block.new.lines.items c.change_half.new.lines.items
    c.match_block.ensures.lines c.change_half.ensures.lines

pub returns-then-block-lt15-clause-bytes : goal.returns-then-block-lt15-clause-bytes
returns-then-block-lt15-clause-bytes c =
    let b = 256 * c.args.block in
    let old = c.args.self.now.bytes in
    let mid = c.match_block.new.self.bytes in
    let new = c.change_half.new.self.bytes in
    block-is old new c.args.bytes.now c.args.block (b + 258) c.requires.known.bytes
    c.change_half.ensures.known.bytes c.requires.page (omega arith) (inl refl)
    (written-then b (b + 256) (b + 258) old mid new c.args.bytes.now (omega arith) (omega arith)
    c.match_block.ensures.bytes
    (written-at _ _ (b + 256) (b + 258) mid new c.args.bytes.now (omega arith) (omega arith)
    c.change_half.ensures.bytes))

pub returns-else-block-lt15-clause-bytes : goal.returns-else-block-lt15-clause-bytes
returns-else-block-lt15-clause-bytes c =
    let b = 256 * c.args.block in
    block-is c.args.self.now.bytes c.match_block.new.self.bytes c.args.bytes.now c.args.block
    (b + 256) c.requires.known.bytes c.match_block.ensures.known.bytes c.requires.page
    (omega arith) (inr (omega (arith, c.if-block-lt15.false))) c.match_block.ensures.bytes
