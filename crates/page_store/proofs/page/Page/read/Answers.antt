use Rattle.std.proofs.Common.{◌≡◌, ◌≤◌, ◌+◌, ◌*◌, ◌^◌, get_or, length, sym, ap, ◌∙◌, subst}
use Rattle.dos_world.specs.Reach.{width}
use Rattle.dos_world.specs.declared.Size.{Size}
use Rattle.page_store.specs.Store.{whole, number_at}
use Rattle.page_store.proofs.Pages.{byte-at, half-at, word-at}
use Rattle.page_store.proofs.page.Page.read.Goals as goal

pub returns-in-Byte-clause-value : goal.returns-in-Byte-clause-value
returns-in-Byte-clause-value c =
    let long : length c.args.self.now ≡ 4096 = cc (c.self.invariant) in
    let within : c.args.offset + 1 ≤ 4096 =
    subst (λ (s : Size). c.args.offset + width s ≤ 4096) c.in-Byte.is c.requires in
    let value : c.from.result ≡ get_or c.args.self.now c.args.offset 0 = cc (c.from.ensures) in
    byte-at c.args.self.now c.args.offset c.from.result long within value
    ∙ ap (λ (s : Size). number_at (whole c.args.self.now) c.args.offset s) (sym c.in-Byte.is)

pub returns-in-Half-clause-value : goal.returns-in-Half-clause-value
returns-in-Half-clause-value c =
    let long : length c.args.self.now ≡ 4096 = cc (c.self.invariant) in
    let within : c.args.offset + 2 ≤ 4096 =
    subst (λ (s : Size). c.args.offset + width s ≤ 4096) c.in-Half.is c.requires in
    let value : c.from-in-Half.result
    ≡ get_or c.args.self.now c.args.offset 0 + get_or c.args.self.now
    (c.args.offset + 1) 0 * 256 = cc (c.from-in-Half.ensures, c.from_le_bytes.ensures) in
    half-at c.args.self.now c.args.offset c.from-in-Half.result long within value
    ∙ ap (λ (s : Size). number_at (whole c.args.self.now) c.args.offset s) (sym c.in-Half.is)

pub returns-in-Word-clause-value : goal.returns-in-Word-clause-value
returns-in-Word-clause-value c =
    let long : length c.args.self.now ≡ 4096 = cc (c.self.invariant) in
    let within : c.args.offset + 4 ≤ 4096 =
    subst (λ (s : Size). c.args.offset + width s ≤ 4096) c.in-Word.is c.requires in
    let value : c.from_le_bytes-in-Word.result
    ≡ get_or c.args.self.now c.args.offset 0 + get_or c.args.self.now
    (c.args.offset + 1) 0 * 2 ^ 8 + get_or c.args.self.now
    (c.args.offset + 2) 0 * 2 ^ 16 + get_or c.args.self.now (c.args.offset + 3) 0 * 2 ^ 24 =
    cc (c.from_le_bytes-in-Word.ensures) in
    word-at c.args.self.now c.args.offset c.from_le_bytes-in-Word.result long within value
    ∙ ap (λ (s : Size). number_at (whole c.args.self.now) c.args.offset s) (sym c.in-Word.is)
