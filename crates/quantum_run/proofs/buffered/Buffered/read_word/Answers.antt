use Rattle.std.proofs.Common.{◌+◌, ◌*◌, ◌^◌, ◌<◌, ◌≤◌, ◌≡◌, ◌∙◌, ap, sym, arith, length, ℕ, List}
use Rattle.dos_world.specs.Reach.{bytes_of, number_of}
use Rattle.dos_world.specs.declared.Size.TheVariants.{Word}
use Rattle.page_store.specs.Store.{joined, number_at}
use Rattle.page_store.proofs.Joined.{length-joined}
use Rattle.quantum_run.specs.Reading.{read-joined}
use Rattle.quantum_run.proofs.Paged.{read-within}
use Rattle.quantum_run.proofs.buffered.Buffered.read_word.Goals as goal

-- four bytes of a number of 32 bits stand for it
four-back : (n : ℕ) → n < 2 ^ 32 → number_of (bytes_of 4 n) ≡ n
four-back n small = omega (arith, small)

pub returns-in-Some : goal.returns-in-Some
returns-in-Some c =
    let b = c.args.self.now in
    let pages = b.frames.now.pages in
    let within = read-within pages b.words c.args.frame c.requires.home in
    let fits : 4096 * c.args.frame + 4 * c.args.number + 4 ≤ length (joined pages) =
    omega (arith, within, c.requires.within, length-joined pages) in
    sym (four-back c.in-Some.value (omega arith))
    ∙ ap number_of (sym (c.in-Some.ensures (joined pages) fits))
    ∙ ap (λ (bytes : List ℕ). number_at bytes (4096 * c.args.frame + 4 * c.args.number) Word)
    (sym (read-joined pages b.words))
