use Rattle.std.proofs.Common.{◌≡◌, ◌∙◌, ap, length, rules, vec_len, arith}
use Rattle.page_store.specs.Store.{Store}
use Rattle.page_store.proofs.Copied.{home-read, home-within}
use Rattle.page_store.proofs.frames.Frames.take.Goals as goal

pub index_mut-requires : goal.index_mut-requires
index_mut-requires c =
    let count : vec_len c.self.inside.pages ≡ length c.self.inside.pages.items = search rules in
    let within = home-within (ap (λ (s : Store). s.pages) c.self.view_is) c.args.frame
    c.requires in
    omega (arith, within)

pub unreachable-requires : goal.unreachable-requires
unreachable-requires c =
    let held = home-read (ap (λ (s : Store). s.pages) c.self.view_is) c.args.frame c.requires
    c.index_mut.ensures.value in
    let never = c.in-None.ensures.value ∙ held in
    cc
