use Rattle.std.proofs.Common.{rules, vec_len, ◌∙◌, ◌≡◌, length, refl, arith}
use Rattle.dos_world.specs.declared.Owner.TheVariants.{Of}
use Rattle.page_store.proofs.Counts.{free-more, free-set, lowest-owned, lowest-some, lowest-unused}
use Rattle.page_store.proofs.Counts.{lowest-used, lowest-within, position-frames}
use Rattle.page_store.proofs.frames.Frames.fresh.Goals as goal

pub index_mut-requires-in-Some : goal.index_mut-requires-in-Some
index_mut-requires-in-Some c =
    let count : vec_len c.self.inside.uses ≡ length c.self.inside.uses.items = search rules in
    omega (arith, lowest-used c.self.invariant.0 c.in-Some.ensures)

pub overflow_sub-self : goal.overflow_sub-self
overflow_sub-self c = lowest-some c.self.invariant.0 c.in-Some.ensures

pub overflow_add-frame : goal.overflow_add-frame
overflow_add-frame c =
    omega (
      arith,
      c.self.invariant.0.few,
      c.self.invariant.0.each,
      lowest-within c.self.invariant.0 c.in-Some.ensures,
    )

pub invariant_of-self : goal.invariant_of-self
invariant_of-self c =
    let is = c.max-self-inside.ensures in (
      lowest-owned c.self.invariant.0 c.in-Some.ensures (Of c.args.tid) refl
          c.clear.ensures,
      free-set c.self.inside.owners.items c.max-self-inside.result c.in-Some.frame (Of c.args.tid)
          (free-more c.self.inside.owners.items c.self.inside.high c.max-self-inside.result
          c.self.invariant.1 (omega (arith, is))) (omega (arith, is)),
      omega (
        arith,
        is,
        lowest-within c.self.invariant.0 c.in-Some.ensures,
        c.self.invariant.2,
        c.self.invariant.0.each,
      ),
      c.note.ensures.noted c.self.inside.owners.items c.self.invariant.3,
      c.self.invariant.4,
    )

pub returns-in-None-clause-found : goal.returns-in-None-clause-found
returns-in-None-clause-found c =
    rw (← c.self.view_is) (c.in-None.ensures
    ∙ position-frames c.self.inside.owners.items c.self.inside.free_frames
    c.self.invariant.0.frames_are)

pub returns-in-Some-clause-found : goal.returns-in-Some-clause-found
returns-in-Some-clause-found c =
    rw (← c.self.view_is) (c.in-Some.ensures
    ∙ position-frames c.self.inside.owners.items c.self.inside.free_frames
    c.self.invariant.0.frames_are)

pub returns-in-Some-clause-none : goal.returns-in-Some-clause-none
returns-in-Some-clause-none c = λ is. absurd (cc)

pub returns-in-Some-clause-unused : goal.returns-in-Some-clause-unused
returns-in-Some-clause-unused c =
    rw (← c.self.view_is) (record {
      none = lowest-unused c.self.invariant.0 c.in-Some.ensures;
      within = lowest-used c.self.invariant.0 c.in-Some.ensures;
    })
