use Rattle.std.proofs.Common.{List, inl, refl, ◌∙◌, ap, sym, subst, [], ◌∷◌}
use Rattle.std.proofs.Common.{length, length-append, arith}
use Rattle.quantum_run.specs.Shows.{Pack}
use Rattle.group_rounds.specs.Handing.{In, emptied_pack}
use Rattle.group_rounds.proofs.HandingLaws.{in-right, spare-more, packs-are, taking-more}
use Rattle.group_rounds.proofs.HandingLaws.{take-apart}
use Rattle.group_rounds.proofs.HandingLaws.{take-away, take-live}
use Rattle.group_rounds.proofs.packs.take_in.Goals as goal

pub take_back-requires-clause-away : goal.take_back-requires-clause-away
take_back-requires-clause-away c =
    take-away c.args.packs.now.items c.loop-pack.packs.items c.pop.new.self.items
    c.args.state.now.frames c.loop-pack.state.frames c.args.state.now.table
    c.loop-pack.state.table c.in-Some.pack c.loop-pack.invariant.taking
    c.in-Some.ensures.items
    c.requires.away c.requires.apart c.requires.live c.requires.others

pub take_back-requires-clause-apart : goal.take_back-requires-clause-apart
take_back-requires-clause-apart c =
    take-apart c.args.packs.now.items c.loop-pack.packs.items c.pop.new.self.items
    c.args.state.now.frames c.loop-pack.state.frames c.args.state.now.table
    c.loop-pack.state.table c.in-Some.pack c.loop-pack.invariant.taking
    c.in-Some.ensures.items
    c.requires.away c.requires.apart c.requires.live c.requires.others

pub take_back-requires-clause-live : goal.take_back-requires-clause-live
take_back-requires-clause-live c =
    take-live c.args.packs.now.items c.loop-pack.packs.items c.pop.new.self.items
    c.args.state.now.frames c.loop-pack.state.frames c.args.state.now.table
    c.loop-pack.state.table c.in-Some.pack c.loop-pack.invariant.taking
    c.in-Some.ensures.items
    c.requires.away c.requires.apart c.requires.live c.requires.others

pub loop-pack-preserved : goal.loop-pack-preserved
loop-pack-preserved c =
    let kept = ap length c.keep.ensures.items
    ∙ length-append c.loop-pack.spare.items (c.take_back.new.pack ∷ []) in
    let popped = ap length c.in-Some.ensures.items
    ∙ length-append c.pop.new.self.items (c.in-Some.pack ∷ []) in
    let before = c.loop-pack.invariant.spare in
    let room = c.loop-pack.invariant.room in
    let more = c.keep.ensures.room in
    record {
      taking = taking-more c.args.packs.now.items c.loop-pack.packs.items c.pop.new.self.items
          c.args.state.now.frames c.loop-pack.state.frames c.args.state.now.table
          c.loop-pack.state.table c.in-Some.pack c.loop-pack.invariant.taking
          c.in-Some.ensures.items
          c.requires.away c.requires.apart c.requires.live c.requires.others
          c.take_back.new.state.frames
          c.take_back.new.state.table c.take_back.ensures.back c.take_back.ensures.set;
      round = c.take_back.ensures.round ∙ c.loop-pack.invariant.round;
      pipes = c.take_back.ensures.pipes ∙ c.loop-pack.invariant.pipes;
      futexes = c.take_back.ensures.futexes ∙ c.loop-pack.invariant.futexes;
      spare = omega (arith, kept, popped, before);
      all_spare = λ first spare rooms.
          spare-more first c.loop-pack.spare.items _ c.take_back.new.pack c.keep.ensures.items
          (c.loop-pack.invariant.all_spare first spare rooms)
          (ap emptied_pack c.take_back.ensures.pack
          ∙ rooms c.in-Some.pack (subst (λ (ps : List Pack). In ps c.in-Some.pack)
          (sym (packs-are c.args.packs.now.items c.loop-pack.packs.items c.pop.new.self.items
          c.args.state.now.frames c.loop-pack.state.frames c.args.state.now.table
          c.loop-pack.state.table c.in-Some.pack c.loop-pack.invariant.taking
          c.in-Some.ensures.items
          c.requires.away c.requires.apart c.requires.live c.requires.others))
          (in-right c.pop.new.self.items
          (c.in-Some.pack ∷ c.loop-pack.invariant.taking.done) c.in-Some.pack (inl refl))));
      packs_room = c.in-Some.ensures.capacity ∙ c.loop-pack.invariant.packs_room;
      room = omega (arith, room, more);
    }
