use Rattle.std.proofs.Common.{◌≡◌, ◌-◌, [], suc, refl, sym, ap, ◌∙◌, subst, arith}
use Rattle.std.specs.Prelude.{IsSome, is_err}
use Rattle.std.proofs.lemmas.Result.{err_from_is_err_and}
use Rattle.kernel_calls.specs.Plays.{stopper}
use Rattle.group_walk.specs.Walks.{kinds_named}
use Rattle.group_walk.proofs.ManyMoves.{walks_all, walks_more, walks_nothing, walks_short}
use Rattle.group_walk.proofs.ManyMoves.{walks_stop, walks_there}
use Rattle.group_walk.proofs.walker.Walker.walk.Goals as goal

pub make-requires-clause-next : goal.make-requires-clause-next
make-requires-clause-next g c =
    subst IsSome (sym (c.next.ensures [] [] ∙ ap kinds_named c.in-Some.is)) refl

pub loop-left-init : goal.loop-left-init
loop-left-init g c = record {
  plays = walks_nothing c.args.self.now.config c.args.moves c.args.self.now
      (g.B.Border.state c.args.border.now);
  running = c.requires.running;
  config = refl;
  few = omega arith;
  told = c.requires.told;
  follows = g.met.B.Border.reflexive c.args.border.now;
}

pub returns-in-None-clause-plays : goal.returns-in-None-clause-plays
returns-in-None-clause-plays g c =
    let inv = c.loop-left.invariant in
    record {
      goes = walks_short c.args.self.now.config c.args.moves c.loop-left.left c.args.self.now
          c.loop-left.self _ _ inv.config inv.plays
          (λ o e. c.next.ensures o e ∙ ap kinds_named c.in-None.is);
      stops = tt;
    }

pub returns-in-None-clause-walked : goal.returns-in-None-clause-walked
returns-in-None-clause-walked g c =
    let inv = c.loop-left.invariant in
    walks_there c.args.moves c.args.self.now c.loop-left.self _ _ inv.config
    (walks_short c.args.self.now.config c.args.moves c.loop-left.left c.args.self.now
    c.loop-left.self _ _ inv.config inv.plays
    (λ o e. c.next.ensures o e ∙ ap kinds_named c.in-None.is))

pub returns-in_err-make : goal.returns-in_err-make
returns-in_err-make g c =
    let inv = c.loop-left.invariant in
    let p = err_from_is_err_and c.from_residual.result c.from_residual.ensures.1 in
    let one : c.loop-left.left ≡ suc (c.loop-left.left - 1) =
    (let some = c.loop-left-test.true in omega (arith, some)) in
    rw (p.1, p.2) (record {
      plays = record {
        goes = tt;
        stops = walks_stop c.args.self.now.config c.args.moves c.loop-left.left c.args.self.now
            c.loop-left.self _ _ inv.config inv.plays (c.loop-left.left - 1) one (stopper _) _
            c.in_err-make.ensures.plays.stops;
      };
      walked = tt;
      told = tt;
      failed = c.make.ensures.failed ∙ ap is_err c.in_err-make.was;
      config = c.make.ensures.config ∙ inv.config;
      made = (let few = inv.few in let made = c.make.ensures.made in
          let some = c.loop-left-test.true in omega (arith, few, made, some));
      follows = g.met.B.Border.transitive _ _ _ inv.follows c.make.ensures.follows;
    })

pub loop-left-preserved : goal.loop-left-preserved
loop-left-preserved g c =
    let inv = c.loop-left.invariant in
    let one : c.loop-left.left ≡ suc (c.loop-left.left - 1) =
    (let some = c.loop-left-test.true in omega (arith, some)) in
    record {
      plays = walks_more c.args.self.now.config c.args.moves c.loop-left.left c.args.self.now
          c.loop-left.self _ _ inv.config inv.plays (c.loop-left.left - 1) one
          c.make.new.self _ c.in_ok-make.ensures.plays.goes;
      running = c.make.ensures.failed ∙ ap is_err c.in_ok-make.was;
      config = c.make.ensures.config ∙ inv.config;
      few = (let few = inv.few in let made = c.make.ensures.made in
          let some = c.loop-left-test.true in omega (arith, few, made, some));
      told = c.in_ok-make.ensures.told;
      follows = g.met.B.Border.transitive _ _ _ inv.follows c.make.ensures.follows;
    }

pub returns-clause-plays : goal.returns-clause-plays
returns-clause-plays g c =
    let inv = c.loop-left.invariant in
    record {
      goes = walks_all c.args.self.now.config c.args.moves c.loop-left.left c.args.self.now
          c.loop-left.self _ _ inv.config inv.plays c.loop-left-test.false;
      stops = tt;
    }

pub returns-clause-walked : goal.returns-clause-walked
returns-clause-walked g c =
    let inv = c.loop-left.invariant in
    walks_there c.args.moves c.args.self.now c.loop-left.self _ _ inv.config
    (walks_all c.args.self.now.config c.args.moves c.loop-left.left c.args.self.now
    c.loop-left.self _ _ inv.config inv.plays c.loop-left-test.false)
