use Rattle.std.proofs.Common.{ap, sym, ◌∙◌, arith, ◌≡◌, ◌+◌, ◌++◌, subst, Option}
use Rattle.group_walk.specs.Walks.{kinds_named}
use Rattle.group_walk.specs.declared.walker.MoveKind.{MoveKind as kind_type}
use Rattle.recorded_walk.specs.Playbacks.{moves_made}
use Rattle.debug_session.specs.Halts.{some_bytes}
use Rattle.debugger.specs.Halting.{HasKept, puts_kept}
use Rattle.debugger.specs.Standing.{SessionView}
use Rattle.debugger.proofs.Kept.{kept_move, kept_none, numbered_so}
use Rattle.debugger.proofs.Lasting.{same_on, start_on}
use Rattle.debugger.proofs.SilentPuts.{kept_silent}
use Rattle.debugger.proofs.session.Session.puts_so_far.Goals as goal

pub loop-self-init : goal.loop-self-init
loop-self-init c =
    let none = c.in_ok-go_to.ensures.moves in
    record {
      same = c.in_ok-go_to.ensures.same;
      running = c.in_ok-go_to.ensures.failed;
      within = omega (arith, none);
      kept = λ start is_start. subst (λ n. HasKept start 0 n c.args.puts.now.items) (sym none)
          (kept_none start 0 c.args.puts.now.items c.requires.none);
    }

pub loop-self-preserved : goal.loop-self-preserved
loop-self-preserved c =
    let inv = c.loop-self.invariant in
    let old = c.args.self.now in
    let k = c.loop-self.self in
    let mid = c.advance.new.self in
    let new = c.run_on-silent.new.self in
    let went = c.in_ok-advance.ensures in
    let ran = c.run_on-silent.ensures in
    let puts = c.loop-self.puts.items in
    let kept = c.keep_puts.new.puts.items in
    let next : mid.playback.moves ≡ k.playback.moves + 1 =
    went.moves ∙ ap (λ (o : Option kind_type). k.playback.moves + moves_made o) c.in-Some.is in
    let same_mid = same_on old k mid inv.same went.same in
    let test : c.moves.result ≡ k.playback.moves = c.moves.ensures.moves
    ∙ ap (λ (x : SessionView). x.playback.moves) c.self-in-loop-self.view_is in
    let before : c.moves-before.result ≡ k.playback.moves = c.moves-before.ensures.moves
    ∙ ap (λ (x : SessionView). x.playback.moves) c.self-in-loop-self.view_is in
    let left : c.moves-in-loop-self.result ≡ mid.playback.moves =
    c.moves-in-loop-self.ensures.moves
    ∙ ap (λ (x : SessionView). x.playback.moves) c.self-in-loop-self-2.view_is in
    record {
      same = same_on old mid new same_mid ran.same;
      running = ran.running;
      within = omega (
        arith,
        c.loop-self-test.true,
        test,
        next,
        left,
        c.at_most-most.ensures.most,
        ran.moves,
        ran.most,
      );
      kept = λ start is_start.
          let moved = went.advances start (start_on old k inv.same.run start is_start) in
          let silent = ran.silent start (start_on old mid same_mid.run start is_start) in
          subst (λ n. HasKept start 0 n kept) (sym ran.moves)
          (kept_silent start 0 mid.playback.moves c.run_on-silent.result kept _ _ silent.thread
          (omega arith) silent.silent
          (kept_move start 0 k.playback.moves mid.playback.moves puts kept mid.playback _
          (omega arith) next
          (moved.first ∙ ap (λ (o : Option kind_type). kinds_named o) c.in-Some.is) moved.heard
          (c.in_ok-keep_puts.ensures
          ∙ ap (λ n. puts_kept puts ++ numbered_so n
          (some_bytes mid.playback.output ++ some_bytes mid.playback.error)) before)
          (inv.kept start is_start)));
    }

pub returns-clause-puts : goal.returns-clause-puts
returns-clause-puts c start is_start =
    let within = c.loop-self.invariant.within in
    let test : c.moves.result ≡ c.loop-self.self.playback.moves = c.moves.ensures.moves
    ∙ ap (λ (x : SessionView). x.playback.moves) c.self-in-loop-self.view_is in
    let are = c.moves-moves.ensures.moves
    ∙ ap (λ (x : SessionView). x.playback.moves) c.self.view_is in
    let last : c.loop-self.self.playback.moves ≡ c.args.self.now.playback.moves =
    omega (arith, c.loop-self-test.false, within, test, are) in
    subst (λ n. HasKept start 0 n c.loop-self.puts.items) last
    (c.loop-self.invariant.kept start is_start)

pub returns-in_default-clause-same : goal.returns-in_default-clause-same
returns-in_default-clause-same c =
    same_on c.args.self.now c.loop-self.self c.advance.new.self c.loop-self.invariant.same
    c.in_ok-advance.ensures.same

pub returns-in_err-advance-clause-same : goal.returns-in_err-advance-clause-same
returns-in_err-advance-clause-same c =
    same_on c.args.self.now c.loop-self.self c.advance.new.self c.loop-self.invariant.same
    c.in_err-advance.ensures.same

pub returns-in_err-keep_puts-clause-same : goal.returns-in_err-keep_puts-clause-same
returns-in_err-keep_puts-clause-same c =
    same_on c.args.self.now c.loop-self.self c.advance.new.self c.loop-self.invariant.same
    c.in_ok-advance.ensures.same
