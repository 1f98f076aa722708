use Rattle.std.proofs.Common.{◌≡◌, ◌∙◌, ap, sym, Some, ℕ, true, length, arith, List}
use Rattle.std.specs.Prelude.{◌&&◌, nat_lt, not}
use Rattle.dos_world.specs.World.{Process}
use Rattle.debug_session.specs.Forwards.{halt_bearing}
use Rattle.debug_session.specs.Halts.{Halt}
use Rattle.debug_session.specs.Positions.{position_after}
use Rattle.debug_session.specs.Sessions.{home_pair, is_among}
use Rattle.debug_session.specs.declared.stops.Cause.TheVariants.{Bore}
use Rattle.debug_client.specs.Births.{has_home}
use Rattle.debugger.specs.Standing.{SessionView, here}
use Rattle.debugger.proofs.Onward.{bearing_same, born_nobody, born_told, born_unmoved}
use Rattle.debugger.proofs.Onward.{born_untold, if_some, meant_born}
use Rattle.debugger.proofs.Shown.{first_seen, process_known, processes_seen}
use Rattle.debugger.proofs.session.Session.halt_born.Goals as goal

pub home_pair-requires : goal.home_pair-requires
home_pair-requires c = record {
  running = c.requires.running;
  known = if_some c.args.before.now.mover (λ t. has_home c.args.self.now.births t ≡ true)
      c.in-Some.thread c.in-Some.is c.requires.known;
}

pub returns-in_default-clause-halt : goal.returns-in_default-clause-halt
returns-in_default-clause-halt c start s w is_start asked seen =
    sym (born_unmoved c.args.before.now s c.args.resumptions.now w seen
    (here c.args.self.now start) c.in_default.is _)

pub returns-then-child-before-clause-halt : goal.returns-then-child-before-clause-halt
returns-then-child-before-clause-halt c start s w is_start asked seen =
    let all : length (here c.args.self.now start).moment.world.processes
    ≡ c.processes-child.result =
    ap (λ (ps : List Process). length ps) (processes_seen _ c.args.self.now c.self.view_is
    c.self.invariant c.requires.running c.state.result.now c.state.ensures.state start is_start)
    ∙ sym c.processes-child.ensures in
    sym (born_nobody c.args.before.now s c.args.resumptions.now w seen
    (here c.args.self.now start)
    (let few = c.if-child-before.true in omega (arith, all, few)))

pub returns-then-not-is_child_told-clause-halt : goal.returns-then-not-is_child_told-clause-halt
returns-then-not-is_child_told-clause-halt c start s w is_start asked seen =
    let at = here c.args.self.now start in
    let all : length at.moment.world.processes ≡ c.processes-child.result =
    ap (λ (ps : List Process). length ps) (processes_seen _ c.args.self.now c.self.view_is
    c.self.invariant c.requires.running c.state.result.now c.state.ensures.state start is_start)
    ∙ sym c.processes-child.ensures in
    sym (born_untold c.args.before.now s c.args.resumptions.now w seen at c.in-Some.thread
    c.in-Some.is
    (let many = c.if-child-before.false in omega (arith, all, many))
    (sym c.if-not-is_child_told.true ∙ c.is_child_told.ensures start s asked
    ∙ ap (λ n. s.is_told_forks && not (is_among n s.told) && nat_lt (length s.told) 256)
    (sym all)))

pub returns-in_default-first_thread-clause-halt : goal.returns-in_default-first_thread-clause-halt
returns-in_default-first_thread-clause-halt c start s w is_start asked seen =
    let at = here c.args.self.now start in
    let all : length at.moment.world.processes ≡ c.processes-child.result =
    ap (λ (ps : List Process). length ps) (processes_seen _ c.args.self.now c.self.view_is
    c.self.invariant c.requires.running c.state.result.now c.state.ensures.state start is_start)
    ∙ sym c.processes-child.ensures in
    let n = length at.moment.world.processes in
    sym (born_told c.args.before.now s c.args.resumptions.now w seen at c.in-Some.thread
    c.in-Some.is
    (let many = c.if-child-before.false in omega (arith, all, many))
    (sym c.if-not-is_child_told.false ∙ c.is_child_told.ensures start s asked
    ∙ ap (λ n. s.is_told_forks && not (is_among n s.told) && nat_lt (length s.told) 256)
    (sym all))
    ∙ ap (halt_bearing s at c.in-Some.thread n)
    (first_seen _ c.args.self.now c.self.view_is c.self.invariant c.requires.running
    c.state-2.result.now c.state-2.ensures.state n c.processes-child.result all start is_start
    ∙ sym c.first_thread.ensures ∙ c.in_default-first_thread.is))

pub returns-clause-halt : goal.returns-clause-halt
returns-clause-halt c start s w is_start asked seen =
    let at = here c.args.self.now start in
    let rs = c.args.resumptions.now in
    let all : length at.moment.world.processes ≡ c.processes-child.result =
    ap (λ (ps : List Process). length ps) (processes_seen _ c.args.self.now c.self.view_is
    c.self.invariant c.requires.running c.state.result.now c.state.ensures.state start is_start)
    ∙ sym c.processes-child.ensures in
    let n = length at.moment.world.processes in
    let there = ap (λ n. position_after n start) (c.moves.ensures.moves
    ∙ ap (λ (k : SessionView). k.playback.moves) c.self.view_is) in
    ap (λ (h : Halt). Some h)
    (meant_born s rs start c.at-halt.result c.moves.result c.processes-child.result
    (Some c.home_pair.result) (Bore c.processes-child.result c.in-Some-first_thread.first)
    c.at-halt.ensures
    ∙ bearing_same (position_after c.moves.result start) at c.home_pair.result
    (home_pair s c.in-Some.thread) c.processes-child.result n c.in-Some-first_thread.first there
    (c.home_pair.ensures start s is_start asked) (sym all))
    ∙ sym (born_told c.args.before.now s c.args.resumptions.now w seen at c.in-Some.thread
    c.in-Some.is
    (let many = c.if-child-before.false in omega (arith, all, many))
    (sym c.if-not-is_child_told.false ∙ c.is_child_told.ensures start s asked
    ∙ ap (λ n. s.is_told_forks && not (is_among n s.told) && nat_lt (length s.told) 256)
    (sym all))
    ∙ ap (halt_bearing s at c.in-Some.thread n)
    (first_seen _ c.args.self.now c.self.view_is c.self.invariant c.requires.running
    c.state-2.result.now c.state-2.ensures.state n c.processes-child.result all start is_start
    ∙ sym c.first_thread.ensures ∙ c.in-Some-first_thread.is))

pub returns-clause-born : goal.returns-clause-born
returns-clause-born c =
    process_known _ c.args.self.now c.self.view_is c.self.invariant c.requires.running
    c.state.result.now c.state.ensures.state c.processes-child.result c.processes-child.ensures
