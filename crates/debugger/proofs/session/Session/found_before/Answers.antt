use Rattle.std.proofs.Common.{◌≡◌, ◌∙◌, ap, sym, Some, ℕ, true}
use Rattle.group_walk.specs.Walks.{kind_named}
use Rattle.debug_session.specs.Halts.{Halt}
use Rattle.debug_session.specs.Positions.{position_after}
use Rattle.debug_session.specs.Sessions.{home_pair}
use Rattle.debug_session.specs.declared.stops.Cause.TheVariants.{Broke, Plainly}
use Rattle.debug_client.specs.Births.{has_home}
use Rattle.debugger.specs.Standing.{here}
use Rattle.debugger.proofs.Onward.{before_broken, before_faulted, before_other, before_unmoved}
use Rattle.debugger.proofs.Onward.{halt_same, if_some, meant_at, meant_by}
use Rattle.debugger.proofs.session.Session.found_before.Goals as goal

pub home_pair-requires : goal.home_pair-requires
home_pair-requires c = record {
  running = c.requires.running;
  known = if_some c.args.before.now.mover (λ t. has_home c.args.self.now.births t ≡ true)
      c.in-Some.thread c.in-Some.is c.requires.known;
}

pub returns-in_default-clause-halt : goal.returns-in_default-clause-halt
returns-in_default-clause-halt c rs start s is_start asked seen next =
    sym (before_unmoved c.args.before.now s rs (here c.args.self.now start) seen next
    c.in_default.is)

pub returns-then-before-clause-halt : goal.returns-then-before-clause-halt
returns-then-before-clause-halt c rs start s is_start asked seen next =
    let at = here c.args.self.now start in
    ap (λ (h : Halt). Some h)
    (meant_at s rs start c.at.result c.args.before.now.moves (Some c.home_pair.result) Broke
    c.at.ensures
    ∙ halt_same 5 (position_after c.args.before.now.moves start) at c.home_pair.result
    (home_pair s c.in-Some.thread) Broke (ap (λ n. position_after n start) c.requires.moves)
    (c.home_pair.ensures start s is_start asked))
    ∙ sym (before_broken c.args.before.now s rs at seen next c.in-Some.thread c.in-Some.is
    c.if-before.true)

pub returns-in_default-fault_of-clause-halt : goal.returns-in_default-fault_of-clause-halt
returns-in_default-fault_of-clause-halt c rs start s is_start asked seen next =
    sym (before_other c.args.before.now s rs (here c.args.self.now start) seen next
    c.if-before.false (sym c.fault_of.ensures ∙ c.in_default-fault_of.is))

pub returns-clause-halt : goal.returns-clause-halt
returns-clause-halt c rs start s is_start asked seen next =
    let at = here c.args.self.now start in
    ap (λ (h : Halt). Some h)
    (meant_by s rs start c.at-halt.result c.args.before.now.moves c.in-Some-fault_of.signal
    (Some c.home_pair.result) Plainly c.at-halt.ensures
    ∙ halt_same c.in-Some-fault_of.signal (position_after c.args.before.now.moves start) at
    c.home_pair.result (home_pair s c.in-Some.thread) Plainly
    (ap (λ n. position_after n start) c.requires.moves)
    (c.home_pair.ensures start s is_start asked))
    ∙ sym (before_faulted c.args.before.now s rs at seen next c.in-Some.thread
    c.in-Some-fault_of.signal c.in-Some.is c.if-before.false
    (sym c.fault_of.ensures ∙ c.in-Some-fault_of.is))
