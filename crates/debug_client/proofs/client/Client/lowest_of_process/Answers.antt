use Rattle.std.proofs.Common.{ℕ, Bool, List, Option, arith, ap, sym, ◌∙◌}
use Rattle.std.proofs.lemmas.Option.{slice_get-get_or}
use Rattle.debug_session.specs.Positions.{all_moments}
use Rattle.debug_session.specs.Homes.{is_some_number}
use Rattle.debug_session.specs.Sessions.{home_in}
use Rattle.debug_client.specs.Births.{has_home}
use Rattle.debug_client.specs.Clients.{session_of}
use Rattle.debug_client.proofs.Walked.{find_here, find_on, find_end}
use Rattle.debug_client.proofs.Listed.{all_at}
use Rattle.debug_client.proofs.client.Client.lowest_of_process.Goals as goal

pub returns-then-is_some_number : goal.returns-then-is_some_number
returns-then-is_some_number c r at a known =
    let listed : List ℕ = c.args.listed.now in
    let i = c.loop-thread.thread-index in
    let s = session_of c.args.self.now r at in
    let test : ℕ → Bool = λ t. is_some_number s.process (home_in s t) in
    let here = slice_get-get_or listed i 0 (omega (arith, c.loop-thread-test.true)) in
    sym (find_here test listed i _ here
    (sym (c.is_some_number.ensures
    ∙ ap (λ n. is_some_number n c.home.result) c.process.ensures
    ∙ ap (λ (o : Option ℕ). is_some_number s.process o)
    (c.home.ensures.home (all_moments at) a
    (all_at (has_home c.args.births.now) listed i _ here known)))
    ∙ c.if-is_some_number.true))
    ∙ c.loop-thread.invariant r at a known

pub loop-thread-preserved : goal.loop-thread-preserved
loop-thread-preserved c r at a known =
    let listed : List ℕ = c.args.listed.now in
    let i = c.loop-thread.thread-index in
    let s = session_of c.args.self.now r at in
    let test : ℕ → Bool = λ t. is_some_number s.process (home_in s t) in
    let here = slice_get-get_or listed i 0 (omega (arith, c.loop-thread-test.true)) in
    sym (find_on test listed i _ here
    (sym (c.is_some_number.ensures
    ∙ ap (λ n. is_some_number n c.home.result) c.process.ensures
    ∙ ap (λ (o : Option ℕ). is_some_number s.process o)
    (c.home.ensures.home (all_moments at) a
    (all_at (has_home c.args.births.now) listed i _ here known)))
    ∙ c.if-is_some_number.false))
    ∙ c.loop-thread.invariant r at a known

pub returns : goal.returns
returns c r at a known =
    let s = session_of c.args.self.now r at in
    let test : ℕ → Bool = λ t. is_some_number s.process (home_in s t) in
    sym (find_end test c.args.listed.now c.loop-thread.thread-index
    (omega (arith, c.loop-thread-test.false)))
    ∙ c.loop-thread.invariant r at a known
