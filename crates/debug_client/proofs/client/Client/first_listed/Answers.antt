use Rattle.std.proofs.Common.{ℕ, Bool, List, arith, ap, sym, ◌∙◌}
use Rattle.std.proofs.lemmas.Option.{slice_get-get_or}
use Rattle.debug_session.specs.Homes.{is_some_number}
use Rattle.debug_session.specs.Sessions.{home_in, is_among}
use Rattle.debug_client.specs.Clients.{session_of}
use Rattle.debug_client.proofs.Chosen.{of_process, of_all}
use Rattle.debug_client.proofs.client.Client.first_listed.Goals as goal

pub returns-in-Some : goal.returns-in-Some
returns-in-Some c r at a known =
    let listed : List ℕ = c.args.listed.now in
    let s = session_of c.args.self.now r at in
    let test : ℕ → Bool = λ t. is_some_number s.process (home_in s t) in
    let other = sym (c.is_among.ensures ∙ ap (λ t. is_among t listed) c.thread.ensures)
    ∙ c.if-is_among.false in
    sym (of_process test listed s.thread (is_among s.thread listed) c.in-Some.thread other
    (sym (c.in-Some.ensures r at a known)))

pub returns-in-len1-up : goal.returns-in-len1-up
returns-in-len1-up c r at a known =
    let listed : List ℕ = c.args.listed.now in
    let s = session_of c.args.self.now r at in
    let test : ℕ → Bool = λ t. is_some_number s.process (home_in s t) in
    let other = sym (c.is_among.ensures ∙ ap (λ t. is_among t listed) c.thread.ensures)
    ∙ c.if-is_among.false in
    sym (slice_get-get_or listed 0 0 (omega (arith, c.in-len1-up.len_at_least)))
    ∙ sym (of_all test listed s.thread (is_among s.thread listed) other
    (sym (c.lowest_of_process.ensures r at a known) ∙ c.in_default.is))
