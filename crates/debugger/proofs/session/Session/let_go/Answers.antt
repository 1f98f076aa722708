use Rattle.std.proofs.Common.{◌≡◌, ℕ, Option, Some, None, ◌∙◌, ap, sym, codes, true}
use Rattle.std.proofs.lemmas.Result.{on_ok_weaker}
use Rattle.debug_client.specs.Births.{BirthTables, has_processes}
use Rattle.debug_client.specs.Clients.{session_of}
use Rattle.debug_client.proofs.Laws.{others_within}
use Rattle.debug_connection.specs.Keeping.{texts_of}
use Rattle.debug_session.specs.Answers.{process_let_go}
use Rattle.debug_session.specs.Resuming.{replies_one}
use Rattle.debug_session.specs.Sessions.{Session}
use Rattle.debugger.specs.Standing.{SessionView}
use Rattle.debugger.proofs.Clients.{ready_alike, ready_with}
use Rattle.debugger.proofs.Telling.{client_so, some_so}
use Rattle.debugger.proofs.session.Session.let_go.Goals as goal

-- all that are still told of are known
still_known : (b : BirthTables) (s : Session) (process : Option ℕ) → has_processes b s.told ≡ true
    → has_processes b (process_let_go s process).told ≡ true
still_known b s None known = known
still_known b s (Some p) known = others_within b s.told p known

pub invariant_of-self : goal.invariant_of-self
invariant_of-self c running =
    ready_alike _ c.let_go.new.self (c.self.invariant running)
    (some_so c.self.view_is c.self.inside.playback.walk.state
    (ap (λ (x : SessionView). x.playback.walk.state) c.self.view_is) c.self.invariant
    c.requires c.histories_start.ensures
    (c.let_go.new.self.told ≡ c.self.inside.client.told)
    (λ r at q output error h. ap (λ (s : Session). s.told) (c.in_err-let_go.ensures r at)))

pub invariant_of-self-2 : goal.invariant_of-self-2
invariant_of-self-2 c running =
    let b : BirthTables = c.self.inside.births in
    ready_with _ c.let_go.new.self (c.self.invariant running)
    (some_so c.self.view_is c.self.inside.playback.walk.state
    (ap (λ (x : SessionView). x.playback.walk.state) c.self.view_is) c.self.invariant
    c.requires c.histories_start.ensures
    (has_processes b c.let_go.new.self.told ≡ true)
    (λ r at q output error h.
    ap (λ (s : Session). has_processes b s.told) (c.in_ok-let_go.ensures r at)
    ∙ still_known b (session_of c.self.inside.client r at) c.args.process h.ready.told))

pub returns : goal.returns
returns c =
    on_ok_weaker c.say.result
    (λ put.
    client_so c.self.view_is c.self.inside.playback.walk.state
    (ap (λ (x : SessionView). x.playback.walk.state) c.self.view_is) c.self.invariant
    c.requires c.let_go.new.self (texts_of c.args.replies.now.items)
    (texts_of c.say.new.replies.items)
    (λ s. replies_one (process_let_go s c.args.process) (codes "OK")) (codes "OK") put
    (λ r at q output error h.
    ap (λ (s : Session). replies_one s (codes "OK")) (sym (c.in_ok-let_go.ensures r at))))
    c.say.ensures
