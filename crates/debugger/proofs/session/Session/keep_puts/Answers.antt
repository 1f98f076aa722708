use Rattle.std.proofs.Common.{ap, sym, ◌∙◌, ◌++◌, ◌≡◌, ℕ, List, subst}
use Rattle.debug_session.specs.Halts.{some_bytes}
use Rattle.debugger.specs.Halting.{puts_kept}
use Rattle.debugger.specs.Standing.{SessionView}
use Rattle.debugger.proofs.Kept.{kept_both, numbered_so}
use Rattle.debugger.proofs.session.Session.keep_puts.Goals as goal

pub returns : goal.returns
returns c =
    let out = c.heard.ensures.output ∙ ap (λ (k : SessionView). k.playback.output) c.self.view_is in
    let err = c.heard.ensures.error ∙ ap (λ (k : SessionView). k.playback.error) c.self.view_is in
    kept_both c.args.puts.now.items c.keep_bytes.new.puts.items c.keep_bytes-2.new.puts.items
    c.args.moves (some_bytes c.args.self.now.playback.output)
    (some_bytes c.args.self.now.playback.error)
    (c.in_ok-keep_bytes.ensures
    ∙ ap (λ (b : List ℕ). puts_kept c.args.puts.now.items
    ++ numbered_so c.args.moves (some_bytes b)) out)
    (c.in_ok-keep_bytes-2.ensures
    ∙ ap (λ (b : List ℕ). puts_kept c.keep_bytes.new.puts.items
    ++ numbered_so c.args.moves (some_bytes b)) err)
