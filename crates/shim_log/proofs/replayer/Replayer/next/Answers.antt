use Rattle.std.proofs.Common.{◌≡◌, ◌≤◌, ◌∙◌, ℕ, length, sym, ap, subst, arith}
use Rattle.std.specs.List.{slice_get}
use Rattle.dos_io.specs.Shims.{HasNoEnd}
use Rattle.log_text.specs.LogText.{exchanges}
use Rattle.shim_log.specs.Replay.{IsReplay, ReplayState, entries_used, replayer_state}
use Rattle.shim_log.proofs.ReplayLaws.{get_behind, is_next}
use Rattle.shim_log.proofs.replayer.Replayer.next.Goals as goal

few : (inside p : ReplayState) → inside ≡ p → IsReplay inside → HasNoEnd (replayer_state p).told
    → entries_used p ≤ length p.log.entries
few inside p same kept none =
    is_next p (subst (λ (s : ReplayState). s.start ≤ length s.log.entries) same kept.begins) none

pub exchange_at-requires-clause-more : goal.exchange_at-requires-clause-more
exchange_at-requires-clause-more c =
    omega (
      arith,
      few _ _ c.self.view_is c.self.invariant.0 c.requires,
      c.used-used.ensures,
      ap (λ (p : ReplayState). length p.log.entries) c.self.view_is,
    )

pub returns-clause-more : goal.returns-clause-more
returns-clause-more c = few _ _ c.self.view_is c.self.invariant.0 c.requires

pub returns-clause-entry : goal.returns-clause-entry
returns-clause-entry c =
    let p = c.args.self.now in
    get_behind (exchanges p.log) p.start p.answered
    ∙ ap (λ (n : ℕ). slice_get (exchanges p.log) n) (sym c.used-used.ensures)
    ∙ ap (λ (s : ReplayState). slice_get (exchanges s.log) c.used-used.result)
    (sym c.self.view_is)
    ∙ c.exchange_at.ensures.entry
