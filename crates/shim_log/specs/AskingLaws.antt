-- What a recorder asks its host in no call, and in some calls and then some more.
use Rattle.std.proofs.Common.{◌≡◌, ℕ, List, [], ◌∷◌, ◌++◌, refl, sym, ap, ◌∙◌, append_assoc}
use Rattle.std.proofs.lemmas.List.{append-nil}
use Rattle.dos_io.specs.Exchanges.{question_of}
use Rattle.dos_io.specs.Shims.{ShimState, shim_answered}
use Rattle.dos_io.specs.declared.exchange.ClockRule.{ClockRule}
use Rattle.dos_io.specs.declared.host_question.HostQuestion.{HostQuestion}
use Rattle.dos_io.specs.declared.shim.ShimStop.TheVariants.{LogFull, HostFault, Memory, Misfit}
use Rattle.shim_log.specs.Ledger.{LedgerState, recorder_state}
use Rattle.shim_log.specs.Asking.{ShimCall, answered, stopped_at, shown_after, asked_in, HostStands}
use Rattle.shim_log.specs.Asking.{RecorderAsks, host_question, stop_questions}

shown_then : (s : ShimState) (cs ds : List ShimCall)
    → shown_after s (cs ++ ds) ≡ shown_after (shown_after s cs) ds
shown_then s [] ds = refl
shown_then s (answered e ∷ cs) ds = shown_then (shim_answered s e) cs ds
shown_then s (stopped_at q stop ∷ cs) ds = shown_then _ cs ds

asked_then : (clock : ClockRule) (cs ds : List ShimCall)
    → asked_in clock (cs ++ ds) ≡ asked_in clock cs ++ asked_in clock ds
asked_then clock [] ds = refl
asked_then clock (answered e ∷ cs) ds =
    ap (λ (x : List HostQuestion). host_question clock (question_of e) ++ x)
    (asked_then clock cs ds)
    ∙ sym (append_assoc (host_question clock (question_of e)) (asked_in clock cs)
    (asked_in clock ds))
asked_then clock (stopped_at q stop ∷ cs) ds =
    ap (λ (x : List HostQuestion). stop_questions clock q stop ++ x) (asked_then clock cs ds)
    ∙ sym (append_assoc (stop_questions clock q stop) (asked_in clock cs) (asked_in clock ds))

stands_both : (cs ds : List ShimCall) → HostStands (cs ++ ds) → HostStands cs × HostStands ds
stands_both [] ds h = (tt, h)
stands_both (answered e ∷ cs) ds h = stands_both cs ds h
stands_both (stopped_at q HostFault ∷ cs) ds h = absurd h
stands_both (stopped_at q LogFull ∷ cs) ds h = stands_both cs ds h
stands_both (stopped_at q Memory ∷ cs) ds h = stands_both cs ds h
stands_both (stopped_at q (Misfit misfit) ∷ cs) ds h = stands_both cs ds h

pub asks_nothing : (s : LedgerState) (before : List HostQuestion) (m : ℕ)
    → RecorderAsks s s before before m m
asks_nothing s before m = record {
  clock_same = refl;
  calls = [];
  shows = refl;
  asked = sym (append-nil before);
  steady = λ _. refl;
}

pub asks_on : (s t u : LedgerState) (before between after : List HostQuestion) (l m n : ℕ)
    → RecorderAsks s t before between l m → RecorderAsks t u between after m n
    → RecorderAsks s u before after l n
asks_on s t u before between after l m n p q = record {
  clock_same = q.clock_same ∙ p.clock_same;
  calls = p.calls ++ q.calls;
  shows = q.shows ∙ ap (λ (x : ShimState). shown_after x q.calls) p.shows
      ∙ sym (shown_then (recorder_state s) p.calls q.calls);
  asked = q.asked ∙ ap (λ (x : ClockRule). between ++ asked_in x q.calls) p.clock_same
      ∙ ap (λ (x : List HostQuestion). x ++ asked_in s.clock q.calls) p.asked
      ∙ append_assoc before (asked_in s.clock p.calls) (asked_in s.clock q.calls)
      ∙ ap (λ (x : List HostQuestion). before ++ x)
      (sym (asked_then s.clock p.calls q.calls));
  steady = λ stands. let both = stands_both p.calls q.calls stands in
      q.steady both.1 ∙ p.steady both.0;
}
