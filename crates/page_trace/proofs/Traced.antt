-- The trace of the rounds so far, one round after another.
use Rattle.std.proofs.Common.{◌≡◌, ℕ, suc, ◌+◌, ◌-◌, ◌≤◌, false, refl, sym, ap, ap₂}
use Rattle.std.proofs.Common.{◌∙◌, List, [], ◌++◌, append-nil, append_assoc, arith, map}
use Rattle.std.proofs.Common.{Option, None, Some, Err}
use Rattle.std.specs.Prelude.{if◌then◌else◌}
use Rattle.std.proofs.lemmas.List.{map-append}
use Rattle.dos_world.specs.World.{World}
use Rattle.dos_world.specs.Play.{Answer, Outcome, gives, asks, ask, done, over}
use Rattle.dos_world.specs.declared.Config.{Config}
use Rattle.dos_world.specs.declared.Ending.{Ending}
use Rattle.dos_world.specs.declared.Ending.TheVariants.{Done as done_ending, Limit as limit_ending}
use Rattle.dos_world.specs.declared.Ending.TheVariants.{Stalled as stalled_ending}
use Rattle.dos_world.specs.declared.Scheme.{Scheme}
use Rattle.dos_laws.specs.Plays.{world_ended}
use Rattle.flat_machine.specs.Round.{RoundEnd as FlatEnd, round_of}
use Rattle.dos_io.specs.Borders.{BorderState, bytes_to, exchanges_of}
use Rattle.dos_io.specs.Exchanges.{answer_of}
use Rattle.dos_io.specs.Outside.{GrewByFront, grown}
use Rattle.dos_io.specs.declared.border.Stream.TheVariants.{Output, Error}
use Rattle.dos_io.specs.declared.exchange.Exchange.{Exchange}
use Rattle.dos_io.specs.declared.shim.ShimStop.{ShimStop}
use Rattle.dos_io.proofs.OutsideLaws.{grown-nothing, grown_more}
use Rattle.dos_texts.proofs.Pieces.{front_of_whole}
use Rattle.kernel_calls.specs.Plays.{PlaysOn, StopsAsking, sent_then}
use Rattle.kernel_calls.specs.StateWorld.{sent, shim_stop, world_of}
use Rattle.kernel_calls.specs.declared.state.RunStop.{RunStop}
use Rattle.kernel_calls.specs.declared.state.RunStop.TheVariants.{HostFault, LogFull, Misfit}
use Rattle.kernel_calls.specs.declared.state.RunStop.TheVariants.{OutFault, ErrFault, Memory}
use Rattle.kernel_calls.specs.declared.state.State.{State}
use Rattle.group_rounds.specs.Rounds.{end_in}
use Rattle.group_rounds.specs.declared.round.RoundEnd.{RoundEnd}
use Rattle.group_rounds.specs.declared.round.RoundEnd.TheVariants.{Went, Done, Stalled}
use Rattle.group_rounds.proofs.PlayLaws.{goes-exchanges, goes-over_more}
use Rattle.dpg_run.specs.GroupRuns.{PlaysNext, end_by}
use Rattle.page_trace.specs.Lines.{change_lines}
use Rattle.page_trace.specs.Trace.{Change, changes, is_followed, trace_rounds}
use Rattle.page_trace.specs.Tracing.{StopTraces, Traced, TracesBy, TracesFront, TracesRounds}
use Rattle.page_trace.specs.Tracing.{round_lines, trace_lines}
use Rattle.page_trace.proofs.Changes.{lines_more}

-- ---- one round

-- what a trace comes to by what its first round comes to
abbrev by_round : Scheme → ℕ → World → Outcome FlatEnd → List Change
by_round scheme left w (asks question output error) = []
by_round scheme left w (gives end rest) =
    changes (w.rounds + 1) w.owners (world_ended end).owners
    ++ (if is_followed end then trace_rounds scheme left (world_ended end) rest else [])

by_first : (scheme : Scheme) (left : ℕ) (w : World) (answers : List Answer)
    → trace_rounds scheme (suc left) w answers ≡ by_round scheme left w (over answers (round_of
    scheme w))
by_first scheme left w answers = go (over answers (round_of scheme w))
  where
    go : (x : Outcome FlatEnd) → elim x as (λ _. List Change) [
      | asks question output error ↦ []
      | gives end rest ↦
          changes (w.rounds + 1) w.owners (world_ended end).owners
          ++ (if is_followed end then trace_rounds scheme left (world_ended end) rest else [])
    ] ≡ by_round scheme left w x
    go (asks question output error) = refl
    go (gives end rest) = refl

ended_in : (so : RoundEnd) (work : ℕ) (w : World) → world_ended (end_in so work w) ≡ w
ended_in Went work w = refl
ended_in Done work w = refl
ended_in Stalled work w = refl

module _ (config : Config) (s s' : State) (b b' : BorderState) (so : RoundEnd) (work : ℕ)
    (h : PlaysOn config.quantum (λ w. round_of config.scheme w) s b (λ w. done (end_in so work w))
    s' b') (first : 1 ≤ s.round)
    (o e : List ℕ) where
  -- the world in which it ended
  abbrev last : World
  last = sent_then h.crossings o e (world_of config.quantum s')

  -- its changes, and then the trace of what follows
  round_is : (left : ℕ) (rest : List Answer)
      → trace_rounds config.scheme (suc left) (sent o e (world_of config.quantum s))
      (map answer_of (exchanges_of h.crossings) ++ rest)
      ≡ changes s.round s.frames.owners s'.frames.owners
      ++ (if is_followed (end_in so work last) then trace_rounds config.scheme left
      (world_ended (end_in so work last)) rest else [])
  round_is left rest =
      by_first config.scheme left (sent o e (world_of config.quantum s)) (map answer_of
      (exchanges_of h.crossings) ++ rest)
      ∙ ap (by_round config.scheme left (sent o e (world_of config.quantum s)))
      (goes-over_more (exchanges_of h.crossings) rest (round_of config.scheme (sent o e (world_of
      config.quantum s)))
      (done (end_in so work last))
      (goes-exchanges o e h.crossings (round_of config.scheme (sent o e (world_of config.quantum
      s)))
      (done (end_in so work last)) (h.goes o e)))
      ∙ ap (λ n. changes n s.frames.owners (world_ended (end_in so work last)).owners
      ++ (if is_followed (end_in so work last) then trace_rounds config.scheme left
      (world_ended (end_in so work last)) rest else []))
      (let n : (s.round - 1) + 1 ≡ s.round = omega (arith, first) in n)
      ∙ ap (λ (w : World). changes s.round s.frames.owners w.owners
      ++ (if is_followed (end_in so work last) then trace_rounds config.scheme left
      (world_ended (end_in so work last)) rest else [])) (ended_in so work last)

-- what is told by a border, as the trace has it
told_by : (es : List Exchange) {from to told told' : List Exchange} → from ≡ told → to ≡ told'
    → told' ≡ told ++ es → to ≡ from ++ es
told_by es a b c = b ∙ c ∙ ap (λ xs. xs ++ es) (sym a)

-- no other round follows an ending
not_followed : (ended : Option Ending) (ending : Ending) (work : ℕ) (w : World)
    → ended ≡ Some ending → is_followed (end_in (end_by ended) work w) ≡ false
not_followed None ending work w is = absurd cc
not_followed (Some done_ending) ending work w is = refl
not_followed (Some limit_ending) ending work w is = refl
not_followed (Some stalled_ending) ending work w is = refl

-- ---- the rounds so far

-- Whatever is answered further, the trace from the old state is these changes, and then the trace
-- from the state now. The lines grew by those changes' lines.
pub record TracedSome (config : Config) (old : State) (before : Traced) (now : State) (after :
    Traced) :
    Type 0 where
  pub exchanges : List Exchange
  pub told_is : after.exchanges ≡ before.exchanges ++ exchanges
  pub output : List ℕ
  pub error : List ℕ
  pub so_far : List Change
  pub lines_are : after.lines ≡ grown before.lines (change_lines so_far)
  pub traces : (left : ℕ) (rest : List Answer)
      → trace_rounds config.scheme ((now.round - old.round) + left) (world_of config.quantum old)
      (map answer_of exchanges ++ rest)
      ≡ so_far ++ trace_rounds config.scheme left (sent output error (world_of config.quantum now))
      rest

pub traced_none : (config : Config) (s : State) (t : Traced) → TracedSome config s t s t
traced_none config s t = record {
  exchanges = [];
  told_is = sym (append-nil t.exchanges);
  output = [];
  error = [];
  so_far = [];
  lines_are = grown-nothing t.lines;
  traces = λ left rest. ap (λ n. trace_rounds config.scheme n (world_of config.quantum s) rest)
      (let n : (s.round - s.round) + left ≡ left = omega arith in n);
}

module _ (config : Config) (old s s' : State) (b b' : BorderState) (before t t' : Traced)
    (some : TracedSome config old before s t) (first : 1 ≤ s.round)
    (later : old.round ≤ s.round) (begun : 1 ≤ old.round) where
  abbrev w0 : World
  w0 = world_of config.quantum old

  -- further exchanges
  more_told : (es : List Exchange) → t'.exchanges ≡ t.exchanges ++ es
      → t'.exchanges ≡ before.exchanges ++ (some.exchanges ++ es)
  more_told es told =
      told ∙ ap (λ xs. xs ++ es) some.told_is ∙ append_assoc before.exchanges some.exchanges es

  answers_are : (es : List Exchange) (rest : List Answer)
      → map answer_of (some.exchanges ++ es) ++ rest
      ≡ map answer_of some.exchanges ++ (map answer_of es ++ rest)
  answers_are es rest =
      ap (λ xs. xs ++ rest) (map-append answer_of some.exchanges es)
      ∙ append_assoc (map answer_of some.exchanges) (map answer_of es) rest

  -- the trace over them, of as many rounds as were run and so many more
  trace_then : (n left : ℕ) (es : List Exchange) (rest : List Answer)
      → n ≡ (s.round - old.round) + left
      → trace_rounds config.scheme n w0 (map answer_of (some.exchanges ++ es) ++ rest)
      ≡ some.so_far
      ++ trace_rounds config.scheme left (sent some.output some.error (world_of config.quantum s))
      (map answer_of es ++ rest)
  trace_then n left es rest is =
      ap₂ (λ m answers. trace_rounds config.scheme m w0 answers) is (answers_are es rest)
      ∙ some.traces left (map answer_of es ++ rest)

  -- of all that the configuration leaves
  all_left : s.round ≤ config.rounds
      → config.rounds - (old.round - 1)
      ≡ (s.round - old.round) + suc (config.rounds - s.round)
  all_left allowed = omega (arith, first, later, begun, allowed)

  both_lines : (cs : List Change) → t'.lines ≡ grown t.lines (change_lines cs)
      → t'.lines ≡ grown before.lines (change_lines (some.so_far ++ cs))
  both_lines cs lines =
      grown_more before.lines t.lines t'.lines (change_lines some.so_far) (change_lines cs)
      some.lines_are lines
      ∙ ap (grown before.lines) (sym (lines_more some.so_far cs))

  -- a round more, behind which another may follow
  pub traced_went : (work : ℕ)
      (h : PlaysOn config.quantum (λ w. round_of config.scheme w) s b (λ w. done (end_in Went work
      w)) s' b')
      → s'.round ≡ s.round + 1 → t'.exchanges ≡ t.exchanges ++ exchanges_of h.crossings
      → t'.lines
      ≡ grown t.lines (change_lines (changes s.round s.frames.owners s'.frames.owners))
      → TracedSome config old before s' t'
  traced_went work h round told lines = record {
    exchanges = some.exchanges ++ exchanges_of h.crossings;
    told_is = more_told (exchanges_of h.crossings) told;
    output = some.output ++ bytes_to Output h.crossings;
    error = some.error ++ bytes_to Error h.crossings;
    so_far = some.so_far ++ changes s.round s.frames.owners s'.frames.owners;
    lines_are = both_lines (changes s.round s.frames.owners s'.frames.owners) lines;
    traces = λ left rest.
        trace_then ((s'.round - old.round) + left) (suc left) (exchanges_of h.crossings) rest
        (let n : (s'.round - old.round) + left ≡ (s.round - old.round) + suc left =
        omega (arith, round, later) in n)
        ∙ ap (λ cs. some.so_far ++ cs)
        (round_is config s s' b b' Went work h first some.output some.error left rest)
        ∙ sym (append_assoc some.so_far (changes s.round s.frames.owners s'.frames.owners)
        (trace_rounds config.scheme left
        (sent_then h.crossings some.output some.error (world_of config.quantum s')) rest));
  }

  -- a round more, with which the run ends
  pub traced_last : (ended : Option Ending) (ending : Ending) (work : ℕ)
      (h : PlaysOn config.quantum (λ w. round_of config.scheme w) s b (λ w. done (end_in (end_by
      ended) work w))
      s' b')
      → ended ≡ Some ending → s.round ≤ config.rounds
      → t'.exchanges ≡ t.exchanges ++ exchanges_of h.crossings
      → t'.lines
      ≡ grown t.lines (change_lines (changes s.round s.frames.owners s'.frames.owners))
      → TracesRounds config old before t'
  traced_last ended ending work h is allowed told lines = record {
    exchanges = some.exchanges ++ exchanges_of h.crossings;
    told_is = more_told (exchanges_of h.crossings) told;
    lines_are = λ rest.
        both_lines (changes s.round s.frames.owners s'.frames.owners) lines
        ∙ ap (λ cs. grown before.lines (change_lines cs)) (sym (whole rest));
  }
    where
      left : ℕ
      left = config.rounds - s.round

      w : World
      w = sent_then h.crossings some.output some.error (world_of config.quantum s')

      whole : (rest : List Answer)
          → trace_rounds config.scheme (config.rounds - (old.round - 1)) w0
          (map answer_of (some.exchanges ++ exchanges_of h.crossings) ++ rest)
          ≡ some.so_far ++ changes s.round s.frames.owners s'.frames.owners
      whole rest =
          trace_then (config.rounds - (old.round - 1)) (suc (config.rounds - s.round))
          (exchanges_of h.crossings) rest (all_left allowed)
          ∙ ap (λ cs. some.so_far ++ cs)
          (round_is config s s' b b' (end_by ended) work h first some.output some.error
          (config.rounds - s.round) rest
          ∙ ap (λ b. changes s.round s.frames.owners s'.frames.owners
          ++ (if b then trace_rounds config.scheme (config.rounds - s.round)
          (world_ended (end_in (end_by ended) work (sent_then h.crossings some.output some.error
          (world_of config.quantum s')))) rest else []))
          (not_followed ended ending work (sent_then h.crossings some.output some.error
          (world_of config.quantum s')) is)
          ∙ append-nil (changes s.round s.frames.owners s'.frames.owners))

  -- a round more, whose lines fail
  pub traced_fault : (so : RoundEnd) (work : ℕ)
      (h : PlaysOn config.quantum (λ w. round_of config.scheme w) s b (λ w. done (end_in so work
      w)) s' b')
      → s.round ≤ config.rounds → t'.exchanges ≡ t.exchanges ++ exchanges_of h.crossings
      → GrewByFront t.lines t'.lines
      (change_lines (changes s.round s.frames.owners s'.frames.owners))
      → TracesFront (trace_lines config old) before t'
  traced_fault so work h allowed told front = record {
    exchanges = some.exchanges ++ exchanges_of h.crossings;
    told_is = more_told (exchanges_of h.crossings) told;
    front = front_of_whole before.lines t.lines t'.lines (change_lines some.so_far)
        (change_lines (changes s.round s.frames.owners s'.frames.owners)) (change_lines tail)
        (trace_lines config old
        (map answer_of (some.exchanges ++ exchanges_of h.crossings))) some.lines_are front whole;
  }
    where
      tail : List Change
      tail = if is_followed (end_in so work (sent_then h.crossings some.output some.error
          (world_of config.quantum s'))) then trace_rounds config.scheme (config.rounds - s.round)
          (world_ended (end_in so work (sent_then h.crossings some.output some.error
          (world_of config.quantum s')))) [] else []

      whole : trace_lines config old (map answer_of (some.exchanges ++ exchanges_of h.crossings))
          ≡ change_lines some.so_far
          ++ (change_lines (changes s.round s.frames.owners s'.frames.owners)
          ++ change_lines tail)
      whole =
          ap (λ answers. trace_lines config old answers)
          (sym (append-nil (map answer_of (some.exchanges ++ exchanges_of h.crossings))))
          ∙ ap change_lines (trace_then (config.rounds - (old.round - 1))
          (suc (config.rounds - s.round)) (exchanges_of h.crossings) [] (all_left allowed)
          ∙ ap (λ cs. some.so_far ++ cs)
          (round_is config s s' b b' so work h first some.output some.error
          (config.rounds - s.round) []))
          ∙ lines_more some.so_far (changes s.round s.frames.owners s'.frames.owners ++ tail)
          ∙ ap (λ xs. change_lines some.so_far ++ xs)
          (lines_more (changes s.round s.frames.owners s'.frames.owners) tail)

  -- the shim stops in the round
  traced_stop : (why : ShimStop)
      (k : StopsAsking config.quantum (λ w. round_of config.scheme w) why s b b')
      → s.round ≤ config.rounds → t'.exchanges ≡ t.exchanges ++ exchanges_of k.crossings
      → t'.lines ≡ t.lines → TracesBy (trace_lines config old) before t'
  traced_stop why k allowed told lines = record {
    exchanges = some.exchanges ++ exchanges_of k.crossings;
    told_is = more_told (exchanges_of k.crossings) told;
    lines_are = lines ∙ some.lines_are
        ∙ ap (λ cs. grown before.lines (change_lines cs)) (sym whole);
  }
    where
      here : World
      here = sent some.output some.error (world_of config.quantum s)

      nothing : trace_rounds config.scheme (suc (config.rounds - s.round))
          (sent some.output some.error (world_of config.quantum s))
          (map answer_of (exchanges_of k.crossings) ++ []) ≡ []
      nothing =
          let there = k.goes some.output some.error in
          by_first config.scheme (config.rounds - s.round)
          (sent some.output some.error (world_of config.quantum s))
          (map answer_of (exchanges_of k.crossings) ++ [])
          ∙ ap (by_round config.scheme (config.rounds - s.round)
          (sent some.output some.error (world_of config.quantum s)))
          (goes-over_more (exchanges_of k.crossings) []
          (round_of config.scheme (sent some.output some.error (world_of config.quantum s)))
          (ask k.question (some.output ++ bytes_to Output k.crossings)
          (some.error ++ bytes_to Error k.crossings) there.0)
          (goes-exchanges some.output some.error k.crossings
          (round_of config.scheme (sent some.output some.error (world_of config.quantum s)))
          (ask k.question (some.output ++ bytes_to Output k.crossings)
          (some.error ++ bytes_to Error k.crossings) there.0) there.1))

      whole : trace_rounds config.scheme (config.rounds - (old.round - 1)) w0
          (map answer_of (some.exchanges ++ exchanges_of k.crossings)) ≡ some.so_far
      whole =
          ap (λ answers. trace_rounds config.scheme (config.rounds - (old.round - 1)) w0 answers)
          (sym (append-nil (map answer_of (some.exchanges ++ exchanges_of k.crossings))))
          ∙ trace_then (config.rounds - (old.round - 1)) (suc (config.rounds - s.round))
          (exchanges_of k.crossings) [] (all_left allowed)
          ∙ ap (λ cs. some.so_far ++ cs) nothing
          ∙ append-nil some.so_far

  -- a sink of the guests fails in it
  traced_cut : (es : List Exchange) → s'.round ≡ s.round → t'.exchanges ≡ t.exchanges ++ es
      → t'.lines ≡ t.lines
      → TracesBy (round_lines config (s'.round - old.round) old) before t'
  traced_cut es round told lines = record {
    exchanges = some.exchanges ++ es;
    told_is = more_told es told;
    lines_are = lines ∙ some.lines_are
        ∙ ap (λ cs. grown before.lines (change_lines cs)) (sym whole);
  }
    where
      whole : trace_rounds config.scheme (s'.round - old.round) w0 (map answer_of (some.exchanges
          ++ es))
          ≡ some.so_far
      whole =
          ap (λ answers. trace_rounds config.scheme (s'.round - old.round) w0 answers)
          (sym (append-nil (map answer_of (some.exchanges ++ es))))
          ∙ trace_then (s'.round - old.round) 0 es []
          (let n : s'.round - old.round ≡ (s.round - old.round) + 0 = omega (arith, round) in n)
          ∙ append-nil some.so_far

  pub traced_stops : (stop : RunStop)
      → PlaysNext config (Err stop) s b s' b' → s.round ≤ config.rounds
      → s'.round ≡ s.round → t.exchanges ≡ b.shim.told → t'.exchanges ≡ b'.shim.told
      → t'.lines ≡ t.lines → StopTraces (shim_stop stop) config old s' before t'
  traced_stops HostFault k allowed round from to lines =
      traced_stop _ k.plays.stops allowed (told_by _ from to k.plays.stops.tells.exchanges) lines
  traced_stops LogFull k allowed round from to lines =
      traced_stop _ k.plays.stops allowed (told_by _ from to k.plays.stops.tells.exchanges) lines
  traced_stops (Misfit found) k allowed round from to lines =
      traced_stop _ k.plays.stops allowed (told_by _ from to k.plays.stops.tells.exchanges) lines
  traced_stops Memory k allowed round from to lines =
      traced_stop _ k.plays.stops allowed (told_by _ from to k.plays.stops.tells.exchanges) lines
  traced_stops OutFault k allowed round from to lines =
      traced_cut _ round (told_by _ from to k.plays.stops.tells.exchanges) lines
  traced_stops ErrFault k allowed round from to lines =
      traced_cut _ round (told_by _ from to k.plays.stops.tells.exchanges) lines

-- no round is left
pub traced_over : (config : Config) (old s : State) (before t : Traced)
    → TracedSome config old before s t → config.rounds ≤ s.round - 1
    → s.round - 1 ≤ config.rounds → 1 ≤ old.round → old.round ≤ s.round
    → TracesRounds config old before t
traced_over config old s before t some past within begun later = record {
  exchanges = some.exchanges;
  told_is = some.told_is;
  lines_are = λ rest. some.lines_are
      ∙ ap (λ cs. grown before.lines (change_lines cs)) (sym (whole rest));
}
  where
    whole : (rest : List Answer)
        → trace_rounds config.scheme (config.rounds - (old.round - 1)) (world_of config.quantum old)
        (map answer_of some.exchanges ++ rest) ≡ some.so_far
    whole rest =
        ap (λ n. trace_rounds config.scheme n (world_of config.quantum old)
        (map answer_of some.exchanges ++ rest))
        (let n : config.rounds - (old.round - 1) ≡ (s.round - old.round) + 0 =
        omega (arith, past, within, begun, later) in n)
        ∙ some.traces 0 rest ∙ append-nil some.so_far

-- ---- the end

-- with the exchanges that the shim is told last
pub traced_all : (config : Config) (old : State) (before t t' : Traced)
    (es : List Exchange) → TracesRounds config old before t → t'.exchanges ≡ t.exchanges ++ es
    → t'.lines ≡ t.lines → TracesBy (trace_lines config old) before t'
traced_all config old before t t' es all told lines = record {
  exchanges = all.exchanges ++ es;
  told_is = told ∙ ap (λ xs. xs ++ es) all.told_is
      ∙ append_assoc before.exchanges all.exchanges es;
  lines_are = lines ∙ all.lines_are (map answer_of es)
      ∙ ap (λ answers. grown before.lines (trace_lines config old answers))
      (sym (map-append answer_of all.exchanges es));
}
