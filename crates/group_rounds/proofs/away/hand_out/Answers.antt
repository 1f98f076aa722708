use Rattle.std.proofs.Common.{ℕ, List, ◌≤◌, ◌-◌, ◌≡◌, refl, sym, ap, ◌∙◌, subst, length, map}
use Rattle.std.proofs.Common.{le_trans, arith}
use Rattle.flat_machine.specs.Round.{with_budgets}
use Rattle.kernel_calls.specs.StateWorld.{sent, world_of}
use Rattle.quantum_run.specs.Packs.{empty_pack}
use Rattle.quantum_run.specs.Shows.{Pack}
use Rattle.group_rounds.specs.Away.{WentOut, IsHandedOut}
use Rattle.group_rounds.specs.Handing.{AreSpare, Handing, PacksFor, blank_pack, pack_of}
use Rattle.group_rounds.specs.Kernels.{Held, IsBetweenRounds}
use Rattle.group_rounds.specs.Phases.{AreLive}
use Rattle.group_rounds.proofs.AwayLaws.{away}
use Rattle.group_rounds.proofs.PacksRan.{ready-apart}
use Rattle.group_rounds.proofs.Sound.{few_live}
use Rattle.group_rounds.proofs.Starters.{ready_live}
use Rattle.group_rounds.proofs.away.hand_out.Goals as goal

pub gather-requires-clause-few : goal.gather-requires-clause-few
gather-requires-clause-few c = few_live c.kernel.inside.state
    (c.kernel.invariant.3 (ap (λ (k : Held). k.failed) c.kernel.view_is ∙ c.requires.running)).sound

pub gather-requires-clause-room : goal.gather-requires-clause-room
gather-requires-clause-room c = c.kernel.invariant.0

pub set_budgets-requires-clause-sound : goal.set_budgets-requires-clause-sound
set_budgets-requires-clause-sound c =
    (c.kernel.invariant.3 (ap (λ (k : Held). k.failed) c.kernel.view_is ∙ c.requires.running)).sound

pub set_budgets-requires-clause-live : goal.set_budgets-requires-clause-live
set_budgets-requires-clause-live c =
    subst (AreLive c.kernel.inside.state.table.threads)
    (sym (c.as_slice.ensures.value ∙ c.gather.ensures.ready))
    (ready_live c.kernel.inside.state.table.threads)

pub hand_out-requires-clause-apart : goal.hand_out-requires-clause-apart
hand_out-requires-clause-apart c =
    ready-apart c.kernel.inside.state.table.threads c.as_slice-2.result.now
    (c.as_slice-2.ensures.value ∙ c.gather.ensures.ready)

pub hand_out-requires-clause-sound : goal.hand_out-requires-clause-sound
hand_out-requires-clause-sound c = c.set_budgets.ensures.sound

pub hand_out-requires-clause-live : goal.hand_out-requires-clause-live
hand_out-requires-clause-live c =
    subst (AreLive c.set_budgets.new.state.table.threads)
    (c.as_slice.ensures.value ∙ sym c.as_slice-2.ensures.value) c.set_budgets.ensures.live

pub hand_out-requires-clause-none : goal.hand_out-requires-clause-none
hand_out-requires-clause-none c = c.packs.invariant.0.none

pub hand_out-requires-clause-room : goal.hand_out-requires-clause-room
hand_out-requires-clause-room c =
    let few = subst (λ (ts : List ℕ). length ts ≤ 64) (sym c.as_slice-2.ensures.value)
    c.gather.ensures.few in
    le_trans few c.packs.invariant.0.room

pub hand_out-requires-clause-enough : goal.hand_out-requires-clause-enough
hand_out-requires-clause-enough c =
    let few = subst (λ (ts : List ℕ). length ts ≤ 64) (sym c.as_slice-2.ensures.value)
    c.gather.ensures.few in
    le_trans few c.packs.invariant.0.many

pub hand_out-requires-clause-spare : goal.hand_out-requires-clause-spare
hand_out-requires-clause-spare c =
    let between =
    c.kernel.invariant.3 (ap (λ (k : Held). k.failed) c.kernel.view_is ∙ c.requires.running) in
    subst (λ (first : Pack). AreSpare first c.packs.inside.spare.items)
    (ap (λ scheme. blank_pack scheme c.packs.inside.frames)
    (ap (λ (x : PacksFor). x.scheme) (c.packs.view_is ∙ c.kernel.invariant.2)
    ∙ ap (λ (k : Held). k.config.scheme) c.kernel.view_is ∙ c.requires.scheme)
    ∙ ap empty_pack
    (ap (λ (x : PacksFor). x.frames) (c.packs.view_is ∙ c.kernel.invariant.2)
    ∙ sym between.frames ∙ sym c.set_budgets.ensures.count
    ∙ c.set_budgets.ensures.sound.counted.home.owners)) c.packs.invariant.0.empty

-- the state with the budgets set may stand between two rounds
between-is : (c : goal.After-hand_out)
    → IsBetweenRounds c.set_budgets.new.state c.kernel.inside.config
between-is c =
    let between =
    c.kernel.invariant.3 (ap (λ (k : Held). k.failed) c.kernel.view_is ∙ c.requires.running) in
    record {
      sound = c.set_budgets.ensures.sound;
      range = between.range;
      rounds = subst (λ (n : ℕ). n - 1 ≤ c.kernel.inside.config.rounds)
          (sym c.set_budgets.ensures.round.round) between.rounds;
      frames = c.set_budgets.ensures.count ∙ between.frames;
    }

went-out : (c : goal.After-hand_out) → WentOut c.set_budgets.new.state
    (away c.hand_out.new.state c.kernel.inside.config c.gather.new.starters.items
    c.hand_out.new.packs.items)
went-out c = record {
  between = between-is c;
  begun = subst (λ (n : ℕ). 1 ≤ n) (sym c.set_budgets.ensures.round.round) c.kernel.invariant.1;
  live = subst (AreLive c.set_budgets.new.state.table.threads) c.as_slice.ensures.value
      c.set_budgets.ensures.live;
  apart = ready-apart c.kernel.inside.state.table.threads c.gather.new.starters.items
      c.gather.ensures.ready;
  few = c.gather.ensures.few;
  hands =
      let s = c.set_budgets.new.state in
      subst (λ (ts : List ℕ). Handing ts (map (pack_of s.table (empty_pack (length
      s.frames.pages))) ts) s.frames
      c.hand_out.new.state.frames c.hand_out.new.packs.items (length s.frames.pages))
      c.as_slice-2.ensures.value c.hand_out.ensures.hands;
  table = c.hand_out.ensures.table;
  round = c.hand_out.ensures.round;
  pipes = c.hand_out.ensures.pipes;
  futexes = c.hand_out.ensures.futexes;
}

pub invariant_of-result : goal.invariant_of-result
invariant_of-result c =
    let frames_are = ap (λ (x : PacksFor). x.frames) (c.packs.view_is ∙ c.kernel.invariant.2) in
    let between = between-is c in
    let level = c.hand_out.ensures.hands.level in
    let less = c.hand_out.ensures.less in (
      (c.set_budgets.new.state, went-out c),
      record {
        scheme = ap (λ (k : Held). k.config.scheme) c.kernel.view_is ∙ c.requires.scheme;
        frames_are = frames_are;
        starters_room = c.gather.ensures.room;
        empty = subst (λ (n : ℕ). AreSpare (empty_pack n) c.hand_out.new.spare.items)
            (sym between.sound.counted.home.owners ∙ between.frames ∙ sym frames_are)
            c.hand_out.ensures.spare;
        many = omega (arith, c.packs.invariant.0.many, level, less);
        fits = omega (arith, c.packs.invariant.0.fits, level, less, c.hand_out.ensures.spare_room);
        room = omega (arith, c.packs.invariant.0.room, c.hand_out.ensures.room);
      },
    )

pub returns : goal.returns
returns c =
    subst (λ (k : Held). IsHandedOut k
    (away c.hand_out.new.state c.kernel.inside.config c.gather.new.starters.items
    c.hand_out.new.packs.items)) c.kernel.view_is (record {
      before = c.set_budgets.new.state;
      begins = λ o e. subst (λ (ts : List ℕ). with_budgets
          (sent o e (world_of c.kernel.inside.config.quantum c.kernel.inside.state)) ts
          ≡ sent o e (world_of c.kernel.inside.config.quantum c.set_budgets.new.state))
          (c.as_slice.ensures.value ∙ c.gather.ensures.ready) (c.set_budgets.ensures.sets o e);
      out = went-out c;
      config = refl;
      starters = c.gather.ensures.ready;
      round = c.set_budgets.ensures.round;
    })
