use Rattle.std.proofs.Common.{ℕ, List, ◌≡◌, ◌∙◌, ap, sym, subst, length, arith}
use Rattle.page_store.specs.Store.{Store, IsAway}
use Rattle.quantum_run.specs.Packs.{empty_pack}
use Rattle.quantum_run.specs.Shows.{CanRun, Pack}
use Rattle.proc_table.specs.Tables.{Tables, IsLiveThread}
use Rattle.kernel_calls.specs.declared.state.State.{State}
use Rattle.worker_pool.specs.Ran.{AllRan, GrewBy}
use Rattle.group_rounds.specs.Handing.{AreSet, PutBack, view_of}
use Rattle.group_rounds.proofs.PacksShow.{can-run}
use Rattle.group_rounds.proofs.PacksBack.{others, pages-apart, pages-away, threads-live}
use Rattle.group_rounds.proofs.PacksBack.{spare-again, all-runs, sound-again, count-again}
use Rattle.group_rounds.proofs.PacksWork.{work-is}
use Rattle.group_rounds.proofs.packs.parallel_packs.Goals as goal
use Rattle.group_rounds.proofs.HandingLaws.{beside}

-- the packs ran over the table that was there before the pages went out
over-table : (new : Store) (t u : Tables) (ps qs : List Pack) → t ≡ u → AllRan (view_of new t) ps qs
    → AllRan (view_of new u) ps qs
over-table new t u ps qs same ran = subst (λ (x : Tables). AllRan (view_of new x) ps qs) same ran

-- the pages come back to the frames that they went out of
back-to : (pages : List (ℕ × List ℕ)) (ran out : State) (after : Store) → ran ≡ out
    → PutBack pages ran.frames after → PutBack pages out.frames after
back-to pages ran out after same back =
    subst (λ (s : State). PutBack pages s.frames after) same back

-- the registers and budgets to the table that was there before
set-to : (qs : List Pack) (ran out : State) (t after : Tables) → ran ≡ out → out.table ≡ t
    → AreSet qs ran.table after → AreSet qs t after
set-to qs ran out t after same stood set = subst (λ (x : Tables). AreSet qs x after)
    (ap (λ (s : State). s.table) same ∙ stood) set

-- and the rest of the state is as it was
rest-to : (ran out s s2 : State) → ran ≡ out → s2.round ≡ ran.round → s2.pipes ≡ ran.pipes
    → s2.futexes ≡ ran.futexes → out.round ≡ s.round → out.pipes ≡ s.pipes
    → out.futexes ≡ s.futexes
    → (s2.round ≡ s.round) × (s2.pipes ≡ s.pipes) × (s2.futexes ≡ s.futexes)
rest-to ran out s s2 same round pipes futexes round0 pipes0 futexes0 = (
  round ∙ ap (λ (x : State). x.round) same ∙ round0,
  pipes ∙ ap (λ (x : State). x.pipes) same ∙ pipes0,
  futexes ∙ ap (λ (x : State). x.futexes) same ∙ futexes0,
)

pub run_out-requires-clause-can : goal.run_out-requires-clause-can
run_out-requires-clause-can g c =
    let s : State = c.args.state.now in
    let ts = c.args.starters.now in
    let h = c.hand_out.ensures.hands in
    let new = c.hand_out.new.state.frames in
    let ps = c.hand_out.new.packs.items in
    λ κs outlive i p at.
    let t = beside ts ps i p h.level at in
    subst (λ (table : Tables). CanRun p (view_of new table)) (sym c.hand_out.ensures.table)
    (can-run s c.requires.sound ts c.requires.live new ps h i t.0 p t.1 at)

pub take_in-requires : goal.take_in-requires
take_in-requires g c =
    let s : State = c.args.state.now in
    let ts = c.args.starters.now in
    let h = c.hand_out.ensures.hands in
    let new = c.hand_out.new.state.frames in
    let ps = c.hand_out.new.packs.items in
    let qs = c.run_out.new.packs.items in
    let same = c.run_out.ensures.state in
    let ran = over-table new _ _ ps qs c.hand_out.ensures.table c.run_out.ensures.runs in
    let sound = c.requires.sound in
    let live = c.requires.live in
    let apart = c.requires.apart in
    record {
      away = λ f page k. subst (λ (x : State). IsAway x.frames f) (sym same)
          (pages-away s sound ts live apart new ps qs h ran f page k);
      apart = pages-apart s sound ts live apart new ps qs h ran;
      live = λ p k. subst (λ (table : Tables). IsLiveThread table.threads p.thread)
          (sym (ap (λ (x : State). x.table) same ∙ c.hand_out.ensures.table))
          (threads-live s sound ts live apart new ps qs h ran p k);
      others = others s sound ts live apart new ps qs h ran;
      room = let less = c.hand_out.ensures.less in
          let kept = c.hand_out.ensures.spare_room in
          omega (arith, ran.level, h.level, less, kept, c.requires.spare_room);
    }

pub returns : goal.returns
returns g c =
    let s : State = c.args.state.now in
    let ts = c.args.starters.now in
    let h = c.hand_out.ensures.hands in
    let new = c.hand_out.new.state.frames in
    let ps = c.hand_out.new.packs.items in
    let qs = c.run_out.new.packs.items in
    let same = c.run_out.ensures.state in
    let ran = over-table new _ _ ps qs c.hand_out.ensures.table c.run_out.ensures.runs in
    let sound = c.requires.sound in
    let live = c.requires.live in
    let apart = c.requires.apart in
    let home = c.take_in.ensures in
    let s2 : State = c.take_in.new.state in
    let set = set-to qs _ _ _ _ same c.hand_out.ensures.table home.set in
    let back = back-to _ _ _ _ same home.back in
    let rest = rest-to _ _ s s2 same home.round home.pipes home.futexes c.hand_out.ensures.round
    c.hand_out.ensures.pipes c.hand_out.ensures.futexes in
    record {
      parts = record {
        runs = all-runs s sound ts live apart new ps qs h ran s2 back set rest.0 rest.1 rest.2;
        sound = sound-again s sound ts live apart new ps qs h ran s2 back set rest.0 rest.1 rest.2;
        round = record { round = rest.0; marked = back.marked ∙ h.marked };
        count = count-again s sound ts live apart new ps qs h ran s2 back set rest.0 rest.1 rest.2;
      };
      tally = subst (λ work. GrewBy (g.W.Workers.tally c.args.workers.now)
          (g.W.Workers.tally c.run_out.new.workers) work)
          (work-is s sound ts live apart new ps qs h ran s2 set) c.run_out.ensures.tally;
      fixed = c.run_out.ensures.fixed;
      none = home.packs;
      room = omega (arith, c.hand_out.ensures.room, c.run_out.ensures.room, home.packs_room);
      enough = omega (arith, ran.level, h.level, c.hand_out.ensures.less, home.spare);
      spare = home.all_spare (empty_pack (length s.frames.pages)) c.hand_out.ensures.spare
          (spare-again s sound ts live apart new ps qs h ran);
      spare_room = omega (arith, c.hand_out.ensures.spare_room, home.spare_room);
      stand_in = c.run_out.ensures.stand_in;
    }
