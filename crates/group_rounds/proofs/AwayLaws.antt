-- What is known of packs that went out, and of those that have run.
use Rattle.std.proofs.Common.{ℕ, ◌-◌, ◌≤◌, ◌≡◌, refl, sym, ap, ap₂, ◌∙◌, subst, List, [], false}
use Rattle.dos_world.specs.declared.Config.{Config}
use Rattle.dos_world.specs.declared.Scheme.TheVariants.{Ownership}
use Rattle.page_store.specs.Store.{Store, IsAway}
use Rattle.quantum_run.specs.Packs.{empty_pack}
use Rattle.quantum_run.specs.Shows.{Pack, CanRun}
use Rattle.proc_table.specs.Tables.{Tables, IsLiveThread}
use Rattle.flat_machine.specs.Round.{all_alone, parallel, budgets as world_budgets}
use Rattle.kernel_calls.specs.StateWorld.{sent, world_of}
use Rattle.kernel_calls.specs.declared.state.State.{State}
use Rattle.worker_pool.specs.Ran.{AllRan, AllCanRun, budgets_left}
use Rattle.group_rounds.specs.Away.{Away, WentOut, IsHandedOut, HaveRun, IsParallelOf}
use Rattle.group_rounds.specs.Handing.{In, all_pages, HaveNoFrameTwice, AreOthers, AreSet, PutBack}
use Rattle.group_rounds.specs.Handing.{PacksFor, emptied_pack, packs_for, view_of}
use Rattle.group_rounds.specs.Kernels.{Held, IsBetweenRounds}
use Rattle.group_rounds.specs.Parts.{work_between}
use Rattle.group_rounds.specs.Phases.{ready_in}
use Rattle.group_rounds.proofs.PacksShow.{can-run}
use Rattle.group_rounds.proofs.PacksBack.{others, pages-apart, pages-away, threads-live}
use Rattle.group_rounds.proofs.PacksBack.{spare-again, all-runs, sound-again, count-again}
use Rattle.group_rounds.proofs.PacksWork.{work-is}
use Rattle.group_rounds.proofs.RoundLaws.{ready_still}
use Rattle.group_rounds.proofs.HandingLaws.{beside}

-- a kernel that is handed out, by its parts
abbrev pub away : State → Config → (starters : List ℕ) → (packs : List Pack) → Away
away state config starters packs = record {
  state = state;
  config = config;
  starters = starters;
  packs = packs;
}

-- packs for so many frames and the ownership scheme are for a configuration with them
pub packs-for : (config : Config) (frames : ℕ) → frames ≡ config.frames
    → config.scheme ≡ Ownership
    → ◌≡◌ {A = PacksFor} (record { frames = frames; scheme = Ownership }) (packs_for config)
packs-for config frames same scheme =
    ap₂ (λ n s. record { frames = n; scheme = s }) same (sym scheme)

module _ (before : State) (a : Away) (out : WentOut before a) where
  abbrev new : Store
  new = a.state.frames

  pub all-can-run : AllCanRun (view_of new a.state.table) a.packs
  all-can-run i p at =
      let t = beside a.starters a.packs i p out.hands.level at in
      subst (λ (table : Tables). CanRun p (view_of new table)) (sym out.table)
      (can-run before out.between.sound a.starters out.live new a.packs out.hands i t.0 p t.1 at)

  module _ (qs : List Pack) (ran : AllRan (view_of new a.state.table) a.packs qs) where
    ran-before : AllRan (view_of new before.table) a.packs qs
    ran-before = subst (λ (t : Tables). AllRan (view_of new t) a.packs qs) out.table ran

    pub are-away : (f : ℕ) (page : List ℕ) → In (all_pages qs) (f, page) → IsAway new f
    are-away = pages-away before out.between.sound a.starters out.live out.apart new a.packs qs
        out.hands ran-before

    pub are-apart : HaveNoFrameTwice (all_pages qs)
    are-apart = pages-apart before out.between.sound a.starters out.live out.apart new a.packs qs
        out.hands ran-before

    pub are-live : (q : Pack) → In qs q → IsLiveThread a.state.table.threads q.thread
    are-live q k = subst (λ (table : Tables). IsLiveThread table.threads q.thread) (sym out.table)
        (threads-live before out.between.sound a.starters out.live out.apart new a.packs qs
        out.hands ran-before q k)

    pub are-others : AreOthers qs
    are-others = others before out.between.sound a.starters out.live out.apart new a.packs qs
        out.hands ran-before

    pub are-spare : (q : Pack) → In qs q
        → emptied_pack (record q { pages = [] }) ≡ empty_pack a.config.frames
    are-spare q k =
        spare-again before out.between.sound a.starters out.live out.apart new a.packs qs out.hands
        ran-before q k
        ∙ ap empty_pack (sym out.between.sound.counted.home.owners ∙ out.between.frames)

    module _ (s2 : State) (put : PutBack (all_pages qs) new s2.frames)
        (set : AreSet qs a.state.table s2.table) (round : s2.round ≡ a.state.round)
        (pipes : s2.pipes ≡ a.state.pipes) (futexes : s2.futexes ≡ a.state.futexes) where
      set-before : AreSet qs before.table s2.table
      set-before = subst (λ (t : Tables). AreSet qs t s2.table) out.table set

      pub runs-all : (q : ℕ) (o e : List ℕ)
          → all_alone (sent o e (world_of q before)) a.starters ≡ sent o e (world_of q s2)
      runs-all = all-runs before out.between.sound a.starters out.live out.apart new a.packs qs
          out.hands ran-before s2 put set-before (round ∙ out.round) (pipes ∙ out.pipes)
          (futexes ∙ out.futexes)

      pub work-all : budgets_left a.packs - budgets_left qs ≡ work_between before s2 a.starters
      work-all = work-is before out.between.sound a.starters out.live out.apart new a.packs qs
          out.hands ran-before s2 set-before

      pub between-again : IsBetweenRounds s2 a.config
      between-again = record {
        sound = sound-again before out.between.sound a.starters out.live out.apart new a.packs qs
            out.hands ran-before s2 put set-before (round ∙ out.round) (pipes ∙ out.pipes)
            (futexes ∙ out.futexes);
        range = out.between.range;
        rounds = subst (λ (n : ℕ). n - 1 ≤ a.config.rounds) (sym (round ∙ out.round))
            out.between.rounds;
        frames = count-again before out.between.sound a.starters out.live out.apart new a.packs qs
            out.hands ran-before s2 put set-before (round ∙ out.round) (pipes ∙ out.pipes)
            (futexes ∙ out.futexes) ∙ out.between.frames;
      }

-- what became of a kernel that was handed out, and whose packs have run and come back
pub is-parallel : (k : Held) (a ran : Away) → IsHandedOut k a → HaveRun a ran → (s2 : State)
    → PutBack (all_pages ran.packs) ran.state.frames s2.frames
    → AreSet ran.packs ran.state.table s2.table → s2.round ≡ ran.state.round
    → s2.pipes ≡ ran.state.pipes → s2.futexes ≡ ran.state.futexes
    → IsParallelOf k (budgets_left a.packs - budgets_left ran.packs)
    (record { state = s2; config = ran.config; starters = ran.starters; failed = false })
is-parallel k a ran out have s2 put set round pipes futexes =
    let same : ran.state ≡ a.state = ap (λ (x : Away). x.state) have.rest in
    let put2 = subst (λ (s : State). PutBack (all_pages ran.packs) s.frames s2.frames) same put in
    let set2 = subst (λ (s : State). AreSet ran.packs s.table s2.table) same set in
    let round2 = round ∙ ap (λ (s : State). s.round) same in
    let pipes2 = pipes ∙ ap (λ (s : State). s.pipes) same in
    let futexes2 = futexes ∙ ap (λ (s : State). s.futexes) same in
    let q = k.config.quantum in
    let ts = ready_in k.state.table.threads in
    let runs = runs-all out.before a out.out ran.packs have.runs s2 put2 set2 round2 pipes2
    futexes2 in
    let halfway : (o e : List ℕ) → parallel (sent o e (world_of q out.before))
    ≡ sent o e (world_of q s2) =
    λ o e. ap (all_alone (sent o e (world_of q out.before)))
    (sym (ready_still q k.state out.before ts refl out.begins))
    ∙ subst (λ us. all_alone (sent o e (world_of q out.before)) us
    ≡ sent o e (world_of q s2)) out.starters (runs q o e) in
    record {
      runs = λ o e. ap parallel (out.begins o e) ∙ halfway o e;
      work_is = λ o e.
          ap (λ w. world_budgets w ts - world_budgets (parallel w) ts) (out.begins o e)
          ∙ ap (λ w. world_budgets (sent o e (world_of q out.before)) ts - world_budgets w ts)
          (halfway o e)
          ∙ ap (λ us. work_between out.before s2 us) (sym out.starters)
          ∙ sym (work-all out.before a out.out ran.packs have.runs s2 put2 set2 round2 pipes2
          futexes2);
      config = ap (λ (x : Away). x.config) have.rest ∙ out.config;
      starters = ap (λ (x : Away). x.starters) have.rest ∙ out.starters;
      running = refl;
      round = record {
        round = round2 ∙ out.out.round ∙ out.round.round;
        marked = put2.marked ∙ out.out.hands.marked ∙ out.round.marked;
      };
    }
