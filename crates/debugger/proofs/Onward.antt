-- Where a resumption forwards goes on, and what it halts by.
use Rattle.std.proofs.Common.{ℕ, ◌≡◌, ◌+◌, ◌<◌, ◌≤◌, List, [], ◌∷◌, Option, Some, None, Bool, true}
use Rattle.std.proofs.Common.{false, refl, sym, ap, ◌∙◌, subst, length, arith, inl, inr, ◌⊎◌}
use Rattle.std.specs.Prelude.{◌&&◌, ◌||◌, not, nat_lt, is_some, option_and_then, option_map}
use Rattle.std.specs.Prelude.{IfSome, IsSome, MatchOption, if◌then◌else◌, is_none}
use Rattle.std.proofs.lemmas.Bool.{le-ltb, lt-ltb}
use Rattle.dos_world.specs.World.{Registers, World, Thread, thread_at, first_thread}
use Rattle.group_moves.specs.Moves.{MoveKind, begins, runs, is_served, faults}
use Rattle.group_moves.specs.Moments.{Moment}
use Rattle.group_walk.specs.Walks.{kind_named, kinds_named}
use Rattle.group_walk.specs.declared.walker.MoveKind.{MoveKind as kind_type}
use Rattle.gdb_packets.specs.declared.resumptions.Action.{Action}
use Rattle.gdb_packets.specs.declared.resumptions.Resumption.{Resumption}
use Rattle.debug_session.specs.Actions.{action_of_thread, is_stepping, is_stopping}
use Rattle.debug_session.specs.Actions.{thread_named}
use Rattle.debug_session.specs.Forwards.{born_between, forwards_over, halt_bearing, halt_before}
use Rattle.debug_session.specs.Forwards.{halt_born, halt_broken, halt_deserted, halt_faulted}
use Rattle.debug_session.specs.Forwards.{halt_moving, halt_unstepped, is_stepping_nobody}
use Rattle.debug_session.specs.Forwards.{halt_stepped, halt_watched, is_birth_told, is_step_over}
use Rattle.debug_session.specs.Forwards.{last_there}
use Rattle.debug_session.specs.Forwards.{or_else, step_pair, steps_nobody}
use Rattle.debug_session.specs.Halts.{Halt, halt_at, halt_by}
use Rattle.debug_session.specs.Hits.{broken_by, fault_by, hit_by, is_thread_broken}
use Rattle.debug_session.specs.Positions.{Position, first_kind, first_mover, mover_at, mover_of}
use Rattle.debug_session.specs.Positions.{moved_on, position_after, position_at}
use Rattle.debug_session.specs.Sessions.{Pair, Session, chosen_at, home_pair, is_among}
use Rattle.debug_session.specs.Sessions.{is_anybody_there, is_told_of}
use Rattle.debug_session.specs.Stops.{fault_signal}
use Rattle.debug_session.specs.declared.stops.Cause.{Cause}
use Rattle.debug_session.specs.declared.stops.Cause.TheVariants.{Bore, Broke, Plainly, ReachedEnd}
use Rattle.debugger.specs.declared.forwards.Way.{Way}
use Rattle.debugger.specs.declared.halts.Halt.{Halt as Kept}
use Rattle.debugger.specs.declared.moving.Before.{Before}
use Rattle.debugger.specs.Halting.{WasSeen, action_at, fault_named, halt_meant, mover_told}
use Rattle.debugger.specs.Halting.{IsNoted, IsPassing, forwards_from, halt_unless, whose_stop}
use Rattle.debugger.proofs.Pathway.{IsAhead, Step, none_ahead, on_step, some_ahead}

-- ---- what is meant by a halt that is kept

pub meant_at : (s : Session) (rs : List Resumption) (start : Position) (kept : Kept) (moves : ℕ)
    (whose : Option Pair) (cause : Cause)
    → kept ≡ record {
      moves = moves;
      signal = 5;
      whose = whose;
      cause = cause;
      born = None;
      is_owed = false;
    }
    → halt_meant s rs start kept
    ≡ halt_at (position_after moves start) (whose_stop s rs (position_after moves start) whose)
    cause
meant_at s rs start kept moves whose cause is = ap (halt_meant s rs start) is

-- with another signal
pub meant_by : (s : Session) (rs : List Resumption) (start : Position) (kept : Kept)
    (moves signal : ℕ) (whose : Option Pair) (cause : Cause)
    → kept ≡ record {
      moves = moves;
      signal = 5;
      whose = whose;
      cause = cause;
      born = None;
      is_owed = false;
    }
    → halt_meant s rs start (record kept { signal = signal })
    ≡ halt_by signal (position_after moves start)
    (whose_stop s rs (position_after moves start) whose) cause
meant_by s rs start kept moves signal whose cause is =
    ap (λ (k : Kept). halt_meant s rs start (record k { signal = signal })) is

-- with a birth
pub meant_born : (s : Session) (rs : List Resumption) (start : Position) (kept : Kept)
    (moves child : ℕ) (whose : Option Pair) (cause : Cause)
    → kept ≡ record {
      moves = moves;
      signal = 5;
      whose = whose;
      cause = cause;
      born = None;
      is_owed = false;
    }
    → halt_meant s rs start (record kept { born = Some child })
    ≡ record (halt_at (position_after moves start)
    (whose_stop s rs (position_after moves start) whose) cause) { born = child ∷ [] }
meant_born s rs start kept moves child whose cause is =
    ap (λ (k : Kept). halt_meant s rs start (record k { born = Some child })) is

pub bearing_same : (p q : Position) (a b : Pair) (child n first : ℕ) → p ≡ q → a ≡ b → child ≡ n
    → record (halt_at p a (Bore child first)) { born = child ∷ [] }
    ≡ record (halt_at q b (Bore n first)) { born = n ∷ [] }
bearing_same p q a b child n first here whose same =
    ap (λ (x : Position). record (halt_at x a (Bore child first)) { born = child ∷ [] }) here
    ∙ ap (λ (x : Pair). record (halt_at q x (Bore child first)) { born = child ∷ [] }) whose
    ∙ ap (λ (x : ℕ). record (halt_at q b (Bore x first)) { born = x ∷ [] }) same

-- at the same position, of the same thread
pub halt_same : (signal : ℕ) (p q : Position) (a b : Pair) (cause : Cause) → p ≡ q → a ≡ b
    → halt_by signal p a cause ≡ halt_by signal q b cause
halt_same signal p q a b cause here whose =
    ap (λ (x : Position). halt_by signal x a cause) here
    ∙ ap (λ (x : Pair). halt_by signal q x cause) whose

-- what is said of a number that there is
pub if_some : (o : Option ℕ) (P : ℕ → Type 0) (t : ℕ) → o ≡ Some t → IfSome o P → P t
if_some o P t is holds = subst (λ (x : Option ℕ). IfSome x P) is holds

pub if_none : (o : Option ℕ) (P : ℕ → Type 0) → o ≡ None → IfSome o P
if_none None P is = tt
if_none (Some t) P is = cc

-- ---- the first of several halts

pub or_first : (a b : Option Halt) (x : Option Halt) (h : Halt) → x ≡ Some h → x ≡ a
    → x ≡ or_else a b
or_first None b x h some is = cc
or_first (Some k) b x h some is = is

pub or_next : (a b x y : Option Halt) → x ≡ None → x ≡ a → y ≡ b → y ≡ or_else a b
or_next None b x y none is rest = rest
or_next (Some k) b x y none is rest = cc

-- ---- who moves

-- those of whom it is told
module _ (told : ℕ → Bool) where
  abbrev pub only_told : Option ℕ → Option ℕ
  only_told o = option_and_then (λ t. if told t then Some t else None) o

  pub told_some : (o : Option ℕ) (t : ℕ) → only_told o ≡ Some t
      → (o ≡ Some t) × (told t ≡ true)
  told_some None t is = cc
  told_some (Some u) t is = by (told u) refl is
    where
      by : (b : Bool) → told u ≡ b → (if b then Some u else None) ≡ Some t
          → (Some u ≡ Some t) × (told t ≡ true)
      by true holds some =
          let same : u ≡ t = cc in (some, ap told (sym same) ∙ holds)
      by false fails none = cc

  pub told_none : (o : Option ℕ) (test : ℕ → Bool) → only_told o ≡ None
      → option_and_then (λ t. if told t && test t then Some t else None) o ≡ None
  told_none None test is = refl
  told_none (Some u) test is = by (told u) is
    where
      by : (b : Bool) → (if b then Some u else None) ≡ None
          → (if b && test u then Some u else None) ≡ None
      by true some = cc
      by false none = refl

none_of : (o : Option ℕ) → is_some o ≡ false → o ≡ None
none_of None is = refl
none_of (Some t) is = cc

mover_first : (future : List Step) (kind : MoveKind) → first_kind future ≡ Some kind
    → first_mover future ≡ mover_of kind
mover_first [] kind is = cc
mover_first (step ∷ steps) kind is = let same : step.0 ≡ kind = cc in ap mover_of same

-- ---- before a move: a breakpoint and a fault

abbrev fault_pair : ℕ → ℕ → Option (ℕ × ℕ)
fault_pair t number = Some (t, number)

module _ (s : Session) (rs : List Resumption) (w : World) where
  unbroken : (o : Option ℕ) → only_told (is_told_of s rs w) o ≡ None → broken_by s rs w o ≡ None
  unbroken None is = refl
  unbroken (Some t) is =
      told_none (is_told_of s rs w) (Some t) (λ u. is_thread_broken s (thread_at w u)) is

  broken_so : (o : Option ℕ) (t : ℕ) → only_told (is_told_of s rs w) o ≡ Some t
      → is_some (broken_by s rs w o) ≡ true → broken_by s rs w o ≡ Some t
  broken_so None t is some = cc
  broken_so (Some u) t is some =
      let one : Some u ≡ Some t = (told_some (is_told_of s rs w) (Some u) t is).0 in
      let same : u ≡ t = cc in
      by same (is_told_of s rs w u && is_thread_broken s (thread_at w u)) some
    where
      by : u ≡ t → (b : Bool) → is_some (if b then Some u else None) ≡ true
          → (if b then Some u else None) ≡ Some t
      by same true some = ap (λ n. Some n) same
      by same false some = cc

  no_fault : (k : MoveKind) → mover_told s rs w k ≡ None → fault_by s rs w (Some k) ≡ None
  no_fault begins is = refl
  no_fault (runs t) is = refl
  no_fault (is_served t) is = refl
  no_fault (faults t number) is = by (is_told_of s rs w t) is
    where
      by : (b : Bool) → (if b then Some t else None) ≡ None
          → (if b then fault_pair t number else None) ≡ None
      by true some = cc
      by false none = refl

  other_fault : (k : MoveKind) → fault_named k ≡ None → fault_by s rs w (Some k) ≡ None
  other_fault begins is = refl
  other_fault (runs t) is = refl
  other_fault (is_served t) is = refl
  other_fault (faults t number) is = cc

  some_fault : (at : Position) (k : MoveKind) (t signal : ℕ) → mover_told s rs w k ≡ Some t
      → fault_named k ≡ Some signal
      → halt_faulted s at (fault_by s rs w (Some k))
      ≡ Some (halt_by signal at (home_pair s t) Plainly)
  some_fault at begins t signal is named = cc
  some_fault at (runs u) t signal is named = cc
  some_fault at (is_served u) t signal is named = cc
  some_fault at (faults u number) t signal is named =
      let both = told_some (is_told_of s rs w) (Some u) t is in
      let some : Some u ≡ Some t = both.0 in
      let same : u ≡ t = cc in
      let so : Some (fault_signal number) ≡ Some signal = named in
      let one : fault_signal number ≡ signal = cc in
      ap (λ (b : Bool). halt_faulted s at (if b then fault_pair u number else None))
      (ap (is_told_of s rs w) same ∙ both.1)
      ∙ ap (λ n. Some (halt_by n at (home_pair s u) Plainly))
      one
      ∙ ap (λ n. Some (halt_by signal at (home_pair s n) Plainly)) same

module _ (b : Before) (s : Session) (rs : List Resumption) (at : Position)
    (seen : WasSeen b s rs at.moment.world)
    (next : first_kind at.future ≡ Some (kind_named b.kind)) where
  before_is : halt_before s rs at
      ≡ or_else (halt_broken s at (broken_by s rs at.moment.world (mover_of (kind_named b.kind))))
      (halt_faulted s at (fault_by s rs at.moment.world (Some (kind_named b.kind))))
  before_is =
      ap (λ (o : Option ℕ). or_else (halt_broken s at (broken_by s rs at.moment.world o))
      (halt_faulted s at (fault_by s rs at.moment.world (first_kind at.future))))
      (mover_first at.future (kind_named b.kind) next)
      ∙ ap (λ (k : Option MoveKind). or_else
      (halt_broken s at (broken_by s rs at.moment.world (mover_of (kind_named b.kind))))
      (halt_faulted s at (fault_by s rs at.moment.world k))) next

  before_by : (o : Option ℕ) (f : Option (ℕ × ℕ))
      → broken_by s rs at.moment.world (mover_of (kind_named b.kind)) ≡ o
      → fault_by s rs at.moment.world (Some (kind_named b.kind)) ≡ f
      → halt_before s rs at ≡ or_else (halt_broken s at o) (halt_faulted s at f)
  before_by o f is are =
      before_is
      ∙ ap (λ (x : Option ℕ). or_else (halt_broken s at x)
      (halt_faulted s at (fault_by s rs at.moment.world (Some (kind_named b.kind))))) is
      ∙ ap (λ (x : Option (ℕ × ℕ)). or_else (halt_broken s at o) (halt_faulted s at x)) are

  pub before_unmoved : b.mover ≡ None → halt_before s rs at ≡ None
  before_unmoved none =
      before_by None None
      (unbroken s rs at.moment.world (mover_of (kind_named b.kind)) (sym seen.mover ∙ none))
      (no_fault s rs at.moment.world (kind_named b.kind) (sym seen.mover ∙ none))

  pub before_broken : (t : ℕ) → b.mover ≡ Some t → b.is_broken ≡ true
      → halt_before s rs at ≡ Some (halt_at at (home_pair s t) Broke)
  before_broken t mover broken =
      before_is
      ∙ ap (λ (x : Option ℕ). or_else (halt_broken s at x)
      (halt_faulted s at (fault_by s rs at.moment.world (Some (kind_named b.kind)))))
      (broken_so s rs at.moment.world (mover_of (kind_named b.kind)) t (sym seen.mover ∙ mover)
      (sym seen.broken ∙ broken))

  not_broken : b.is_broken ≡ false
      → broken_by s rs at.moment.world (mover_of (kind_named b.kind)) ≡ None
  not_broken is = none_of _ (sym seen.broken ∙ is)

  pub before_faulted : (t signal : ℕ) → b.mover ≡ Some t → b.is_broken ≡ false
      → fault_named (kind_named b.kind) ≡ Some signal
      → halt_before s rs at ≡ Some (halt_by signal at (home_pair s t) Plainly)
  before_faulted t signal mover broken named =
      before_is
      ∙ ap (λ (x : Option ℕ). or_else (halt_broken s at x)
      (halt_faulted s at (fault_by s rs at.moment.world (Some (kind_named b.kind)))))
      (not_broken broken)
      ∙ some_fault s rs at.moment.world at (kind_named b.kind) t signal (sym seen.mover ∙ mover)
      named

  pub before_other : b.is_broken ≡ false → fault_named (kind_named b.kind) ≡ None
      → halt_before s rs at ≡ None
  before_other broken other =
      before_by None None (not_broken broken)
      (other_fault s rs at.moment.world (kind_named b.kind) other)

-- ---- behind a move: a step

-- What a thread does ends, by where it is behind the move.
abbrev pub over_by : Action → Option Thread → Bool
over_by action behind =
    elim behind [
      | None ↦ is_stepping action
      | Some later ↦ is_stopping later.registers.pc action
    ]

abbrev over_of : Option Action → Option Thread → Bool
over_of None behind = false
over_of (Some action) behind = over_by action behind

step_over_is : (rs : List Resumption) (before behind : Option Thread) (t : ℕ)
    → is_step_over rs before behind t
    ≡ over_of (option_and_then (λ (thread : Thread). action_of_thread rs thread.process t) before)
    behind
step_over_is rs None behind t = refl
step_over_is rs (Some thread) behind t = by (action_of_thread rs thread.process t)
  where
    by : (a : Option Action)
        → elim a [
          | None ↦ false
          | Some action ↦ elim behind [
            | None ↦ is_stepping action
            | Some later ↦ is_stopping later.registers.pc action
          ]
        ]
        ≡ over_of a behind
    by None = refl
    by (Some action) = refl

pub over_gone : (o : Option Thread) (action : Action) (r : Bool) → is_some o ≡ false
    → r ≡ is_stepping action → r ≡ over_by action o
over_gone None action r gone is = is
over_gone (Some thread) action r gone is = cc

pub over_lives : (o : Option Thread) (action : Action) (pc : ℕ) (regs : Registers) (r : Bool)
    → is_some o ≡ true → IfSome o (λ thread. regs ≡ thread.registers) → pc ≡ regs.pc
    → r ≡ is_stopping pc action → r ≡ over_by action o
over_lives None action pc regs r lives are there is = cc
over_lives (Some thread) action pc regs r lives are there is =
    is ∙ ap (λ n. is_stopping n action) (there ∙ ap (λ (x : Registers). x.pc) are)

-- a thread that an action names
pub nobody_none : (w : World) (r : Resumption) → thread_named r.threads ≡ None
    → false ≡ steps_nobody w r
nobody_none w r none =
    ap (λ (o : Option ℕ). elim o [ None ↦ false | Some t ↦ is_none (thread_at w t) ]) (sym none)

pub nobody_some : (w : World) (r : Resumption) (t : ℕ) (lives : Bool)
    → thread_named r.threads ≡ Some t → lives ≡ is_some (thread_at w t)
    → not lives ≡ steps_nobody w r
nobody_some w r t lives some is =
    ap not is ∙ by (thread_at w t)
    ∙ ap (λ (o : Option ℕ). elim o [ None ↦ false | Some t ↦ is_none (thread_at w t) ]) (sym some)
  where
    by : (o : Option Thread) → not (is_some o) ≡ is_none o
    by None = refl
    by (Some thread) = refl

-- of whom it isn't told
module _ (s : Session) (rs : List Resumption) (w : World) (after : Position) where
  untold_stepped : (o : Option ℕ) → only_told (is_told_of s rs w) o ≡ None
      → halt_stepped s rs w o after ≡ None
  untold_stepped None is = refl
  untold_stepped (Some t) is = by (is_told_of s rs w t) is
    where
      by : (x : Bool) → (if x then Some t else None) ≡ None
          → (if x && is_step_over rs (thread_at w t) (thread_at after.moment.world t) t
          then Some (halt_at after (step_pair s rs after t) Plainly) else None) ≡ None
      by true some = cc
      by false none = refl

  untold_born : (m o : Option ℕ) → only_told (is_told_of s rs w) m ≡ None
      → halt_born s rs w m after o ≡ None
  untold_born None None is = refl
  untold_born None (Some p) is = refl
  untold_born (Some t) None is = refl
  untold_born (Some t) (Some p) is = by s.is_told_forks (is_told_of s rs w t) is
    where
      by : (f x : Bool) → (if x then Some t else None) ≡ None
          → (if f && x && not (is_among p s.told) && nat_lt (length s.told) 256
          then halt_bearing s after t p (first_thread after.moment.world p) else None)
          ≡ None
      by f true some = cc
      by true false none = refl
      by false false none = refl

module _ (b : Before) (s : Session) (rs : List Resumption) (w : World) (seen : WasSeen b s rs w)
    (after : Position) where
  pub stepped_unmoved : b.mover ≡ None
      → halt_stepped s rs w (mover_of (kind_named b.kind)) after ≡ None
  stepped_unmoved none =
      untold_stepped s rs w after (mover_of (kind_named b.kind)) (sym seen.mover ∙ none)

  stepped_by : (t : ℕ) → b.mover ≡ Some t
      → halt_stepped s rs w (mover_of (kind_named b.kind)) after
      ≡ (if over_of b.action (thread_at after.moment.world t)
      then Some (halt_at after (step_pair s rs after t) Plainly) else None)
  stepped_by t mover =
      let told = told_some (is_told_of s rs w) (mover_of (kind_named b.kind)) t
      (sym seen.mover ∙ mover) in
      let action : action_at rs w t ≡ b.action =
      sym (seen.action ∙ ap (option_and_then (action_at rs w)) mover) in
      ap (λ (o : Option ℕ). halt_stepped s rs w o after) told.0
      ∙ ap (λ (x : Bool). if x
      && is_step_over rs (thread_at w t) (thread_at after.moment.world t) t
      then Some (halt_at after (step_pair s rs after t) Plainly) else None) told.1
      ∙ ap (λ (x : Bool). if x
      then Some (halt_at after (step_pair s rs after t) Plainly) else None)
      (step_over_is rs (thread_at w t) (thread_at after.moment.world t) t
      ∙ ap (λ (a : Option Action). over_of a (thread_at after.moment.world t)) action)

  pub stepped_idle : (t : ℕ) → b.mover ≡ Some t → b.action ≡ None
      → halt_stepped s rs w (mover_of (kind_named b.kind)) after ≡ None
  stepped_idle t mover idle =
      stepped_by t mover
      ∙ ap (λ (a : Option Action). if over_of a (thread_at after.moment.world t)
      then Some (halt_at after (step_pair s rs after t) Plainly) else None) idle

  stepped_so : (t : ℕ) (action : Action) (over : Bool) → b.mover ≡ Some t
      → b.action ≡ Some action → over ≡ over_by action (thread_at after.moment.world t)
      → halt_stepped s rs w (mover_of (kind_named b.kind)) after
      ≡ (if over then Some (halt_at after (step_pair s rs after t) Plainly) else None)
  stepped_so t action over mover does is =
      stepped_by t mover
      ∙ ap (λ (a : Option Action). if over_of a (thread_at after.moment.world t)
      then Some (halt_at after (step_pair s rs after t) Plainly) else None) does
      ∙ ap (λ (x : Bool). if x
      then Some (halt_at after (step_pair s rs after t) Plainly) else None) (sym is)

  pub stepped_on : (t : ℕ) (action : Action) → b.mover ≡ Some t → b.action ≡ Some action
      → over_by action (thread_at after.moment.world t) ≡ false
      → halt_stepped s rs w (mover_of (kind_named b.kind)) after ≡ None
  stepped_on t action mover does is = stepped_so t action false mover does (sym is)

  pub stepped_over : (t : ℕ) (action : Action) → b.mover ≡ Some t → b.action ≡ Some action
      → over_by action (thread_at after.moment.world t) ≡ true
      → halt_stepped s rs w (mover_of (kind_named b.kind)) after
      ≡ Some (halt_at after (step_pair s rs after t) Plainly)
  stepped_over t action mover does is = stepped_so t action true mover does (sym is)

  -- ---- a birth

  pub born_unmoved : b.mover ≡ None → (o : Option ℕ)
      → halt_born s rs w (mover_of (kind_named b.kind)) after o ≡ None
  born_unmoved none o =
      untold_born s rs w after (mover_of (kind_named b.kind)) o (sym seen.mover ∙ none)

  pub born_nobody : length after.moment.world.processes ≤ b.processes
      → halt_born s rs w (mover_of (kind_named b.kind)) after
      (born_between w after.moment.world) ≡ None
  born_nobody few =
      ap (λ (x : Bool). halt_born s rs w (mover_of (kind_named b.kind)) after
      (if x then Some (length after.moment.world.processes) else None))
      (ap (λ n. nat_lt n (length after.moment.world.processes)) (sym seen.processes)
      ∙ le-ltb b.processes (length after.moment.world.processes) few)
      ∙ by (mover_of (kind_named b.kind))
    where
      by : (m : Option ℕ) → halt_born s rs w m after None ≡ None
      by None = refl
      by (Some t) = refl

  born_by : (t : ℕ) (told : Bool) → b.mover ≡ Some t
      → b.processes < length after.moment.world.processes
      → told ≡ (s.is_told_forks && not (is_among (length after.moment.world.processes) s.told)
      && nat_lt (length s.told) 256)
      → halt_born s rs w (mover_of (kind_named b.kind)) after
      (born_between w after.moment.world)
      ≡ (if told then halt_bearing s after t (length after.moment.world.processes)
      (first_thread after.moment.world (length after.moment.world.processes)) else None)
  born_by t told mover many is =
      let p = length after.moment.world.processes in
      let so = told_some (is_told_of s rs w) (mover_of (kind_named b.kind)) t
      (sym seen.mover ∙ mover) in
      ap (λ (x : Bool). halt_born s rs w (mover_of (kind_named b.kind)) after
      (if x then Some p else None))
      (ap (λ n. nat_lt n p) (sym seen.processes) ∙ lt-ltb b.processes p many)
      ∙ ap (λ (m : Option ℕ). halt_born s rs w m after (Some p)) so.0
      ∙ ap (λ (x : Bool). if x then halt_bearing s after t p
      (first_thread after.moment.world p) else None)
      (passed s.is_told_forks (is_told_of s rs w t) (not (is_among p s.told))
      (nat_lt (length s.told) 256) so.1 ∙ sym is)
    where
      passed : (f x a c : Bool) → x ≡ true → (f && x && a && c) ≡ (f && a && c)
      passed true true a c is = refl
      passed false true a c is = refl
      passed f false a c is = cc

  pub born_untold : (t : ℕ) → b.mover ≡ Some t
      → b.processes < length after.moment.world.processes
      → false ≡ (s.is_told_forks && not (is_among (length after.moment.world.processes) s.told)
      && nat_lt (length s.told) 256)
      → halt_born s rs w (mover_of (kind_named b.kind)) after
      (born_between w after.moment.world) ≡ None
  born_untold t mover many is = born_by t false mover many is

  pub born_told : (t : ℕ) → b.mover ≡ Some t
      → b.processes < length after.moment.world.processes
      → true ≡ (s.is_told_forks && not (is_among (length after.moment.world.processes) s.told)
      && nat_lt (length s.told) 256)
      → halt_born s rs w (mover_of (kind_named b.kind)) after
      (born_between w after.moment.world)
      ≡ halt_bearing s after t (length after.moment.world.processes)
      (first_thread after.moment.world (length after.moment.world.processes))
  born_told t mover many is = born_by t true mover many is

-- ---- behind a move: nobody is left

module _ (s : Session) (rs : List Resumption) (last after : Position) where
  pub deserted_never : (was : Bool) → was ≡ false → halt_deserted s rs was last after ≡ None
  deserted_never was is =
      ap (λ (b : Bool). if b && not (is_anybody_there s rs after.moment.world)
      then Some (halt_at last (chosen_at s rs last) ReachedEnd) else None) is

  deserted_by : (was there : Bool) → was ≡ true
      → there ≡ is_anybody_there s rs after.moment.world
      → halt_deserted s rs was last after
      ≡ (if not there then Some (halt_at last (chosen_at s rs last) ReachedEnd) else None)
  deserted_by was there is so =
      ap (λ (b : Bool). if b && not (is_anybody_there s rs after.moment.world)
      then Some (halt_at last (chosen_at s rs last) ReachedEnd) else None) is
      ∙ ap (λ (b : Bool). if not b
      then Some (halt_at last (chosen_at s rs last) ReachedEnd) else None) (sym so)

  pub deserted_not : (was there : Bool) → was ≡ true
      → there ≡ is_anybody_there s rs after.moment.world → there ≡ true
      → halt_deserted s rs was last after ≡ None
  deserted_not was there is so holds =
      deserted_by was there is so
      ∙ ap (λ (b : Bool). if not b
      then Some (halt_at last (chosen_at s rs last) ReachedEnd) else None) holds

  pub deserted_now : (was there : Bool) → was ≡ true
      → there ≡ is_anybody_there s rs after.moment.world → there ≡ false
      → halt_deserted s rs was last after ≡ Some (halt_at last (chosen_at s rs last) ReachedEnd)
  deserted_now was there is so fails =
      deserted_by was there is so
      ∙ ap (λ (b : Bool). if not b
      then Some (halt_at last (chosen_at s rs last) ReachedEnd) else None) fails

  -- those who step are gone
  pub unstepped_by : (nobody : Bool) → nobody ≡ is_stepping_nobody rs after.moment.world
      → halt_unstepped s rs after
      ≡ (if nobody then Some (halt_at after (chosen_at s rs after) Plainly) else None)
  unstepped_by nobody is =
      ap (λ (b : Bool). if b
      then Some (halt_at after (chosen_at s rs after) Plainly) else None) (sym is)

-- ---- on the way

-- Who was there by now is counted again at a moment at which somebody is.
module _ (s : Session) (rs : List Resumption) (is_first was is : Bool) (last now : Position) where
  pub over_as : (past : List Step) (m : Moment) (future : List Step)
      → last_there s rs last (position_at past m future)
      ≡ last_there s rs now (position_at past m future)
      → (was || is_anybody_there s rs m.world) ≡ (is || is_anybody_there s rs m.world)
      → forwards_over s rs is_first was last past m future
      ≡ forwards_over s rs is_first is now past m future
  over_as past m [] same there =
      ap (λ (p : Position). halt_at p (chosen_at s rs p) ReachedEnd) same
  over_as past m (step ∷ steps) same there =
      ap (λ (p : Position). going (was || is_anybody_there s rs m.world) p) same
      ∙ ap (λ (x : Bool). going x (last_there s rs now at)) there
    where
      at : Position
      at = position_at past m (step ∷ steps)

      after : Position
      after = position_at ((step.0, m) ∷ past) step.1 steps

      going : Bool → Position → Halt
      going x p = elim (if is_first then None else halt_before s rs at) [
        | Some halt ↦ halt
        | None ↦ elim (halt_moving s rs x p at step.0 after) [
          | Some halt ↦ halt
          | None ↦ forwards_over s rs false x p after.past after.moment after.future
        ]
      ]

-- Somebody is there.
module _ (s : Session) (rs : List Resumption) (is_first was_there : Bool) (last at : Position)
    (there : is_anybody_there s rs at.moment.world ≡ true) where
  pub last_is : (p : Position) → last_there s rs p at ≡ at
  last_is p = ap (λ (b : Bool). if b then at else p) there

  pub over_there : forwards_over s rs is_first was_there last at.past at.moment at.future
      ≡ forwards_over s rs is_first true at at.past at.moment at.future
  over_there =
      over_as s rs is_first was_there true last at at.past at.moment at.future
      (last_is last ∙ sym (last_is at))
      (ap (λ (b : Bool). was_there || b) there ∙ or_true was_there)
    where
      or_true : (b : Bool) → (b || true) ≡ true
      or_true true = refl
      or_true false = refl

-- Somebody is there, so many moves on.
module _ (s : Session) (rs : List Resumption) (start : Position) (way : Way) (at : Position)
    (moves : ℕ) (is : position_after moves start ≡ at)
    (there : is_anybody_there s rs at.moment.world ≡ true) where
  abbrev way_there : Way
  way_there = record { is_first = way.is_first; was_there = true; last = moves }

  pub noted_there : IsNoted s rs start way_there at
  noted_there = record {
    last = last_is s rs way.is_first way.was_there at at there (position_after moves start)
        ∙ sym is;
    there = refl;
  }

  pub same_there : forwards_from s rs start way at ≡ forwards_from s rs start way_there at
  same_there =
      over_there s rs way.is_first way.was_there (position_after way.last start) at there
      ∙ ap (λ (p : Position). forwards_over s rs way.is_first true p at.past at.moment at.future)
      (sym is)

-- Nobody is there.
module _ (s : Session) (rs : List Resumption) (was_there : Bool) (last at : Position)
    (none : is_anybody_there s rs at.moment.world ≡ false) where
  pub last_stays : last_there s rs last at ≡ last
  last_stays = ap (λ (b : Bool). if b then at else last) none

  pub was_stays : (was_there || is_anybody_there s rs at.moment.world) ≡ was_there
  was_stays = ap (λ (b : Bool). was_there || b) none ∙ or_false was_there
    where
      or_false : (b : Bool) → (b || false) ≡ b
      or_false true = refl
      or_false false = refl

module _ (s : Session) (rs : List Resumption) (is_first was_there : Bool) (last : Position) where
  -- where nothing is ahead
  pub over_end : (at : Position) → at.future ≡ [] → last_there s rs last at ≡ last
      → forwards_over s rs is_first was_there last at.past at.moment at.future
      ≡ halt_at last (chosen_at s rs last) ReachedEnd
  over_end at none now =
      ap (λ (f : List Step). forwards_over s rs is_first was_there last at.past at.moment f) none
      ∙ ap (λ (p : Position). halt_at p (chosen_at s rs p) ReachedEnd)
      (ap (λ (f : List Step). last_there s rs last (position_at at.past at.moment f)) (sym none)
      ∙ now)

  -- before a move
  abbrev pub before_of : Position → Option Halt
  before_of at = if is_first then None else halt_before s rs at

  module _ (at : Position) (step : Step) (steps : List Step) (ahead : at.future ≡ step ∷ steps)
      (now : last_there s rs last at ≡ last)
      (there : (was_there || is_anybody_there s rs at.moment.world) ≡ was_there) where
    -- what the definition comes to there
    abbrev going : (here : Bool) → (now at after : Position) → Halt
    going here now at after = elim (before_of at) [
      | Some halt ↦ halt
      | None ↦ elim (halt_moving s rs here now at step.0 after) [
        | Some halt ↦ halt
        | None ↦ forwards_over s rs false here now after.past after.moment after.future
      ]
    ]

    over_step : forwards_over s rs is_first was_there last at.past at.moment at.future
        ≡ going was_there last at (moved_on at)
    over_step =
        ap (λ (f : List Step). forwards_over s rs is_first was_there last at.past at.moment f) ahead
        ∙ ap (λ (p : Position). going (was_there || is_anybody_there s rs at.moment.world)
        (last_there s rs last p) p (position_at ((step.0, at.moment) ∷ at.past) step.1 steps))
        (ap (λ (f : List Step). position_at at.past at.moment f) (sym ahead))
        ∙ ap (λ (p : Position). going (was_there || is_anybody_there s rs at.moment.world)
        (last_there s rs last at) at p) (sym (on_step at step steps ahead))
        ∙ ap (λ (p : Position). going (was_there || is_anybody_there s rs at.moment.world) p at
        (moved_on at)) now
        ∙ ap (λ (x : Bool). going x last at (moved_on at)) there

    abbrev moving_of : Option Halt → Halt
    moving_of x = elim x [
      | Some halt ↦ halt
      | None ↦ forwards_over s rs false was_there last (moved_on at).past (moved_on at).moment
          (moved_on at).future
    ]

    abbrev going_of : Option Halt → Halt
    going_of x = elim x [
      | Some halt ↦ halt
      | None ↦ moving_of (halt_moving s rs was_there last at step.0 (moved_on at))
    ]

    pub over_before : (halt : Halt) → before_of at ≡ Some halt
        → forwards_over s rs is_first was_there last at.past at.moment at.future ≡ halt
    over_before halt is = over_step ∙ ap going_of is

    pub over_moving : (halt : Halt) → before_of at ≡ None
        → halt_moving s rs was_there last at step.0 (moved_on at) ≡ Some halt
        → forwards_over s rs is_first was_there last at.past at.moment at.future ≡ halt
    over_moving halt none is = over_step ∙ ap going_of none ∙ ap moving_of is

    pub over_on : before_of at ≡ None
        → halt_moving s rs was_there last at step.0 (moved_on at) ≡ None
        → forwards_over s rs is_first was_there last at.past at.moment at.future
        ≡ forwards_over s rs false was_there last (moved_on at).past (moved_on at).moment
        (moved_on at).future
    over_on none is = over_step ∙ ap going_of none ∙ ap moving_of is

-- ---- the first halt of a move

module _ (s : Session) (rs : List Resumption) (start : Position) (was : Bool)
    (last before after : Position) (kind : MoveKind) where
  abbrev watched_of : Option Halt
  watched_of = halt_watched s rs kind after.moment.world before after
      (hit_by s rs before.moment.world kind after.moment.world)

  abbrev deserted_of : Option Halt
  deserted_of = halt_deserted s rs was last after

  abbrev born_of : Option Halt
  born_of = halt_born s rs before.moment.world (mover_of kind) after
      (born_between before.moment.world after.moment.world)

  abbrev stepped_of : Option Halt
  stepped_of = halt_stepped s rs before.moment.world (mover_of kind) after

  pub moving_watched : (h : Halt) → Some h ≡ watched_of
      → Some h ≡ halt_moving s rs was last before kind after
  moving_watched h is =
      or_first watched_of (or_else deserted_of (or_else born_of (or_else stepped_of
      (halt_unstepped s rs after)))) (Some h) h refl is

  module _ (unwatched : None ≡ watched_of) where
    pub moving_deserted : (h : Halt) → Some h ≡ deserted_of
        → Some h ≡ halt_moving s rs was last before kind after
    moving_deserted h is =
        or_next watched_of (or_else deserted_of (or_else born_of (or_else stepped_of
        (halt_unstepped s rs after)))) None (Some h) refl unwatched
        (or_first deserted_of (or_else born_of (or_else stepped_of (halt_unstepped s rs after)))
        (Some h) h refl is)

    module _ (left : None ≡ deserted_of) where
      pub moving_born : (h : Halt) → Some h ≡ born_of
          → Some h ≡ halt_moving s rs was last before kind after
      moving_born h is =
          or_next watched_of (or_else deserted_of (or_else born_of (or_else stepped_of
          (halt_unstepped s rs after)))) None (Some h) refl unwatched
          (or_next deserted_of (or_else born_of (or_else stepped_of (halt_unstepped s rs after)))
          None (Some h) refl left
          (or_first born_of (or_else stepped_of (halt_unstepped s rs after)) (Some h) h refl is))

      module _ (unborn : None ≡ born_of) where
        pub moving_stepped : (h : Halt) → Some h ≡ stepped_of
            → Some h ≡ halt_moving s rs was last before kind after
        moving_stepped h is =
            or_next watched_of (or_else deserted_of (or_else born_of (or_else stepped_of
            (halt_unstepped s rs after)))) None (Some h) refl unwatched
            (or_next deserted_of (or_else born_of (or_else stepped_of
            (halt_unstepped s rs after))) None (Some h) refl left
            (or_next born_of (or_else stepped_of (halt_unstepped s rs after)) None (Some h) refl
            unborn
            (or_first stepped_of (halt_unstepped s rs after) (Some h) h refl is)))

        pub moving_unstepped : (x : Option Halt) → None ≡ stepped_of
            → x ≡ halt_unstepped s rs after
            → x ≡ halt_moving s rs was last before kind after
        moving_unstepped x unmoved is =
            or_next watched_of (or_else deserted_of (or_else born_of (or_else stepped_of
            (halt_unstepped s rs after)))) None x refl unwatched
            (or_next deserted_of (or_else born_of (or_else stepped_of
            (halt_unstepped s rs after))) None x refl left
            (or_next born_of (or_else stepped_of (halt_unstepped s rs after)) None x refl unborn
            (or_next stepped_of (halt_unstepped s rs after) None x refl unmoved is)))

-- ---- one move of the loop

module _ (s : Session) (rs : List Resumption) (start : Position) (way : Way) (at : Position) where
  -- no move is next
  pub move_ended : (end : Kept)
      → end ≡ record {
        moves = way.last;
        signal = 5;
        whose = None;
        cause = ReachedEnd;
        born = None;
        is_owed = false;
      }
      → first_kind at.future ≡ None → IsNoted s rs start way at
      → forwards_from s rs start way at ≡ halt_meant s rs start end
  move_ended end is none noted =
      over_end s rs way.is_first way.was_there (position_after way.last start) at
      (none_ahead at.future none) noted.last
      ∙ sym (meant_at s rs start end way.last None ReachedEnd is)

  -- the moment halts by itself
  pub move_before : (halt : Kept) (kind : MoveKind) → first_kind at.future ≡ Some kind
      → IsNoted s rs start way at
      → Some (halt_meant s rs start halt) ≡ halt_unless way.is_first s rs at
      → forwards_from s rs start way at ≡ halt_meant s rs start halt
  move_before halt kind first noted is =
      let ahead : IsAhead at.future kind = some_ahead at.future kind first in
      over_before s rs way.is_first way.was_there (position_after way.last start) at ahead.step
      ahead.steps ahead.is noted.last noted.there (halt_meant s rs start halt) (sym is)

  -- the move is made
  module _ (b : Before) (made : MoveKind) (first : first_kind at.future ≡ Some made)
      (passing : IsPassing b s rs way.is_first at) (noted : IsNoted s rs start way at)
      (after : Position) (on : after ≡ moved_on at) where
    ahead : IsAhead at.future made
    ahead = some_ahead at.future made first

    same : ahead.step.0 ≡ kind_named b.kind
    same = ahead.kind_is ∙ passing.kind made first

    none : halt_unless way.is_first s rs at ≡ None
    none = passing.passing (first ∙ ap (λ (k : MoveKind). Some k) (passing.kind made first))

    moving_is : (o : Option Halt)
        → o ≡ halt_moving s rs way.was_there (position_after way.last start) at
        (kind_named b.kind) after
        → halt_moving s rs way.was_there (position_after way.last start) at ahead.step.0
        (moved_on at) ≡ o
    moving_is o is =
        ap (λ (k : MoveKind). halt_moving s rs way.was_there (position_after way.last start) at k
        (moved_on at)) same
        ∙ ap (λ (p : Position). halt_moving s rs way.was_there (position_after way.last start) at
        (kind_named b.kind) p) (sym on)
        ∙ sym is

    pub move_made : (x : Option Kept)
        → option_map (halt_meant s rs start) x
        ≡ halt_moving s rs way.was_there (position_after way.last start) at (kind_named b.kind)
        after
        → MatchOption x
        (forwards_from s rs start way at
        ≡ forwards_from s rs start (record way { is_first = false }) after)
        (λ halt. forwards_from s rs start way at ≡ halt_meant s rs start halt)
    move_made None is =
        over_on s rs way.is_first way.was_there (position_after way.last start) at ahead.step
        ahead.steps ahead.is noted.last noted.there none (moving_is None is)
        ∙ ap (λ (p : Position). forwards_from s rs start (record way { is_first = false }) p)
        (sym on)
    move_made (Some halt) is =
        over_moving s rs way.is_first way.was_there (position_after way.last start) at ahead.step
        ahead.steps ahead.is noted.last noted.there (halt_meant s rs start halt) none
        (moving_is (Some (halt_meant s rs start halt)) is)

-- what is ahead, where something is
pub some_kind : (future : List Step) → IsSome (first_kind future)
    → (kind : MoveKind) × (first_kind future ≡ Some kind)
some_kind [] some = cc
some_kind (step ∷ steps) some = (step.0, refl)

-- no move is next where none would be, whether the log answers it or not
pub nothing_ahead : (future : List Step) (kind : Option kind_type)
    → ((made : MoveKind) → first_kind future ≡ Some made → kinds_named kind ≡ Some made)
    → kind ≡ None → first_kind future ≡ None
nothing_ahead [] kind ahead none = refl
nothing_ahead (step ∷ steps) kind ahead none =
    let no : None ≡ Some step.0 =
    sym (ap (λ (k : Option kind_type). kinds_named k) none) ∙ ahead step.0 refl in
    cc

module _ (s : Session) (rs : List Resumption) (start : Position) (way : Way) (at : Position)
    (b : Before) (kind : Option kind_type) (kind_is : kind ≡ Some b.kind)
    (ahead : (made : MoveKind) → first_kind at.future ≡ Some made → kinds_named kind ≡ Some made)
  where
    kind_ahead : (made : MoveKind) → first_kind at.future ≡ Some made → made ≡ kind_named b.kind
    kind_ahead made first =
        let one : Some made ≡ Some (kind_named b.kind) =
        sym (ahead made first) ∙ ap (λ (k : Option kind_type). kinds_named k) kind_is in
        cc

    pub passing_of : (first_kind at.future ≡ Some (kind_named b.kind)
        → None ≡ halt_unless way.is_first s rs at)
        → IsPassing b s rs way.is_first at
    passing_of passes = record { kind = kind_ahead; passing = λ first. sym (passes first) }

    pub before_halts : (halt : Kept) → IsSome (first_kind at.future)
        → (first_kind at.future ≡ Some (kind_named b.kind)
        → Some (halt_meant s rs start halt) ≡ halt_unless way.is_first s rs at)
        → IsNoted s rs start way at
        → forwards_from s rs start way at ≡ halt_meant s rs start halt
    before_halts halt some halts noted =
        let there = some_kind at.future some in
        let first : first_kind at.future ≡ Some (kind_named b.kind) =
        there.1 ∙ ap (λ (k : MoveKind). Some k) (kind_ahead there.0 there.1) in
        move_before s rs start way at halt (kind_named b.kind) first noted (halts first)

-- where what was found halts
pub found_moves : (x : Option Kept) (unfound : Type 0) (last now most : ℕ) → unfound
    → IfSome x (λ (halt : Kept). (last ≤ halt.moves) × (halt.moves ≤ now))
    → IfSome x (λ (halt : Kept). halt.moves ≤ most)
    → MatchOption x unfound (λ (halt : Kept). (last ≤ halt.moves) × (halt.moves ≤ now)
    × (halt.moves ≤ most))
found_moves None unfound last now most is there within = is
found_moves (Some halt) unfound last now most is there within = (there.0, there.1, within)

-- where the halts of a move are
pub watched_moves : (x first other last now : ℕ) → (x ≡ first) ⊎ (x ≡ other) → last ≤ first
    → first + 1 ≡ now → other ≡ now → (last ≤ x) × (x ≤ now)
watched_moves x first other last now (inl is) low next here =
    (omega (arith, is, low), omega (arith, is, next))
watched_moves x first other last now (inr is) low next here =
    (omega (arith, is, low, next, here), omega (arith, is, here))

pub stepped_moves : (x last now : ℕ) → x ≡ now → last ≤ now → (last ≤ x) × (x ≤ now)
stepped_moves x last now is low = (omega (arith, is, low), omega (arith, is))

pub unstepped_moves : (x : Option Kept) (last now : ℕ)
    → IfSome x (λ (halt : Kept). halt.moves ≡ now) → last ≤ now
    → IfSome x (λ (halt : Kept). (last ≤ halt.moves) × (halt.moves ≤ now))
unstepped_moves None last now is low = tt
unstepped_moves (Some halt) last now is low = stepped_moves halt.moves last now is low

pub unstepped_within : (x : Option Kept) (now most : ℕ)
    → IfSome x (λ (halt : Kept). halt.moves ≡ now) → now ≤ most
    → IfSome x (λ (halt : Kept). halt.moves ≤ most)
unstepped_within None now most is within = tt
unstepped_within (Some halt) now most is within = omega (arith, is, within)

pub born_nowhere : (x : Option Kept) (P : ℕ → Type 0)
    → IfSome x (λ (halt : Kept). halt.born ≡ None)
    → IfSome x (λ (halt : Kept). IfSome halt.born P)
born_nowhere None P is = tt
born_nowhere (Some halt) P is = if_none halt.born P is

-- what is said of what was found
pub match_some : (x : Option Kept) (halt : Kept) (P : Type 0) (Q : Kept → Type 0) → x ≡ Some halt
    → MatchOption x P Q → Q halt
match_some x halt P Q is holds = subst (λ (o : Option Kept). MatchOption o P Q) is holds

pub match_none : (x : Option Kept) (P : Type 0) (Q : Kept → Type 0) → x ≡ None
    → MatchOption x P Q → P
match_none x P Q is holds = subst (λ (o : Option Kept). MatchOption o P Q) is holds
