-- The places of a history, by where its entries lead.
use Rattle.std.proofs.Common.{ℕ, zero, suc, ◌+◌, ◌≡◌, ◌∙◌, refl, sym, ap, ap₂, subst, arith, List}
use Rattle.std.proofs.Common.{[], ◌∷◌, ◌++◌, drop, length, map, Option, Some, None, Bool}
use Rattle.std.proofs.Common.{◌-◌, ◌≤◌, true, false}
use Rattle.std.proofs.lemmas.List.{length-drop, length-map}
use Rattle.std.proofs.Math.Seq.{drop-append_seam}
use Rattle.dos_world.specs.declared.Config.{Config}
use Rattle.debug_session.specs.Positions.{Position, first_kind, moved_on, position_after}
use Rattle.debug_session.specs.Recordings.{LogEntry, followed, left_behind, left_by}
use Rattle.debug_session.specs.Recordings.{recorded_from}
use Rattle.dos_world.specs.Play.{Answer, Outcome, Play, ask, asks, done, gives, over}
use Rattle.flat_machine.specs.Fits.{same_question}
use Rattle.elf_image.specs.Image.{Image}
use Rattle.flat_machine.specs.Opening.{opening}
use Rattle.group_moves.specs.Moves.{MoveKind, move_of}
use Rattle.group_moves.specs.Moments.{Moment, first_moment, kind_at, moment_behind, settled_scene}
use Rattle.group_moves.specs.Moments.{walk}
use Rattle.group_moves.specs.Places.{Scene}
use Rattle.group_walk.specs.Walks.{Walk}
use Rattle.shim_log.specs.Replay.{entries_used}
use Rattle.recorded_walk.specs.Following.{follow, follow_one, log_entries}
use Rattle.recorded_walk.specs.Playbacks.{Heard, IsStart, Played, Stands}
use Rattle.recorded_walk.specs.Tracks.{HasCome, moment_sent}
use Rattle.recorded_walk.specs.declared.track.Track.{Track}
use Rattle.recorded_walk.proofs.Coming.{follow_on}

-- ---- a pair that is there

pub first_same : {A B : Type 0} (x y : A) (a b : B)
    → ◌≡◌ {A = Option (A × B)} (Some (x, a)) (Some (y, b)) → x ≡ y
first_same {A} {B} x y a b is =
    ap (λ (o : Option (A × B)). elim o [ None ↦ x | Some pair ↦ pair.0 ]) is

pub second_same : {A B : Type 0} (x y : A) (a b : B)
    → ◌≡◌ {A = Option (A × B)} (Some (x, a)) (Some (y, b)) → a ≡ b
second_same {A} {B} x y a b is =
    ap (λ (o : Option (A × B)). elim o [ None ↦ a | Some pair ↦ pair.1 ]) is

-- ---- the moves that are recorded from a moment on

-- an entry's answer
abbrev pub answer_in : LogEntry → Answer
answer_in e = e.1

-- where a move leads on, it is the first of them
pub record IsFirst (limit : ℕ) (entries : List LogEntry) (m : Moment) (next : Moment)
    (left : List LogEntry) : Type 0 where
  pub kind : MoveKind
  pub is : kind_at limit m ≡ Some kind
  pub moves : (k : ℕ) → recorded_from (suc k) limit entries m
      ≡ (kind, next) ∷ recorded_from k limit left next
  pub used : left_by (map answer_in entries) (move_of m.world m.place) ≡ map answer_in left
  pub walks : (k : ℕ) → walk (suc k) limit (map answer_in entries) m
      ≡ walk k limit (map answer_in left) next

-- What is left of entries over which a play is followed is what it leaves of their answers.
followed_over : {A : Type 0} (entries left : List LogEntry) (p : Play A) (a : A)
    → followed entries p ≡ Some (a, left)
    → over (map answer_in entries) p ≡ gives a (map answer_in left)
followed_over entries left (done b) a is =
    ap₂ (λ x (es : List LogEntry). gives x (map answer_in es)) (first_same b a entries left is)
    (second_same b a entries left is)
followed_over [] left (ask question output error next) a is = absurd cc
followed_over {A} (e ∷ entries) left (ask question output error next) a is =
    by_test (same_question e.0 question) (followed_over entries left (next e.1) a) is
  where
    by_test : (b : Bool)
        → (followed entries (next e.1) ≡ Some (a, left)
        → over (map answer_in entries) (next e.1) ≡ gives a (map answer_in left))
        → ◌≡◌ {A = Option (A × List LogEntry)}
        (elim b [ true ↦ followed entries (next e.1) | false ↦ None ]) (Some (a, left))
        → over (map answer_in entries) (next e.1) ≡ gives a (map answer_in left)
    by_test true h is = h is
    by_test false h is = absurd cc

module _ (limit : ℕ) (entries : List LogEntry) (m : Moment) where
  -- the moment behind a move of this kind
  abbrev behind : MoveKind → Scene → Moment
  behind kind scene = moment_behind kind m (settled_scene scene)

  -- by the kind of the next move, and by what it gives
  abbrev pub one_by : Option MoveKind → Option (Scene × List LogEntry)
      → Option (Moment × List LogEntry)
  one_by kind given = elim kind [
    | None ↦ None
    | Some kind ↦ elim given [
      | None ↦ None
      | Some (scene, left) ↦ Some (moment_behind kind m (settled_scene scene), left)
    ]
  ]

  abbrev moves_by : ℕ → Option MoveKind → Option (Scene × List LogEntry)
      → List (MoveKind × Moment)
  moves_by k kind given = elim kind [
    | None ↦ []
    | Some kind ↦ elim given [
      | None ↦ []
      | Some (scene, left) ↦
          let next : Moment = moment_behind kind m (settled_scene scene) in
          (kind, next) ∷ recorded_from k limit left next
    ]
  ]

  -- where a walk leads, by the next kind and by what the move gives
  abbrev walk_by : ℕ → Outcome Scene → Option MoveKind → Outcome Moment
  walk_by k given kind = elim kind [
    | None ↦ gives m (map answer_in entries)
    | Some kind ↦ elim given [
      | asks question output error ↦ asks question output error
      | gives scene rest ↦ walk k limit rest (moment_behind kind m (settled_scene scene))
    ]
  ]

  pub is_first : (next : Moment) (left : List LogEntry)
      → follow_one limit entries m ≡ Some (next, left) → IsFirst limit entries m next left
  is_first next left is =
      by_cases (kind_at limit m) (followed entries (move_of m.world m.place)) refl refl
      (λ k. refl) is
    where
      by_cases : (kind : Option MoveKind) (given : Option (Scene × List LogEntry))
          → kind_at limit m ≡ kind → followed entries (move_of m.world m.place) ≡ given
          → ((k : ℕ) → recorded_from (suc k) limit entries m ≡ moves_by k kind given)
          → one_by kind given ≡ Some (next, left) → IsFirst limit entries m next left
      by_cases None given at made all none = absurd cc
      by_cases (Some kind) None at made all none = absurd cc
      by_cases (Some kind) (Some (scene, rest)) at made all some =
          record {
            kind = kind;
            is = at;
            moves = λ k. all k
                ∙ ap₂ (λ (x : Moment) (y : List LogEntry). (kind, x) ∷ recorded_from k limit y x)
                (first_same (behind kind scene) next rest left some)
                (second_same (behind kind scene) next rest left some);
            used = ap (λ (x : Outcome Scene). elim x [
              | gives a rest ↦ rest
              | asks question output error ↦ []
            ]) (followed_over entries rest (move_of m.world m.place) scene made)
                ∙ ap (map answer_in) (second_same (behind kind scene) next rest left some);
            walks = λ k. ap (walk_by k (over (map answer_in entries) (move_of m.world m.place))) at
                ∙ ap (λ (x : Outcome Scene). walk_by k x (Some kind))
                (followed_over entries rest (move_of m.world m.place) scene made)
                ∙ ap₂ (λ (x : Moment) (es : List LogEntry). walk k limit (map answer_in es) x)
                (first_same (behind kind scene) next rest left some)
                (second_same (behind kind scene) next rest left some);
          }

  -- where it doesn't, there is none
  pub none_ahead : follow_one limit entries m ≡ None → (k : ℕ)
      → recorded_from k limit entries m ≡ []
  none_ahead is zero = refl
  none_ahead is (suc k) =
      by_cases (kind_at limit m) (followed entries (move_of m.world m.place)) is
    where
      by_cases : (kind : Option MoveKind) (given : Option (Scene × List LogEntry))
          → one_by kind given ≡ None → moves_by k kind given ≡ []
      by_cases None given none = refl
      by_cases (Some kind) None none = refl
      by_cases (Some kind) (Some (scene, rest)) some = absurd cc

-- ---- positions

pub on_moment : (at : Position) (move : MoveKind × Moment) (moves : List (MoveKind × Moment))
    → at.future ≡ move ∷ moves → (moved_on at).moment ≡ move.1
on_moment at move moves is = go at at.future is
  where
    go : (at : Position) (future : List (MoveKind × Moment)) → future ≡ move ∷ moves
        → (moved_on (record at { future = future })).moment ≡ move.1
    go at [] e = absurd cc
    go at (x ∷ xs) e = (let h : x ≡ move = cc in ap (λ (y : MoveKind × Moment). y.1) h)

pub on_future : (at : Position) (move : MoveKind × Moment) (moves : List (MoveKind × Moment))
    → at.future ≡ move ∷ moves → (moved_on at).future ≡ moves
on_future at move moves is = go at at.future is
  where
    go : (at : Position) (future : List (MoveKind × Moment)) → future ≡ move ∷ moves
        → (moved_on (record at { future = future })).future ≡ moves
    go at [] e = absurd cc
    go at (x ∷ xs) e = cc

pub on_past : (at : Position) (move : MoveKind × Moment) (moves : List (MoveKind × Moment))
    → at.future ≡ move ∷ moves → (moved_on at).past ≡ (move.0, at.moment) ∷ at.past
on_past at move moves is = go at at.future is
  where
    go : (at : Position) (future : List (MoveKind × Moment)) → future ≡ move ∷ moves
        → (moved_on (record at { future = future })).past ≡ (move.0, at.moment) ∷ at.past
    go at [] e = absurd cc
    go at (x ∷ xs) e =
        (let h : x ≡ move = cc in ap (λ (y : MoveKind × Moment). (y.0, at.moment) ∷ at.past) h)

-- ---- where so many moves lead

module _ (images : List Image) (config : Config) (entries : List LogEntry) (start : Position)
    (is_start : IsStart images config entries start) where
  abbrev first : Moment
  first = first_moment (opening images config)

  abbrev limit : ℕ
  limit = config.rounds

  -- behind so many moves it is this moment, with these entries left
  pub record IsThere (n : ℕ) (m : Moment) (left : List LogEntry) : Type 0 where
    pub moment : (position_after n start).moment ≡ m
    pub future : (more : ℕ)
        → (position_after n start).future ≡ recorded_from (is_start.most + more) limit left m
    pub used : left_behind (map answer_in entries) (position_after n start).past
        ≡ map answer_in left

  at_first : IsThere 0 first entries
  at_first = record {
    moment = ap (λ (p : Position). p.moment) is_start.is;
    future = λ more. ap (λ (p : Position). p.future) is_start.is ∙ sym (is_start.ended more);
    used = ap (λ (p : Position). left_behind (map answer_in entries) p.past) is_start.is;
  }

  a_move_on : (n : ℕ) (m next : Moment) (now left : List LogEntry) → IsThere n m now
      → follow_one limit now m ≡ Some (next, left) → IsThere (suc n) next left
  a_move_on n m next now left there one =
      record {
        moment = on_moment (position_after n start) (step.kind, next)
            (recorded_from (is_start.most + 0) limit left next) (ahead 0);
        future = λ more. on_future (position_after n start) (step.kind, next)
            (recorded_from (is_start.most + more) limit left next) (ahead more);
        used = ap (left_behind (map answer_in entries)) (on_past (position_after n start)
            (step.kind, next) (recorded_from (is_start.most + 0) limit left next) (ahead 0))
            ∙ ap₂ (λ (answers : List Answer) (x : Moment).
            left_by answers (move_of x.world x.place)) there.used there.moment ∙ step.used;
      }
    where
      step : IsFirst limit now m next left
      step = is_first limit now m next left one

      ahead : (more : ℕ) → (position_after n start).future
          ≡ (step.kind, next) ∷ recorded_from (is_start.most + more) limit left next
      ahead more =
          let one : is_start.most + suc more ≡ suc (is_start.most + more) = omega arith in
          there.future (suc more) ∙ ap (λ k. recorded_from k limit now m) one
          ∙ step.moves (is_start.most + more)

  pub is_there : (n : ℕ) (m : Moment) (left : List LogEntry)
      → follow n limit entries first ≡ Some (m, left) → IsThere n m left
  is_there zero m left is =
      subst (λ (x : Moment). IsThere 0 x left) (first_same first m entries left is)
      (subst (λ (es : List LogEntry). IsThere 0 first es) (second_same first m entries left is)
      at_first)
  is_there (suc n) m left is =
      by_case (follow n limit entries first) refl (λ before now some. is_there n before now some)
    where
      by_case : (x : Option (Moment × List LogEntry)) → follow n limit entries first ≡ x
          → ((before : Moment) (now : List LogEntry)
          → follow n limit entries first ≡ Some (before, now) → IsThere n before now)
          → IsThere (suc n) m left
      by_case None none there =
          let never : ◌≡◌ {A = Option (Moment × List LogEntry)} None (Some (m, left)) =
          (sym (ap (λ (x : Option (Moment × List LogEntry)). elim x [
            | None ↦ None
            | Some (reached, rest) ↦ follow_one limit rest reached
          ]) none) ∙ is) in absurd cc
      by_case (Some (before, now)) some there =
          a_move_on n before m now left (there before now some)
          (sym (follow_on n limit entries now first before some) ∙ is)

  -- ---- the next move

  -- it leads on
  pub kind_ahead : (n : ℕ) (m next : Moment) (now left : List LogEntry) (kind : MoveKind)
      → IsThere n m now → kind_at limit m ≡ Some kind → follow_one limit now m ≡ Some (next, left)
      → first_kind (position_after n start).future ≡ Some kind
  kind_ahead n m next now left kind there is one =
      let step = is_first limit now m next left one in
      let k : is_start.most + 1 ≡ suc is_start.most = omega arith in
      ap first_kind (there.future 1 ∙ ap (λ k. recorded_from k limit now m) k
      ∙ step.moves is_start.most) ∙ sym step.is ∙ is

  -- no move is ahead
  pub nothing_ahead : (n : ℕ) (m : Moment) (now : List LogEntry) → IsThere n m now
      → follow_one limit now m ≡ None → first_kind (position_after n start).future ≡ None
  nothing_ahead n m now there none =
      ap first_kind (there.future 0 ∙ none_ahead limit now m none (is_start.most + 0))

-- ---- a playback

-- the place of what is played, where the entries lead there
pub stands : (p : Played) (o e : List ℕ)
    → follow p.moves p.config.rounds p.entries (first_moment (opening p.images p.config))
    ≡ Some (moment_sent p.walk o e, drop p.used p.entries)
    → p.used ≤ length p.entries → Stands p
stands p o e come few start is_start =
    record {
      moment = there.moment
          ∙ ap₂ (λ (x y : List ℕ). moment_sent p.walk x y)
          (sym (ap (λ (m : Moment). m.world.output) there.moment))
          (sym (ap (λ (m : Moment). m.world.error) there.moment));
      left = is_start.most;
      future = λ more. there.future more
          ∙ ap (recorded_from (is_start.most + more) p.config.rounds (drop p.used p.entries))
          (sym there.moment);
      used = λ r same. ap (λ es. length es - length (left_behind (map answer_in es)
          (position_after p.moves start).past)) same
          ∙ ap (λ (answers : List Answer). length p.entries - length answers) there.used
          ∙ counted;
    }
  where
    counted : length p.entries - length (map answer_in (drop p.used p.entries)) ≡ p.used
    counted =
        let left : length (map answer_in (drop p.used p.entries)) ≡ length p.entries - p.used =
        length-map (drop p.used p.entries) answer_in ∙ length-drop p.used p.entries in
        omega (arith, left, few)

    there : IsThere p.images p.config p.entries start is_start p.moves
        (moment_sent p.walk o e) (drop p.used p.entries)
    there = is_there p.images p.config p.entries start is_start p.moves
        (moment_sent p.walk o e) (drop p.used p.entries) come

-- what is seen of a track
abbrev pub seen_of : List Image → Config → Track → (reached : ℕ) → (failed : Bool) → Played
seen_of images config t reached failed = record {
  images = images;
  config = config;
  entries = log_entries t.shim.log;
  used = entries_used t.shim;
  walk = t.walker;
  moves = t.moves;
  reached = reached;
  output = t.out.bytes.items;
  error = t.err.bytes.items;
  failed = failed;
}

pub stands_there : (images : List Image) (config : Config) (t : Track) (reached : ℕ)
    (failed : Bool) → HasCome (first_moment (opening images config)) t → t.walker.config ≡ config
    → entries_used t.shim ≤ length (log_entries t.shim.log)
    → Stands (seen_of images config t reached failed)
stands_there images config t reached failed come same few =
    stands (seen_of images config t reached failed) come.output come.error
    (ap (λ (c : Config). follow t.moves c.rounds (log_entries t.shim.log)
    (first_moment (opening images config))) (sym same) ∙ come.is) few

-- what a move has put, by the worlds before and behind it
pub heard : (images : List Image) (config : Config) (entries : List LogEntry) (start : Position)
    (is_start : IsStart images config entries start) (p : Played) (n k : ℕ) (old new : Walk)
    (now left : List LogEntry) (o e output error : List ℕ)
    → follow n config.rounds entries (first_moment (opening images config))
    ≡ Some (moment_sent old o e, now)
    → follow k config.rounds entries (first_moment (opening images config))
    ≡ Some (moment_sent new (o ++ output) (e ++ error), left)
    → p.output ≡ output → p.error ≡ error
    → Heard p (position_after n start).moment.world (position_after k start).moment.world
heard images config entries start is_start p n k old new now left o e output error before behind
    put_output put_error =
    let a = is_there images config entries start is_start n (moment_sent old o e) now before in
    let b = is_there images config entries start is_start k
    (moment_sent new (o ++ output) (e ++ error)) left behind in
    record {
      output = put_output ∙ sym (drop-append_seam o output)
          ∙ ap₂ (λ (x y : List ℕ). drop (length x) y)
          (sym (ap (λ (m : Moment). m.world.output) a.moment))
          (sym (ap (λ (m : Moment). m.world.output) b.moment));
      error = put_error ∙ sym (drop-append_seam e error)
          ∙ ap₂ (λ (x y : List ℕ). drop (length x) y)
          (sym (ap (λ (m : Moment). m.world.error) a.moment))
          (sym (ap (λ (m : Moment). m.world.error) b.moment));
    }
