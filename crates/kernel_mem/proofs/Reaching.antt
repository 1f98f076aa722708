-- What an access of a byte reaches, by the entry of its page, and the frame that is granted for it.
use Rattle.std.proofs.Common.{◌≡◌, ℕ, zero, suc, ◌+◌, ◌-◌, ◌*◌, ◌/◌, ◌%◌, ◌<◌, ◌≤◌, Bool, true}
use Rattle.std.proofs.Common.{false, not, cond, List, [], ◌∷◌, length, get_or-set_same, Option}
use Rattle.std.proofs.Common.{Some}
use Rattle.std.proofs.Common.{None, refl, sym, ap, ◌∙◌, arith, eq-eqb}
use Rattle.std.specs.Prelude.{◌&&◌, ◌==◌, slice_get}
use Rattle.dos_world.specs.declared.Owner.TheVariants.{Free}
use Rattle.dos_world.specs.declared.Entry.{Entry}
use Rattle.dos_world.specs.declared.Access.{Access}
use Rattle.dos_world.specs.declared.Access.TheVariants.{Fetch, Load, Store, Claim}
use Rattle.dos_world.specs.declared.Size.TheVariants.{Byte}
use Rattle.dos_world.specs.World.{World, look, entry_at, owner_of, space_of, thread_at}
use Rattle.dos_world.specs.Reach.{reach, in_frame, has_right, is_foreign, grant, granted, Reached}
use Rattle.dos_world.specs.Reach.{fault, foreign, at, stored}
use Rattle.dos_world.specs.Kernel.{all_reach, is_reached, opened, place_of}
use Rattle.dos_world.specs.Copying.{byte_stored}
use Rattle.proc_table.specs.Tables.{Tables}
use Rattle.page_store.specs.Store.{Store as Held, owner_at, with_grant}
use Rattle.page_store.proofs.Joined.{home-at}
use Rattle.page_store.proofs.Counts.{owned-within}
use Rattle.kernel_mem.specs.MemoryWorld.{in_world, HasFrame, NamesUsedFrames, HasAllHome}
use Rattle.kernel_mem.specs.MemoryWorld.{entry_in, is_allowed, with_open}

-- ---- one byte

reach_byte : (w : World) (t a : ℕ) (access : Access)
    → reach w t a Byte access ≡ in_frame w t a access (entry_at w t a)
reach_byte w t a access = let e : (a % 1 == 0) ≡ true = eq-eqb (a % 1) 0 (omega arith) in
    ap (λ (b : Bool). cond (not b) (fault 7) (in_frame w t a access (entry_at w t a))) e

-- what an access with its right comes to
abbrev by_owner : Bool → ℕ → ℕ → Reached
by_owner other frame a = cond other (foreign frame) (at (4096 * frame + a % 4096))

entered : (w : World) (t a : ℕ) (access : Access) (o : Option Entry)
    → is_reached (in_frame w t a access o) ≡ is_allowed access o
entered w t a access None = refl
entered w t a access (Some e) = by (has_right access e) (is_foreign t access (owner_of w e.frame))
  where
    by : (right other : Bool)
        → is_reached (cond (not right) (fault 11) (by_owner other e.frame a)) ≡ right
    by false other = refl
    by true true = refl
    by true false = refl

byte_reached : (w : World) (t a : ℕ) (access : Access)
    → is_reached (reach w t a Byte access) ≡ is_allowed access (entry_at w t a)
byte_reached w t a access = ap is_reached (reach_byte w t a access)
    ∙ entered w t a access (entry_at w t a)

-- what an access with its right reaches
reach_here : (w : World) (t a : ℕ) (access : Access) (e : Entry) (other : Bool)
    → entry_at w t a ≡ Some e → has_right access e ≡ true
    → is_foreign t access (owner_of w e.frame) ≡ other
    → reach w t a Byte access ≡ by_owner other e.frame a
reach_here w t a access e other h right f =
    reach_byte w t a access ∙ ap (in_frame w t a access) h
    ∙ ap (λ (b : Bool). cond (not b) (fault 11)
    (by_owner (is_foreign t access (owner_of w e.frame)) e.frame a)) right
    ∙ ap (λ (b : Bool). by_owner b e.frame a) f

abbrev opened_by : World → ℕ → Access → Reached → World
opened_by w t access r = elim r [
  | fault n ↦ w
  | foreign frame ↦ grant w t frame access
  | at place ↦ w
]

-- a page is granted where its frame is foreign
pub opened_here : (w : World) (t a : ℕ) (access : Access) (e : Entry) (other : Bool)
    → entry_at w t a ≡ Some e → has_right access e ≡ true
    → is_foreign t access (owner_of w e.frame) ≡ other
    → opened w t a access ≡ cond other (grant w t e.frame access) w
opened_here w t a access e other h right f =
    ap (opened_by w t access) (reach_here w t a access e other h right f) ∙ by other
  where
    by : (b : Bool) → opened_by w t access (by_owner b e.frame a)
        ≡ cond b (grant w t e.frame access) w
    by true = refl
    by false = refl

abbrev place_by : Reached → ℕ
place_by r = elim r [ fault n ↦ 0 | foreign frame ↦ 0 | at place ↦ place ]

pub place_here : (w : World) (t a : ℕ) (access : Access) (e : Entry) → entry_at w t a ≡ Some e
    → has_right access e ≡ true → is_foreign t access (owner_of w e.frame) ≡ false
    → place_of w t a access ≡ 4096 * e.frame + a % 4096
place_here w t a access e h right f = ap place_by (reach_here w t a access e false h right f)

pub stored_here : (w : World) (t a b : ℕ) (e : Entry) → entry_at w t a ≡ Some e
    → has_right Store e ≡ true → is_foreign t Store (owner_of w e.frame) ≡ false
    → byte_stored w t a b ≡ stored w (4096 * e.frame + a % 4096) (b ∷ [])
stored_here w t a b e h right f = ap stored_by (reach_here w t a Store e false h right f)
  where
    stored_by : Reached → World
    stored_by r = elim r as (λ _. World) [
      | fault n ↦ w
      | foreign frame ↦ w
      | at place ↦ stored w place (b ∷ [])
    ]

-- ---- whether a stretch is reached

-- first some of the addresses, and then the others
pub reach_split : (w : World) (t a n b m k : ℕ) (access : Access) → b ≡ a + n → k ≡ n + m
    → all_reach w t a k access ≡ (all_reach w t a n access && all_reach w t b m access)
reach_split w t a zero b m k access e q =
    let same : a ≡ b = omega arith in
    let all : k ≡ m = omega arith in
    ap (λ n. all_reach w t a n access) all ∙ ap (λ x. all_reach w t x m access) same
reach_split w t a (suc n) b m k access e q =
    let more : k ≡ suc (n + m) = omega arith in
    ap (λ x. all_reach w t a x access) more
    ∙ ap (λ x. is_reached (reach w t a Byte access) && x)
    (reach_split w t (suc a) n b m (n + m) access (omega arith) refl)
    ∙ regroup (is_reached (reach w t a Byte access)) (all_reach w t (suc a) n access)
    (all_reach w t b m access)
  where
    regroup : (x y z : Bool) → (x && (y && z)) ≡ ((x && y) && z)
    regroup true y z = refl
    regroup false y z = refl

-- where both parts are reached, all are
pub reach_more : (w : World) (t a n b m k : ℕ) (access : Access) → all_reach w t a n access ≡ true
    → all_reach w t b m access ≡ true → b ≡ a + n → k ≡ n + m → all_reach w t a k access ≡ true
reach_more w t a n b m k access p r e q = reach_split w t a n b m k access e q
    ∙ ap (λ x. x && all_reach w t b m access) p ∙ r

-- where the second part isn't reached, neither are those that go on with it
pub reach_stop : (w : World) (t a n b m k : ℕ) (access : Access) → all_reach w t b m access ≡ false
    → b ≡ a + n → n + m ≤ k → all_reach w t a k access ≡ false
reach_stop w t a n b m k access r e h =
    reach_split w t a n b (k - n) k access e (omega arith)
    ∙ ap (λ x. all_reach w t a n access && x)
    (reach_split w t b m (b + m) (k - n - m) (k - n) access refl (omega arith)
    ∙ ap (λ x. x && all_reach w t (b + m) (k - n - m) access) r)
    ∙ never (all_reach w t a n access)
  where
    never : (x : Bool) → (x && false) ≡ false
    never true = refl
    never false = refl

-- where all are reached, each part is
pub reach_front : (w : World) (t a n b m k : ℕ) (access : Access) → b ≡ a + n → k ≡ n + m
    → all_reach w t a k access ≡ true → all_reach w t a n access ≡ true
reach_front w t a n b m k access e q all =
    front (all_reach w t a n access) (all_reach w t b m access)
    (sym (reach_split w t a n b m k access e q) ∙ all)
  where
    front : (x y : Bool) → (x && y) ≡ true → x ≡ true
    front true y h = refl
    front false y h = cc

pub reach_back : (w : World) (t a n b m k : ℕ) (access : Access) → b ≡ a + n → k ≡ n + m
    → all_reach w t a k access ≡ true → all_reach w t b m access ≡ true
reach_back w t a n b m k access e q all =
    back (all_reach w t a n access) (all_reach w t b m access)
    (sym (reach_split w t a n b m k access e q) ∙ all)
  where
    back : (x y : Bool) → (x && y) ≡ true → y ≡ true
    back true y h = h
    back false y h = cc

-- whatever the frames are
pub reach_stores : (w : World) (s u : Held) (T : Tables) (t a n : ℕ) (access : Access)
    → all_reach (in_world w s T) t a n access ≡ all_reach (in_world w u T) t a n access
reach_stores w s u T t a zero access = refl
reach_stores w s u T t a (suc n) access =
    ap (λ b. b && all_reach (in_world w s T) t (suc a) n access)
    (byte_reached (in_world w s T) t a access
    ∙ sym (byte_reached (in_world w u T) t a access))
    ∙ ap (λ b. is_reached (reach (in_world w u T) t a Byte access) && b)
    (reach_stores w s u T t (suc a) n access)

pub entry_same : (w : World) (t a b : ℕ) → a / 4096 ≡ b / 4096 → entry_at w t a ≡ entry_at w t b
entry_same w t a b e = ap (λ page.
    elim (thread_at w t) as (λ _. Option Entry) [
      | None ↦ None
      | Some thread ↦ look (space_of w thread.process) page
    ]) e

-- the addresses of a stretch of a page are reached where its first is
pub reach_page : (w : World) (t a n : ℕ) (access : Access) → 0 < n → a % 4096 + n ≤ 4096
    → all_reach w t a n access ≡ is_allowed access (entry_at w t a)
reach_page w t a zero access some within = absurd (omega arith)
reach_page w t a (suc zero) access some within = ap (λ b. b && true) (byte_reached w t a access)
    ∙ both (is_allowed access (entry_at w t a))
  where
    both : (b : Bool) → (b && true) ≡ b
    both true = refl
    both false = refl
reach_page w t a (suc (suc n)) access some within =
    let next : suc a / 4096 ≡ a / 4096 = omega arith in
    ap (λ b. b && all_reach w t (suc a) (suc n) access) (byte_reached w t a access)
    ∙ ap (λ b. is_allowed access (entry_at w t a) && b)
    (reach_page w t (suc a) (suc n) access (omega arith) (omega arith)
    ∙ ap (is_allowed access) (entry_same w t (suc a) a next))
    ∙ twice (is_allowed access (entry_at w t a))
  where
    twice : (b : Bool) → (b && b) ≡ b
    twice true = refl
    twice false = refl

some_world : World
some_world = record {
  bytes = [];
  owners = [];
  processes = [];
  threads = [];
  pipes = [];
  sleepers = [];
  rounds = 0;
  quantum = 0;
  output = [];
  error = [];
}

-- the first address of a stretch that is reached has an entry with the right
pub stretch_allowed : (s : Held) (T : Tables) (t a n : ℕ) (access : Access) → 0 < n
    → a % 4096 + n ≤ 4096 → ((w : World) → all_reach (in_world w s T) t a n access ≡ true)
    → is_allowed access (entry_in T t a) ≡ true
stretch_allowed s T t a n access some within all =
    sym (reach_page (in_world some_world s T) t a n access some within) ∙ all some_world

-- ---- the frame of an address

pub frame_of : (T : Tables) (s : Held) (t a : ℕ) (access : Access) (e : Entry)
    → NamesUsedFrames T s t → is_allowed access (entry_in T t a) ≡ true
    → entry_in T t a ≡ Some e → HasFrame T s t a access e.frame
frame_of T s t a access e mapped allowed found = record {
  entry = e;
  found = found;
  frame_is = refl;
  right = ap (is_allowed access) (sym found) ∙ allowed;
  owned = mapped a e found;
  within = owned-within s.owners e.frame (mapped a e found);
}

-- an address's page is granted in the world as in the frames
pub opened_world : (w : World) {s : Held} {T : Tables} {t a : ℕ} {access : Access} {frame : ℕ}
    → HasFrame T s t a access frame
    → opened (in_world w s T) t a access ≡ in_world w (with_open s frame t access) T
opened_world w {s} {T} {t} {a} {access} {frame} has =
    opened_here (in_world w s T) t a access has.entry
    (is_foreign t access (owner_at s has.entry.frame)) has.found has.right refl
    ∙ by has.entry.frame (is_foreign t access (owner_at s has.entry.frame))
    ∙ ap (λ f. in_world w (with_open s f t access) T) has.frame_is
  where
    by : (f : ℕ) (b : Bool)
        → cond b (grant (in_world w s T) t f access) (in_world w s T)
        ≡ in_world w (cond b (with_grant s f t access) s) T
    by f true = refl
    by f false = refl

-- what was granted to t is foreign to it no more
granted_own : (t : ℕ) (access : Access) → is_foreign t access (granted t access) ≡ false
granted_own t Fetch = refl
granted_own t Load = refl
granted_own t Store = ap not (eq-eqb t t refl)
granted_own t Claim = ap not (eq-eqb t t refl)

pub opened_own : (s : Held) (frame t : ℕ) (access : Access) → frame < length s.owners
    → is_foreign t access (owner_at (with_open s frame t access) frame) ≡ false
opened_own s frame t access within = by (is_foreign t access (owner_at s frame)) refl
  where
    by : (b : Bool) → is_foreign t access (owner_at s frame) ≡ b
        → is_foreign t access (owner_at (cond b (with_grant s frame t access) s) frame) ≡ false
    by true f = ap (is_foreign t access)
        (get_or-set_same s.owners frame (granted t access) Free within) ∙ granted_own t access
    by false f = f

-- Frames that were opened for t: an access goes on there, in the world as before or opened again.
pub record IsOpen (w : World) (s u : Held) (T : Tables) (t a : ℕ) (access : Access)
    (entry : Entry) : Type 0 where
  pub found : entry_in T t a ≡ Some entry
  pub right : has_right access entry ≡ true
  pub own : is_foreign t access (owner_at u entry.frame) ≡ false
  pub first : opened (in_world w s T) t a access ≡ in_world w u T
  pub again : opened (in_world w u T) t a access ≡ in_world w u T

pub is_open : (w : World) (s : Held) (T : Tables) (t a : ℕ) (access : Access) (frame : ℕ)
    (has : HasFrame T s t a access frame)
    → IsOpen w s (with_open s frame t access) T t a access has.entry
is_open w s T t a access frame has =
    let own : is_foreign t access (owner_at (with_open s frame t access) has.entry.frame) ≡ false =
    ap (λ f. is_foreign t access (owner_at (with_open s frame t access) f)) has.frame_is
    ∙ opened_own s frame t access has.within in
    record {
      found = has.found;
      right = has.right;
      own = own;
      first = opened_world w has;
      again = opened_here (in_world w (with_open s frame t access) T) t a access has.entry false
          has.found has.right own;
    }

pub opened-pages : (s : Held) (frame t : ℕ) (access : Access)
    → (with_open s frame t access).pages ≡ s.pages
opened-pages s frame t access = by (is_foreign t access (owner_at s frame))
  where
    by : (b : Bool) → (cond b (with_grant s frame t access) s).pages ≡ s.pages
    by true = refl
    by false = refl

-- the page of a frame that was opened is home
pub opened-home : {s u : Held} {T : Tables} {t a : ℕ} {access : Access} {frame : ℕ}
    → HasFrame T s t a access frame → HasAllHome s → u ≡ with_open s frame t access
    → (page : List ℕ) × (slice_get u.pages frame ≡ Some (Some page))
opened-home {s} {u} {T} {t} {a} {access} {frame} has home is =
    let page = home-at s.pages frame home.home (omega (arith, home.owners, has.within)) in (
      page.0,
      ap (λ (x : Held). slice_get x.pages frame) is
          ∙ ap (λ ps. slice_get ps frame) (opened-pages s frame t access) ∙ page.1,
    )
