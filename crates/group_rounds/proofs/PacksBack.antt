-- What the packs bring back makes the world of all parts.
use Rattle.std.proofs.Common.{ℕ, zero, suc, ◌-◌, ◌*◌, ◌/◌, ◌%◌, ◌<◌, ◌≤◌, ◌≡◌, ◌≢◌, ◌⊎◌, inl, inr}
use Rattle.std.proofs.Common.{refl, sym, ap, ap₂, ◌∙◌, subst, List, [], ◌∷◌, ◌++◌, is_some, false}
use Rattle.std.proofs.Common.{length, map, get_or, Option, Some, None, IsSome, All, option_map}
use Rattle.std.proofs.Common.{arith}
use Rattle.std.specs.Prelude.{slice_get}
use Rattle.std.proofs.lemmas.List.{get_or_past}
use Rattle.std.proofs.lemmas.List.Elements.{All-nil, All-cons}
use Rattle.dos_world.specs.declared.Owner.TheVariants.{Of}
use Rattle.dos_laws.specs.Standing.{LawfulWith}
use Rattle.flat_machine.specs.Laws.{kept}
use Rattle.page_store.specs.Store.{Store, joined, owner_at, IsAway}
use Rattle.page_store.proofs.Joined.{home-at, length-joined, page_of-joined, joined_at}
use Rattle.quantum_run.specs.Packs.{empty_pack, without_words}
use Rattle.quantum_run.specs.Shows.{Pack, FinishedOwning, has_words}
use Rattle.written_words.specs.declared.Written.{Written}
use Rattle.flat_machine.specs.Round.{all_alone}
use Rattle.round_core.proofs.Commute.{Among}
use Rattle.round_core.proofs.Bringing.{DifferIn, decide-owner}
use Rattle.proc_table.specs.Tables.{thread_in, IsLiveThread}
use Rattle.kernel_calls.specs.StateWorld.{IsSound, sent, world_of}
use Rattle.kernel_objects.specs.Pipework.{Pipework}
use Rattle.kernel_calls.specs.declared.state.State.{State}
use Rattle.group_rounds.specs.Handing.{AreOnce, In, all_pages, HaveNoFrameTwice, AreOthers, IsFor}
use Rattle.group_rounds.specs.Handing.{Handing}
use Rattle.group_rounds.specs.Handing.{PutBack}
use Rattle.group_rounds.specs.Handing.{AreSet, emptied_pack, pack_of, view_of}
use Rattle.group_rounds.specs.Phases.{AreLive}
use Rattle.worker_pool.specs.Ran.{AllRan, HasRun}
use Rattle.group_rounds.proofs.HandingLaws.{beside, in-left, in-right, in-either}
use Rattle.group_rounds.proofs.Sound.{sound_then, alone_keeps}
use Rattle.kernel_objects.specs.Pipework.{Pipework}
use Rattle.kernel_calls.proofs.Counted.{all_counted, counted_like}
use Rattle.group_rounds.proofs.PacksRan.{among-of, among-at, apart-of, brought}
use Rattle.group_rounds.proofs.PacksShow.{frames-at, frames-from, some-is, shows-it, below}
use Rattle.group_rounds.proofs.PacksShow.{opened-is, lives, frame-low, no-words}

-- ---- lists

pub in-of : {A : Type 0} (xs : List A) (i : ℕ) (x : A) → slice_get xs i ≡ Some x → In xs x
in-of [] i x h = cc
in-of {A} (y ∷ xs) zero x h = inl (same h)
  where
    same : ◌≡◌ {A = Option A} (Some y) (Some x) → y ≡ x
    same q = cc
in-of (y ∷ xs) (suc i) x h = inr (in-of xs i x h)

pub in-at : {A : Type 0} (xs : List A) (x : A) → In xs x → (i : ℕ) × (slice_get xs i ≡ Some x)
in-at [] x h = absurd h
in-at (y ∷ xs) x (inl e) = (0, ap Some e)
in-at (y ∷ xs) x (inr h) = let r = in-at xs x h in (suc r.0, r.1)

-- a page of one of the packs
pub in-pages : (qs : List Pack) (x : ℕ × List ℕ) → In (all_pages qs) x
    → (q : Pack) × In qs q × In q.pages x
in-pages [] x h = absurd h
in-pages (q ∷ qs) x h = by (λ k. in-pages qs x k) (in-either q.pages (all_pages qs) x h)
  where
    by : (In (all_pages qs) x → (r : Pack) × In qs r × In r.pages x)
        → In q.pages x ⊎ In (all_pages qs) x → (r : Pack) × In (q ∷ qs) r × In r.pages x
    by rest (inl k) = (q, inl refl, k)
    by rest (inr k) = let r = rest k in (r.0, inr r.1, r.2)

pub pages-in : (qs : List Pack) (q : Pack) (x : ℕ × List ℕ) → In qs q → In q.pages x
    → In (all_pages qs) x
pages-in [] q x h k = absurd h
pages-in (r ∷ qs) q x (inl e) k =
    in-left r.pages (all_pages qs) x (subst (λ (z : Pack). In z.pages x) (sym e) k)
pages-in (r ∷ qs) q x (inr h) k = in-right r.pages (all_pages qs) x (pages-in qs q x h k)

apart-list : (xs : List (ℕ × List ℕ))
    → ((j k f : ℕ) (a b : List ℕ) → slice_get xs j ≡ Some (f, a) → slice_get xs k ≡ Some (f, b)
    → j ≡ k) → HaveNoFrameTwice xs
apart-list [] h = tt
apart-list (x ∷ xs) h = (
  λ page q. let at = in-at xs (x.0, page) q in let same : suc at.0 ≡ 0 =
      h (suc at.0) 0 x.0 page x.1 at.1 refl in omega (arith, same),
  apart-list xs (λ j k f a b p q. let same : suc j ≡ suc k = h (suc j) (suc k) f a b p q in
      omega (arith, same)),
)

apart-append : (xs ys : List (ℕ × List ℕ)) → HaveNoFrameTwice xs → HaveNoFrameTwice ys
    → ((f : ℕ) (a b : List ℕ) → In xs (f, a) → In ys (f, b) → ⊥) → HaveNoFrameTwice (xs ++ ys)
apart-append [] ys a b c = b
apart-append (x ∷ xs) ys a b c = (
  λ page q. by page (in-either xs ys (x.0, page) q),
  apart-append xs ys a.1 b (λ f u v p q. c f u v (inr p) q),
)
  where
    by : (page : List ℕ) → In {A = ℕ × List ℕ} xs (x.0, page) ⊎ In {A = ℕ × List ℕ} ys (x.0, page)
        → ⊥
    by page (inl p) = a.0 page p
    by page (inr p) = c x.0 x.1 page (inl refl) p

-- packs of threads that differ, each with pages of its own thread's frames
pub packs-apart : (Mine : ℕ → ℕ → Type 0) → ((f s t : ℕ) → Mine f s → Mine f t → s ≡ t)
    → (qs : List Pack) → AreOthers qs
    → ((q : Pack) → In qs q → (j k f : ℕ) (a b : List ℕ) → slice_get q.pages j ≡ Some (f, a)
    → slice_get q.pages k ≡ Some (f, b) → j ≡ k)
    → ((q : Pack) (f : ℕ) (page : List ℕ) → In qs q → In q.pages (f, page) → Mine f q.thread)
    → HaveNoFrameTwice (all_pages qs)
packs-apart Mine one [] others each mine = tt
packs-apart Mine one (q ∷ qs) others each mine =
    apart-append q.pages (all_pages qs) (apart-list q.pages (each q (inl refl)))
    (packs-apart Mine one qs others.1 (λ r h. each r (inr h))
    (λ r f page h k. mine r f page (inr h) k))
    (λ f a b h k. let r = in-pages qs (f, b) k in
    others.0 r.0 r.1
    (one f r.0.thread q.thread (mine r.0 f b (inr r.1) r.2)
    (mine q f a (inl refl) h)))

pub others-of : (qs : List Pack)
    → ((i j : ℕ) (p q : Pack) → slice_get qs i ≡ Some p → slice_get qs j ≡ Some q
    → p.thread ≡ q.thread → i ≡ j) → AreOthers qs
others-of [] h = tt
others-of (q ∷ qs) h = (
  λ r k e. let at = in-at qs r k in let same : suc at.0 ≡ 0 = h (suc at.0) 0 r q at.1 refl e in
      omega (arith, same),
  others-of qs (λ i j a b x y e. let same : suc i ≡ suc j = h (suc i) (suc j) a b x y e in
      omega (arith, same)),
)

-- ---- bytes of frames that are the same

joined-same : (ps qs : List (Option (List ℕ))) (i : ℕ) → length ps ≡ length qs
    → slice_get ps (i / 4096) ≡ slice_get qs (i / 4096)
    → get_or (joined ps) i 0 ≡ get_or (joined qs) i 0
joined-same ps qs i level same = by (slice_get ps (i / 4096)) refl
  where
    out : (xs : List (Option (List ℕ))) (f : ℕ) → slice_get xs f ≡ None → length xs ≤ f
    out [] f h = omega arith
    out (x ∷ xs) zero h = cc
    out (x ∷ xs) (suc f) h = let r = out xs f h in omega (arith, r)

    by : (o : Option (Option (List ℕ))) → slice_get ps (i / 4096) ≡ o
        → get_or (joined ps) i 0 ≡ get_or (joined qs) i 0
    by (Some x) e = joined_at ps (i / 4096) (i % 4096) i x e (omega arith) (omega arith)
        ∙ sym (joined_at qs (i / 4096) (i % 4096) i x (sym same ∙ e) (omega arith) (omega arith))
    by None e =
        let p = out ps (i / 4096) e in
        get_or_past (joined ps) i 0 (omega (arith, p, length-joined ps))
        ∙ sym (get_or_past (joined qs) i 0 (omega (arith, p, length-joined qs, level)))

-- ---- after a phase

all-of : (ps : List (Option (List ℕ)))
    → ((f : ℕ) → f < length ps → (x : List ℕ) × (slice_get ps f ≡ Some (Some x))) → All IsSome ps
all-of [] h = All-nil IsSome
all-of (None ∷ ps) h = let r = h 0 (omega arith) in absurd (never r.1)
  where
    never : {x : List ℕ} → ◌≡◌ {A = Option (Option (List ℕ))} (Some None) (Some (Some x)) → ⊥
    never q = cc
all-of (Some x ∷ ps) h = All-cons IsSome (Some x) ps refl
    (all-of ps (λ f low. h (suc f) (omega arith)))

Of-is : (a b : ℕ) → Of a ≡ Of b → a ≡ b
Of-is a b q = cc

module _ (s : State) (sound : IsSound s) (ts : List ℕ) (live : AreLive s.table.threads ts)
    (apart : AreOnce ts)
    (new : Store) (ps qs : List Pack)
    (h : Handing ts (map (pack_of s.table (empty_pack (length s.frames.pages))) ts) s.frames new ps
    (length s.frames.pages)) (ran : AllRan (view_of new s.table) ps qs) where
  as-many : length qs ≡ length ts
  as-many = ran.level ∙ h.level

  -- what is known of a pack that has run
  pub record Known (i : ℕ) (q : Pack) : Type 0 where
    pub thread : ℕ
    pub starter : slice_get ts i ≡ Some thread
    pub pack : Pack
    pub here : slice_get ps i ≡ Some pack
    pub run : HasRun (view_of new s.table) pack q
    pub is : q.thread ≡ thread

  pub known : (i : ℕ) (q : Pack) → slice_get qs i ≡ Some q → Known i q
  known i q at =
      let t = beside ts qs i q as-many at in
      let p = beside ps qs i q ran.level at in
      let r = ran.each i p.0 p.1 in
      let run = subst (λ (x : Pack). HasRun (view_of new s.table) p.0 x)
      (some-is (sym r.1 ∙ at)) r.2 in
      record {
        thread = t.0;
        starter = t.1;
        pack = p.0;
        here = p.1;
        run = run;
        is =
            run.thread ∙ ap (λ (x : Pack). x.thread)
            (opened-is s sound ts live new ps h i t.0 p.0 t.1 p.1);
      }

  -- a page of it is of a frame of its thread
  pub mine : (q : Pack) (f : ℕ) (page : List ℕ) → In qs q → In q.pages (f, page)
      → (owner_at s.frames f ≡ Of q.thread) × (i : ℕ) × IsFor ts s.frames f i q.thread
  mine q f page k m =
      let i = in-at qs q k in
      let n = known i.0 q i.1 in
      let j = in-at q.pages (f, page) m in
      let old = frames-from n.pack.pages j.0 f
      (ap (λ fs. slice_get fs j.0) (sym n.run.frames) ∙ frames-at q.pages j.0 f page j.1) in
      let owner : owner_at s.frames f ≡ Of q.thread =
      ((below s sound ts live new ps h i.0 n.thread n.pack n.starter n.here).owner j.0 f old.0
      old.1).0 ∙ ap Of (sym n.is) in
      (owner, i.0, (n.starter ∙ ap Some (sym n.is), owner))

  pub others : AreOthers qs
  others = others-of qs (λ i j p q a b e. let m = known i p a in let n = known j q b in
      apart i j m.thread m.starter (n.starter ∙ ap Some (sym n.is ∙ sym e ∙ m.is)))

  pub pages-apart : HaveNoFrameTwice (all_pages qs)
  pages-apart = packs-apart (λ f t. owner_at s.frames f ≡ Of t)
      (λ f a b x y. Of-is a b (sym x ∙ y)) qs others one (λ q f page k m. (mine q f page k m).0)
    where
      one : (q : Pack) → In qs q → (j k f : ℕ) (a b : List ℕ) → slice_get q.pages j ≡ Some (f, a)
          → slice_get q.pages k ≡ Some (f, b) → j ≡ k
      one q m j k f a b x y =
          let i = in-at qs q m in
          let n = known i.0 q i.1 in
          let u = frames-from n.pack.pages j f
          (ap (λ fs. slice_get fs j) (sym n.run.frames) ∙ frames-at q.pages j f a x) in
          let v = frames-from n.pack.pages k f
          (ap (λ fs. slice_get fs k) (sym n.run.frames) ∙ frames-at q.pages k f b y) in
          (below s sound ts live new ps h i.0 n.thread n.pack n.starter n.here).apart j k f u.0 v.0
          u.1 v.1

  pub pages-away : (f : ℕ) (page : List ℕ) → In (all_pages qs) (f, page) → IsAway new f
  pages-away f page k =
      let r = in-pages qs (f, page) k in
      let m = mine r.0 f page r.1 r.2 in
      h.away f m.1 r.0.thread (frame-low s sound ts live new ps h f r.0.thread m.0) m.2

  pub threads-live : (q : Pack) → In qs q → IsLiveThread s.table.threads q.thread
  threads-live q k =
      let i = in-at qs q k in
      let n = known i.0 q i.1 in
      subst (IsLiveThread s.table.threads) (sym n.is)
      (lives s sound ts live new ps h i.0 n.thread n.starter)

  -- and emptied it is what it was before it was filled
  pub spare-again : (q : Pack) → In qs q
      → emptied_pack (record q { pages = [] }) ≡ empty_pack (length s.frames.pages)
  spare-again q k =
      let i = in-at qs q k in
      let n = known i.0 q i.1 in
      let room : q.room ≡ length s.frames.pages =
      n.run.room ∙ ap (λ (x : Pack). x.room)
      (opened-is s sound ts live new ps h i.0 n.thread n.pack n.starter n.here) in
      let none : has_words q ≡ false =
      n.run.finished.scheme
      ∙ no-words s sound ts live new ps h i.0 n.thread n.pack n.starter n.here in
      ap₂ (λ (room : ℕ) (ws : Option (List Written)).
      record (empty_pack room) { words = without_words ws }) room (no-words-in q.words none)
    where
      no-words-in : (ws : Option (List Written)) → is_some ws ≡ false → ws ≡ None
      no-words-in None e = refl
      no-words-in (Some ws) e = cc

  module _ (s2 : State) (put : PutBack (all_pages qs) new s2.frames)
      (set : AreSet qs s.table s2.table) (round : s2.round ≡ s.round)
      (pipes : s2.pipes ≡ s.pipes) (futexes : s2.futexes ≡ s.futexes) where
    -- a frame that no starter has is as it was
    frame-same : (f : ℕ) → ((t : ℕ) → Among ts t → owner_at s.frames f ≢ Of t)
        → slice_get s2.frames.pages f ≡ slice_get s.frames.pages f
    frame-same f none =
        put.rest f (λ page k. let r = in-pages qs (f, page) k in let m = mine r.0 f page r.1 r.2 in
        none r.0.thread (among-of ts m.1 r.0.thread m.2.0) m.0)
        ∙ h.home f (inr (λ place t is. none t (among-of ts place t is.0) is.1))

    level : length s2.frames.pages ≡ length s.frames.pages
    level = put.count ∙ h.count

    world-same : (q : ℕ) (o e : List ℕ)
        → DifferIn ts (sent o e (world_of q s)) (sent o e (world_of q s2))
    world-same q o e = record {
      owners = put.owners ∙ h.owners;
      count = length-joined s2.frames.pages ∙ ap (λ n. 4096 * n) level
          ∙ sym (length-joined s.frames.pages);
      bytes = λ i none. joined-same s2.frames.pages s.frames.pages i level
          (frame-same (i / 4096) none);
      processes = set.processes;
      numbers = set.count;
      others = λ t out. set.others t (λ p k e. let i = in-at qs p k in let n = known i.0 p i.1 in
          out (subst (Among ts) (sym n.is ∙ e) (among-of ts i.0 n.thread n.starter)));
      threads = set.same;
      pipes = ap (λ (x : Pipework). x.bytes) pipes;
      sleepers = futexes;
      rounds = ap (λ n. n - 1) round;
      quantum = refl;
      output = refl;
      error = refl;
    }

    pub all-runs : (q : ℕ) (o e : List ℕ)
        → all_alone (sent o e (world_of q s)) ts ≡ sent o e (world_of q s2)
    all-runs q o e =
        brought (view_of new s.table) ts ps qs (sent o e (world_of q s)) (sent o e (world_of q s2))
        (apart-of ts apart) h.level as-many
        (λ i t p a at here there.
        let n = known i a there in
        let same : n.pack ≡ p = some-is (sym n.here ∙ here) in
        let thread : n.thread ≡ t = number-is (sym n.starter ∙ at) in
        record {
          begun = ap (λ (x : Pack). x.thread)
              (opened-is s sound ts live new ps h i t p at here);
          thread = n.is ∙ thread;
          shown = shows-it s sound ts live new ps h i t p at here q o e;
          finished = subst (λ (x : Pack). FinishedOwning x (view_of new s.table) a) same
              (n.run.finished.owning
              (no-words s sound ts live new ps h i n.thread n.pack n.starter n.here));
        })
        (world-same q o e)
        (λ i t a at there.
        let n = known i a there in
        let thread : n.thread ≡ t = number-is (sym n.starter ∙ at) in
        record {
          thread = subst (λ (k : ℕ). option_map kept (thread_in s2.table.threads k)
              ≡ Some (a.registers, a.budget)) (n.is ∙ thread)
              (set.set a (in-of qs i a there));
          pages = λ j f page has. let x =
              put.back f page
              (pages-in qs a (f, page) (in-of qs i a there)
              (in-of a.pages j (f, page) has)) in
              page_of-joined s2.frames.pages f (Some x.0) x.1 ∙ x.2;
        })
      where
        number-is : {a b : ℕ} → ◌≡◌ {A = Option ℕ} (Some a) (Some b) → a ≡ b
        number-is q = cc

    -- each page is home
    has-come : (f : ℕ) → f < length s.frames.pages
        → ((t : ℕ) × Among ts t × (owner_at s.frames f ≡ Of t))
        ⊎ ((t : ℕ) → Among ts t → owner_at s.frames f ≢ Of t)
        → (x : List ℕ) × (slice_get s2.frames.pages f ≡ Some (Some x))
    has-come f low (inl k) =
        let at = among-at ts k.0 k.1 in
        let q = beside qs ts at.0 k.0 (sym as-many) at.1 in
        let n = known at.0 q.0 q.1 in
        let same : n.thread ≡ k.0 = num-is (sym n.starter ∙ at.1) in
        let old = (below s sound ts live new ps h at.0 n.thread n.pack n.starter n.here).all f low
        (k.2 ∙ ap Of (sym same)) in
        let new_page = frames-from q.0.pages old.0 f
        (ap (λ fs. slice_get fs old.0) n.run.frames
        ∙ frames-at n.pack.pages old.0 f _ old.1) in
        let x = put.back f new_page.0
        (pages-in qs q.0 (f, new_page.0) (in-of qs at.0 q.0 q.1)
        (in-of q.0.pages old.0 (f, new_page.0) new_page.1)) in
        (x.0, x.1)
      where
        num-is : {a b : ℕ} → ◌≡◌ {A = Option ℕ} (Some a) (Some b) → a ≡ b
        num-is z = cc
    has-come f low (inr none) = let x = home-at s.frames.pages f sound.counted.home.home low in
        (x.0, frame-same f none ∙ x.1)

    home-again : All IsSome s2.frames.pages
    home-again = all-of s2.frames.pages
        (λ f low. has-come f (omega (arith, low, level))
        (decide-owner ts (owner_at s.frames f)))

    pub sound-again : IsSound s2
    sound-again = sound_then s s2 sound
        (counted_like s s2 (record {
          home = record {
            home = home-again;
            owners = ap length (put.owners ∙ h.owners)
                ∙ sound.counted.home.owners ∙ sym level;
          };
          round = round;
          room = set.room;
          frames = ap length (put.owners ∙ h.owners);
          uses = put.uses ∙ h.uses;
          readers = ap (λ (p : Pipework). p.readers) pipes;
          writers = ap (λ (p : Pipework). p.writers) pipes;
          processes = ap all_counted set.processes;
        }) sound.counted)
        (λ q k. subst (LawfulWith []) (all-runs q [] [])
        (alone_keeps [] ts (world_of q s) k))

    pub count-again : length s2.frames.owners ≡ length s.frames.owners
    count-again = ap length (put.owners ∙ h.owners)
