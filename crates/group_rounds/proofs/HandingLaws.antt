-- Pages that come home, and threads that are set, one after another.
use Rattle.std.proofs.Common.{ℕ, zero, suc, ◌<◌, ◌≡◌, ◌≢◌, ◌⊎◌, inl, inr, refl, sym, ap, ◌∙◌, subst}
use Rattle.std.proofs.Common.{Bool, true, false, eqb, eqb-true, List, [], ◌∷◌, ◌++◌, length, set}
use Rattle.std.proofs.Common.{Option, Some, None, IsSome, option_map, arith, length-set}
use Rattle.std.proofs.Common.{append_assoc}
use Rattle.std.specs.Prelude.{slice_get}
use Rattle.dos_world.specs.Numbered.{changed}
use Rattle.dos_world.specs.World.{Thread, flat}
use Rattle.dos_world.proofs.Numbers.{changed_other, length-changed}
use Rattle.flat_machine.specs.Laws.{kept}
use Rattle.page_store.specs.Store.{Store, whole, IsAway, with_home}
use Rattle.flat_machine.specs.Laws.{without_progress}
use Rattle.dos_world.specs.Registers.{Registers}
use Rattle.dos_world.specs.declared.Scheme.{Scheme}
use Rattle.dos_world.specs.declared.Scheme.TheVariants.{Buffered, Ownership}
use Rattle.written_words.specs.declared.Written.{Written}
use Rattle.quantum_run.specs.Packs.{with_own_page, with_thread_of, without_words}
use Rattle.quantum_run.specs.Shows.{Pack}
use Rattle.proc_table.specs.Tables.{Tables, thread_in, thread_by, ran, IsLiveThread}
use Rattle.group_rounds.specs.Handing.{In, all_pages, HaveNoFrameTwice, AreOthers, PutBack, AreSet}
use Rattle.group_rounds.specs.Handing.{AreSpare, blank_pack, emptied_pack}
use Rattle.group_rounds.proofs.ThreadRunLaws.{thread_in-by, some_of}

-- ---- lists

-- What stands in one list at a place has something beside it in a list that is as long.
pub beside : {A B : Type 0} (xs : List A) (ys : List B) (i : ℕ) (y : B) → length ys ≡ length xs
    → slice_get ys i ≡ Some y → (x : A) × (slice_get xs i ≡ Some x)
beside xs [] i y e h = cc
beside [] (y ∷ ys) i z e h = absurd (grind arith)
beside (x ∷ xs) (y ∷ ys) zero z e h = (x, refl)
beside (x ∷ xs) (y ∷ ys) (suc i) z e h = beside xs ys i z (omega arith) h

pub in-left : {A : Type 0} (xs ys : List A) (x : A) → In xs x → In (xs ++ ys) x
in-left [] ys x h = absurd h
in-left (y ∷ xs) ys x (inl e) = inl e
in-left (y ∷ xs) ys x (inr h) = inr (in-left xs ys x h)

pub in-right : {A : Type 0} (xs ys : List A) (x : A) → In ys x → In (xs ++ ys) x
in-right [] ys x h = h
in-right (y ∷ xs) ys x h = inr (in-right xs ys x h)

pub in-either : {A : Type 0} (xs ys : List A) (x : A) → In (xs ++ ys) x → In xs x ⊎ In ys x
in-either [] ys x h = inr h
in-either (y ∷ xs) ys x (inl e) = inl (inl e)
in-either (y ∷ xs) ys x (inr h) = go (in-either xs ys x h)
  where
    go : In xs x ⊎ In ys x → (In (y ∷ xs) x) ⊎ In ys x
    go (inl q) = inl (inr q)
    go (inr q) = inr q

pub apart-right : (xs ys : List (ℕ × List ℕ)) → HaveNoFrameTwice (xs ++ ys) → HaveNoFrameTwice ys
apart-right [] ys h = h
apart-right (x ∷ xs) ys h = apart-right xs ys h.1

pub apart-left : (xs ys : List (ℕ × List ℕ)) → HaveNoFrameTwice (xs ++ ys) → HaveNoFrameTwice xs
apart-left [] ys h = tt
apart-left (x ∷ xs) ys h = (λ page q. h.0 page (in-left xs ys (x.0, page) q), apart-left xs ys h.1)

-- no frame on both sides
pub apart-both : (xs ys : List (ℕ × List ℕ)) → HaveNoFrameTwice (xs ++ ys) → (f : ℕ) (a b : List ℕ)
    → In xs (f, a) → In ys (f, b) → ⊥
apart-both [] ys h f a b p q = p
apart-both (x ∷ xs) ys h f a b (inl e) q = let same : x.0 ≡ f = ap (λ y. y.0) e in
    h.0 b (subst (λ (n : ℕ). In (xs ++ ys) (n, b)) (sym same) (in-right xs ys (f, b) q))
apart-both (x ∷ xs) ys h f a b (inr p) q = apart-both xs ys h.1 f a b p q

pub pages-append : (ps qs : List Pack) → all_pages (ps ++ qs) ≡ all_pages ps ++ all_pages qs
pages-append [] qs = refl
pages-append (p ∷ ps) qs = ap (λ xs. p.pages ++ xs) (pages-append ps qs)
    ∙ sym (append_assoc p.pages (all_pages ps) (all_pages qs))

pub others-right : (ps qs : List Pack) → AreOthers (ps ++ qs) → AreOthers qs
others-right [] qs h = h
others-right (p ∷ ps) qs h = others-right ps qs h.1

-- ---- places of a list

set-there : (pages : List (Option (List ℕ))) (f : ℕ) (x : Option (List ℕ)) → f < length pages
    → slice_get (set pages f x) f ≡ Some x
set-there [] f x h = absurd (omega arith)
set-there (y ∷ pages) zero x h = refl
set-there (y ∷ pages) (suc f) x h = set-there pages f x (omega arith)

pub set-other : (pages : List (Option (List ℕ))) (f : ℕ) (x : Option (List ℕ)) (g : ℕ) → g ≢ f
    → slice_get (set pages f x) g ≡ slice_get pages g
set-other [] f x g other = refl
set-other (y ∷ pages) zero x zero other = absurd (other refl)
set-other (y ∷ pages) zero x (suc g) other = refl
set-other (y ∷ pages) (suc f) x zero other = refl
set-other (y ∷ pages) (suc f) x (suc g) other = set-other pages f x g (λ e. other (ap suc e))

within-of : (pages : List (Option (List ℕ))) (f : ℕ) (x : Option (List ℕ))
    → slice_get pages f ≡ Some x → f < length pages
within-of [] f x h = cc
within-of (y ∷ pages) zero x h = omega arith
within-of (y ∷ pages) (suc f) x h = let r = within-of pages f x h in omega (arith, r)

-- ---- pages

pub put-none : (s : Store) → PutBack [] s s
put-none s = record {
  owners = refl;
  uses = refl;
  marked = refl;
  count = refl;
  back = λ f page h. absurd h;
  rest =
      λ f h. refl;
}

pub put-one : (s : Store) (f : ℕ) (page : List ℕ) → IsAway s f
    → PutBack ((f, whole page) ∷ []) s (with_home s f page)
put-one s f page away = record {
  owners = refl;
  uses = refl;
  marked = refl;
  count = length-set s.pages f (Some page);
  back = λ g bytes h. back g bytes h;
  rest = λ g out. set-other s.pages f (Some page) g
      (λ e. out (whole page) (inl (ap (λ n. (n, whole page)) (sym e))));
}
  where
    back : (g : ℕ) (bytes : List ℕ) → In {A = ℕ × List ℕ} ((f, whole page) ∷ []) (g, bytes)
        → (x : List ℕ) × (slice_get (set s.pages f (Some page)) g ≡ Some (Some x))
        × (whole x ≡ bytes)
    back g bytes (inl e) =
        let same : f ≡ g = ap (λ y. y.0) e in (
          page,
          subst (λ (n : ℕ). slice_get (set s.pages f (Some page)) n ≡ Some (Some page)) same
              (set-there s.pages f (Some page) (within-of s.pages f None away)),
          ap (λ y. y.1) e,
        )
    back g bytes (inr h) = absurd h

pub put-then : (xs ys : List (ℕ × List ℕ)) (old mid new : Store) → PutBack ys old mid
    → PutBack xs mid new → ((f : ℕ) (a b : List ℕ) → In xs (f, a) → In ys (f, b) → ⊥)
    → PutBack (xs ++ ys) old new
put-then xs ys old mid new first then both = record {
  owners = then.owners ∙ first.owners;
  uses = then.uses ∙ first.uses;
  marked = then.marked ∙ first.marked;
  count = then.count ∙ first.count;
  back = λ f page h. back f page (in-either xs ys (f, page) h);
  rest = λ f out. then.rest f (λ page h. out page (in-left xs ys (f, page) h))
      ∙ first.rest f (λ page h. out page (in-right xs ys (f, page) h));
}
  where
    back : (f : ℕ) (page : List ℕ) → In xs (f, page) ⊎ In ys (f, page)
        → (x : List ℕ) × (slice_get new.pages f ≡ Some (Some x)) × (whole x ≡ page)
    back f page (inl h) = then.back f page h
    back f page (inr h) = let r = first.back f page h in
        (r.0, then.rest f (λ other q. both f other page q h) ∙ r.1, r.2)

-- what was away is away where others came home
pub still-away : (ys : List (ℕ × List ℕ)) (old new : Store) (f : ℕ) → PutBack ys old new
    → ((page : List ℕ) → In ys (f, page) → ⊥) → IsAway old f → IsAway new f
still-away ys old new f put out away = put.rest f out ∙ away

-- the pages of a pack, the last ones first
pub record Putting (pack₀ : Pack) (frames₀ : Store) (pack : Pack) (frames : Store) : Type 0 where
  pub done : List (ℕ × List ℕ)
  pub is : pack₀ ≡ record pack { pages = pack.pages ++ done }
  pub put : PutBack done frames₀ frames

append-nil : {A : Type 0} (xs : List A) → xs ++ [] ≡ xs
append-nil [] = refl
append-nil (x ∷ xs) = ap (λ ys. x ∷ ys) (append-nil xs)

pub putting-begins : (pack : Pack) (frames : Store) → Putting pack frames pack frames
putting-begins pack frames =
    record {
      done = [];
      is = ap (λ ps. record pack { pages = ps }) (sym (append-nil pack.pages));
      put = put-none frames;
    }

module _ (pack₀ pack pack' : Pack) (frames₀ frames : Store) (f : ℕ) (page : List ℕ)
    (p : Putting pack₀ frames₀ pack frames) (took : pack ≡ with_own_page pack' f page)
    (away : (f : ℕ) (page : List ℕ) → In pack₀.pages (f, page) → IsAway frames₀ f)
    (apart : HaveNoFrameTwice pack₀.pages) where
  pages-are : pack₀.pages ≡ pack'.pages ++ (f, whole page) ∷ p.done
  pages-are = ap (λ (x : Pack). x.pages) p.is ∙ ap (λ (x : Pack). x.pages ++ p.done) took
      ∙ append_assoc pack'.pages ((f, whole page) ∷ []) p.done

  one-apart : HaveNoFrameTwice ((f, whole page) ∷ p.done)
  one-apart = apart-right pack'.pages ((f, whole page) ∷ p.done)
      (subst HaveNoFrameTwice pages-are apart)

  pub put-away : IsAway frames f
  put-away = still-away p.done frames₀ frames f p.put one-apart.0
      (away f (whole page)
      (subst (λ xs. In xs (f, whole page)) (sym pages-are)
      (in-right pack'.pages ((f, whole page) ∷ p.done) (f, whole page) (inl refl))))

  pub putting-more : Putting pack₀ frames₀ pack' (with_home frames f page)
  putting-more = record {
    done = (f, whole page) ∷ p.done;
    is = p.is ∙ ap (λ (x : Pack). record x { pages = x.pages ++ p.done }) took
        ∙ ap (λ ps. record pack' { pages = ps })
        (append_assoc pack'.pages ((f, whole page) ∷ []) p.done);
    put = put-then ((f, whole page) ∷ []) p.done frames₀ frames (with_home frames f page) p.put
        (put-one frames f page put-away) (λ g a b h q. never g a b h q);
  }
    where
      never : (g : ℕ) (a b : List ℕ) → In {A = ℕ × List ℕ} ((f, whole page) ∷ []) (g, a)
          → In p.done (g, b) → ⊥
      never g a b (inl e) q =
          one-apart.0 b (subst (λ (n : ℕ). In p.done (n, b)) (sym (ap (λ y. y.0) e)) q)
      never g a b (inr h) q = h

-- ---- threads

pub set-one : (t : Tables) (p : Pack) → IsLiveThread t.threads p.thread
    → AreSet (p ∷ []) t (thread_by (ran p.registers p.budget) t p.thread)
set-one t p live = record {
  processes = refl;
  room = refl;
  count = length-changed (option_map (ran p.registers p.budget)) t.threads p.thread;
  set = λ q h. set_by q h;
  others = λ s out. ap flat
      (changed_other (option_map (ran p.registers p.budget)) t.threads p.thread s
      (λ e. out p (inl refl) (sym e)));
  same = λ s. same_by s (eqb s p.thread) refl;
}
  where
    changed_to : option_map kept
        (thread_in (changed (option_map (ran p.registers p.budget)) t.threads p.thread)
        p.thread) ≡ Some (p.registers, p.budget)
    changed_to =
        let found = some_of (thread_in t.threads p.thread) live in
        ap (option_map kept) (thread_in-by (ran p.registers p.budget) t.threads p.thread)
        ∙ ap (λ o. option_map kept (option_map (ran p.registers p.budget) o)) found.1

    set_by : (q : Pack) → In (p ∷ []) q
        → option_map kept
        (thread_in (changed (option_map (ran p.registers p.budget)) t.threads p.thread)
        q.thread) ≡ Some (q.registers, q.budget)
    set_by q (inl e) = subst (λ (x : Pack). option_map kept
        (thread_in (changed (option_map (ran p.registers p.budget)) t.threads p.thread)
        x.thread) ≡ Some (x.registers, x.budget)) e changed_to
    set_by q (inr h) = absurd h

    without : (o : Option Thread)
        → option_map without_progress (option_map (ran p.registers p.budget) o)
        ≡ option_map without_progress o
    without None = refl
    without (Some x) = refl

    same_by : (s : ℕ) (b : Bool) → eqb s p.thread ≡ b
        → option_map without_progress
        (thread_in (changed (option_map (ran p.registers p.budget)) t.threads p.thread) s)
        ≡ option_map without_progress (thread_in t.threads s)
    same_by s true e =
        let here : s ≡ p.thread = eqb-true s p.thread e in
        subst (λ (n : ℕ). option_map without_progress
        (thread_in (changed (option_map (ran p.registers p.budget)) t.threads p.thread)
        n) ≡ option_map without_progress (thread_in t.threads n)) (sym here)
        (ap (option_map without_progress)
        (thread_in-by (ran p.registers p.budget) t.threads p.thread)
        ∙ without (thread_in t.threads p.thread))
    same_by s false e = let other : s ≢ p.thread = λ q. grind (arith, q, e) in
        ap (λ o. option_map without_progress (flat o))
        (changed_other (option_map (ran p.registers p.budget)) t.threads p.thread s other)

pub set-then : (p : Pack) (ps : List Pack) (old mid new : Tables) → AreSet ps old mid
    → AreSet (p ∷ []) mid new → ((q : Pack) → In ps q → q.thread ≢ p.thread)
    → AreSet (p ∷ ps) old new
set-then p ps old mid new first then out = record {
  processes = then.processes ∙ first.processes;
  room = then.room ∙ first.room;
  count = then.count ∙ first.count;
  set = λ q h. set_by q h;
  others = λ s none. then.others s (λ q h. one q s h none) ∙ first.others s (λ q h. none q (inr h));
  same = λ s. then.same s ∙ first.same s;
}
  where
    one : (q : Pack) (s : ℕ) → In (p ∷ []) q → ((r : Pack) → In (p ∷ ps) r → r.thread ≢ s)
        → q.thread ≢ s
    one q s (inl e) none = none q (inl e)
    one q s (inr h) none = absurd h

    only : (q r : Pack) → In ps q → In (p ∷ []) r → r.thread ≢ q.thread
    only q r h (inl e) z = out q h (sym (ap (λ (x : Pack). x.thread) e ∙ z))
    only q r h (inr k) z = k

    set_by : (q : Pack) → In (p ∷ ps) q
        → option_map kept (thread_in new.threads q.thread) ≡ Some (q.registers, q.budget)
    set_by q (inl e) = then.set q (inl e)
    set_by q (inr h) = ap (option_map kept) (then.others q.thread (λ r k. only q r h k))
        ∙ first.set q h

-- a thread that lives lives on where others are set
pub set-lives : (ps : List Pack) (old new : Tables) (s : ℕ) → AreSet ps old new
    → IsLiveThread old.threads s → IsLiveThread new.threads s
set-lives ps old new s a live =
    by (thread_in new.threads s) (thread_in old.threads s) (a.same s) live
  where
    by : (o q : Option Thread) → option_map without_progress o ≡ option_map without_progress q
        → IsSome q
        → IsSome o
    by None None e h = h
    by None (Some x) e h = cc
    by (Some x) q e h = refl

-- ---- spare packs

-- filled, a pack is as what it is when emptied would be
pub filled-alike : (p : Pack) (t process : ℕ) (r : Registers) (budget : ℕ)
    → with_thread_of p t process r budget ≡ with_thread_of (emptied_pack p) t process r budget
filled-alike p t process r budget =
    ap (λ ws. record p {
      thread = t;
      process = process;
      registers = r;
      budget = budget;
      words = ws;
    }) (sym (twice p.words))
  where
    twice : (ws : Option (List Written)) → without_words (without_words ws) ≡ without_words ws
    twice None = refl
    twice (Some ws) = refl

pub blank-empty : (scheme : Scheme) (frames : ℕ)
    → emptied_pack (blank_pack scheme frames) ≡ blank_pack scheme frames
blank-empty Ownership frames = refl
blank-empty Buffered frames = refl

-- one more
pub spare-more : (first : Pack) (xs ys : List Pack) (a : Pack) → ys ≡ xs ++ a ∷ []
    → AreSpare first xs → emptied_pack a ≡ first → AreSpare first ys
spare-more first xs ys a is all one p h =
    by (in-either xs (a ∷ []) p (subst (λ (ps : List Pack). In ps p) is h))
  where
    by : In xs p ⊎ In (a ∷ []) p → emptied_pack p ≡ first
    by (inl here) = all p here
    by (inr (inl e)) = ap emptied_pack (sym e) ∙ one
    by (inr (inr here)) = absurd here

-- and one less
pub spare-last : (first : Pack) (xs ys : List Pack) (a : Pack) → ys ≡ xs ++ a ∷ []
    → AreSpare first ys → emptied_pack a ≡ first
spare-last first xs ys a is all =
    all a (subst (λ (ps : List Pack). In ps a) (sym is) (in-right xs (a ∷ []) a (inl refl)))

pub spare-less : (first : Pack) (xs ys : List Pack) (a : Pack) → ys ≡ xs ++ a ∷ []
    → AreSpare first ys → AreSpare first xs
spare-less first xs ys a is all p h =
    all p (subst (λ (ps : List Pack). In ps p) (sym is) (in-left xs (a ∷ []) p h))

-- ---- packs, the last one first

pub record Taking (packs₀ : List Pack) (frames₀ : Store) (table₀ : Tables) (packs : List Pack)
    (frames : Store) (table : Tables) : Type 0 where
  pub done : List Pack
  pub is : packs₀ ≡ packs ++ done
  pub put : PutBack (all_pages done) frames₀ frames
  pub set : AreSet done table₀ table

module _ (packs₀ packs rest : List Pack) (frames₀ frames : Store) (table₀ table : Tables) (p : Pack)
    (k : Taking packs₀ frames₀ table₀ packs frames table) (popped : packs ≡ rest ++ p ∷ [])
    (away : (f : ℕ) (page : List ℕ) → In (all_pages packs₀) (f, page) → IsAway frames₀ f)
    (apart : HaveNoFrameTwice (all_pages packs₀)) (live : (q : Pack) → In packs₀ q
    → IsLiveThread table₀.threads q.thread) (others : AreOthers packs₀) where
  pub packs-are : packs₀ ≡ rest ++ p ∷ k.done
  packs-are = k.is ∙ ap (λ ps. ps ++ k.done) popped ∙ append_assoc rest (p ∷ []) k.done

  pages-are-all : all_pages packs₀ ≡ all_pages rest ++ (p.pages ++ all_pages k.done)
  pages-are-all = ap all_pages packs-are ∙ pages-append rest (p ∷ k.done)

  apart-here : HaveNoFrameTwice (p.pages ++ all_pages k.done)
  apart-here = apart-right (all_pages rest) (p.pages ++ all_pages k.done)
      (subst HaveNoFrameTwice pages-are-all apart)

  pub take-apart : HaveNoFrameTwice p.pages
  take-apart = apart-left p.pages (all_pages k.done) apart-here

  pub take-away : (f : ℕ) (page : List ℕ) → In p.pages (f, page) → IsAway frames f
  take-away f page h =
      still-away (all_pages k.done) frames₀ frames f k.put
      (λ other q. apart-both p.pages (all_pages k.done) apart-here f page other h q)
      (away f page (subst (λ xs. In xs (f, page)) (sym pages-are-all)
      (in-right (all_pages rest) (p.pages ++ all_pages k.done) (f, page)
      (in-left p.pages (all_pages k.done) (f, page) h))))

  pub take-live : IsLiveThread table.threads p.thread
  take-live = set-lives k.done table₀ table p.thread k.set
      (live p (subst (λ ps. In ps p) (sym packs-are) (in-right rest (p ∷ k.done) p (inl refl))))

  pub taking-more : (frames' : Store) (table' : Tables) → PutBack p.pages frames frames'
      → AreSet (p ∷ []) table table' → Taking packs₀ frames₀ table₀ rest frames' table'
  taking-more frames' table' put set = record {
    done = p ∷ k.done;
    is = packs-are;
    put = put-then p.pages (all_pages k.done) frames₀ frames frames' k.put put
        (apart-both p.pages (all_pages k.done) apart-here);
    set = set-then p k.done table₀ table table' k.set set
        (others-right rest (p ∷ k.done) (subst AreOthers packs-are others)).0;
  }
