-- What stays of the frames where some are granted and written.
use Rattle.std.proofs.Common.{◌≡◌, ℕ, zero, suc, Bool, true, false, cond, ◌⊎◌, inl, inr, List, []}
use Rattle.std.proofs.Common.{◌∷◌, get_or, set, length-set, Some, IsSome, subst, refl, sym, ◌∙◌}
use Rattle.std.proofs.lemmas.List.Elements.{All-set}
use Rattle.dos_world.specs.declared.Owner.{Owner}
use Rattle.dos_world.specs.declared.Owner.TheVariants.{Free, Shared, Of}
use Rattle.dos_world.specs.declared.Access.TheVariants.{Load, Store}
use Rattle.dos_world.specs.World.{is_free}
use Rattle.dos_world.specs.Reach.{is_foreign}
use Rattle.page_store.specs.Store.{Store as Held, owner_at, with_grant, with_home}
use Rattle.page_store.proofs.Kept.{frames-same, frames-set, frames-then}
use Rattle.kernel_mem.specs.MemoryWorld.{with_open, HasAllHome, KeepsUses, KeepsOthers}

-- ---- one owner set

-- what is in use stays in use
set_used : (owners : List Owner) (f k : ℕ) (o : Owner) → is_free o ≡ false
    → is_free (get_or owners f Free) ≡ false
    → is_free (get_or (set owners f o) k Free) ≡ is_free (get_or owners k Free)
set_used [] f k o e h = refl
set_used (x ∷ owners) zero zero o e h = e ∙ sym h
set_used (x ∷ owners) zero (suc k) o e h = refl
set_used (x ∷ owners) (suc f) zero o e h = refl
set_used (x ∷ owners) (suc f) (suc k) o e h = set_used owners f k o e h

-- an owner is the new one, or was there
set_owner : (owners : List Owner) (f k : ℕ) (o p : Owner) → get_or (set owners f o) k Free ≡ p
    → (o ≡ p) ⊎ (get_or owners k Free ≡ p)
set_owner [] f k o p h = inr h
set_owner (x ∷ owners) zero zero o p h = inl h
set_owner (x ∷ owners) zero (suc k) o p h = inr h
set_owner (x ∷ owners) (suc f) zero o p h = inr h
set_owner (x ∷ owners) (suc f) (suc k) o p h = set_owner owners f k o p h

-- ---- where a frame is opened

pub open-reads : (s u : Held) (frame t : ℕ) → is_free (owner_at s frame) ≡ false
    → u ≡ with_open s frame t Load → KeepsUses s u
open-reads s u frame t used is =
    subst (KeepsUses s) (sym is) (by (is_foreign t Load (owner_at s frame)))
  where
    was : (other k : ℕ) → (Shared ≡ Of other) ⊎ (owner_at s k ≡ Of other) → owner_at s k ≡ Of other
    was other k (inl e) = cc
    was other k (inr h) = h

    by : (b : Bool) → KeepsUses s (cond b (with_grant s frame t Load) s)
    by false = record {
      pages = refl;
      uses = refl;
      frames = frames-same s;
      used = λ k. refl;
      owned =
          λ k other h. h;
    }
    by true = record {
      pages = refl;
      uses = refl;
      frames = frames-set s frame Shared;
      used = λ k. set_used s.owners frame k Shared refl used;
      owned = λ k other h. was other k (set_owner s.owners frame k Shared (Of other) h);
    }

pub same-others : (t : ℕ) (s : Held) → HasAllHome s → KeepsOthers t s s
same-others t s home = record {
  home = home;
  uses = refl;
  frames = frames-same s;
  used = λ k. refl;
  owned =
      λ k other h. inr h;
}

open-others : (s : Held) (frame t : ℕ) → HasAllHome s → is_free (owner_at s frame) ≡ false
    → KeepsOthers t s (with_open s frame t Store)
open-others s frame t home used = by (is_foreign t Store (owner_at s frame))
  where
    was : (other k : ℕ) → (Of t ≡ Of other) ⊎ (owner_at s k ≡ Of other)
        → (other ≡ t) ⊎ (owner_at s k ≡ Of other)
    was other k (inl e) = inl (cc)
    was other k (inr h) = inr h

    by : (b : Bool) → KeepsOthers t s (cond b (with_grant s frame t Store) s)
    by false = same-others t s home
    by true = record {
      home = record { home = home.home; owners = length-set s.owners frame (Of t) ∙ home.owners };
      uses = refl;
      frames = frames-set s frame (Of t);
      used = λ k. set_used s.owners frame k (Of t) refl used;
      owned = λ k other h. was other k (set_owner s.owners frame k (Of t) (Of other) h);
    }

-- ---- where a page is written

pub written-others : (s u : Held) (frame t : ℕ) (page : List ℕ) → HasAllHome s
    → is_free (owner_at s frame) ≡ false → u ≡ with_open s frame t Store
    → KeepsOthers t s (with_home u frame page)
written-others s u frame t page home used is =
    by (subst (KeepsOthers t s) (sym is) (open-others s frame t home used))
  where
    by : KeepsOthers t s u → KeepsOthers t s (with_home u frame page)
    by k = record {
      home = record {
        home = All-set IsSome u.pages frame (Some page) refl k.home.home;
        owners =
            k.home.owners ∙ sym (length-set u.pages frame (Some page));
      };
      uses = k.uses;
      frames = record { count = k.frames.count; marked = k.frames.marked };
      used = k.used;
      owned = k.owned;
    }

-- ---- one after another

pub others-then : (t : ℕ) (s u v : Held) → KeepsOthers t s u → KeepsOthers t u v → KeepsOthers t s v
others-then t s u v a b = record {
  home = b.home;
  uses = b.uses ∙ a.uses;
  frames = frames-then b.frames a.frames;
  used = λ k. b.used k ∙ a.used k;
  owned = λ k other h. by k other (b.owned k other h);
}
  where
    by : (k other : ℕ) → (other ≡ t) ⊎ (owner_at u k ≡ Of other)
        → (other ≡ t) ⊎ (owner_at s k ≡ Of other)
    by k other (inl e) = inl e
    by k other (inr h) = a.owned k other h
