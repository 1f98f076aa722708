-- The frames as a thread of the buffered scheme sees them: each frame in use is its own.
use Rattle.std.proofs.Common.{ℕ, zero, suc, ◌<◌, ◌≡◌, refl, ap, ◌∙◌, cond, Bool, true, false}
use Rattle.std.proofs.Common.{List, [], ◌∷◌, length, map, Option, Some, Ok, arith}
use Rattle.std.specs.Prelude.{slice_get, slice_index_or}
use Rattle.std.specs.Str.{bytes_eq}
use Rattle.std.proofs.lemmas.List.{length-map}
use Rattle.dos_world.specs.World.{is_free, page_of}
use Rattle.dos_world.specs.declared.Access.{Access}
use Rattle.dos_world.specs.declared.Entry.{Entry}
use Rattle.dos_world.specs.declared.Owner.{Owner}
use Rattle.dos_world.specs.declared.Owner.TheVariants.{Free, Shared, Of}
use Rattle.page_store.specs.Store.{AreHome, Store, joined, whole}
use Rattle.page_store.proofs.Counts.{owned-within}
use Rattle.page_store.proofs.Joined.{home-at}
use Rattle.flat_machine.specs.Buffered.{owner_for}
use Rattle.written_words.specs.declared.Written.{Written}
use Rattle.written_words.specs.Words.{words_put}
use Rattle.quantum_run.specs.Buffering.{pages_read}
use Rattle.quantum_run.specs.Finding.{frame_for}
use Rattle.quantum_run.specs.Pages.{AreOwn, AreReached, AreWithin, is_here}
use Rattle.quantum_run.specs.ThreadRuns.{AreMapped}
use Rattle.quantum_run.proofs.Packing.{here-is}
use Rattle.quantum_run.proofs.Paged.{with-at}
use Rattle.quantum_run.proofs.Places.{found-within, home-here}

free-for : (t : ℕ) (o : Owner) → is_free (owner_for t o) ≡ is_free o
free-for t (Of s) = refl
free-for t Shared = refl
free-for t Free = refl

owner-for-at : (t : ℕ) (owners : List Owner) (i : ℕ)
    → slice_index_or (map (owner_for t) owners) i Free
    ≡ owner_for t (slice_index_or owners i Free)
owner-for-at t [] i = refl
owner-for-at t (o ∷ owners) zero = refl
owner-for-at t (o ∷ owners) (suc i) = owner-for-at t owners i

-- the frames in which each in use is t's
abbrev owned_by : ℕ → Store → Store
owned_by t s = record s { owners = map (owner_for t) s.owners }

owned-mapped : (t : ℕ) (s : Store) (entries : List (ℕ × Entry)) → AreMapped s entries
    → AreMapped (owned_by t s) entries
owned-mapped t s entries mapped = λ page e at. (
  (mapped page e at).0,
  ap is_free (owner-for-at t s.owners e.frame)
      ∙ free-for t (slice_index_or s.owners e.frame Free) ∙ (mapped page e at).1,
)

-- a page that is home is read
read-home : (pages : List (Option (List ℕ))) (words : List Written) (f : ℕ) (page : List ℕ)
    → slice_get pages f ≡ Some (Some page) → is_here (pages_read pages words) f ≡ true
read-home pages words f page home =
    by_test (bytes_eq (whole page) own) refl
  where
    own : List ℕ
    own = page_of (words_put (joined pages) words) f

    by_test : (b : Bool) → bytes_eq (whole page) own ≡ b
        → is_here (pages_read pages words) f ≡ true
    by_test true q =
        here-is (pages_read pages words) f page
        (with-at pages (words_put (joined pages) words) f (Some page) home
        ∙ ap (λ (c : Bool). Some (cond c (Some page) (Some own))) q)
    by_test false q =
        here-is (pages_read pages words) f own
        (with-at pages (words_put (joined pages) words) f (Some page) home
        ∙ ap (λ (c : Bool). Some (cond c (Some page) (Some own))) q)

module _ (t : ℕ) (s : Store) (entries : List (ℕ × Entry)) (home : AreHome s)
    (mapped : AreMapped s entries) where
  within-of : (access : Access) (address frame : ℕ)
      → frame_for t (map (owner_for t) s.owners) entries access address ≡ Ok frame
      → frame < length s.pages
  within-of access address frame h =
      found-within t (owned_by t s) entries access address frame (owned-mapped t s entries mapped) h

  pub all-read : (words : List Written)
      → AreReached t (map (owner_for t) s.owners) entries (pages_read s.pages words)
  all-read words = λ access address frame h.
      let page = home-at s.pages frame home (within-of access address frame h) in
      read-home s.pages words frame page.0 page.1

  pub all-here : AreReached t (map (owner_for t) s.owners) entries s.pages
  all-here = λ access address frame h.
      home-here s.pages frame home (within-of access address frame h)

  pub all-owned : AreOwn t (map (owner_for t) s.owners) entries (is_here s.pages)
  all-owned = λ access address frame writes h.
      home-here s.pages frame home (within-of access address frame h)

  pub all-within : AreWithin (map (owner_for t) s.owners) entries
  all-within = λ page e at.
      let inside = owned-within s.owners e.frame (mapped page e at).1 in
      omega (arith, inside, length-map s.owners (owner_for t))
