-- Owners and bytes: a frame granted to a thread, and bytes written, keep a world lawful.
use Rattle.std.proofs.Common.{ℕ, zero, suc, ◌/◌, ◌%◌, ◌<◌, ◌≤◌, ◌≡◌, ◌≢◌, ◌⊎◌, inl, inr, refl, sym}
use Rattle.std.proofs.Common.{ap, ◌∙◌, subst, Bool, true, false, List, [], ◌∷◌, length, Some, None}
use Rattle.std.proofs.Common.{arith, length-set}
use Rattle.std.specs.Prelude.{◌==◌, All, IsFalse, ◌↔◌, slice_set, slice_index_or}
use Rattle.std.proofs.lemmas.Bool.{true≢false, cases_lt}
use Rattle.std.proofs.lemmas.Bool.Decides.{eqb_tells}
use Rattle.std.proofs.lemmas.Option.{slice_get_past}
use Rattle.std.proofs.lemmas.List.{get_or-set_same, get_or-set_other}
use Rattle.std.proofs.lemmas.List.Elements.{All-set, All-nil, All-cons, All-head, All-tail}
use Rattle.dos_world.specs.World.{World, Thread, flat, thread_at, all_holdings}
use Rattle.dos_world.specs.Bytes.{written, stored, bytes_of}
use Rattle.dos_world.specs.Reach.{grant, granted}
use Rattle.dos_world.specs.Counts.{is_mapped}
use Rattle.dos_world.specs.Lawful.{IsWithinRun, Lawful, AreHoldings, IsSleeper, IsByte}
use Rattle.dos_world.specs.declared.Access.{Access}
use Rattle.dos_world.specs.declared.Access.TheVariants.{Fetch, Load, Store, Claim}
use Rattle.dos_world.specs.declared.Owner.{Owner}
use Rattle.dos_world.specs.declared.Owner.TheVariants.{Free, Shared, Of}
use Rattle.flat_machine.proofs.Keeps.{Own}
use Rattle.dos_laws.proofs.Mapped.{IsTaken}
use Rattle.dos_laws.proofs.Zeros.{AreZero, zeros_written}

-- ---- other owners and bytes

-- what owners and bytes of a lawful world must keep, so that the world with these in their place is
-- lawful
pub record AreOwned (w : World) (owners : List Owner) (bytes : List ℕ) : Type 0 where
  pub places : length owners ≡ length w.owners
  pub count : length bytes ≡ length w.bytes
  pub range : All IsByte bytes
  pub free : (frame : ℕ) → frame < length w.owners
      → (slice_index_or owners frame Free ≡ Free) ↔ IsFalse (is_mapped w frame)
  pub zeros : AreZero owners bytes
  pub owned : (frame t : ℕ) → slice_index_or owners frame Free ≡ Of t
      → (1 ≤ t) × (t ≤ length w.threads)

-- and another quantum, count of rounds and bytes that were sent
pub lawful-over : (w : World) (owners : List Owner) (bytes : List ℕ) (quantum rounds : ℕ)
    (output error : List ℕ) → AreOwned w owners bytes → IsWithinRun quantum rounds → Lawful w
    → Lawful (record w {
      owners = owners;
      bytes = bytes;
      quantum = quantum;
      rounds = rounds;
      output = output;
      error = error;
    })
lawful-over w owners bytes quantum rounds output error are run l = record {
  frames = record {
    bytes = (omega (arith, l.frames.bytes.0, are.count, are.places), are.range);
    free = λ frame lt. are.free frame (omega (arith, are.places));
    zeros = are.zeros;
    owned = are.owned;
  };
  processes = record {
    holdings =
        subst (λ n. All (AreHoldings n) (all_holdings w.processes)) (sym are.places)
        l.processes.holdings;
    private = l.processes.private;
    populated = l.processes.populated;
    statuses = l.processes.statuses;
    parents = l.processes.parents;
    given = l.processes.given;
  };
  threads = record {
    ranges = l.threads.ranges;
    asleep = l.threads.asleep;
    sleepers =
        subst (λ n. All (IsSleeper n) w.sleepers) (sym are.places) l.threads.sleepers;
  };
  pipes = record { ranges = l.pipes.ranges; closed = l.pipes.closed };
  limits = record {
    threads = l.limits.threads;
    processes = l.limits.processes;
    frames = (
      omega (arith, l.limits.frames.0, are.places),
      omega (arith, l.limits.frames.1, are.places),
    );
  };
  run = run;
}

pub lawful-with_frames : (w : World) (owners : List Owner) (bytes : List ℕ)
    → AreOwned w owners bytes → Lawful w → Lawful (record w { owners = owners; bytes = bytes })
lawful-with_frames w owners bytes are l =
    lawful-over w owners bytes w.quantum w.rounds w.output w.error are l.run l

-- ---- a grant

granted_one : (t : ℕ) (access : Access) → (granted t access ≡ Shared) ⊎ (granted t access ≡ Of t)
granted_one t Fetch = inl refl
granted_one t Load = inl refl
granted_one t Store = inr refl
granted_one t Claim = inr refl

-- A frame that is taken is mapped.
pub taken_mapped : (w : World) (frame : ℕ) → Lawful w → IsTaken w frame → is_mapped w frame ≡ true
taken_mapped w frame l taken = go (is_mapped w frame) refl
  where
    go : (b : Bool) → is_mapped w frame ≡ b → b ≡ true
    go true e = refl
    go false e = absurd (taken.owner ((l.frames.free frame taken.within).1 e))

module _ (w : World) (t frame : ℕ) (access : Access) where
  abbrev owners_after : List Owner
  owners_after = slice_set w.owners frame (granted t access)

  never_free : granted t access ≢ Free
  never_free e = by_kind (granted_one t access)
    where
      by_kind : (granted t access ≡ Shared) ⊎ (granted t access ≡ Of t) → ⊥
      by_kind (inl shared) = let both : Shared ≡ Free = sym shared ∙ e in cc
      by_kind (inr of) = let both : Of t ≡ Free = sym of ∙ e in cc

  the_thread : (s : ℕ) → granted t access ≡ Of s → s ≡ t
  the_thread s e = by_kind (granted_one t access)
    where
      by_kind : (granted t access ≡ Shared) ⊎ (granted t access ≡ Of t) → s ≡ t
      by_kind (inl shared) = let both : Shared ≡ Of s = sym shared ∙ e in cc
      by_kind (inr of) = let both : Of t ≡ Of s = sym of ∙ e in cc

  -- A frame that is taken is granted to a thread whose number was given.
  pub lawful-grant : (1 ≤ t) × (t ≤ length w.threads) → IsTaken w frame → Lawful w
      → Lawful (grant w t frame access)
  lawful-grant given taken l =
      lawful-with_frames w owners_after w.bytes (record {
        places = length-set w.owners frame (granted t access);
        count = refl;
        range = l.frames.bytes.1;
        free = λ f lt. free_after f lt (eqb_tells f frame);
        zeros = λ f offset free within.
            l.frames.zeros f offset (free_before f free (eqb_tells f frame)) within;
        owned = λ f s e. owned_after f s e (eqb_tells f frame);
      }) l
    where
      here : slice_index_or owners_after frame Free ≡ granted t access
      here = get_or-set_same w.owners frame (granted t access) Free taken.within

      free_after : (f : ℕ) → f < length w.owners
          → (((f == frame) ≡ true) × (f ≡ frame)) ⊎ (((f == frame) ≡ false) × (f ≢ frame))
          → (slice_index_or owners_after f Free ≡ Free) ↔ IsFalse (is_mapped w f)
      free_after f lt (inl same) =
          subst (λ n. (slice_index_or owners_after n Free ≡ Free) ↔ IsFalse (is_mapped w n))
          (sym same.1) (
            (λ e. absurd (never_free (sym here ∙ e))),
            (λ e. absurd (true≢false (sym (taken_mapped w frame l taken) ∙ e))),
          )
      free_after f lt (inr other) =
          subst (λ o. (o ≡ Free) ↔ IsFalse (is_mapped w f))
          (sym (get_or-set_other w.owners frame f (granted t access) Free other.1))
          (l.frames.free f lt)

      free_before : (f : ℕ) → slice_index_or owners_after f Free ≡ Free
          → (((f == frame) ≡ true) × (f ≡ frame)) ⊎ (((f == frame) ≡ false) × (f ≢ frame))
          → slice_index_or w.owners f Free ≡ Free
      free_before f e (inl same) =
          absurd
          (never_free (sym here ∙ ap (λ n. slice_index_or owners_after n Free) (sym same.1) ∙ e))
      free_before f e (inr other) =
          sym (get_or-set_other w.owners frame f (granted t access) Free other.1) ∙ e

      owned_after : (f s : ℕ) → slice_index_or owners_after f Free ≡ Of s
          → (((f == frame) ≡ true) × (f ≡ frame)) ⊎ (((f == frame) ≡ false) × (f ≢ frame))
          → (1 ≤ s) × (s ≤ length w.threads)
      owned_after f s e (inl same) =
          let is : s ≡ t =
          the_thread s (sym here ∙ ap (λ n. slice_index_or owners_after n Free) (sym same.1) ∙ e) in
          (omega (arith, is, given.0), omega (arith, is, given.1))
      owned_after f s e (inr other) =
          l.frames.owned f s
          (sym (get_or-set_other w.owners frame f (granted t access) Free other.1) ∙ e)

-- the number of a live thread was given
pub thread_given : (w : World) (t : ℕ) (thread : Thread) → thread_at w t ≡ Some thread
    → (1 ≤ t) × (t ≤ length w.threads)
thread_given w zero thread e = cc
thread_given w (suc i) thread e = by_place (cases_lt i (length w.threads))
  where
    by_place : (i < length w.threads) ⊎ (length w.threads ≤ i)
        → (1 ≤ suc i) × (suc i ≤ length w.threads)
    by_place (inl lt) = (omega arith, omega arith)
    by_place (inr past) =
        let none : thread_at w (suc i) ≡ None = ap flat (slice_get_past w.threads i past) in cc

-- ---- bytes

length-written : (bytes : List ℕ) (place : ℕ) (new : List ℕ)
    → length (written bytes place new) ≡ length bytes
length-written bytes place [] = refl
length-written bytes place (b ∷ new) =
    length-written (slice_set bytes place b) (suc place) new ∙ length-set bytes place b

written_bytes : (bytes : List ℕ) (place : ℕ) (new : List ℕ) → All IsByte bytes → All IsByte new
    → All IsByte (written bytes place new)
written_bytes bytes place [] all in_new = all
written_bytes bytes place (b ∷ new) all in_new =
    written_bytes (slice_set bytes place b) (suc place) new
    (All-set IsByte bytes place b (All-head IsByte b new in_new) all) (All-tail IsByte b new in_new)

pub bytes_of_bytes : (k n : ℕ) → All IsByte (bytes_of k n)
bytes_of_bytes zero n = All-nil IsByte
bytes_of_bytes (suc k) n =
    All-cons IsByte (n % 256) (bytes_of k (n / 256)) (omega arith) (bytes_of_bytes k (n / 256))

module _ (w : World) (t place : ℕ) (new : List ℕ) where
  pub lawful-stored : All IsByte new → Own w t place (length new) → Lawful w
      → Lawful (stored w place new)
  lawful-stored in_new own l =
      lawful-with_frames w w.owners (written w.bytes place new) (record {
        places = refl;
        count = length-written w.bytes place new;
        range = written_bytes w.bytes place new l.frames.bytes.1 in_new;
        free = l.frames.free;
        zeros = zeros_written w t place new own l.frames.zeros;
        owned = l.frames.owned;
      }) l
