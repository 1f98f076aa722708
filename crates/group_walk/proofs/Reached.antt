-- Where an access goes, by the entry of its page.
use Rattle.std.proofs.Common.{ℕ, ◌+◌, ◌*◌, ◌%◌, ◌<◌, ◌≡◌, refl, ap, ◌∙◌, Bool, cond}
use Rattle.std.proofs.Common.{true, false, not, List, length, map, Option, Some, None, Result}
use Rattle.std.proofs.Common.{Ok, Err, eq-eqb, arith}
use Rattle.std.specs.Prelude.{slice_index_or, zero, suc, [], ◌∷◌}
use Rattle.dos_world.specs.World.{World, entry_at, owner_of}
use Rattle.dos_world.specs.Reach.{has_right, is_foreign, in_frame, fault, foreign, at, width}
use Rattle.dos_world.specs.Reach.{loaded}
use Rattle.dos_world.specs.declared.Access.{Access}
use Rattle.dos_world.specs.declared.Access.TheVariants.{Fetch}
use Rattle.dos_world.specs.declared.Entry.{Entry}
use Rattle.dos_world.specs.declared.Owner.{Owner}
use Rattle.dos_world.specs.declared.Owner.TheVariants.{Free, Of}
use Rattle.dos_world.specs.declared.Reason.{Reason}
use Rattle.dos_world.specs.declared.Reason.TheVariants.{Page, Fault}
use Rattle.dos_world.specs.declared.Size.{Size}
use Rattle.dos_world.specs.declared.Size.TheVariants.{Half}
use Rattle.dos_laws.proofs.Mapped.{entry_taken}
use Rattle.flat_machine.specs.Step.{◌>>=◌, reached, half_at, place_or_reason}
use Rattle.kernel_calls.specs.StateWorld.{IsSound, world_of}
use Rattle.kernel_calls.specs.declared.state.State.{State}
use Rattle.kernel_mem.specs.MemoryWorld.{entry_in}
use Rattle.group_rounds.proofs.Sound.{sound_one}
use Rattle.group_walk.specs.Needs.{seen_by}

-- ---- the entry of a page, and its frame

entry-seen : (g : Bool) (t : ℕ) (w : World) (s a : ℕ)
    → entry_at (seen_by g t w) s a ≡ entry_at w s a
entry-seen true t w s a = refl
entry-seen false t w s a = refl

-- where each is t's, a frame that there is isn't foreign to t
owned-all : (t : ℕ) (owners : List Owner) (frame : ℕ) → frame < length owners
    → slice_index_or (map (λ (owner : Owner). Of t) owners) frame Free ≡ Of t
owned-all t [] frame h = absurd (let h = h in omega (arith, h))
owned-all t (o ∷ owners) zero h = refl
owned-all t (o ∷ owners) (suc frame) h =
    owned-all t owners frame (let h = h in omega (arith, h))

pub frame_within : (s : State) (t address : ℕ) (entry : Entry) → IsSound s
    → entry_in s.table t address ≡ Some entry → entry.frame < length s.frames.owners
frame_within s t address entry sound is =
    (entry_taken (world_of 16 s) t address entry (sound_one s sound) is).within

module _ (w : World) (t address : ℕ) (size : Size) (access : Access) (g : Bool)
    (aligned : address % width size ≡ 0) where
  abbrev seen : World
  seen = seen_by g t w

  by_entry : (o : Option Entry) → entry_at w t address ≡ o
      → reached seen t address size access
      ≡ place_or_reason address access (in_frame seen t address access o)
  by_entry o is =
      ap (λ b. place_or_reason address access
      (cond (not b) (fault 7) (in_frame seen t address access (entry_at seen t address))))
      (eq-eqb (address % width size) 0 aligned)
      ∙ ap (λ x. place_or_reason address access (in_frame seen t address access x))
      (entry-seen g t w t address ∙ is)

  pub not_mapped : entry_at w t address ≡ None
      → reached seen t address size access ≡ Err (Fault 11)
  not_mapped is = by_entry None is

  module _ (e : Entry) (is : entry_at w t address ≡ Some e) where
    abbrev by_owner : Bool → Result ℕ Reason
    by_owner b = place_or_reason address access
        (cond b (foreign e.frame) (at (4096 * e.frame + address % 4096)))

    pub not_allowed : has_right access e ≡ false
        → reached seen t address size access ≡ Err (Fault 11)
    not_allowed lacks =
        by_entry (Some e) is
        ∙ ap (λ b. place_or_reason address access (cond (not b) (fault 11)
        (cond (is_foreign t access (owner_of seen e.frame)) (foreign e.frame)
        (at (4096 * e.frame + address % 4096))))) lacks

    allowed : has_right access e ≡ true
        → reached seen t address size access
        ≡ by_owner (is_foreign t access (owner_of seen e.frame))
    allowed has =
        by_entry (Some e) is
        ∙ ap (λ b. place_or_reason address access (cond (not b) (fault 11)
        (cond (is_foreign t access (owner_of seen e.frame)) (foreign e.frame)
        (at (4096 * e.frame + address % 4096))))) has

    pub in_their_frame : has_right access e ≡ true → g ≡ false
        → is_foreign t access (owner_of w e.frame) ≡ true
        → reached seen t address size access ≡ Err (Page address access)
    in_their_frame has ungranted theirs =
        allowed has
        ∙ ap (λ b. by_owner (is_foreign t access (owner_of (seen_by b t w) e.frame))) ungranted
        ∙ ap by_owner theirs

    pub in_own_frame : has_right access e ≡ true → g ≡ false
        → is_foreign t access (owner_of w e.frame) ≡ false
        → reached seen t address size access ≡ Ok (4096 * e.frame + address % 4096)
    in_own_frame has ungranted own =
        allowed has
        ∙ ap (λ b. by_owner (is_foreign t access (owner_of (seen_by b t w) e.frame))) ungranted
        ∙ ap by_owner own

    pub in_granted_frame : has_right access e ≡ true → g ≡ true
        → e.frame < length w.owners
        → reached seen t address size access ≡ Ok (4096 * e.frame + address % 4096)
    in_granted_frame has given within =
        allowed has
        ∙ ap (λ b. by_owner (is_foreign t access (owner_of (seen_by b t w) e.frame))) given
        ∙ ap (λ o. by_owner (is_foreign t access o)) (owned-all t w.owners e.frame within)
        ∙ ap (λ b. by_owner (not b)) (eq-eqb t t refl)

-- ---- what is fetched there

loaded-seen : (g : Bool) (t : ℕ) (w : World) (place count : ℕ)
    → loaded (seen_by g t w) place count ≡ loaded w place count
loaded-seen true t w place count = refl
loaded-seen false t w place count = refl

pub half_fetched : (w : World) (t address place : ℕ) (g : Bool) (half : ℕ)
    → reached (seen_by g t w) t address Half Fetch ≡ Ok place → loaded w place 2 ≡ half
    → half_at (seen_by g t w) t address ≡ Ok half
half_fetched w t address place g half is value =
    ap (λ r. r >>= λ place. Ok (loaded (seen_by g t w) place 2)) is
    ∙ ap Ok (loaded-seen g t w place 2 ∙ value)

pub half_not_fetched : (w : World) (t address : ℕ) (g : Bool) (reason : Reason)
    → reached (seen_by g t w) t address Half Fetch ≡ Err reason
    → half_at (seen_by g t w) t address ≡ Err reason
half_not_fetched w t address g reason is =
    ap (λ r. r >>= λ place. Ok (loaded (seen_by g t w) place 2)) is
