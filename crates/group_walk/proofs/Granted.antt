-- What a step gives where pages are granted as they are needed, and where all are granted at once.
use Rattle.std.proofs.Common.{ℕ, zero, suc, ◌+◌, ◌*◌, ◌%◌, ◌^◌, ◌≡◌, ◌⊎◌, inl, inr, refl, sym, ap}
use Rattle.std.proofs.Common.{◌∙◌, subst, Bool, cond, true, false, not, eqb, List, [], ◌∷◌, map}
use Rattle.std.proofs.Common.{Option, Some, None, Result, Ok, Err, eq-eqb}
use Rattle.std.specs.Prelude.{slice_set, slice_index_or}
use Rattle.dos_world.specs.World.{World, Thread, Registers, entry_at, owner_of, thread_at}
use Rattle.dos_world.specs.Reach.{has_right, is_foreign, in_frame, fault, foreign, at, width}
use Rattle.dos_world.specs.Reach.{loaded, bytes_of, stored, granted}
use Rattle.dos_world.specs.declared.Access.{Access}
use Rattle.dos_world.specs.declared.Access.TheVariants.{Fetch, Load, Store, Claim}
use Rattle.dos_world.specs.declared.Entry.{Entry}
use Rattle.dos_world.specs.declared.Owner.{Owner}
use Rattle.dos_world.specs.declared.Owner.TheVariants.{Free, Of}
use Rattle.dos_world.specs.declared.Reason.{Reason}
use Rattle.dos_world.specs.declared.Reason.TheVariants.{Page, Fault, Service}
use Rattle.dos_world.specs.declared.Size.{Size}
use Rattle.dos_world.specs.declared.Size.TheVariants.{Half, Word}
use Rattle.rv_isa.specs.declared.Instr.{Instr}
use Rattle.flat_machine.specs.Effect.{Effect, goes, loads, stores, claims, stops, effect}
use Rattle.flat_machine.specs.Step.{◌>>=◌, step, step_of, step_by, performed, reached, half_at}
use Rattle.flat_machine.specs.Step.{instruction_at, place_or_reason, whole_word, lone_half, paid}
use Rattle.flat_machine.specs.Step.{with_word}
use Rattle.flat_machine.specs.Rest.{settled, page_granted, granted_by}
use Rattle.round_core.specs.Laws.{MapsWithin}
use Rattle.round_core.proofs.Grants.{three-are-enough}
use Rattle.group_moves.specs.Moves.{MoveKind, kind_by, runs, is_served, faults}
use Rattle.group_walk.specs.Needs.{reason_of, all_granted}

-- ---- a stop at a page, or the same

pub record IsPage {A : Type 0} (r : Result A Reason) : Type 0 where
  pub address : ℕ
  pub access : Access
  pub is : r ≡ Err (Page address access)

-- one thing and then another, where the first is the same and so is the other
then_same : {A B : Type 0} (r s : Result A Reason) (f g : A → Result B Reason)
    → (IsPage r) ⊎ (r ≡ s) → ((a : A) → (IsPage (f a)) ⊎ (f a ≡ g a))
    → (IsPage (r >>= f)) ⊎ ((r >>= f) ≡ (s >>= g))
then_same r s f g (inl page) each = inl (record {
  address = page.address;
  access = page.access;
  is = ap (λ x. x >>= f) page.is;
})
then_same (Ok a) s f g (inr same) each = go (each a)
  where
    go : (IsPage (f a)) ⊎ (f a ≡ g a) → (IsPage (f a)) ⊎ (f a ≡ (s >>= g))
    go (inl page) = inl page
    go (inr e) = inr (e ∙ ap (λ x. x >>= g) same)
then_same (Err reason) s f g (inr same) each = inr (ap (λ x. x >>= g) same)

-- the same where the other stops for the same reason, if it does
then_refused : {A B : Type 0} (r s : Result A Reason) (f g : A → Result B Reason)
    → (IsPage r) ⊎ (r ≡ s) → ((a : A) → (IsPage (f a)) ⊎ (reason_of (f a) ≡ reason_of (g a)))
    → (IsPage (r >>= f)) ⊎ (reason_of (r >>= f) ≡ reason_of (s >>= g))
then_refused r s f g (inl page) each = inl (record {
  address = page.address;
  access = page.access;
  is = ap (λ x. x >>= f) page.is;
})
then_refused (Ok a) s f g (inr same) each = go (each a)
  where
    go : (IsPage (f a)) ⊎ (reason_of (f a) ≡ reason_of (g a))
        → (IsPage (f a)) ⊎ (reason_of (f a) ≡ reason_of (s >>= g))
    go (inl page) = inl page
    go (inr e) = inr (e ∙ ap (λ x. reason_of (x >>= g)) same)
then_refused (Err reason) s f g (inr same) each = inr (ap (λ x. reason_of (x >>= g)) same)

-- ---- owners

-- where all are t's, a frame is t's or there is none
owner_granted : (t : ℕ) (owners : List Owner) (frame : ℕ)
    → (slice_index_or (map (λ (owner : Owner). Of t) owners) frame Free ≡ Of t)
    ⊎ (slice_index_or (map (λ (owner : Owner). Of t) owners) frame Free
    ≡ slice_index_or owners frame Free)
owner_granted t [] frame = inr refl
owner_granted t (o ∷ owners) zero = inl refl
owner_granted t (o ∷ owners) (suc frame) = owner_granted t owners frame

own_is_foreign : (t : ℕ) (access : Access) → is_foreign t access (Of t) ≡ false
own_is_foreign t access = ap not (eq-eqb t t refl)

-- a grant changes nothing where all are t's
set_granted : (t : ℕ) (owners : List Owner) (frame : ℕ) (o : Owner)
    → map (λ (owner : Owner). Of t) (slice_set owners frame o)
    ≡ map (λ (owner : Owner). Of t) owners
set_granted t [] frame o = refl
set_granted t (x ∷ owners) zero o = refl
set_granted t (x ∷ owners) (suc frame) o = ap (λ os. Of t ∷ os) (set_granted t owners frame o)

pub granted_again : (w : World) (t address : ℕ) (access : Access)
    → all_granted t (page_granted w t address access) ≡ all_granted t w
granted_again w t address access = go (entry_at w t address)
  where
    go : (o : Option Entry) → all_granted t (granted_by w t access o) ≡ all_granted t w
    go None = refl
    go (Some e) = ap (λ os. record w { owners = os })
        (set_granted t w.owners e.frame (granted t access))

-- ---- what t's accesses give

module _ (w : World) (t : ℕ) where
  abbrev pub all : World
  all = all_granted t w

  reached-granted : (address : ℕ) (size : Size) (access : Access)
      → (IsPage (reached w t address size access))
      ⊎ (reached w t address size access ≡ reached all t address size access)
  reached-granted address size access =
      by_aligned (not (eqb (address % width size) 0))
    where
      by_owner : (e : Entry) (foreign_here foreign_there : Bool)
          → foreign_here ≡ is_foreign t access (owner_of w e.frame)
          → (foreign_here ≡ false → foreign_there ≡ false)
          → (IsPage (place_or_reason address access
          (cond foreign_here (foreign e.frame) (at (4096 * e.frame + address % 4096)))))
          ⊎ (place_or_reason address access
          (cond foreign_here (foreign e.frame) (at (4096 * e.frame + address % 4096)))
          ≡ place_or_reason address access
          (cond foreign_there (foreign e.frame) (at (4096 * e.frame + address % 4096))))
      by_owner e true there is none = inl (record { address = address; access = access; is = refl })
      by_owner e false there is none =
          inr (ap (λ b. place_or_reason address access
          (cond b (foreign e.frame) (at (4096 * e.frame + address % 4096)))) (sym (none refl)))

      there_not : (e : Entry) → is_foreign t access (owner_of w e.frame) ≡ false
          → is_foreign t access (owner_of all e.frame) ≡ false
      there_not e here = go (owner_granted t w.owners e.frame)
        where
          go : (owner_of all e.frame ≡ Of t) ⊎ (owner_of all e.frame ≡ owner_of w e.frame)
              → is_foreign t access (owner_of all e.frame) ≡ false
          go (inl own) = ap (is_foreign t access) own ∙ own_is_foreign t access
          go (inr same) = ap (is_foreign t access) same ∙ here

      by_right : (e : Entry) (refused : Bool)
          → (IsPage (place_or_reason address access (cond refused (fault 11)
          (cond (is_foreign t access (owner_of w e.frame)) (foreign e.frame)
          (at (4096 * e.frame + address % 4096))))))
          ⊎ (place_or_reason address access (cond refused (fault 11)
          (cond (is_foreign t access (owner_of w e.frame)) (foreign e.frame)
          (at (4096 * e.frame + address % 4096))))
          ≡ place_or_reason address access (cond refused (fault 11)
          (cond (is_foreign t access (owner_of all e.frame)) (foreign e.frame)
          (at (4096 * e.frame + address % 4096)))))
      by_right e true = inr refl
      by_right e false = by_owner e (is_foreign t access (owner_of w e.frame))
          (is_foreign t access (owner_of all e.frame)) refl (there_not e)

      by_entry : (o : Option Entry)
          → (IsPage (place_or_reason address access (in_frame w t address access o)))
          ⊎ (place_or_reason address access (in_frame w t address access o)
          ≡ place_or_reason address access (in_frame all t address access o))
      by_entry None = inr refl
      by_entry (Some e) = by_right e (not (has_right access e))

      by_aligned : (b : Bool)
          → (IsPage (place_or_reason address access (cond b (fault 7)
          (in_frame w t address access (entry_at w t address)))))
          ⊎ (place_or_reason address access (cond b (fault 7)
          (in_frame w t address access (entry_at w t address)))
          ≡ place_or_reason address access (cond b (fault 7)
          (in_frame all t address access (entry_at w t address))))
      by_aligned true = inr refl
      by_aligned false = by_entry (entry_at w t address)

  half-granted : (address : ℕ)
      → (IsPage (half_at w t address)) ⊎ (half_at w t address ≡ half_at all t address)
  half-granted address = then_same (reached w t address Half Fetch)
      (reached all t address Half Fetch) (λ place. Ok (loaded w place 2))
      (λ place. Ok (loaded all place 2)) (reached-granted address Half Fetch)
      (λ place. inr refl)

  rest-granted : (pc low : ℕ) (b : Bool)
      → (IsPage {A = Option Instr × ℕ} (cond b
      (half_at w t ((pc + 2) % 2 ^ 32) >>= λ high. Ok (whole_word low high)) (Ok (lone_half low))))
      ⊎ (◌≡◌ {A = Result (Option Instr × ℕ) Reason}
      (cond b (half_at w t ((pc + 2) % 2 ^ 32) >>= λ high. Ok (whole_word low high))
      (Ok (lone_half low)))
      (cond b (half_at all t ((pc + 2) % 2 ^ 32) >>= λ high. Ok (whole_word low high))
      (Ok (lone_half low))))
  rest-granted pc low true = then_same (half_at w t ((pc + 2) % 2 ^ 32))
      (half_at all t ((pc + 2) % 2 ^ 32)) (λ high. Ok (whole_word low high))
      (λ high. Ok (whole_word low high)) (half-granted ((pc + 2) % 2 ^ 32)) (λ high. inr refl)
  rest-granted pc low false = inr refl

  pub instruction-granted : (pc : ℕ)
      → (IsPage (instruction_at w t pc)) ⊎ (instruction_at w t pc ≡ instruction_at all t pc)
  instruction-granted pc = then_same (half_at w t pc) (half_at all t pc)
      (λ low. cond (eqb (low % 4) 3)
      (half_at w t ((pc + 2) % 2 ^ 32) >>= λ high. Ok (whole_word low high)) (Ok (lone_half low)))
      (λ low. cond (eqb (low % 4) 3)
      (half_at all t ((pc + 2) % 2 ^ 32) >>= λ high. Ok (whole_word low high)) (Ok (lone_half low)))
      (half-granted pc) (λ low. rest-granted pc low (eqb (low % 4) 3))

  performed-granted : (e : Effect)
      → (IsPage (performed w t e)) ⊎ (reason_of (performed w t e) ≡ reason_of (performed all t e))
  performed-granted (goes r) = inr refl
  performed-granted (loads address size next) =
      then_refused (reached w t address size Load) (reached all t address size Load)
      (λ place. Ok (paid w t (next (loaded w place (width size)))))
      (λ place. Ok (paid all t (next (loaded all place (width size)))))
      (reached-granted address size Load) (λ place. inr refl)
  performed-granted (stores address size value r) =
      then_refused (reached w t address size Store) (reached all t address size Store)
      (λ place. Ok (paid (stored w place (bytes_of (width size) value)) t r))
      (λ place. Ok (paid (stored all place (bytes_of (width size) value)) t r))
      (reached-granted address size Store) (λ place. inr refl)
  performed-granted (claims address next new) =
      then_refused (reached w t address Word Claim) (reached all t address Word Claim)
      (λ place. Ok (paid (with_word w place (new (loaded w place 4))) t (next (loaded w place 4))))
      (λ place. Ok (paid (with_word all place (new (loaded all place 4))) t
      (next (loaded all place 4))))
      (reached-granted address Word Claim) (λ place. inr refl)
  performed-granted (stops reason) = inr refl

  step-granted : (IsPage (step w t)) ⊎ (reason_of (step w t) ≡ reason_of (step all t))
  step-granted = by_thread (thread_at w t)
    where
      by_instr : (r : Registers) (size : ℕ) (o : Option Instr)
          → (IsPage (step_by w t r (o, size)))
          ⊎ (reason_of (step_by w t r (o, size)) ≡ reason_of (step_by all t r (o, size)))
      by_instr r size None = inr refl
      by_instr r size (Some instr) = performed-granted (effect instr size r)

      by_thread : (o : Option Thread)
          → (IsPage (step_of w t o)) ⊎ (reason_of (step_of w t o) ≡ reason_of (step_of all t o))
      by_thread None = inr refl
      by_thread (Some thread) =
          then_refused (instruction_at w t thread.registers.pc)
          (instruction_at all t thread.registers.pc) (step_by w t thread.registers)
          (step_by all t thread.registers) (instruction-granted thread.registers.pc)
          (λ found. by_instr thread.registers found.1 found.0)

-- ---- pages granted one after another

settled-granted : (n : ℕ) (w : World) (t : ℕ)
    → (IsPage (settled n w t).1)
    ⊎ (reason_of (settled n w t).1 ≡ reason_of (step (all_granted t w) t))
settled-granted zero w t = step-granted w t
settled-granted (suc n) w t = go (λ next. settled-granted n next t) (step w t) (step-granted w t)
  where
    but_page : (r : Result World Reason) → (IsPage r → ⊥)
        → (IsPage r) ⊎ (reason_of r ≡ reason_of (step (all_granted t w) t))
        → reason_of r ≡ reason_of (step (all_granted t w) t)
    but_page r never (inl page) = absurd (never page)
    but_page r never (inr same) = same

    go : ((next : World) → (IsPage (settled n next t).1)
        ⊎ (reason_of (settled n next t).1 ≡ reason_of (step (all_granted t next) t)))
        → (r : Result World Reason)
        → (IsPage r) ⊎ (reason_of r ≡ reason_of (step (all_granted t w) t))
        → (IsPage ((elim r as (λ _. World × Result World Reason) [
          | Ok next ↦ (w, Ok next)
          | Err reason ↦ elim reason as (λ _. World × Result World Reason) [
            | Page address access ↦ settled n (page_granted w t address access) t
            | Fault number ↦ (w, Err (Fault number))
            | Service ↦ (w, Err Service)
          ]
        ]).1))
        ⊎ (reason_of ((elim r as (λ _. World × Result World Reason) [
          | Ok next ↦ (w, Ok next)
          | Err reason ↦ elim reason as (λ _. World × Result World Reason) [
            | Page address access ↦ settled n (page_granted w t address access) t
            | Fault number ↦ (w, Err (Fault number))
            | Service ↦ (w, Err Service)
          ]
        ]).1) ≡ reason_of (step (all_granted t w) t))
    go rest (Ok next) h = inr (but_page (Ok next) (λ page. let e = page.is in cc) h)
    go rest (Err (Page address access)) h =
        subst (λ v. (IsPage (settled n (page_granted w t address access) t).1)
        ⊎ (reason_of (settled n (page_granted w t address access) t).1
        ≡ reason_of (step v t)))
        (granted_again w t address access) (rest (page_granted w t address access))
    go rest (Err (Fault number)) h =
        inr (but_page (Err (Fault number)) (λ page. let e = page.is in cc) h)
    go rest (Err Service) h = inr (but_page (Err Service) (λ page. let e = page.is in cc) h)

-- ---- what a thread does next in the serial phase

-- the kind by why it stops
kind_refused : ℕ → Option Reason → MoveKind
kind_refused t None = runs t
kind_refused t (Some (Page address access)) = is_served t
kind_refused t (Some (Fault number)) = faults t number
kind_refused t (Some Service) = is_served t

kind-by : (t : ℕ) (r : Result World Reason) → kind_by t r ≡ kind_refused t (reason_of r)
unfolding kind_refused
kind-by t (Ok next) = refl
kind-by t (Err (Page address access)) = refl
kind-by t (Err (Fault number)) = refl
kind-by t (Err Service) = refl

-- A stop at a page isn't left over, so it stops as where all pages are granted.
pub settled-reason : (w : World) (t : ℕ) → MapsWithin w t
    → reason_of (settled 3 w t).1 ≡ reason_of (step (all_granted t w) t)
settled-reason w t within = go (settled-granted 3 w t)
  where
    go : (IsPage (settled 3 w t).1)
        ⊎ (reason_of (settled 3 w t).1 ≡ reason_of (step (all_granted t w) t))
        → reason_of (settled 3 w t).1 ≡ reason_of (step (all_granted t w) t)
    go (inl page) = absurd (three-are-enough w t within page.address page.access page.is)
    go (inr same) = same

pub kind-granted : (w : World) (t : ℕ) → MapsWithin w t
    → kind_by t (settled 3 w t).1 ≡ kind_by t (step (all_granted t w) t)
kind-granted w t within =
    kind-by t (settled 3 w t).1 ∙ ap (kind_refused t) (settled-reason w t within)
    ∙ sym (kind-by t (step (all_granted t w) t))

-- so by why a step stops there
module _ (w : World) (t : ℕ) (within : MapsWithin w t) where
  kind_why : (why : Option Reason) → reason_of (step (all_granted t w) t) ≡ why
      → kind_by t (settled 3 w t).1 ≡ kind_refused t why
  kind_why why is =
      kind-granted w t within ∙ kind-by t (step (all_granted t w) t) ∙ ap (kind_refused t) is

  pub kind_run : reason_of (step (all_granted t w) t) ≡ None
      → kind_by t (settled 3 w t).1 ≡ runs t
  unfolding kind_refused
  kind_run is = kind_why None is

  pub kind_stopped : (address : ℕ) (access : Access)
      → reason_of (step (all_granted t w) t) ≡ Some (Page address access)
      → kind_by t (settled 3 w t).1 ≡ is_served t
  unfolding kind_refused
  kind_stopped address access is = kind_why (Some (Page address access)) is

  pub kind_faulted : (number : ℕ)
      → reason_of (step (all_granted t w) t) ≡ Some (Fault number)
      → kind_by t (settled 3 w t).1 ≡ faults t number
  unfolding kind_refused
  kind_faulted number is = kind_why (Some (Fault number)) is

  pub kind_served : reason_of (step (all_granted t w) t) ≡ Some Service
      → kind_by t (settled 3 w t).1 ≡ is_served t
  unfolding kind_refused
  kind_served is = kind_why (Some Service) is
