-- The processes after the end of one: who lives still, and what they have.
use Rattle.std.proofs.Common.{ℕ, zero, suc, ◌<◌, ◌≡◌, ◌≢◌, refl, sym, ap, ◌∙◌, subst, List, [], ◌∷◌}
use Rattle.std.proofs.Common.{length, map, Option, Some, None, option_map, option_and_then}
use Rattle.std.specs.Prelude.{All, slice_get}
use Rattle.std.proofs.lemmas.List.{length-map}
use Rattle.std.proofs.lemmas.List.Elements.{All-nil, All-cons, All-head, All-tail}
use Rattle.std.proofs.lemmas.Option.{slice_get-map}
use Rattle.dos_world.specs.Numbered.{numbered, changed, changed_at}
use Rattle.dos_world.specs.World.{Process, Holdings, holdings_of, all_holdings}
use Rattle.dos_world.specs.Kernel.{orphaned, ended_by}
use Rattle.dos_world.specs.Lawful.{HasStatus}
use Rattle.dos_world.proofs.Numbers.{changed_other}
use Rattle.dos_laws.specs.Ends.{ended_processes}
use Rattle.dos_laws.proofs.Numbers.{length-changed}
use Rattle.dos_laws.proofs.Parts.{IsPart, nothing, left_out, kept, whole_part}

-- ---- what they have

-- a process's holdings before those of others
abbrev pub before : Option Holdings → List Holdings → List Holdings
before o rest = elim o as (λ _. List Holdings) [ None ↦ rest | Some h ↦ h ∷ rest ]

pub orphans_have : (p : ℕ) (ps : List Process)
    → all_holdings (map (orphaned p) ps) ≡ all_holdings ps
orphans_have p [] = refl
orphans_have p (x ∷ ps) = ap (before (holdings_of x)) (orphans_have p ps)

before_part : (o : Option Holdings) (few many : List Holdings) → IsPart few many
    → IsPart (before o few) (before o many)
before_part None few many part = part
before_part (Some h) few many part = kept h few many part

less_part : (o : Option Holdings) (rest : List Holdings) → IsPart rest (before o rest)
less_part None rest = whole_part rest
less_part (Some h) rest = left_out h rest rest (whole_part rest)

one_ended : (status : ℕ) (ps : List Process) (p : ℕ)
    → IsPart (all_holdings (changed (ended_by status) ps p)) (all_holdings ps)
one_ended status ps zero = whole_part (all_holdings ps)
one_ended status ps (suc i) = at ps i
  where
    at : (ps : List Process) (i : ℕ)
        → IsPart (all_holdings (changed_at (ended_by status) ps i)) (all_holdings ps)
    at [] i = nothing
    at (x ∷ ps) zero = less_part (holdings_of x) (all_holdings ps)
    at (x ∷ ps) (suc i) =
        before_part (holdings_of x) (all_holdings (changed_at (ended_by status) ps i))
        (all_holdings ps) (at ps i)

module _ (ps : List Process) (p status : ℕ) where
  -- What they have was had before.
  pub ended_part : IsPart (all_holdings (ended_processes ps p status)) (all_holdings ps)
  ended_part =
      subst (λ hs. IsPart hs (all_holdings ps))
      (sym (orphans_have p (changed (ended_by status) ps p))) (one_ended status ps p)

  pub ended_length : length (ended_processes ps p status) ≡ length ps
  ended_length =
      length-map (changed (ended_by status) ps p) (orphaned p)
      ∙ length-changed (ended_by status) ps p

  -- ---- who lives

  lives_orphaned : (o : Option Process)
      → option_and_then holdings_of (option_map (orphaned p) o) ≡ option_and_then holdings_of o
  lives_orphaned None = refl
  lives_orphaned (Some x) = refl

  numbered_orphans : (xs : List Process) (q : ℕ)
      → numbered (map (orphaned p) xs) q ≡ option_map (orphaned p) (numbered xs q)
  numbered_orphans xs zero = refl
  numbered_orphans xs (suc i) = slice_get-map (orphaned p) xs i

  lives_as : (q : ℕ)
      → option_and_then holdings_of (numbered (ended_processes ps p status) q)
      ≡ option_and_then holdings_of (numbered (changed (ended_by status) ps p) q)
  lives_as q =
      ap (option_and_then holdings_of) (numbered_orphans (changed (ended_by status) ps p) q)
      ∙ lives_orphaned (numbered (changed (ended_by status) ps p) q)

  -- every other process has what it had
  pub others_live : (q : ℕ) → q ≢ p
      → option_and_then holdings_of (numbered (ended_processes ps p status) q)
      ≡ option_and_then holdings_of (numbered ps q)
  others_live q other =
      lives_as q ∙ ap (option_and_then holdings_of) (changed_other (ended_by status) ps p q other)

  -- p doesn't live
  pub ended_dead : option_and_then holdings_of (numbered (ended_processes ps p status) p) ≡ None
  ended_dead = lives_as p ∙ dead ps p
    where
      dead : (ps : List Process) (p : ℕ)
          → option_and_then holdings_of (numbered (changed (ended_by status) ps p) p) ≡ None
      dead ps zero = refl
      dead ps (suc i) = at ps i
        where
          at : (ps : List Process) (i : ℕ)
              → option_and_then holdings_of (slice_get (changed_at (ended_by status) ps i) i) ≡ None
          at [] i = refl
          at (x ∷ ps) zero = refl
          at (x ∷ ps) (suc i) = at ps i

-- ---- statuses

module _ (p status : ℕ) where
  pub statuses_new : status < 256 → (ps : List Process) → All HasStatus ps
      → All HasStatus (ended_processes ps p status)
  statuses_new h ps all = orphans (changed (ended_by status) ps p) (ended p)
    where
      orphans : (xs : List Process) → All HasStatus xs → All HasStatus (map (orphaned p) xs)
      orphans [] all = All-nil HasStatus
      orphans (x ∷ xs) all =
          All-cons HasStatus (orphaned p x) (map (orphaned p) xs) (All-head HasStatus x xs all)
          (orphans xs (All-tail HasStatus x xs all))

      at : (xs : List Process) (i : ℕ) → All HasStatus xs
          → All HasStatus (changed_at (ended_by status) xs i)
      at [] i all = all
      at (x ∷ xs) zero all =
          All-cons HasStatus (ended_by status x) xs h (All-tail HasStatus x xs all)
      at (x ∷ xs) (suc i) all =
          All-cons HasStatus x (changed_at (ended_by status) xs i) (All-head HasStatus x xs all)
          (at xs i (All-tail HasStatus x xs all))

      ended : (p : ℕ) → All HasStatus (changed (ended_by status) ps p)
      ended zero = all
      ended (suc i) = at ps i all
