-- The table of exits, read backwards.
use Rattle.std.proofs.Common.{◌≡◌, ◌⊎◌, ℕ, List, Option, inl, inr, refl, sym, subst}
use Rattle.std.proofs.Common.{arith}
use Rattle.dos_io.specs.Outside.{GrewByFront}
use Rattle.dos_io.proofs.OutsideLaws.{grown-nothing}
use Rattle.dos_world.specs.declared.Ending.{Ending}
use Rattle.dos_world.specs.declared.Ending.TheVariants as endings
use Rattle.log_files.specs.declared.refusal.LogRefusal.{LogRefusal}
use Rattle.log_files.specs.declared.refusal.LogRefusal.TheVariants.{TooLong, Refused, Images}
use Rattle.log_files.specs.declared.refusal.LogRefusal.TheVariants.{Digest}
use Rattle.group_files.specs.declared.refusal.SavedRefusal.{SavedRefusal}
use Rattle.group_files.specs.declared.refusal.SavedRefusal.TheVariants as saved
use Rattle.dos_texts.specs.Exit.{line_of, ending_status, refusal_status, IsStatus}
use Rattle.dos_texts.specs.declared.refusal.Refusal.{Refusal}
use Rattle.dos_texts.specs.declared.refusal.Refusal.TheVariants as refusals

log_status : (why : LogRefusal) → refusal_status (refusals.Log why) ≡ 4
unfolding refusal_status
log_status TooLong = refl
log_status (Refused error) = refl
log_status (Images logged given) = refl
log_status (Digest image digest logged) = refl

group_status : (why : SavedRefusal) → refusal_status (refusals.Group why) ≡ 11
unfolding refusal_status
group_status saved.TooLong = refl
group_status (saved.Refused error) = refl
group_status saved.Unlawful = refl
group_status saved.OtherLog = refl

-- ---- a failed sink has no line

pub status_of_sink : (r : Refusal) → refusal_status r ≡ 6 → r ≡ refusals.Sink
unfolding refusal_status
status_of_sink refusals.Sink e = refl
status_of_sink (refusals.Log why) e = absurd (omega (arith, log_status why))
status_of_sink (refusals.Group why) e = absurd (omega (arith, group_status why))
status_of_sink r e = absurd (omega arith)

pub front_of_sink : (r : Refusal) (told : Option (List ℕ)) → r ≡ refusals.Sink
    → GrewByFront told told (line_of r)
unfolding line_of
front_of_sink r told is =
    subst (λ why. GrewByFront told told (line_of why)) (sym is) (0, grown-nothing told)

pub ruleset sink = (status_of_sink, front_of_sink)

-- ---- the numbers

pub refusal_is_status : (n : ℕ) (r : Refusal) → n ≡ refusal_status r → IsStatus n
refusal_is_status n r q = inr (r, q)

-- the status of a call that does what it is asked for
abbrev pub EndsAs : ℕ → Type 0
EndsAs n = (n ≡ 0) ⊎ (n ≡ 7) ⊎ (n ≡ 8)

-- no refusal has one
pub refusal_ends_not : (n : ℕ) (r : Refusal) → n ≡ refusal_status r → EndsAs n → ⊥
unfolding refusal_status
refusal_ends_not n (refusals.Log why) p q = omega (arith, log_status why)
refusal_ends_not n (refusals.Group why) p q = omega (arith, group_status why)
refusal_ends_not n r p q = omega arith

pub ending_ends : (ending : Ending) → EndsAs (ending_status ending)
ending_ends endings.Done = inl refl
ending_ends endings.Limit = inr (inl refl)
ending_ends endings.Stalled = inr (inr refl)
