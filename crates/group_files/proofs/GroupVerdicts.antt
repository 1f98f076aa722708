-- What the file of a saved group is taken for.
use Rattle.std.proofs.Common.{◌≡◌, ◌∙◌, ℕ, ◌≤◌, ◌<◌, List, length, Option, Some, None, Ok, Err}
use Rattle.std.proofs.Common.{refl, ap, subst, Bool, true, false, cond}
use Rattle.std.specs.Prelude.{IfSome, IsErrOf, Result, ⊤}
use Rattle.std.proofs.lemmas.Bool.{lt-ltb, le-ltb}
use Rattle.dos_world.specs.IsLawful.{is_lawful}
use Rattle.dos_world.specs.Lawful.{Lawful}
use Rattle.dos_world.proofs.LawfulTest.{lawful_by}
use Rattle.group_text.specs.Groups.{SavedGroup, world_in}
use Rattle.group_text.specs.Reading.{group_in_text}
use Rattle.group_text.specs.declared.refusal.GroupRefusal.{GroupRefusal}
use Rattle.lawful_groups.specs.Lawfulness.{GivesLawful, IsUnlawful}
use Rattle.lawful_groups.specs.declared.reading.SavedError.{SavedError}
use Rattle.lawful_groups.specs.declared.reading.SavedError.TheVariants as saved
use Rattle.lawful_groups.proofs.LawfulPasses.{lawful_passes}
use Rattle.group_files.specs.declared.refusal.SavedRefusal.TheVariants.{TooLong, Refused, Unlawful}
use Rattle.group_files.specs.declared.refusal.SavedRefusal.{SavedRefusal}
use Rattle.group_files.specs.declared.refusal.GroupFileError.TheVariants as load
use Rattle.group_files.specs.Judging.{group_judged, group_verdict, longest_group}

verdict_within : (file : List ℕ) → length file ≤ longest_group
    → group_verdict file ≡ group_judged (group_in_text file)
unfolding group_verdict
verdict_within file within = rw (le-ltb longest_group (length file) within) refl

pub group_accepted : (file : List ℕ) (g : SavedGroup) → length file ≤ longest_group
    → group_in_text file ≡ Ok g → Lawful (world_in g) → group_verdict file ≡ Ok g
group_accepted file g within is lawful = verdict_within file within ∙ ap group_judged is
    ∙ ap (λ b. cond b (Ok g) (Err Unlawful)) (lawful_passes (world_in g) lawful)

-- the text of no group
pub text_refused : (file : List ℕ) (why : SavedError) (error : GroupRefusal)
    → length file ≤ longest_group → why ≡ saved.Refused error
    → GivesLawful {X = SavedGroup} (λ g. g) (Err why) (group_in_text file)
    → group_verdict file ≡ Err (Refused error)
text_refused file why error within is gives = verdict_within file within
    ∙ ap group_judged (subst (λ (w : SavedError). GivesLawful {X = SavedGroup} (λ g. g) (Err w)
    (group_in_text file)) is gives)

-- that of a group in an unlawful world
unlawful_judged : (read : Result SavedGroup GroupRefusal) → IsUnlawful read
    → group_judged read ≡ Err Unlawful
unlawful_judged (Ok g) not_lawful = go (is_lawful (world_in g)) refl
  where
    go : (passes : Bool) → is_lawful (world_in g) ≡ passes
        → cond passes (Ok g) (Err Unlawful) ≡ Err Unlawful
    go true is = absurd (not_lawful (lawful_by (world_in g) is))
    go false is = refl
unlawful_judged (Err error) not_lawful = absurd not_lawful

pub world_refused : (file : List ℕ) (why : SavedError) → length file ≤ longest_group
    → why ≡ saved.Unlawful
    → GivesLawful {X = SavedGroup} (λ g. g) (Err why) (group_in_text file)
    → group_verdict file ≡ Err Unlawful
world_refused file why within is gives = verdict_within file within
    ∙ unlawful_judged (group_in_text file)
    (subst (λ (w : SavedError). GivesLawful {X = SavedGroup} (λ g. g) (Err w)
    (group_in_text file)) is gives)

verdict_long : (file : List ℕ) → longest_group < length file → group_verdict file ≡ Err TooLong
unfolding group_verdict
verdict_long file long = rw (lt-ltb longest_group (length file) long) refl

pub long_refused : (told : Option (List ℕ)) → IfSome told (λ t. longest_group < length t)
    → IfSome told (λ file. group_verdict file ≡ Err TooLong)
long_refused None long = tt
long_refused (Some file) long = verdict_long file long

-- nothing is said of it
pub nothing_said : (told : Option (List ℕ)) → IfSome told (λ file. ⊤)
nothing_said None = tt
nothing_said (Some file) = tt

-- ---- what is no fault of the files

pub group_no_fault : {T : Type 0} (why : SavedRefusal)
    → IsErrOf {T = T} (Err (load.Group why)) load.Fault → ⊥
group_no_fault why is = cc

pub memory_no_fault : {T : Type 0} → IsErrOf {T = T} (Err load.Memory) load.Fault → ⊥
memory_no_fault is = cc
