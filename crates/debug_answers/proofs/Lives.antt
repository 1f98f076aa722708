-- Processes as they are told.
use Rattle.std.proofs.Common.{◌≡◌, ℕ, zero, suc, ◌+◌, ◌<◌, List, ◌++◌, length, Option, Some, None}
use Rattle.std.proofs.Common.{refl}
use Rattle.std.proofs.Common.{sym, ap, subst, ◌∙◌, arith, codes, OnOk, Result, IfSome, map}
use Rattle.std.specs.Prelude.{IsSome, decimal, slice_get, option_map}
use Rattle.std.proofs.lemmas.Bool.{true≢false}
use Rattle.std.proofs.lemmas.Option.{slice_get-map}
use Rattle.dos_world.specs.Numbered.{numbered}
use Rattle.dos_world.specs.World.{Process, Life, live, ended}
use Rattle.proc_table.specs.Tables.{last_status}
use Rattle.debug_session.specs.Pages.{life_words}
use Rattle.debug_answers.proofs.Absences.{status_in_life}
use Rattle.debug_answers.proofs.Behind.{put_as}
use Rattle.debug_answers.proofs.Rows.{at_place}

abbrev live_words : (name : List ℕ) → (parent : ℕ) → List ℕ
live_words name parent =
    codes "live, parent " ++ decimal parent ++ codes ", image " ++ name

abbrev words_of_life : (name : List ℕ) → (parent : ℕ) → Life → List ℕ
words_of_life name parent life = elim life [
  | live h ↦ live_words name parent
  | ended status collected ↦ codes "status " ++ decimal status
]

-- what is put of a process that lives
pub life_put : {A E : Type 0} (r : Result A E) (o : Option Process) (name old new : List ℕ)
    (parent : ℕ) → IsSome o → IfSome o (λ process. None ≡ last_status process)
    → IfSome o (λ process. parent ≡ process.parent)
    → OnOk r (new ≡ old ++ live_words name parent)
    → IfSome o (λ process. OnOk r (new ≡ old ++ life_words name process))
life_put r None name old new parent some lives has put = absurd (true≢false (sym some))
life_put r (Some process) name old new parent some lives has put = by process.life lives
  where
    by : (life : Life) → None ≡ status_in_life life
        → OnOk r (new ≡ old ++ words_of_life name process.parent life)
    by (live h) lives = put_as r old new _ _ (ap (live_words name) has) put
    by (ended status collected) lives = cc

-- the process of a number that was given, and its line
pub process_row : (f : ℕ → Process → List ℕ) (ps : List Process) (i n : ℕ) (line : List ℕ)
    → i < length ps → n ≡ i + 1 → IfSome (numbered ps n) (λ process. line ≡ f n process)
    → (x : Process) × (slice_get ps i ≡ Some x) × (line ≡ f (1 + i) x)
process_row f ps i n line less is told =
    let there : (x : Process) × (slice_get ps i ≡ Some x) = at_place ps i less in
    let next : n ≡ suc i = omega (arith, is) in
    let same : suc i ≡ 1 + i = omega arith in
    let here : IfSome (slice_get ps i) (λ process. line ≡ f (suc i) process) =
    subst (λ k. IfSome (numbered ps k) (λ process. line ≡ f k process)) next told in (
      there.0,
      there.1,
      subst
          (λ (o : Option Process). IfSome o (λ process. line ≡ f (suc i) process)) there.1 here
          ∙ ap (λ k. f k there.0) same,
    )

pub numbered_map : {A B : Type 0} (f : A → B) (xs : List A) (n : ℕ)
    → numbered (map f xs) n ≡ option_map f (numbered xs n)
numbered_map f xs zero = refl
numbered_map f xs (suc i) = slice_get-map f xs i
