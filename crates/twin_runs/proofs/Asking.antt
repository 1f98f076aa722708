-- Two runs of the same images, of which one has told a front of what the other has.
use Rattle.std.proofs.Common.{ℕ, ◌≡◌, refl, sym, ap, ◌∙◌, subst, List, [], ◌∷◌, ◌++◌, map}
use Rattle.std.proofs.Common.{append-nil}
use Rattle.dos_world.specs.Play.{Play, Outcome, done, ask, asks, over, questions}
use Rattle.dos_world.specs.declared.Config.{Config}
use Rattle.dos_world.specs.declared.Question.{Question}
use Rattle.dos_io.specs.declared.exchange.Exchange.{Exchange}
use Rattle.dos_io.specs.Exchanges.{question_of, answer_of}
use Rattle.elf_image.specs.Image.{Image}
use Rattle.flat_machine.specs.Machine.{Finish, Seen, group, machine}
use Rattle.dpg_run.proofs.Asked.{heads, seen_is}
use Rattle.logged_runs.specs.Runs.{RanUntil, RanWhole}
use Rattle.twin_runs.specs.Laws.{NextOrSame, same, next}

-- ---- plays

-- behind some exchanges a play has asked the next one's question
pub asked_next : {A : Type 0} (told : List Exchange) (e : Exchange) (behind : List Exchange)
    (more : List Question) (asked : Question) (p : Play A)
    → questions (map answer_of (told ++ e ∷ behind)) p
    ≡ map question_of (told ++ e ∷ behind) ++ more
    → questions (map answer_of told) p ≡ map question_of told ++ asked ∷ []
    → question_of e ≡ asked
asked_next [] e behind more asked (done a) whole front = absurd cc
asked_next [] e behind more asked (ask question o n following) whole front =
    let at = heads question (question_of e)
    (questions (map answer_of behind) (following (answer_of e)))
    (map question_of behind ++ more) whole in
    let here = heads question asked [] [] front in
    sym at.0 ∙ here.0
asked_next (x ∷ told) e behind more asked (done a) whole front = absurd cc
asked_next (x ∷ told) e behind more asked (ask question o n following) whole front =
    let at = heads question (question_of x)
    (questions (map answer_of (told ++ e ∷ behind)) (following (answer_of x)))
    (map question_of (told ++ e ∷ behind) ++ more) whole in
    let here = heads question (question_of x)
    (questions (map answer_of told) (following (answer_of x)))
    (map question_of told ++ asked ∷ []) front in
    asked_next told e behind more asked (following (answer_of x)) at.1 here.1

-- a play that has asked all asks nothing more
pub asked_all : {A : Type 0} (told rest : List Exchange) (more : List Question) (p : Play A)
    → questions (map answer_of (told ++ rest)) p ≡ map question_of (told ++ rest) ++ more
    → questions (map answer_of told) p ≡ map question_of told
    → (rest ≡ []) × (more ≡ [])
asked_all [] [] more (done a) whole front = (refl, sym whole)
asked_all [] (x ∷ rest) more (done a) whole front = absurd cc
asked_all [] rest more (ask question o n following) whole front = absurd cc
asked_all (x ∷ told) rest more (done a) whole front = absurd cc
asked_all (x ∷ told) rest more (ask question o n following) whole front =
    let at = heads question (question_of x)
    (questions (map answer_of (told ++ rest)) (following (answer_of x)))
    (map question_of (told ++ rest) ++ more) whole in
    let here = heads question (question_of x)
    (questions (map answer_of told) (following (answer_of x))) (map question_of told) front in
    asked_all told rest more (following (answer_of x)) at.1 here.1

-- ---- runs

module _ (images : List Image) (config : Config) (told rest : List Exchange) where
  asks_whole : (seen : Seen) → RanWhole images config (told ++ rest) seen
      → questions (map answer_of (told ++ rest)) (group images config)
      ≡ map question_of (told ++ rest) ++ []
  asks_whole seen ran = ran.fits ∙ sym (append-nil (map question_of (told ++ rest)))

  pub whole_runs : (seen other : Seen) → RanWhole images config (told ++ rest) seen
      → RanWhole images config told other → (rest ≡ []) × (seen ≡ other)
  whole_runs seen other ran front =
      let none = asked_all told rest [] (group images config) (asks_whole seen ran) front.fits in
      let all : told ++ rest ≡ told =
      ap (λ (es : List Exchange). told ++ es) none.0 ∙ append-nil told in (
        none.0,
        seen_is (sym ran.is
            ∙ ap (λ (es : List Exchange). machine images config (map answer_of es)) all
            ∙ front.is),
      )

  pub no_end_before : (question : Question) (output error : List ℕ) (other : Seen)
      → RanUntil images config (told ++ rest) question output error
      → RanWhole images config told other → ⊥
  no_end_before question output error other ran front =
      let none = asked_all told rest (question ∷ []) (group images config) ran.asked front.fits in
      let wrong : question ∷ [] ≡ [] = none.1 in
      absurd cc

-- by what the one was told behind the other
pub next_of_whole : (images : List Image) (config : Config) (told rest : List Exchange)
    (seen : Seen) (question : Question) (output error : List ℕ)
    → RanWhole images config (told ++ rest) seen
    → RanUntil images config told question output error
    → (e : Exchange) × (behind : List Exchange) × (rest ≡ e ∷ behind)
    × (question_of e ≡ question)
next_of_whole images config told [] seen question output error ran front =
    let all : questions (map answer_of told) (group images config) ≡ map question_of told =
    subst (λ (es : List Exchange). questions (map answer_of es) (group images config)
    ≡ map question_of es) (append-nil told) ran.fits in
    absurd (no_more (map question_of told) question (sym all ∙ front.asked))
  where
    no_more : (qs : List Question) (q : Question) → qs ≡ qs ++ q ∷ [] → ⊥
    no_more [] q is = absurd cc
    no_more (x ∷ qs) q is = no_more qs q (heads x x qs (qs ++ q ∷ []) is).1
next_of_whole images config told (e ∷ behind) seen question output error ran front = (
  e,
  behind,
  refl,
  asked_next told e behind [] question (group images config)
      (asks_whole images config told (e ∷ behind) seen ran) front.asked,
)

asks_same : (question asked : Question) (output error out err : List ℕ)
    → ◌≡◌ {A = Outcome Finish} (asks question output error) (asks asked out err)
    → (question ≡ asked) × (output ≡ out) × (error ≡ err)
asks_same question asked output error out err is = (cc, cc, cc)

pub questions_next : (images : List Image) (config : Config) (told rest : List Exchange)
    (question asked : Question) (output error out err : List ℕ)
    → RanUntil images config (told ++ rest) question output error
    → RanUntil images config told asked out err
    → NextOrSame question asked output error out err rest
questions_next images config told [] question asked output error out err ran front =
    let all : over (map answer_of told) (group images config) ≡ asks question output error =
    subst (λ (es : List Exchange). over (map answer_of es) (group images config)
    ≡ asks question output error) (append-nil told) ran.asks in
    let h = asks_same question asked output error out err (sym all ∙ front.asks) in
    same refl h.0 h.1 h.2
questions_next images config told (e ∷ behind) question asked output error out err ran front =
    next e behind refl
    (asked_next told e behind (question ∷ []) asked (group images config) ran.asked front.asked)
