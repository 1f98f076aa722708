-- The exchanges whose questions a play asks, one after another, where what is known of their
-- answers determines these.
use Rattle.std.proofs.Common.{◌≡◌, refl, sym, ap, ap₂, ◌∙◌, subst, List, [], ◌∷◌, ◌++◌, map}
use Rattle.std.proofs.Common.{append-nil}
use Rattle.dos_world.specs.Play.{Play, done, ask, questions}
use Rattle.dos_world.specs.declared.Config.{Config}
use Rattle.dos_world.specs.declared.Question.{Question}
use Rattle.dos_io.specs.declared.exchange.Exchange.{Exchange}
use Rattle.dos_io.specs.Exchanges.{question_of, answer_of}
use Rattle.elf_image.specs.Image.{Image}
use Rattle.dpg_run.specs.Fits.{Fits}
use Rattle.flat_machine.specs.Machine.{Seen, Ran, ends, group, machine}

-- equal lists have equal heads and equal rests
pub heads : {A : Type 0} (x y : A) (xs ys : List A) → x ∷ xs ≡ y ∷ ys → (x ≡ y) × (xs ≡ ys)
heads x y xs ys is = (cc, cc)

-- Where this is known of two lists, their first exchanges are the same if they answer the same
-- question, and it is known of the lists behind them too.
abbrev pub Determines : (List Exchange → List Exchange → Type 0) → Type 0
Determines Known = (e f : Exchange) (es fs : List Exchange) → Known (e ∷ es) (f ∷ fs)
    → question_of e ≡ question_of f → (e ≡ f) × Known es fs

-- One list goes on behind another. What is left of the play asks for the rest of it, and these
-- questions where nothing more is answered.
record GoesOnBehind (A : Type 0) (es fs : List Exchange) (more : List Question) : Type 0 where
  rest : List Exchange
  left : Play A
  whole : es ≡ fs ++ rest
  asks : questions (map answer_of rest) left ≡ map question_of rest
  further : questions [] left ≡ more

-- Behind some exchanges there is one of this question.
pub record Parted (es fs : List Exchange) (question : Question) : Type 0 where
  pub next : Exchange
  pub rest : List Exchange
  pub whole : es ≡ fs ++ next ∷ rest
  pub asks : question_of next ≡ question

module _ {A : Type 0} (Known : List Exchange → List Exchange → Type 0)
    (determines : Determines Known) where
  goes_on_behind : (es fs : List Exchange) (more : List Question) (play : Play A) → Known es fs
      → questions (map answer_of es) play ≡ map question_of es
      → questions (map answer_of fs) play ≡ map question_of fs ++ more
      → GoesOnBehind A es fs more
  goes_on_behind es [] more play known whole front =
      record { rest = es; left = play; whole = refl; asks = whole; further = front }
  goes_on_behind [] (f ∷ fs) more (done a) known whole front = absurd cc
  goes_on_behind [] (f ∷ fs) more (ask question o e next) known whole front = absurd cc
  goes_on_behind (e ∷ es) (f ∷ fs) more (done a) known whole front = absurd cc
  goes_on_behind (e ∷ es) (f ∷ fs) more (ask question o n next) known whole front =
      let at = heads question (question_of e) (questions (map answer_of es) (next (answer_of e)))
      (map question_of es) whole in
      let at' = heads question (question_of f) (questions (map answer_of fs) (next (answer_of f)))
      (map question_of fs ++ more) front in
      let same = determines e f es fs known (sym at.0 ∙ at'.0) in
      let behind = goes_on_behind es fs more (next (answer_of e)) same.1 at.1
      (subst (λ x. questions (map answer_of fs) (next (answer_of x)) ≡ map question_of fs ++ more)
      (sym same.0) at'.1) in
      record {
        rest = behind.rest;
        left = behind.left;
        whole = ap₂ (λ x xs. x ∷ xs) same.0 behind.whole;
        asks = behind.asks;
        further = behind.further;
      }

  -- a play asks one list
  pub one_list : (es fs : List Exchange) (play : Play A) → Known es fs
      → questions (map answer_of es) play ≡ map question_of es
      → questions (map answer_of fs) play ≡ map question_of fs → es ≡ fs
  one_list es fs play known whole other =
      let behind = goes_on_behind es fs [] play known whole
      (other ∙ sym (append-nil (map question_of fs))) in
      behind.whole
      ∙ ap (λ xs. fs ++ xs) (nothing behind.rest behind.left behind.asks behind.further)
      ∙ append-nil fs
    where
      nothing : (rest : List Exchange) (left : Play A)
          → questions (map answer_of rest) left ≡ map question_of rest → questions [] left ≡ []
          → rest ≡ []
      nothing [] left asks none = refl
      nothing (x ∷ rest) (done a) asks none = absurd cc
      nothing (x ∷ rest) (ask question o e next) asks none = absurd cc

  -- Behind what it asks of some exchanges, a list that it asks whole has one of its next question.
  pub next_asked : (es fs : List Exchange) (question : Question) (play : Play A) → Known es fs
      → questions (map answer_of es) play ≡ map question_of es
      → questions (map answer_of fs) play ≡ map question_of fs ++ question ∷ []
      → Parted es fs question
  next_asked es fs question play known whole front =
      let behind = goes_on_behind es fs (question ∷ []) play known whole front in
      parted behind.rest behind.left behind.whole behind.asks behind.further
    where
      parted : (rest : List Exchange) (left : Play A) → es ≡ fs ++ rest
          → questions (map answer_of rest) left ≡ map question_of rest
          → questions [] left ≡ question ∷ [] → Parted es fs question
      parted rest (done a) is asks next = absurd cc
      parted [] (ask first o e following) is asks next = absurd cc
      parted (x ∷ rest) (ask first o e following) is asks next =
          let at = heads first (question_of x)
          (questions (map answer_of rest) (following (answer_of x))) (map question_of rest) asks in
          let at' = heads first question [] [] next in
          record { next = x; rest = rest; whole = is; asks = sym at.0 ∙ at'.0 }

pub seen_is : {a b : Seen} → ◌≡◌ {A = Ran} (ends a) (ends b) → a ≡ b
seen_is is = cc

-- Two whole runs over exchanges that are known so have the same ones, and the same is seen of them.
pub one_run : (Known : List Exchange → List Exchange → Type 0) → Determines Known
    → (images : List Image) (config : Config) (es fs : List Exchange) (a b : Seen) → Known es fs
    → Fits images config es → Fits images config fs
    → machine images config (map answer_of es) ≡ ends a
    → machine images config (map answer_of fs) ≡ ends b → (es ≡ fs) × (a ≡ b)
one_run Known determines images config es fs a b known fits other_fits is other =
    let same : es ≡ fs =
    one_list Known determines es fs (group images config) known fits other_fits in (
      same,
      seen_is (sym is ∙ ap (λ es. machine images config (map answer_of es)) same ∙ other),
    )
