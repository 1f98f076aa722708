-- What the entries of a log make of a play.
use Rattle.std.proofs.Common.{ℕ, suc, ◌+◌, ◌≡◌, ◌≢◌, refl, sym, ap, ◌∙◌, subst, Bool, true}
use Rattle.std.proofs.Common.{false, arith, length, List, [], ◌∷◌, ◌++◌, map, Option, Some, None}
use Rattle.std.specs.Prelude.{IsSome}
use Rattle.dos_world.specs.Play.{Play, Answer, done, ask, ◌>>=◌}
use Rattle.dos_world.specs.declared.Misfit.{Misfit}
use Rattle.dos_world.specs.declared.Question.{Question}
use Rattle.dos_io.specs.declared.exchange.Exchange.{Exchange}
use Rattle.dos_io.specs.Exchanges.{question_of, answer_of}
use Rattle.flat_machine.specs.Fits.{first_misfit, same_question}
use Rattle.group_rounds.specs.Plays.{GoesOn}
use Rattle.dpg_run.specs.Fits.{asked_and_answered, misfit_from}
use Rattle.dpg_run.proofs.MisfitLaws.{fits_have_none, misfit_at}
use Rattle.debug_session.specs.Recordings.{LogEntry, followed}
use Rattle.group_moves.specs.Moves.{MoveKind, move_of}
use Rattle.group_moves.specs.Moments.{Moment, kind_at, moment_behind, settled_scene}
use Rattle.group_moves.specs.Places.{Scene}
use Rattle.group_walk.specs.Plays.{moved}
use Rattle.recorded_walk.specs.Following.{follow_one}

-- ---- questions

-- a play that asks once
abbrev once : Question → Play ℕ
once q = ask q [] [] (λ answer. done 0)

some_misfit : (m : Misfit) → ◌≡◌ {A = Option Misfit} (Some m) None → ⊥
some_misfit m is = cc

-- an entry's question is that of the same question
pub asks_itself : (x : Exchange) → same_question (question_of x) (question_of x) ≡ true
asks_itself x =
    by_test (same_question (question_of x) (question_of x)) refl
    (fits_have_none 0 (x ∷ []) (once (question_of x)) refl)
  where
    by_test : (b : Bool) → same_question (question_of x) (question_of x) ≡ b
        → misfit_from 0 (x ∷ []) (once (question_of x)) ≡ None
        → same_question (question_of x) (question_of x) ≡ true
    by_test true is none = is
    by_test false is none = absurd (some_misfit (record {
      entry = 0;
      kept = question_of x;
      asked = question_of x;
    }) (sym (rw (is, first_misfit) refl) ∙ none))

-- and not that of another one
pub asks_other : (x : Exchange) (q : Question) → question_of x ≢ q
    → same_question (question_of x) q ≡ false
asks_other x q other =
    by_test (same_question (question_of x) q) refl
    (misfit_at 0 0 [] x [] q (once q) refl refl other)
  where
    by_test : (b : Bool) → same_question (question_of x) q ≡ b
        → misfit_from 0 (x ∷ []) (once q)
        ≡ Some (record { entry = 0; kept = question_of x; asked = q })
        → same_question (question_of x) q ≡ false
    by_test false is found = is
    by_test true is found = absurd (some_misfit (record {
      entry = 0;
      kept = question_of x;
      asked = q;
    }) (sym found ∙ rw (is, first_misfit) refl))

-- ---- plays

-- Over the entries of exchanges over which a play goes on, what is left is followed.
pub followed_on : {A : Type 0} (es : List Exchange) (rest : List LogEntry) (p q : Play A)
    → GoesOn es p q → followed (map asked_and_answered es ++ rest) p ≡ followed rest q
followed_on [] rest p q goes = ap (followed rest) goes
followed_on (e ∷ es) rest (done a) q goes = absurd goes
followed_on (e ∷ es) rest (ask question output error next) q goes =
    let t : same_question (question_of e) question ≡ true =
    subst (λ (x : Question). same_question (question_of e) x ≡ true) (sym goes.0)
    (asks_itself e) in
    rw (t, followed) (followed_on es rest (next (answer_of e)) q goes.1)

-- Where a play asks another question than the next entry's, it isn't followed.
pub not_followed : {A : Type 0} (x : Exchange) (rest : List LogEntry) (q : Question)
    (output error : List ℕ) (next : Answer → Play A) → question_of x ≢ q
    → followed (asked_and_answered x ∷ rest) (ask q output error next) ≡ None
not_followed x rest q output error next other = rw (asks_other x q other, followed) refl

-- what was given, made into something else
abbrev pub given_as : {A B : Type 0} → (A → B) → Option (A × List LogEntry)
    → Option (B × List LogEntry)
given_as f None = None
given_as f (Some (a, left)) = Some (f a, left)

-- first a play, and then what is made of what it gave
pub followed_then : {A B : Type 0} (entries : List LogEntry) (p : Play A) (f : A → B)
    → followed entries (p >>= λ a. done (f a)) ≡ given_as f (followed entries p)
followed_then entries (done a) f = refl
followed_then [] (ask question output error next) f = refl
followed_then (e ∷ entries) (ask question output error next) f =
    by_test (same_question e.0 question) (followed_then entries (next e.1) f)
  where
    by_test : (b : Bool)
        → followed entries (next e.1 >>= λ a. done (f a)) ≡ given_as f (followed entries (next e.1))
        → elim b [
          | true ↦ followed entries (next e.1 >>= λ a. done (f a))
          | false ↦ None
        ]
        ≡ given_as f (elim b [ true ↦ followed entries (next e.1) | false ↦ None ])
    by_test true h = h
    by_test false h = refl

-- ---- misfits

-- Behind the entries of exchanges over which a play goes on, the misfit is that of what is left.
pub misfit_on : {A : Type 0} (n m : ℕ) (es : List Exchange) (rest : List LogEntry) (p q : Play A)
    → m ≡ n + length es → GoesOn es p q
    → first_misfit n (map asked_and_answered es ++ rest) p ≡ first_misfit m rest q
misfit_on n m [] rest p q count goes =
    let place : n ≡ m = omega (arith, count) in
    ap (first_misfit n rest) goes ∙ ap (λ i. first_misfit i rest q) place
misfit_on n m (e ∷ es) rest (done a) q count goes = absurd goes
misfit_on n m (e ∷ es) rest (ask question output error next) q count goes =
    let t : same_question (question_of e) question ≡ true =
    subst (λ (x : Question). same_question (question_of e) x ≡ true) (sym goes.0)
    (asks_itself e) in
    rw (t, first_misfit)
    (misfit_on (suc n) m es rest (next (answer_of e)) q (omega (arith, count)) goes.1)

-- Where a play asks another question than the next entry's, that is the misfit.
pub misfits_here : {A : Type 0} (n : ℕ) (x : Exchange) (rest : List LogEntry) (q : Question)
    (output error : List ℕ) (next : Answer → Play A) → question_of x ≢ q
    → first_misfit n (asked_and_answered x ∷ rest) (ask q output error next)
    ≡ Some (record { entry = n; kept = question_of x; asked = q })
misfits_here n x rest q output error next other = rw (asks_other x q other, first_misfit) refl

-- What is made of what a play gives asks nothing more.
misfit_then : {A B : Type 0} (n : ℕ) (entries : List LogEntry) (p : Play A) (f : A → B)
    → first_misfit n entries (p >>= λ a. done (f a)) ≡ first_misfit n entries p
misfit_then n entries (done a) f = refl
misfit_then n [] (ask question output error next) f = refl
misfit_then n (e ∷ entries) (ask question output error next) f =
    by_test (same_question e.0 question) (misfit_then (suc n) entries (next e.1) f)
  where
    by_test : (b : Bool)
        → first_misfit (suc n) entries (next e.1 >>= λ a. done (f a))
        ≡ first_misfit (suc n) entries (next e.1)
        → ◌≡◌ {A = Option Misfit}
        (elim b [
          | true ↦ first_misfit (suc n) entries (next e.1 >>= λ a. done (f a))
          | false ↦ Some (record { entry = n; kept = e.0; asked = question })
        ])
        (elim b [
          | true ↦ first_misfit (suc n) entries (next e.1)
          | false ↦ Some (record { entry = n; kept = e.0; asked = question })
        ])
    by_test true h = h
    by_test false h = refl

-- ---- moves

-- Where a move is next, its misfit is that of the move with what happens behind it.
pub misfit_moved : (limit n : ℕ) (entries : List LogEntry) (m : Moment)
    → IsSome (kind_at limit m)
    → first_misfit n entries (move_of m.world m.place) ≡ first_misfit n entries (moved limit m)
misfit_moved limit n entries m some = by_kind (kind_at limit m) some
  where
    by_kind : (k : Option MoveKind) → IsSome k
        → first_misfit n entries (move_of m.world m.place)
        ≡ first_misfit n entries (elim k [
          | None ↦ done m
          | Some kind ↦ move_of m.world m.place
              >>= λ scene. done (moment_behind kind m (settled_scene scene))
        ])
    by_kind None some = absurd cc
    by_kind (Some kind) some =
        sym (misfit_then n entries (move_of m.world m.place)
        (λ scene. moment_behind kind m (settled_scene scene)))

-- Where a move is next, the entries lead where they lead in it, with what happens behind it.
pub follow_moved : (limit : ℕ) (entries : List LogEntry) (m : Moment)
    → IsSome (kind_at limit m) → follow_one limit entries m ≡ followed entries (moved limit m)
follow_moved limit entries m some = by_kind (kind_at limit m) some
  where
    made : MoveKind → Option (Scene × List LogEntry) → Option (Moment × List LogEntry)
    made kind found = given_as (λ scene. moment_behind kind m (settled_scene scene)) found

    same : (kind : MoveKind) (found : Option (Scene × List LogEntry))
        → elim found [
          | None ↦ None
          | Some (scene, left) ↦ Some (moment_behind kind m (settled_scene scene), left)
        ]
        ≡ made kind found
    same kind None = refl
    same kind (Some (scene, left)) = refl

    by_kind : (k : Option MoveKind) → IsSome k
        → elim k [
          | None ↦ None
          | Some kind ↦ elim (followed entries (move_of m.world m.place)) [
            | None ↦ None
            | Some (scene, left) ↦ Some (moment_behind kind m (settled_scene scene), left)
          ]
        ]
        ≡ followed entries (elim k [
          | None ↦ done m
          | Some kind ↦ move_of m.world m.place
              >>= λ scene. done (moment_behind kind m (settled_scene scene))
        ])
    by_kind None some = absurd cc
    by_kind (Some kind) some =
        same kind (followed entries (move_of m.world m.place))
        ∙ sym (followed_then entries (move_of m.world m.place)
        (λ scene. moment_behind kind m (settled_scene scene)))
