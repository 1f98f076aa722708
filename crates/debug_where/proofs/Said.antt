-- Where a session stands, as it is told.
use Rattle.std.proofs.Common.{◌≡◌, ◌++◌, ◌∙◌, ℕ, List, [], ◌∷◌, length, Option, Some, None}
use Rattle.std.proofs.Common.{refl, sym, ap, codes}
use Rattle.std.specs.Prelude.{IsSome, decimal}
use Rattle.std.proofs.lemmas.Bool.{true≢false}
use Rattle.dos_world.specs.declared.Ending.{Ending}
use Rattle.group_moves.specs.Places.{Place, between_rounds, before_parts, before_rests, within_part}
use Rattle.group_moves.specs.Places.{within_rest, at_end}
use Rattle.group_moves.specs.Moves.{MoveKind}
use Rattle.group_moves.specs.Moments.{kind_at}
use Rattle.group_walk.specs.Places.{phase_at}
use Rattle.debug_session.specs.Positions.{Position, first_kind}
use Rattle.debug_session.specs.Recordings.{Recording, misfit_here}
use Rattle.debug_session.specs.Where.{phase_word, last_text, ending_text, misfit_text, next_text}
use Rattle.debug_session.specs.Where.{no_next_text, console_line, where_lines, moment_line}
use Rattle.debug_session.specs.Where.{log_line}
use Rattle.debug_where.specs.Places.{phase_words, moment_words, last_words, next_words, next_line}
use Rattle.debug_where.specs.Places.{used_words, lines_here, IsNextHere, IsHere}
use Rattle.debug_where.specs.declared.here.Here.{Here}
use Rattle.debug_where.specs.declared.here.Next.{Next}
use Rattle.debug_where.specs.declared.here.Next.TheVariants.{Follows, HasEnded, Misfits}

phase_said : (place : Place) → phase_word place ≡ phase_words (phase_at place)
phase_said between_rounds = refl
phase_said (before_parts starters threads) = refl
phase_said (within_part starters t ts) = refl
phase_said (before_rests starters threads) = refl
phase_said (within_rest starters t ts) = refl
phase_said (at_end ending) = refl

-- a move that would be made, and isn't
not_made : (r : Recording) (at : Position) (kind : Option MoveKind) → IsSome kind
    → no_next_text r at kind ≡ misfit_text (misfit_here r at)
not_made r at None some = absurd (true≢false (sym some))
not_made r at (Some kind) some = refl

next_said : (next : Next) (r : Recording) (at : Position) → IsNextHere next r at
    → next_text r at (first_kind at.future) ≡ next_words next
next_said (Follows kind) r at is = ap (next_text r at) is
next_said (HasEnded ending) r at is =
    ap (next_text r at) is.0 ∙ ap (no_next_text r at) is.1
    ∙ ap (λ (e : Ending). codes "none, the group is " ++ ending_text e) is.2
next_said (Misfits found) r at is =
    ap (next_text r at) is.0 ∙ not_made r at (kind_at r.limit at.moment) is.1
    ∙ ap misfit_text is.2

module _ (here : Here) (r : Recording) (at : Position) (is : IsHere here r at) where
  moment_said : moment_line at.moment ≡ moment_words here.begun here.made here.phase
  moment_said =
      let m = at.moment in
      ap (λ (words : List ℕ). console_line (codes "round " ++ decimal m.begun_rounds
      ++ codes " move " ++ decimal m.made ++ codes ", " ++ words)) (phase_said m.place)
      ∙ ap (moment_words m.begun_rounds m.made) is.phase
      ∙ ap (λ n. moment_words m.begun_rounds n here.phase) is.made
      ∙ ap (λ n. moment_words n here.made here.phase) is.begun

  log_said : log_line r at ≡ used_words here.used here.entries
  log_said =
      ap (λ n. used_words n (length r.entries)) is.used ∙ ap (used_words here.used) is.entries

  pub all_said : lines_here here ≡ where_lines r at
  all_said =
      let last = console_line (codes "last: " ++ last_text (first_kind at.past)) in
      let next = console_line (codes "next: " ++ next_text r at (first_kind at.future)) in
      sym (
      ap (λ (line : List ℕ). line ∷ last ∷ next ∷ log_line r at ∷ []) moment_said
      ∙ ap (λ (kind : Option MoveKind). moment_words here.begun here.made here.phase
      ∷ console_line (codes "last: " ++ last_text kind) ∷ next ∷ log_line r at ∷ []) is.last
      ∙ ap (λ (words : List ℕ). moment_words here.begun here.made here.phase
      ∷ last_words here.last ∷ console_line (codes "next: " ++ words) ∷ log_line r at ∷ [])
      (next_said here.next r at is.next)
      ∙ ap (λ (line : List ℕ). moment_words here.begun here.made here.phase
      ∷ last_words here.last ∷ next_line here.next ∷ line ∷ []) log_said)

-- four lines, pushed one after another
pub four_pushed : (l0 l1 l2 l3 l4 : List (List ℕ)) (a b c d : List ℕ) → l0 ≡ []
    → l1 ≡ l0 ++ a ∷ [] → l2 ≡ l1 ++ b ∷ [] → l3 ≡ l2 ++ c ∷ [] → l4 ≡ l3 ++ d ∷ []
    → l4 ≡ a ∷ b ∷ c ∷ d ∷ []
four_pushed l0 l1 l2 l3 l4 a b c d e0 e1 e2 e3 e4 =
    e4 ∙ ap (λ (ls : List (List ℕ)). ls ++ d ∷ []) (e3
    ∙ ap (λ (ls : List (List ℕ)). ls ++ c ∷ []) (e2
    ∙ ap (λ (ls : List (List ℕ)). ls ++ b ∷ []) (e1
    ∙ ap (λ (ls : List (List ℕ)). ls ++ a ∷ []) e0)))
