-- Stretches of pages as they are told.
use Rattle.std.proofs.Common.{◌≡◌, ℕ, ◌+◌, ◌≤◌, Bool, true, false, ◌&&◌, List, [], ◌∷◌, ◌++◌}
use Rattle.std.proofs.Common.{length, drop, Some, sym, ap, ◌∙◌, append_assoc, eq-eqb}
use Rattle.std.specs.Prelude.{◌==◌, slice_get}
use Rattle.dos_world.specs.World.{World}
use Rattle.dos_world.specs.declared.Entry.{Entry}
use Rattle.debug_session.specs.Pages.{is_alike, goes_on, stretch_line, stretches_from, stretches_of}
use Rattle.debug_answers.proofs.Rows.{drop_at, none_from}

-- ---- six texts behind one another

pub flat : (a b c d e f : List ℕ) → a ++ (b ++ c ++ d ++ e ++ f) ≡ a ++ b ++ c ++ d ++ e ++ f
flat a b c d e f =
    sym (append_assoc a (b ++ c ++ d ++ e) f)
    ∙ ap (λ (t : List ℕ). t ++ f) (sym (append_assoc a (b ++ c ++ d) e)
    ∙ ap (λ (t : List ℕ). t ++ e) (sym (append_assoc a (b ++ c) d)
    ∙ ap (λ (t : List ℕ). t ++ d) (sym (append_assoc a b c))))

module _ (w : World) where
  -- pages and frames that follow one another go on where they are alike
  pub goes_by : (a b : ℕ × Entry) (r : Bool) → b.0 ≡ a.0 + 1 → b.1.frame ≡ a.1.frame + 1
      → r ≡ is_alike w a.1 b.1 → r ≡ goes_on w a b
  goes_by a b r page frame alike =
      alike ∙ sym (
      ap (λ (t : Bool). t && (b.1.frame == a.1.frame + 1) && is_alike w a.1 b.1)
      (eq-eqb b.0 (a.0 + 1) page)
      ∙ ap (λ (t : Bool). true && t && is_alike w a.1 b.1)
      (eq-eqb b.1.frame (a.1.frame + 1) frame))

  -- what is told of a stretch and the next entry, where that goes on or not
  abbrev from_next : (first last next : ℕ × Entry) → (rest : List (ℕ × Entry)) → Bool
      → List (List ℕ)
  from_next first last next rest goes = elim goes [
    | true ↦ stretches_from w first next rest
    | false ↦ stretch_line w first last ∷ stretches_from w next next rest
  ]

  module _ (first last next : ℕ × Entry) (rest : List (ℕ × Entry)) where
    pub went_on : goes_on w last next ≡ true
        → stretches_from w first last (next ∷ rest) ≡ stretches_from w first next rest
    went_on goes = ap (from_next first last next rest) goes

    pub was_over : goes_on w last next ≡ false
        → stretches_from w first last (next ∷ rest)
        ≡ stretch_line w first last ∷ stretches_from w next next rest
    was_over stops = ap (from_next first last next rest) stops

  pub line_over : (lines more : List (List ℕ)) (first last next : ℕ × Entry)
      (rest : List (ℕ × Entry)) → more ≡ lines ++ stretch_line w first last ∷ []
      → goes_on w last next ≡ false
      → more ++ stretches_from w next next rest ≡ lines ++ stretches_from w first last (next ∷ rest)
  line_over lines more first last next rest added stops =
      ap (λ (ls : List (List ℕ)). ls ++ stretches_from w next next rest) added
      ∙ append_assoc lines (stretch_line w first last ∷ []) (stretches_from w next next rest)
      ∙ ap (λ (ls : List (List ℕ)). lines ++ ls) (sym (was_over first last next rest stops))

  -- ---- over a space

  pub begun : (es : List (ℕ × Entry)) (e : ℕ × Entry) → slice_get es 0 ≡ Some e
      → stretches_from w e e (drop 1 es) ≡ stretches_of w es
  begun [] e is = cc
  begun (x ∷ es) e is =
      let same : x ≡ e = cc in ap (λ (y : ℕ × Entry). stretches_from w y y es) (sym same)

  module _ (es : List (ℕ × Entry)) (i : ℕ) (first last : ℕ × Entry)
      (lines whole : List (List ℕ))
      (before : lines ++ stretches_from w first last (drop i es) ≡ whole) where
    pub gone_on : (start next : ℕ × Entry) (more : List (List ℕ)) → slice_get es i ≡ Some next
        → more ++ stretches_from w start next (drop (i + 1) es)
        ≡ lines ++ stretches_from w first last (next ∷ drop (i + 1) es)
        → more ++ stretches_from w start next (drop (i + 1) es) ≡ whole
    gone_on start next more is told =
        told
        ∙ ap (λ (rest : List (ℕ × Entry)). lines ++ stretches_from w first last rest)
        (sym (drop_at es i next is))
        ∙ before

    pub last_told : (more : List (List ℕ)) → more ≡ lines ++ stretch_line w first last ∷ []
        → length es ≤ i → more ≡ whole
    last_told more added long =
        added
        ∙ ap (λ (rest : List (ℕ × Entry)). lines ++ stretches_from w first last rest)
        (sym (none_from es i long))
        ∙ before
