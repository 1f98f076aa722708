-- Lists that a loop reads: what was read so far stands in front of what is left to read.
use Rattle.std.proofs.Common.{◌≡◌, ℕ, suc, List, [], ◌∷◌, ◌++◌, Result, Ok, Err, refl, sym, subst}
use Rattle.std.proofs.Common.{ap, map}
use Rattle.std.proofs.lemmas.List.{map-append}
use Rattle.std.proofs.Common.{◌∙◌, append-nil, append_assoc}
use Rattle.text_fields.specs.declared.refusal.FieldError.{FieldError}
use Rattle.text_fields.specs.declared.refusal.RowError.{RowError}
use Rattle.text_fields.specs.declared.refusal.RowError.TheVariants.{Refused, Memory}
use Rattle.text_fields.specs.Reading.{FieldReader, ◌>>=◌, read_list, RefusesRow}

-- a list in front of what is read
abbrev pub in_front : {A : Type 0} → List A → Result (List A × List ℕ) FieldError
    → Result (List A × List ℕ) FieldError
in_front front (Ok x) = Ok (front ++ x.0, x.1)
in_front front (Err e) = Err e

module _ {A S : Type 0} (one : S → FieldReader A) (next : S → A → S) (end : ℕ) where
  -- Of n elements from s on, these stand in front, and m from t on are left in the rest.
  abbrev pub HasRead : ℕ → S → List ℕ → List A → ℕ → S → List ℕ → Type 0
  HasRead n s bytes front m t rest = read_list one next n s end bytes
      ≡ in_front front (read_list one next m t end rest)

  pub none_read : (n : ℕ) (s : S) (bytes : List ℕ) → HasRead n s bytes [] n s bytes
  none_read n s bytes = go (read_list one next n s end bytes)
    where
      go : (r : Result (List A × List ℕ) FieldError) → r ≡ in_front [] r
      go (Ok x) = refl
      go (Err e) = refl

  further : (front : List A) (x : A) (r : Result (List A × List ℕ) FieldError)
      → in_front front (r >>= λ others. Ok (x ∷ others.0, others.1)) ≡ in_front (front ++ x ∷ []) r
  further front x (Ok y) = ap (λ xs. Ok (xs, y.1)) (sym (append_assoc front (x ∷ []) y.0))
  further front x (Err e) = refl

  pub one_more : (n : ℕ) (s : S) (bytes : List ℕ) (front : List A) (m : ℕ) (t : S)
      (rest : List ℕ) (x : A × List ℕ) → HasRead n s bytes front (suc m) t rest
      → one t end rest ≡ Ok x
      → HasRead n s bytes (front ++ x.0 ∷ []) m (next t x.0) x.1
  unfolding read_list
  one_more n s bytes front m t rest x so is =
      so ∙ ap (λ (r : Result (A × List ℕ) FieldError). in_front front (r >>= λ first.
      read_list one next m (next t first.0) end first.1 >>= λ others.
      Ok (first.0 ∷ others.0, others.1))) is
      ∙ further front x.0 (read_list one next m (next t x.0) end x.1)

  pub refused_there : (n : ℕ) (s : S) (bytes : List ℕ) (front : List A) (m : ℕ) (t : S)
      (rest : List ℕ) (e : FieldError) → HasRead n s bytes front (suc m) t rest
      → one t end rest ≡ Err e → read_list one next n s end bytes ≡ Err e
  unfolding read_list
  refused_there n s bytes front m t rest e so is =
      so ∙ ap (λ (r : Result (A × List ℕ) FieldError). in_front front (r >>= λ first.
      read_list one next m (next t first.0) end first.1 >>= λ others.
      Ok (first.0 ∷ others.0, others.1))) is

  pub all_read : (n : ℕ) (s : S) (bytes : List ℕ) (front : List A) (t : S) (rest : List ℕ)
      → HasRead n s bytes front 0 t rest
      → read_list one next n s end bytes ≡ Ok (front, rest)
  unfolding read_list
  all_read n s bytes front t rest so = so ∙ ap (λ xs. Ok (xs, rest)) (append-nil front)

-- The rows that a loop keeps, each seen by seen.
module _ {X A S : Type 0} (seen : X → A) (one : S → FieldReader A) (next : S → A → S) (end : ℕ)
  where
    pub begins : (n : ℕ) (s : S) (bytes : List ℕ) (kept : List X) → kept ≡ []
        → HasRead one next end n s bytes (map seen kept) n s bytes
    begins n s bytes kept none = rw none (none_read one next end n s bytes)

    pub goes_on : (n : ℕ) (s : S) (bytes : List ℕ) (kept : List X) (left m : ℕ) (t : S)
        (rest : List ℕ) (item : X) (after : List ℕ) (longer : List X) → left ≡ suc m
        → HasRead one next end n s bytes (map seen kept) left t rest
        → one t end rest ≡ Ok (seen item, after) → longer ≡ kept ++ item ∷ []
        → HasRead one next end n s bytes (map seen longer) m (next t (seen item)) after
    goes_on n s bytes kept left m t rest item after longer left_is so is longer_is =
        rw (longer_is, map-append seen kept (item ∷ []))
        (one_more one next end n s bytes (map seen kept) m t rest (seen item, after)
        (subst (λ (k : ℕ). HasRead one next end n s bytes (map seen kept) k t rest) left_is so) is)

    pub stops : (n : ℕ) (s : S) (bytes : List ℕ) (front : List A) (left m : ℕ) (t : S)
        (rest : List ℕ) (e : RowError) → left ≡ suc m
        → HasRead one next end n s bytes front left t rest
        → RefusesRow e (one t end rest) → RefusesRow e (read_list one next n s end bytes)
    stops n s bytes front left m t rest (Refused e) left_is so is =
        refused_there one next end n s bytes front m t rest e
        (subst (λ (k : ℕ). HasRead one next end n s bytes front k t rest) left_is so) is
    stops n s bytes front left m t rest Memory left_is so is = tt

    pub ends : (n : ℕ) (s : S) (bytes : List ℕ) (front : List A) (left : ℕ) (t : S)
        (rest : List ℕ) → left ≡ 0 → HasRead one next end n s bytes front left t rest
        → read_list one next n s end bytes ≡ Ok (front, rest)
    ends n s bytes front left t rest none so =
        all_read one next end n s bytes front t rest
        (subst (λ (k : ℕ). HasRead one next end n s bytes front k t rest) none so)
