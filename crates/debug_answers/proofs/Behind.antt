-- What was put behind a text.
use Rattle.std.proofs.Common.{◌≡◌, ℕ, List, ◌++◌, OnOk, Result, Ok, Err, subst, ap, ◌∙◌}
use Rattle.std.proofs.Common.{append_assoc, refl, sym}

-- A text that is another.
pub put_as : {A E X : Type 0} (r : Result A E) (old new a b : List X) → a ≡ b
    → OnOk r (new ≡ old ++ a) → OnOk r (new ≡ old ++ b)
put_as {A} {E} {X} r old new a b same put =
    subst (λ (t : List X). OnOk r (new ≡ old ++ t)) same put

-- one text behind another
pub behind : (old mid new a b whole : List ℕ) → mid ≡ old ++ a → a ++ b ≡ whole → new ≡ mid ++ b
    → new ≡ old ++ whole
behind old mid new a b whole front all put =
    put ∙ ap (λ (t : List ℕ). t ++ b) front ∙ append_assoc old a b
    ∙ ap (λ (t : List ℕ). old ++ t) all

-- one text behind another, where the second was put
pub put_behind : {A E : Type 0} (r : Result A E) (old mid new a b whole : List ℕ) → mid ≡ old ++ a
    → a ++ b ≡ whole → OnOk r (new ≡ mid ++ b) → OnOk r (new ≡ old ++ whole)
put_behind (Ok x) old mid new a b whole front all put =
    behind old mid new a b whole front all put
put_behind (Err e) old mid new a b whole front all put = put

-- ---- one after another

pub two : (old mid new a b : List ℕ) → mid ≡ old ++ a → new ≡ mid ++ b → new ≡ old ++ (a ++ b)
two old mid new a b front put = behind old mid new a b (a ++ b) front refl put

-- where the second was put
pub two_put : {A E : Type 0} (r : Result A E) (old mid new a b : List ℕ) → mid ≡ old ++ a
    → OnOk r (new ≡ mid ++ b) → OnOk r (new ≡ old ++ (a ++ b))
two_put r old mid new a b front put = put_behind r old mid new a b (a ++ b) front refl put

-- four texts, joined in pairs, and one more
pub joined : (a b c d e : List ℕ) → ((a ++ b) ++ (c ++ d)) ++ e ≡ a ++ b ++ c ++ d ++ e
joined a b c d e = ap (λ (t : List ℕ). t ++ e) (sym (append_assoc (a ++ b) c d))

-- and two more
pub joined_all : (a b c d e f : List ℕ)
    → ((a ++ b) ++ (c ++ d)) ++ (e ++ f) ≡ a ++ b ++ c ++ d ++ e ++ f
joined_all a b c d e f =
    sym (append_assoc ((a ++ b) ++ (c ++ d)) e f) ∙ ap (λ (t : List ℕ). t ++ f) (joined a b c d e)
