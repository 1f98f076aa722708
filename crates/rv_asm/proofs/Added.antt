-- Bytes that were added one after another.
use Rattle.std.proofs.Common.{◌≡◌, ℕ, List, ◌++◌, append_assoc}

pub two_added : (old mid new a a' b : List ℕ) → mid ≡ old ++ a → a ≡ a' → new ≡ mid ++ b
    → new ≡ old ++ (a' ++ b)
two_added old mid new a a' b m e n = rw (n, m, e) (append_assoc old a' b)

pub three_added : (old first second new a a' b c c' : List ℕ) → first ≡ old ++ a → a ≡ a'
    → second ≡ first ++ b → new ≡ second ++ c → c ≡ c' → new ≡ old ++ (a' ++ b ++ c')
three_added old first second new a a' b c c' f ea s n ec =
    rw (n, s, f, ea, ec, append_assoc old a' b) (append_assoc old (a' ++ b) c')
