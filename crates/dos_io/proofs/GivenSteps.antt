-- What is given with one exchange.
use Rattle.std.proofs.Common.{◌≡◌, ℕ, List, [], ◌∷◌, ◌++◌, Option, Some, None, IfSome, refl, sym}
use Rattle.std.proofs.Common.{ap}
use Rattle.std.proofs.Common.{subst}
use Rattle.dos_world.specs.declared.Post.{Post}
use Rattle.dos_world.specs.declared.Ending.{Ending}
use Rattle.dos_io.specs.declared.exchange.Exchange.{Exchange}
use Rattle.dos_io.specs.declared.exchange.Exchange.TheVariants.{Signals, Input, Clock, End}
use Rattle.dos_io.specs.declared.exchange.ClockRule.{ClockRule}
use Rattle.dos_io.specs.declared.exchange.ClockRule.TheVariants.{FromHost, Counted}
use Rattle.dos_io.specs.Hosts.{Told, taken, after_input, before_reading}
use Rattle.dos_io.specs.Given.{posts_in, readings, Given, GivesHost, GivesCounted, GivesInputs}
use Rattle.dos_io.specs.Given.{GivesReadings, AreCountedFrom}

-- no reading is counted, where there is none
no_count : (clock : ClockRule) (k : ℕ) (es : List Exchange) → readings es ≡ []
    → GivesCounted clock k es
no_count FromHost k es none = tt
no_count (Counted start step) k es none = subst (AreCountedFrom start step k) (sym none) tt

-- and none is taken from the host
no_reading : (clock : ClockRule) (ns : List ℕ) (es : List Exchange) → readings es ≡ []
    → GivesReadings clock ns ns es
no_reading FromHost ns es none = ap (λ (x : List ℕ). x ++ ns) none
no_reading (Counted start step) ns es none = refl

-- what is answered without the host leaves it as it was
same_told : (clock : ClockRule) (a : Option Told) (es : List Exchange) → readings es ≡ []
    → ((pieces : List (List ℕ)) → GivesInputs pieces pieces es) → GivesHost clock a a es
same_told clock None es none takes = refl
same_told clock (Some t) es none takes =
    (t, refl, takes t.pieces, no_reading clock t.readings es none)

read_host : (a c : Option Told) (round tid n : ℕ) → a ≡ before_reading n c
    → GivesHost FromHost a c (Clock round tid n ∷ [])
read_host a None round tid n e =
    subst (λ (x : Option Told). GivesHost FromHost x None (Clock round tid n ∷ [])) (sym e) refl
read_host a (Some t) round tid n e = subst
    (λ (x : Option Told). GivesHost FromHost x (Some t) (Clock round tid n ∷ [])) (sym e)
    (t, refl, refl, refl)

pub given_reading : (posts : List (ℕ × Post)) (k : ℕ) (a c : Option Told) (round tid n : ℕ)
    → a ≡ before_reading n c → Given posts FromHost k a c (Clock round tid n ∷ [])
given_reading posts k a c round tid n e =
    record { signals = tt; counted = tt; host = read_host a c round tid n e }

pub given_posts : (posts : List (ℕ × Post)) (clock : ClockRule) (k : ℕ) (a : Option Told)
    (round : ℕ) (list : List Post) → list ≡ posts_in posts round
    → Given posts clock k a a (Signals round list ∷ [])
given_posts posts clock k a round list e = let es : List Exchange = Signals round list ∷ [] in
    record {
      signals = (e, tt);
      counted = no_count clock k es refl;
      host = same_told clock a es refl (λ pieces. refl);
    }

pub given_end : (posts : List (ℕ × Post)) (clock : ClockRule) (k : ℕ) (a : Option Told)
    (ending : Ending) (rounds : ℕ) → Given posts clock k a a (End ending rounds ∷ [])
given_end posts clock k a ending rounds = let es : List Exchange = End ending rounds ∷ [] in
    record {
      signals = tt;
      counted = no_count clock k es refl;
      host = same_told clock a es refl (λ pieces. refl);
    }

pub given_input : (posts : List (ℕ × Post)) (clock : ClockRule) (k : ℕ) (a c : Option Told)
    (round tid max : ℕ) (bytes : List ℕ) → c ≡ after_input max a
    → IfSome a (λ t. bytes ≡ (taken max t.pieces).0)
    → Given posts clock k a c (Input round tid max bytes ∷ [])
given_input posts clock k a c round tid max bytes e h =
    record {
      signals = tt;
      counted = no_count clock k (Input round tid max bytes ∷ []) refl;
      host = left_told a c e h;
    }
  where
    left_told : (a c : Option Told) → c ≡ after_input max a
        → IfSome a (λ t. bytes ≡ (taken max t.pieces).0)
        → GivesHost clock a c (Input round tid max bytes ∷ [])
    left_told None c e h = e
    left_told (Some t) c e h = (
      record t { pieces = (taken max t.pieces).1 },
      e,
      (h, refl),
      no_reading clock t.readings (Input round tid max bytes ∷ []) refl,
    )
