-- What was given in two stretches was given in both together.
use Rattle.std.proofs.Common.{◌≡◌, ℕ, suc, ◌+◌, ◌≤◌, List, [], ◌∷◌, ◌++◌, length, Option, Some}
use Rattle.std.proofs.Common.{None, refl, sym, ap, ap₂, map, subst, ◌∙◌, append_assoc, arith}
use Rattle.dos_world.specs.declared.Post.{Post}
use Rattle.dos_io.specs.declared.exchange.Exchange.{Exchange}
use Rattle.dos_io.specs.declared.exchange.Exchange.TheVariants.{Signals, Input, Clock, End}
use Rattle.dos_io.specs.declared.exchange.ClockRule.{ClockRule}
use Rattle.dos_io.specs.declared.exchange.ClockRule.TheVariants.{FromHost, Counted}
use Rattle.dos_world.specs.declared.Question.{Question}
use Rattle.dos_world.specs.declared.Question.TheVariants.{Signals as signals_question}
use Rattle.dos_world.specs.declared.Question.TheVariants.{Input as input_question}
use Rattle.dos_world.specs.declared.Question.TheVariants.{Clock as clock_question}
use Rattle.dos_world.specs.declared.Question.TheVariants.{End as end_question}
use Rattle.dos_io.specs.Exchanges.{question_of}
use Rattle.dos_io.specs.Given.{posts_in, counted_reading, GivesPosts, GivesInputs, readings}
use Rattle.dos_io.specs.Given.{AreCountedFrom, GivesCounted, GivesReadings, GivesHost, Given}
use Rattle.dos_io.specs.Hosts.{Told, taken}
use Rattle.dos_io.specs.Outside.{Rose}

posts_then : (all : List (ℕ × Post)) (es fs : List Exchange) → GivesPosts all es → GivesPosts all fs
    → GivesPosts all (es ++ fs)
posts_then all [] fs p q = q
posts_then all (Signals round list ∷ es) fs p q = (p.0, posts_then all es fs p.1 q)
posts_then all (e ∷ es) fs p q = posts_then all es fs p q

inputs_then : (a b c : List (List ℕ)) (es fs : List Exchange) → GivesInputs a b es
    → GivesInputs b c fs → GivesInputs a c (es ++ fs)
inputs_then a b c [] fs p q = subst (λ (x : List (List ℕ)). GivesInputs x c fs) p q
inputs_then a b c (Input round tid max bytes ∷ es) fs p q =
    (p.0, inputs_then (taken max a).1 b c es fs p.1 q)
inputs_then a b c (e ∷ es) fs p q = inputs_then a b c es fs p q

pub readings_append : (es fs : List Exchange) → readings (es ++ fs) ≡ readings es ++ readings fs
readings_append [] fs = refl
readings_append (Clock round tid n ∷ es) fs = ap (λ (x : List ℕ). n ∷ x) (readings_append es fs)
readings_append (e ∷ es) fs = readings_append es fs

counted_then : (start step k : ℕ) (ns ms : List ℕ) → AreCountedFrom start step k ns
    → AreCountedFrom start step (k + length ns) ms → AreCountedFrom start step k (ns ++ ms)
counted_then start step k [] ms p q = subst (λ (i : ℕ). AreCountedFrom start step i ms)
    (omega arith) q
counted_then start step k (n ∷ ns) ms p q = (
  p.0,
  counted_then start step (suc k) ns ms p.1
      (subst (λ (i : ℕ). AreCountedFrom start step i ms) (omega arith) q),
)

rule_then : (clock : ClockRule) (k : ℕ) (es fs : List Exchange) → GivesCounted clock k es
    → GivesCounted clock (k + length (readings es)) fs → GivesCounted clock k (es ++ fs)
rule_then FromHost k es fs p q = tt
rule_then (Counted start step) k es fs p q =
    rw readings_append (counted_then start step k (readings es) (readings fs) p q)

left_then : (clock : ClockRule) (a b c : List ℕ) (es fs : List Exchange)
    → GivesReadings clock a b es → GivesReadings clock b c fs → GivesReadings clock a c (es ++ fs)
left_then FromHost a b c es fs p q = ap (λ (x : List ℕ). x ++ c) (readings_append es fs)
    ∙ append_assoc (readings es) (readings fs) c ∙ ap (λ (x : List ℕ). readings es ++ x) q ∙ p
left_then (Counted start step) a b c es fs p q = q ∙ p

host_then : (clock : ClockRule) (a b c : Option Told) (es fs : List Exchange)
    → GivesHost clock a b es → GivesHost clock b c fs → GivesHost clock a c (es ++ fs)
host_then clock None b c es fs p q = subst (λ (x : Option Told). GivesHost clock x c fs) p q
host_then clock (Some a) b c es fs p q =
    let r : GivesHost clock (Some p.0) c fs =
    subst (λ (x : Option Told). GivesHost clock x c fs) p.1 q in (
      r.0,
      r.1,
      inputs_then a.pieces p.0.pieces r.0.pieces es fs p.2 r.2,
      left_then clock a.readings
          p.0.readings r.0.readings es fs p.3 r.3,
    )

pub given_then : (posts : List (ℕ × Post)) (clock : ClockRule) (k : ℕ) (a b c : Option Told)
    (es fs : List Exchange) → Given posts clock k a b es
    → Given posts clock (k + length (readings es)) b c fs → Given posts clock k a c (es ++ fs)
given_then posts clock k a b c es fs p q = record {
  signals = posts_then posts es fs p.signals q.signals;
  counted = rule_then clock k es fs p.counted q.counted;
  host = host_then clock a b c es fs p.host q.host;
}

no_host : (clock : ClockRule) (a : Option Told) → GivesHost clock a a []
no_host clock None = refl
no_host FromHost (Some a) = (a, refl, refl, refl)
no_host (Counted start step) (Some a) = (a, refl, refl, refl)

no_count : (clock : ClockRule) (k : ℕ) → GivesCounted clock k []
no_count FromHost k = tt
no_count (Counted start step) k = tt

pub given_none : (posts : List (ℕ × Post)) (clock : ClockRule) (k : ℕ) (a : Option Told)
    → Given posts clock k a a []
given_none posts clock k a = record {
  signals = tt;
  counted = no_count clock k;
  host = no_host clock a;
}

pub rose_before : (a b c : ℕ) → a ≤ b → b ≤ c → Rose b c → Rose a c
rose_before a b c p q rose = omega arith

pub rose_after : (a b c : ℕ) → Rose a b → b ≤ c → Rose a c
rose_after a b c rose q = omega arith

-- ---- what is given is determined by the questions

abbrev next_reading : ClockRule → ℕ → List ℕ → ℕ
next_reading FromHost k [] = 0
next_reading FromHost k (n ∷ ns) = n
next_reading (Counted start step) k ns = counted_reading start step k

abbrev later_readings : ClockRule → List ℕ → List ℕ
later_readings FromHost [] = []
later_readings FromHost (n ∷ ns) = ns
later_readings (Counted start step) ns = ns

-- the exchanges that the words and the host make of questions
abbrev made : List (ℕ × Post) → ClockRule → ℕ → List (List ℕ) → List ℕ → List Question
    → List Exchange
made posts clock k pieces ns [] = []
made posts clock k pieces ns (signals_question round ∷ qs) =
    Signals round (posts_in posts round) ∷ made posts clock k pieces ns qs
made posts clock k pieces ns (input_question round tid max ∷ qs) =
    Input round tid max (taken max pieces).0 ∷ made posts clock k (taken max pieces).1 ns qs
made posts clock k pieces ns (clock_question round tid ∷ qs) =
    Clock round tid (next_reading clock k ns) ∷ made posts clock (suc k) pieces
    (later_readings clock ns) qs
made posts clock k pieces ns (end_question ending rounds ∷ qs) =
    End ending rounds ∷ made posts clock k pieces ns qs

made_by_host : (posts : List (ℕ × Post)) (k : ℕ) (pieces left : List (List ℕ)) (ns later : List ℕ)
    (es : List Exchange) → GivesPosts posts es → GivesInputs pieces left es
    → readings es ++ later ≡ ns
    → es ≡ made posts FromHost k pieces ns (map question_of es)
made_by_host posts k pieces left ns later [] p i r = refl
made_by_host posts k pieces left ns later (Signals round list ∷ es) p i r =
    ap₂ (λ (x : List Post) (xs : List Exchange). Signals round x ∷ xs) p.0
    (made_by_host posts k pieces left ns later es p.1 i r)
made_by_host posts k pieces left ns later (Input round tid max bytes ∷ es) p i r =
    ap₂ (λ (x : List ℕ) (xs : List Exchange). Input round tid max x ∷ xs) i.0
    (made_by_host posts k (taken max pieces).1 left ns later es p i.1 r)
made_by_host posts k pieces left ns later (Clock round tid n ∷ es) p i r =
    subst (λ (all : List ℕ). Clock round tid n ∷ es
    ≡ made posts FromHost k pieces all (clock_question round tid ∷ map question_of es)) r
    (ap (λ (xs : List Exchange). Clock round tid n ∷ xs)
    (made_by_host posts (suc k) pieces left (readings es ++ later) later es p i refl))
made_by_host posts k pieces left ns later (End ending rounds ∷ es) p i r =
    ap (λ (xs : List Exchange). End ending rounds ∷ xs)
    (made_by_host posts k pieces left ns later es p i r)

made_by_count : (posts : List (ℕ × Post)) (start step k : ℕ) (pieces left : List (List ℕ))
    (ns : List ℕ) (es : List Exchange) → GivesPosts posts es → GivesInputs pieces left es
    → AreCountedFrom start step k (readings es)
    → es ≡ made posts (Counted start step) k pieces ns (map question_of es)
made_by_count posts start step k pieces left ns [] p i r = refl
made_by_count posts start step k pieces left ns (Signals round list ∷ es) p i r =
    ap₂ (λ (x : List Post) (xs : List Exchange). Signals round x ∷ xs) p.0
    (made_by_count posts start step k pieces left ns es p.1 i r)
made_by_count posts start step k pieces left ns (Input round tid max bytes ∷ es) p i r =
    ap₂ (λ (x : List ℕ) (xs : List Exchange). Input round tid max x ∷ xs) i.0
    (made_by_count posts start step k (taken max pieces).1 left ns es p i.1 r)
made_by_count posts start step k pieces left ns (Clock round tid n ∷ es) p i r =
    ap₂ (λ (x : ℕ) (xs : List Exchange). Clock round tid x ∷ xs) r.0
    (made_by_count posts start step (suc k) pieces left ns es p i r.1)
made_by_count posts start step k pieces left ns (End ending rounds ∷ es) p i r =
    ap (λ (xs : List Exchange). End ending rounds ∷ xs)
    (made_by_count posts start step k pieces left ns es p i r)

made_is : (posts : List (ℕ × Post)) (clock : ClockRule) (k : ℕ) (b : Told) (after : Option Told)
    (es : List Exchange) → Given posts clock k (Some b) after es
    → es ≡ made posts clock k b.pieces b.readings (map question_of es)
made_is posts FromHost k b after es g = made_by_host posts k b.pieces g.host.0.pieces b.readings
    g.host.0.readings es g.signals g.host.2 g.host.3
made_is posts (Counted start step) k b after es g =
    made_by_count posts start step k b.pieces g.host.0.pieces b.readings es g.signals g.host.2
    g.counted

-- Of a host that tells, the same questions are given the same answers.
pub given_once : (posts : List (ℕ × Post)) (clock : ClockRule) (k : ℕ) (b : Told)
    (after other : Option Told) (es fs : List Exchange) → Given posts clock k (Some b) after es
    → Given posts clock k (Some b) other fs
    → map question_of es ≡ map question_of fs → es ≡ fs
given_once posts clock k b after other es fs g h same =
    made_is posts clock k b after es g ∙ ap (made posts clock k b.pieces b.readings) same
    ∙ sym (made_is posts clock k b other fs h)
