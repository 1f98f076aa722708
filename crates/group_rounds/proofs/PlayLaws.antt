-- Laws of how plays go on.
use Rattle.std.proofs.Common.{ℕ, ◌≡◌, sym, ap, ◌∙◌, subst, List, [], ◌∷◌, ◌++◌, append-nil}
use Rattle.std.specs.Prelude.{map}
use Rattle.dos_world.specs.Play.{Play, Answer, done, ask, ◌>>=◌, Outcome, gives, asks, over}
use Rattle.dos_world.specs.Play.{questions}
use Rattle.dos_world.specs.declared.Question.{Question}
use Rattle.dos_io.specs.Borders.{Crossing, exchanged, exchanges_of, going_to, put}
use Rattle.dos_io.specs.declared.border.Stream.TheVariants.{Output, Error}
use Rattle.dos_io.specs.declared.exchange.Exchange.{Exchange}
use Rattle.dos_io.specs.declared.exchange.Exchange.TheVariants.{Signals, Input, Clock, End}
use Rattle.dos_io.specs.Exchanges.{question_of, answer_of, HaveNoPosts}
use Rattle.kernel_calls.specs.Plays.{GoesOver}
use Rattle.group_rounds.specs.Plays.{GoesOn}

-- by one exchange after others
pub goes-append : {A : Type 0} (es fs : List Exchange) (p q r : Play A) → GoesOn es p q
    → GoesOn fs q r → GoesOn (es ++ fs) p r
goes-append [] fs p q r h k = subst (λ x. GoesOn fs x r) (sym h) k
goes-append (e ∷ es) fs (done a) q r h k = absurd h
goes-append (e ∷ es) fs (ask question output error next) q r h k =
    (h.0, goes-append es fs (next (answer_of e)) q r h.1 k)

-- what follows goes on behind
pub goes-then : {A B : Type 0} (es : List Exchange) (p q : Play A) (f : A → Play B) → GoesOn es p q
    → GoesOn es (p >>= f) (q >>= f)
goes-then [] p q f h = ap (λ x. x >>= f) h
goes-then (e ∷ es) (done a) q f h = absurd h
goes-then (e ∷ es) (ask question output error next) q f h =
    (h.0, goes-then es (next (answer_of e)) q f h.1)

-- what a play comes to over the answers of its exchanges, and more
pub goes-over_more : {A : Type 0} (es : List Exchange) (more : List Answer) (p q : Play A)
    → GoesOn es p q → over (map answer_of es ++ more) p ≡ over more q
goes-over_more [] more p q h = ap (over more) h
goes-over_more (e ∷ es) more (done a) q h = absurd h
goes-over_more (e ∷ es) more (ask question output error next) q h =
    goes-over_more es more (next (answer_of e)) q h.1

pub goes-over : {A : Type 0} (es : List Exchange) (p q : Play A) → GoesOn es p q
    → over (map answer_of es) p ≡ over [] q
goes-over es p q h = ap (λ answers. over answers p) (sym (append-nil (map answer_of es)))
    ∙ goes-over_more es [] p q h

-- the questions that it asks
pub goes-questions : {A : Type 0} (es : List Exchange) (p q : Play A) → GoesOn es p q
    → questions (map answer_of es) p ≡ map question_of es ++ questions [] q
goes-questions [] p q h = ap (questions []) h
goes-questions (e ∷ es) (done a) q h = absurd h
goes-questions (e ∷ es) (ask question output error next) q h =
    ap (λ asked. asked ∷ questions (map answer_of es) (next (answer_of e))) h.0
    ∙ ap (λ rest. question_of e ∷ rest) (goes-questions es (next (answer_of e)) q h.1)

-- what goes over crossings goes on over their exchanges
pub goes-exchanges : {A : Type 0} (o e : List ℕ) (cs : List Crossing) (p q : Play A)
    → GoesOver o e cs p q → GoesOn (exchanges_of cs) p q
goes-exchanges o e [] p q h = h
goes-exchanges o e (exchanged x ∷ cs) (done a) q h = absurd h
goes-exchanges o e (exchanged x ∷ cs) (ask question output error next) q h =
    (h.0, goes-exchanges o e cs (next (answer_of x)) q h.3)
goes-exchanges o e (put stream bytes ∷ cs) p q h =
    goes-exchanges (o ++ going_to Output stream bytes) (e ++ going_to Error stream bytes) cs p q h

-- By what it comes to and what it asks: these exchanges are all that it needs.
pub goes_by : {A : Type 0} (es : List Exchange) (p : Play A) (a : A)
    → over (map answer_of es) p ≡ gives a [] → questions (map answer_of es) p ≡ map question_of es
    → GoesOn es p (done a)
goes_by {A} [] (done b) a h k = ap done (same h)
  where
    same : ◌≡◌ {A = Outcome A} (gives b []) (gives a []) → b ≡ a
    same x = cc
goes_by {A} [] (ask question output error next) a h k = absurd (asks≢gives h)
  where
    asks≢gives : ◌≡◌ {A = Outcome A} (asks question output error) (gives a []) → ⊥
    asks≢gives x = cc
goes_by {A} (e ∷ es) (done b) a h k = absurd (some_left h)
  where
    some_left : ◌≡◌ {A = Outcome A} (gives b (answer_of e ∷ map answer_of es)) (gives a []) → ⊥
    some_left x = cc
goes_by (e ∷ es) (ask question output error next) a h k =
    (first k, goes_by es (next (answer_of e)) a h (others k))
  where
    first : question ∷ questions (map answer_of es) (next (answer_of e)) ≡ question_of e
        ∷ map question_of es → question ≡ question_of e
    first x = cc

    others : question ∷ questions (map answer_of es) (next (answer_of e)) ≡ question_of e
        ∷ map question_of es
        → questions (map answer_of es) (next (answer_of e)) ≡ map question_of es
    others x = cc

-- By the question at which the answers run out: these exchanges lead to it.
pub stops_by : {A : Type 0} (es : List Exchange) (p : Play A) (question : Question) (o e : List ℕ)
    → over (map answer_of es) p ≡ asks question o e
    → questions (map answer_of es) p ≡ map question_of es ++ question ∷ []
    → (next : Answer → Play A) × GoesOn es p (ask question o e next)
stops_by {A} [] (done a) question o e h k = absurd (gives≢asks h)
  where
    gives≢asks : ◌≡◌ {A = Outcome A} (gives a []) (asks question o e) → ⊥
    gives≢asks x = cc
stops_by {A} [] (ask q output error next) question o e h k = (next, same h)
  where
    same : ◌≡◌ {A = Outcome A} (asks q output error) (asks question o e)
        → ask q output error next ≡ ask question o e next
    same x =
        let first : q ≡ question = cc in
        let out : output ≡ o = cc in
        let err : error ≡ e = cc in
        ap (λ y. ask y output error next) first ∙ ap (λ y. ask question y error next) out
        ∙ ap (λ y. ask question o y next) err
stops_by {A} (x ∷ es) (done a) question o e h k = absurd (gives≢asks h)
  where
    gives≢asks : ◌≡◌ {A = Outcome A} (gives a (answer_of x ∷ map answer_of es)) (asks question o e)
        → ⊥
    gives≢asks y = cc
stops_by {A} (x ∷ es) (ask q output error next) question o e h k =
    let rest = stops_by es (next (answer_of x)) question o e h (others k) in
    (rest.0, (first k, rest.1))
  where
    first : q ∷ questions (map answer_of es) (next (answer_of x)) ≡ question_of x
        ∷ (map question_of es ++ question ∷ []) → q ≡ question_of x
    first y = cc

    others : q ∷ questions (map answer_of es) (next (answer_of x)) ≡ question_of x
        ∷ (map question_of es ++ question ∷ [])
        → questions (map answer_of es) (next (answer_of x)) ≡ map question_of es ++ question ∷ []
    others y = cc

-- ---- exchanges without posts

pub no_posts-append : (es fs : List Exchange) → HaveNoPosts (es ++ fs)
    → HaveNoPosts es × HaveNoPosts fs
no_posts-append [] fs h = (tt, h)
no_posts-append (Signals round list ∷ es) fs h = let rest = no_posts-append es fs h.1 in
    ((h.0, rest.0), rest.1)
no_posts-append (Input round tid max bytes ∷ es) fs h = no_posts-append es fs h
no_posts-append (Clock round tid n ∷ es) fs h = no_posts-append es fs h
no_posts-append (End ending rounds ∷ es) fs h = no_posts-append es fs h
