-- Laws of the plays of calls.
use Rattle.std.proofs.Common.{◌≡◌, ◌≤◌, ℕ, List, [], ◌∷◌, ◌++◌, refl, sym, ap}
use Rattle.std.proofs.Common.{ap₂, ◌∙◌, subst, append-nil, append_assoc, take, drop}
use Rattle.std.specs.Prelude.{Result}
use Rattle.std.proofs.lemmas.Result.{IfErr-weaker, IfOk-weaker}
use Rattle.std.proofs.lemmas.List.{take-append-drop}
use Rattle.dos_world.specs.World.{World}
use Rattle.dos_world.specs.Play.{Answer, Outcome, Play, done, ask, over, gives, asks, ◌>>=◌}
use Rattle.dos_world.specs.Services.{Served as FlatServed, went}
use Rattle.dos_world.specs.declared.Question.{Question}
use Rattle.dos_io.specs.Borders.{BorderState, BorderStands, Crossing, ShimFails}
use Rattle.dos_io.specs.Borders.{SinkFails, Tells, bytes_to, exchanged, exchanges_of, faults_of}
use Rattle.dos_io.specs.Borders.{going_to, put, told_of}
use Rattle.dos_io.specs.Exchanges.{answer_of}
use Rattle.dos_io.specs.Outside.{IsFront, Rose, counted_to_limit, grown}
use Rattle.dos_io.specs.Shims.{HasNoEnd}
use Rattle.dos_io.specs.declared.border.Stream.{Stream}
use Rattle.dos_io.specs.declared.border.Stream.TheVariants.{Output, Error}
use Rattle.dos_io.specs.declared.exchange.Exchange.{Exchange}
use Rattle.dos_io.specs.declared.exchange.Exchange.TheVariants.{Signals, Input, Clock, End}
use Rattle.dos_io.specs.declared.shim.ShimStop.{ShimStop}
use Rattle.dos_io.proofs.OutsideLaws.{grown-nothing, grown-twice, front-behind, front-nothing}
use Rattle.dos_laws.specs.Plays.{world_served}
use Rattle.kernel_calls.specs.StateWorld.{sent, way_in, world_of}
use Rattle.kernel_calls.specs.Plays.{AreFrontsOf, GoesOver, Plays, PlaysOn}
use Rattle.kernel_calls.specs.Plays.{PlaysOnce, StopsBy, Stopper, StopsIn, with_more}
use Rattle.kernel_calls.specs.Plays.{by_shim, by_sink, sent_then, stopper}
use Rattle.kernel_calls.specs.declared.state.State.{State}
use Rattle.kernel_calls.specs.declared.state.RunStop.{RunStop}
use Rattle.kernel_calls.specs.declared.state.Served.{Served}
use Rattle.kernel_calls.proofs.ServicePlays.{stands_still, tells_nothing}

-- ---- crossings

exchanges-append : (cs ds : List Crossing)
    → exchanges_of (cs ++ ds) ≡ exchanges_of cs ++ exchanges_of ds
exchanges-append [] ds = refl
exchanges-append (exchanged x ∷ cs) ds = ap (λ xs. x ∷ xs) (exchanges-append cs ds)
exchanges-append (put stream bytes ∷ cs) ds = exchanges-append cs ds

bytes-append : (s : Stream) (cs ds : List Crossing)
    → bytes_to s (cs ++ ds) ≡ bytes_to s cs ++ bytes_to s ds
bytes-append s [] ds = refl
bytes-append s (exchanged x ∷ cs) ds = bytes-append s cs ds
bytes-append s (put stream bytes ∷ cs) ds =
    ap (λ xs. going_to s stream bytes ++ xs) (bytes-append s cs ds)
    ∙ sym (append_assoc (going_to s stream bytes) (bytes_to s cs) (bytes_to s ds))

-- bytes before those of both
pub bytes_behind : (s : Stream) (sent : List ℕ) (cs ds : List Crossing)
    → sent ++ bytes_to s (cs ++ ds) ≡ (sent ++ bytes_to s cs) ++ bytes_to s ds
bytes_behind s sent cs ds = ap (λ xs. sent ++ xs) (bytes-append s cs ds)
    ∙ sym (append_assoc sent (bytes_to s cs) (bytes_to s ds))

pub tells_then : (b b' b'' : BorderState) (cs ds : List Crossing) → Tells b cs b' → Tells b' ds b''
    → Tells b (cs ++ ds) b''
tells_then b b' b'' cs ds h k = record {
  exchanges = k.exchanges ∙ ap (λ xs. xs ++ exchanges_of ds) h.exchanges
      ∙ append_assoc b.shim.told (exchanges_of cs) (exchanges_of ds)
      ∙ ap (λ xs. b.shim.told ++ xs) (sym (exchanges-append cs ds));
  bytes = λ s. k.bytes s ∙ ap (λ told. grown told (bytes_to s ds)) (h.bytes s)
      ∙ grown-twice (told_of s b) (bytes_to s cs) (bytes_to s ds)
      ∙ ap (λ xs. grown (told_of s b) xs) (sym (bytes-append s cs ds));
}

pub stands_then : (b b' b'' : BorderState) → BorderStands b b' → BorderStands b' b''
    → BorderStands b b''
stands_then b b' b'' h k = record {
  shim = record { stops = k.shim.stops ∙ h.shim.stops; last = k.shim.last ∙ h.shim.last };
  faults = λ s. k.faults s ∙ h.faults s;
}

pub no_end_then : (xs ys : List Exchange) → HasNoEnd xs → HasNoEnd ys → HasNoEnd (xs ++ ys)
no_end_then [] ys h k = k
no_end_then (Signals round list ∷ xs) ys h k = no_end_then xs ys h k
no_end_then (Input round tid max bytes ∷ xs) ys h k = no_end_then xs ys h k
no_end_then (Clock round tid n ∷ xs) ys h k = no_end_then xs ys h k
no_end_then (End ending rounds ∷ xs) ys h k = absurd h

-- ---- how plays go over crossings

pub over-append : {A : Type 0} (o e : List ℕ) (cs ds : List Crossing) (p p' p'' : Play A)
    → GoesOver o e cs p p' → GoesOver (o ++ bytes_to Output cs) (e ++ bytes_to Error cs) ds p' p''
    → GoesOver o e (cs ++ ds) p p''
over-append o e [] ds p p' p'' h k =
    subst (λ x. GoesOver o e ds x p'') (sym h)
    (subst (λ x. GoesOver x e ds p' p'') (append-nil o)
    (subst (λ x. GoesOver (o ++ []) x ds p' p'') (append-nil e) k))
over-append o e (exchanged x ∷ cs) ds (done a) p' p'' h k = absurd h
over-append o e (exchanged x ∷ cs) ds (ask question output error next) p' p'' h k =
    (h.0, h.1, h.2, over-append o e cs ds (next (answer_of x)) p' p'' h.3 k)
over-append o e (put stream bytes ∷ cs) ds p p' p'' h k =
    over-append (o ++ going_to Output stream bytes) (e ++ going_to Error stream bytes) cs ds p p'
    p''
    h
    (subst (λ x. GoesOver x ((e ++ going_to Error stream bytes) ++ bytes_to Error cs) ds p' p'')
    (sym (append_assoc o (going_to Output stream bytes) (bytes_to Output cs)))
    (subst (λ x. GoesOver (o ++ (going_to Output stream bytes ++ bytes_to Output cs)) x ds p' p'')
    (sym (append_assoc e (going_to Error stream bytes) (bytes_to Error cs))) k))

-- what follows goes on behind
pub over-then : {A B : Type 0} (o e : List ℕ) (cs : List Crossing) (p p' : Play A) (f : A → Play B)
    → GoesOver o e cs p p' → GoesOver o e cs (p >>= f) (p' >>= f)
over-then o e [] p p' f h = ap (λ x. x >>= f) h
over-then o e (exchanged x ∷ cs) (done a) p' f h = absurd h
over-then o e (exchanged x ∷ cs) (ask question output error next) p' f h =
    (h.0, h.1, h.2, over-then o e cs (next (answer_of x)) p' f h.3)
over-then o e (put stream bytes ∷ cs) p p' f h =
    over-then (o ++ going_to Output stream bytes) (e ++ going_to Error stream bytes) cs p p' f h

-- ---- plays that go on

-- where nothing crosses
pub plays_still : {A : Type 0} (q : ℕ) (play left : World → Play A) (old new : State)
    (b : BorderState)
    → ((o e : List ℕ) → play (sent o e (world_of q old)) ≡ left (sent o e (world_of q new)))
    → PlaysOn q play old b left new b
plays_still q play left old new b same = record {
  crossings = [];
  tells = tells_nothing b;
  stands = stands_still b;
  running = tt;
  goes = λ o e. same o e ∙ ap₂ (λ x y. left (sent x y (world_of q new))) (sym (append-nil o))
      (sym (append-nil e));
}

-- first so, then so
pub plays_and : {A : Type 0} (q : ℕ) (p p' p'' : World → Play A) (s s' s'' : State)
    (b b' b'' : BorderState) → PlaysOn q p s b p' s' b' → PlaysOn q p' s' b' p'' s'' b''
    → PlaysOn q p s b p'' s'' b''
plays_and q p p' p'' s s' s'' b b' b'' h k = record {
  crossings = h.crossings ++ k.crossings;
  tells = tells_then b b' b'' h.crossings k.crossings h.tells k.tells;
  stands = stands_then b b' b'' h.stands k.stands;
  running = subst HasNoEnd (sym (exchanges-append h.crossings k.crossings))
      (no_end_then (exchanges_of h.crossings) (exchanges_of k.crossings) h.running k.running);
  goes = λ o e.
      subst (λ x. GoesOver o e (h.crossings ++ k.crossings) (p (sent o e (world_of q s)))
      (p'' (sent x (e ++ bytes_to Error (h.crossings ++ k.crossings)) (world_of q s''))))
      (sym (bytes_behind Output o h.crossings k.crossings))
      (subst (λ y. GoesOver o e (h.crossings ++ k.crossings) (p (sent o e (world_of q s)))
      (p'' (sent ((o ++ bytes_to Output h.crossings) ++ bytes_to Output k.crossings) y
      (world_of q s''))))
      (sym (bytes_behind Error e h.crossings k.crossings))
      (over-append o e h.crossings k.crossings (p (sent o e (world_of q s)))
      (p' (sent_then h.crossings o e (world_of q s')))
      (p'' (sent_then k.crossings (o ++ bytes_to Output h.crossings)
      (e ++ bytes_to Error h.crossings) (world_of q s''))) (h.goes o e)
      (k.goes (o ++ bytes_to Output h.crossings) (e ++ bytes_to Error h.crossings))));
}

-- before another play
pub plays_behind : {A B : Type 0} (q : ℕ) (p left : World → Play A) (f : A → Play B) (s s' : State)
    (b b' : BorderState) → PlaysOn q p s b left s' b'
    → PlaysOn q (λ w. p w >>= f) s b (λ w. left w >>= f) s' b'
plays_behind q p left f s s' b b' h = record {
  crossings = h.crossings;
  tells = h.tells;
  stands = h.stands;
  running = h.running;
  goes = λ o e. over-then o e h.crossings (p (sent o e (world_of q s)))
      (left (sent_then h.crossings o e (world_of q s'))) f (h.goes o e);
}

-- what is told then
pub plays_told : {A : Type 0} (q : ℕ) (p left : World → Play A) (s s' : State) (b b' : BorderState)
    → PlaysOn q p s b left s' b' → HasNoEnd b.shim.told → HasNoEnd b'.shim.told
plays_told q p left s s' b b' h told = subst HasNoEnd (sym h.tells.exchanges)
    (no_end_then b.shim.told (exchanges_of h.crossings) told h.running)

-- ---- plays that stop

pub shim_fails_then : (b b' b'' : BorderState) (why : ShimStop) → BorderStands b b'
    → ShimFails b' why b'' → ShimFails b why b''
shim_fails_then b b' b'' why h k = record {
  stops = k.stops ∙ ap counted_to_limit h.shim.stops;
  last = k.last;
  faults = λ s. k.faults s ∙ h.faults s;
}

sink_fails_then : (b b' b'' : BorderState) (stream : Stream) → BorderStands b b'
    → SinkFails b' stream b'' → SinkFails b stream b''
sink_fails_then b b' b'' stream h k = record {
  shim = record { stops = k.shim.stops ∙ h.shim.stops; last = k.shim.last ∙ h.shim.last };
  later = subst (λ n. n ≤ faults_of stream b'') (h.faults stream) k.later;
  rose = subst (λ n. Rose n (faults_of stream b'')) (h.faults stream) k.rose;
  others = λ s ne. k.others s ne ∙ h.faults s;
}

-- after a play that went on
pub stops_after : {A : Type 0} (q : ℕ) (world : A → World) (p left : World → Play A)
    (s s' : State) (b b' b'' : BorderState) (by : Stopper) → PlaysOn q p s b left s' b'
    → StopsIn q world left by s' b' b'' → StopsIn q world p by s b b''
stops_after q world p left s s' b b' b'' (by_shim why) h k = record {
  crossings = h.crossings ++ k.crossings;
  tells = tells_then b b' b'' h.crossings k.crossings h.tells k.tells;
  fails = shim_fails_then b b' b'' why h.stands k.fails;
  question = k.question;
  running = k.running;
  asked = k.asked;
  goes = λ o e.
      let o' : List ℕ = o ++ bytes_to Output h.crossings in
      let e' : List ℕ = e ++ bytes_to Error h.crossings in
      let there = k.goes o' e' in (
        there.0,
        subst (λ x. GoesOver o e (h.crossings ++ k.crossings) (p (sent o e (world_of q s)))
            (ask k.question x (e ++ bytes_to Error (h.crossings ++ k.crossings)) there.0))
            (sym (bytes_behind Output o h.crossings k.crossings))
            (subst (λ y. GoesOver o e (h.crossings ++ k.crossings) (p (sent o e (world_of q s)))
            (ask k.question (o' ++ bytes_to Output k.crossings) y there.0))
            (sym (bytes_behind Error e h.crossings k.crossings))
            (over-append o e h.crossings k.crossings (p (sent o e (world_of q s)))
            (left (sent_then h.crossings o e (world_of q s')))
            (ask k.question (o' ++ bytes_to Output k.crossings) (e' ++ bytes_to Error k.crossings)
            there.0) (h.goes o e) there.1)),
      );
}
stops_after q world p left s s' b b' b'' (by_sink stream) h k = record {
  crossings = h.crossings ++ k.crossings;
  tells = tells_then b b' b'' h.crossings k.crossings h.tells k.tells;
  fails = sink_fails_then b b' b'' stream h.stands k.fails;
  goes = λ o e.
      let o' : List ℕ = o ++ bytes_to Output h.crossings in
      let e' : List ℕ = e ++ bytes_to Error h.crossings in
      let there = k.goes o' e' in (
        there.0,
        over-append o e h.crossings k.crossings (p (sent o e (world_of q s)))
            (left (sent_then h.crossings o e (world_of q s'))) there.0 (h.goes o e) there.1,
        subst (λ x. AreFrontsOf world x (e ++ bytes_to Error (h.crossings ++ k.crossings))
            (over [] there.0))
            (sym (bytes_behind Output o h.crossings k.crossings))
            (subst (λ y. AreFrontsOf world (o' ++ bytes_to Output k.crossings) y (over [] there.0))
            (sym (bytes_behind Error e h.crossings k.crossings)) there.2),
      );
}

-- What follows a play sends its bytes behind those that were sent.
abbrev pub SendsBehind : {A B : Type 0} → (A → World) → (B → World) → (A → Play B) → Type 0
SendsBehind world next_world next = (o e : List ℕ) (a : _) → IsFront o (world a).output
    → IsFront e (world a).error → AreFrontsOf next_world o e (over [] (next a))

fronts_before : {A B : Type 0} (world : A → World) (next_world : B → World) (next : A → Play B)
    → SendsBehind world next_world next → (o e : List ℕ) (left : Play A)
    → AreFrontsOf world o e (over [] left) → AreFrontsOf next_world o e (over [] (left >>= next))
fronts_before world next_world next behind o e (done a) h = behind o e a h.0 h.1
fronts_before world next_world next behind o e (ask question output error after) h = h

-- before another play
pub stops_before : {A B : Type 0} (q : ℕ) (world : A → World) (next_world : B → World)
    (p : World → Play A) (next : A → Play B) (s : State) (b b' : BorderState)
    → SendsBehind world next_world next → (by : Stopper) → StopsIn q world p by s b b'
    → StopsIn q next_world (λ w. p w >>= next) by s b b'
stops_before q world next_world p next s b b' behind (by_shim why) k = record {
  crossings = k.crossings;
  tells = k.tells;
  fails = k.fails;
  question = k.question;
  running = k.running;
  asked = k.asked;
  goes = λ o e. let there = k.goes o e in (
    (λ answer. there.0 answer >>= next),
    over-then o e k.crossings (p (sent o e (world_of q s)))
        (ask k.question (o ++ bytes_to Output k.crossings) (e ++ bytes_to Error k.crossings)
        there.0) next there.1,
  );
}
stops_before q world next_world p next s b b' behind (by_sink stream) k = record {
  crossings = k.crossings;
  tells = k.tells;
  fails = k.fails;
  goes = λ o e. let there = k.goes o e in (
    there.0 >>= next,
    over-then o e k.crossings (p (sent o e (world_of q s))) there.0 next there.1,
    fronts_before world next_world next behind (o ++ bytes_to Output k.crossings)
        (e ++ bytes_to Error k.crossings) there.0 there.2,
  );
}

-- ---- calls

-- after a play that went on
pub plays_after : {T A : Type 0} (q : ℕ) (world : A → World) (p between : World → Play A)
    (left : T → World → Play A) (result : Result T RunStop) (s s' s'' : State)
    (b b' b'' : BorderState) → PlaysOn q p s b between s' b'
    → Plays q world between left result s' b' s'' b'' → Plays q world p left result s b s'' b''
plays_after q world p between left result s s' s'' b b' b'' h k = record {
  goes = IfOk-weaker result _ _ (λ x. plays_and q p between (left x) s s' s'' b b' b'' h) k.goes;
  stops = IfErr-weaker result _ _
      (λ stop. stops_after q world p between s s' b b' b'' (stopper stop) h) k.stops;
}

-- from the same play
pub plays_from : {T A : Type 0} (q : ℕ) (world : A → World) (p same : World → Play A)
    (left : T → World → Play A) (result : Result T RunStop) (s s' : State) (b b' : BorderState)
    → ((o e : List ℕ) → p (sent o e (world_of q s)) ≡ same (sent o e (world_of q s)))
    → Plays q world same left result s b s' b' → Plays q world p left result s b s' b'
plays_from q world p same left result s s' b b' is k =
    plays_after q world p same left result s s s' b b b' (plays_still q p same s s b is) k

-- before another play
pub plays_before : {T A B : Type 0} (q : ℕ) (world : A → World) (next_world : B → World)
    (p : World → Play A) (next : A → Play B) (left : T → World → Play A) (result : Result T RunStop)
    (s s' : State) (b b' : BorderState) → SendsBehind world next_world next
    → Plays q world p left result s b s' b'
    → Plays q next_world (λ w. p w >>= next) (λ x w. left x w >>= next) result s b s' b'
plays_before q world next_world p next left result s s' b b' behind k = record {
  goes = IfOk-weaker result _ _ (λ x. plays_behind q p (left x) next s s' b b') k.goes;
  stops = IfErr-weaker result _ _
      (λ stop. stops_before q world next_world p next s b b' behind (stopper stop)) k.stops;
}

-- ---- services

-- what has come to a question asks it
first_asked : {A : Type 0} (p : Play A) (question : Question) (o e : List ℕ)
    → over [] p ≡ asks question o e → (next : Answer → Play A) × (p ≡ ask question o e next)
first_asked {A} (done a) question o e h = absurd (gives≢asks h)
  where
    gives≢asks : ◌≡◌ {A = Outcome A} (gives a []) (asks question o e) → ⊥
    gives≢asks x = cc
first_asked {A} (ask asked output error next) question o e h = (next, same h)
  where
    same : ◌≡◌ {A = Outcome A} (asks asked output error) (asks question o e)
        → ask asked output error next ≡ ask question o e next
    same x =
        let first : asked ≡ question = cc in
        let out : output ≡ o = cc in
        let err : error ≡ e = cc in
        ap (λ y. ask y output error next) first ∙ ap (λ y. ask question y error next) out
        ∙ ap (λ y. ask question o y next) err

front_cut : (k : ℕ) (bytes : List ℕ) → IsFront (take k bytes ++ []) bytes
front_cut k bytes = subst (λ front. IsFront front bytes) (sym (append-nil (take k bytes)))
    (drop k bytes, sym (take-append-drop k bytes))

-- fronts of what is sent, where a front of the last piece was put
fronts_put : (stream : Stream) (k : ℕ) (bytes o e : List ℕ) (w : World)
    → AreFrontsOf world_served (o ++ bytes_to Output (put stream (take k bytes) ∷ []))
    (e ++ bytes_to Error (put stream (take k bytes) ∷ []))
    (gives (went (with_more stream bytes (sent o e w))) [])
fronts_put Output k bytes o e w =
    (front-behind o (take k bytes ++ []) bytes (front_cut k bytes), front-nothing e)
fronts_put Error k bytes o e w =
    (front-nothing o, front-behind e (take k bytes ++ []) bytes (front_cut k bytes))

once_stops : (q : ℕ) (play : World → Play FlatServed) (s s' : State) (b b' : BorderState)
    (by : Stopper) → StopsBy by play s b s' b' → StopsIn q world_served play by s b b'
once_stops q play s s' b b' (by_shim why) h = record {
  crossings = [];
  tells = record {
    exchanges = h.stopped.shim.told ∙ sym (append-nil b.shim.told);
    bytes = λ stream. h.stopped.told stream ∙ grown-nothing (told_of stream b);
  };
  fails = record {
    stops = h.stopped.shim.stops;
    last = h.stopped.shim.last;
    faults = h.stopped.faults;
  };
  question = h.question;
  running = h.running;
  asked = h.stopped.shim.asked;
  goes = λ o e.
      let there = first_asked (play (sent o e (world_of q s))) h.question o e (h.asks q o e) in (
        there.0,
        there.1 ∙ ap₂ (λ x y. ask h.question x y there.0) (sym (append-nil o))
            (sym (append-nil e)),
      );
}
once_stops q play s s' b b' (by_sink stream) h = record {
  crossings = put stream (take h.breaks.front.0 h.bytes) ∷ [];
  tells = h.breaks.front.1;
  fails = h.breaks.fails;
  goes = λ o e. (
    play (sent o e (world_of q s)),
    refl,
    subst (AreFrontsOf world_served
        (o ++ bytes_to Output (put stream (take h.breaks.front.0 h.bytes) ∷ []))
        (e ++ bytes_to Error (put stream (take h.breaks.front.0 h.bytes) ∷ [])))
        (sym (h.goes q o e))
        (fronts_put stream h.breaks.front.0 h.bytes o e
        (world_of q (record s' { table = h.table }))),
  );
}

-- a call of a service plays it
pub once_plays : (q : ℕ) (play : World → Play FlatServed) (result : Result Served RunStop)
    (s s' : State) (b b' : BorderState) → PlaysOnce play result s b s' b'
    → Plays q world_served play (λ way w. done (way_in way w)) result s b s' b'
once_plays q play result s s' b b' h = record {
  goes = IfOk-weaker result _ _
      (λ way k. record {
        crossings = k.crossings;
        tells = k.tells;
        stands = k.stands;
        running = k.running;
        goes = k.goes q;
      }) h.ends;
  stops = IfErr-weaker result _ _ (λ stop. once_stops q play s s' b b' (stopper stop)) h.stops;
}
