-- Laws of the plays of services.
use Rattle.std.proofs.Common.{◌≡◌, ℕ, List, [], ◌∷◌, ◌++◌, map, Some, refl, sym, ap, ap₂}
use Rattle.std.proofs.Common.{◌∙◌, subst, append-nil}
use Rattle.std.specs.Prelude.{Result, Ok, Err}
use Rattle.std.proofs.lemmas.List.Elements.{All-nil, All-cons}
use Rattle.std.proofs.lemmas.Result.{IfErr-weaker, IfOk-weaker}
use Rattle.dos_world.specs.World.{World}
use Rattle.dos_world.specs.Play.{Play, Answer, done, ask, over, gives, asks}
use Rattle.dos_world.specs.Services.{Served as FlatServed, went}
use Rattle.dos_world.specs.declared.Question.{Question}
use Rattle.dos_io.specs.Borders.{BorderState, BorderStands, BreaksAt, Crosses, Crossing, StopsAt}
use Rattle.dos_io.specs.Borders.{Tells, exchanged, exchanges_of, going_to, put, told_of}
use Rattle.dos_io.specs.Exchanges.{answer_of, question_of}
use Rattle.dos_io.specs.Shims.{HasNoEnd}
use Rattle.dos_io.specs.declared.border.Stream.{Stream}
use Rattle.dos_io.specs.declared.border.Stream.TheVariants.{Output, Error}
use Rattle.dos_io.specs.declared.exchange.Exchange.{Exchange}
use Rattle.dos_io.specs.declared.shim.ShimStop.{ShimStop}
use Rattle.dos_io.proofs.OutsideLaws.{grown-nothing}
use Rattle.dos_laws.specs.Standing.{IsFit}
use Rattle.proc_table.specs.Tables.{Tables}
use Rattle.kernel_calls.specs.StateWorld.{sent, shim_stop, way_in, world_of}
use Rattle.kernel_calls.specs.Plays.{Answers, GoesOver, IsBeforeEnd, PlaysOnce}
use Rattle.kernel_calls.specs.Plays.{StopsBy, Stopper, by_shim, by_sink, sent_then, stopper}
use Rattle.kernel_calls.specs.Plays.{with_more}
use Rattle.kernel_calls.specs.declared.state.State.{State}
use Rattle.kernel_calls.specs.declared.state.Served.{Served}
use Rattle.kernel_calls.specs.declared.state.Served.TheVariants.{Went}
use Rattle.kernel_calls.specs.declared.state.RunStop.{RunStop}
use Rattle.kernel_calls.specs.declared.state.RunStop.TheVariants.{HostFault, LogFull, Misfit}
use Rattle.kernel_calls.specs.declared.state.RunStop.TheVariants.{OutFault, ErrFault, Memory}

-- ---- what a play comes to over its crossings

pub goes-over : {A : Type 0} (o e : List ℕ) (cs : List Crossing) (play : Play A) (a : A)
    → GoesOver o e cs play (done a) → over (map answer_of (exchanges_of cs)) play ≡ gives a []
goes-over o e [] play a h = ap (over []) h
goes-over o e (exchanged x ∷ cs) (done b) a h = absurd h
goes-over o e (exchanged x ∷ cs) (ask question output error next) a h =
    goes-over o e cs (next (answer_of x)) a h.3
goes-over o e (put stream bytes ∷ cs) play a h =
    goes-over (o ++ going_to Output stream bytes) (e ++ going_to Error stream bytes) cs play a h

-- ---- where nothing crosses

pub tells_nothing : (b : BorderState) → Tells b [] b
tells_nothing b = record {
  exchanges = sym (append-nil b.shim.told);
  bytes = λ stream. grown-nothing (told_of stream b);
}

pub stands_still : (b : BorderState) → BorderStands b b
stands_still b = record { shim = record { stops = refl; last = refl }; faults = λ stream. refl }

-- nor is anything sent
pub unsent : (way : Served) (q : ℕ) (o e : List ℕ) (new : State)
    → done (way_in way (sent o e (world_of q new)))
    ≡ done (way_in way (sent_then [] o e (world_of q new)))
unsent way q o e new = ap₂ (λ x y. done (way_in way (sent x y (world_of q new))))
    (sym (append-nil o)) (sym (append-nil e))

pub answers_quietly : (play : World → Play FlatServed) (s : State) (way : Served) (new : State)
    (b : BorderState)
    → ((q : ℕ) (o e : List ℕ) → play (sent o e (world_of q s))
    ≡ done (way_in way (sent o e (world_of q new))))
    → Answers play s b way new b
answers_quietly play s way new b goes = record {
  crossings = [];
  tells = tells_nothing b;
  stands = stands_still b;
  fits = All-nil IsFit;
  running = tt;
  goes = λ q o e. goes q o e ∙ unsent way q o e new;
}

pub plays_quietly : (play : World → Play FlatServed) (s : State) (way : Served) (new : State)
    (b : BorderState)
    → ((q : ℕ) (o e : List ℕ) → play (sent o e (world_of q s))
    ≡ done (way_in way (sent o e (world_of q new))))
    → PlaysOnce play (Ok way) s b new b
plays_quietly play s way new b goes =
    record { ends = answers_quietly play s way new b goes; stops = tt }

-- ---- where bytes are put

put_so : (stream : Stream) (bytes : List ℕ) (q : ℕ) (o e : List ℕ) (new : State)
    → done (went (with_more stream bytes (sent o e (world_of q new))))
    ≡ done (went (sent_then (put stream bytes ∷ []) o e (world_of q new)))
put_so Output bytes q o e new = ap₂ (λ x y. done (went (sent (o ++ x) y (world_of q new))))
    (sym (append-nil bytes)) (sym (append-nil e))
put_so Error bytes q o e new = ap₂ (λ x y. done (went (sent x (e ++ y) (world_of q new))))
    (sym (append-nil o)) (sym (append-nil bytes))

pub plays_put : (play : World → Play FlatServed) (stream : Stream) (bytes : List ℕ) (s new : State)
    (before after : BorderState)
    → ((q : ℕ) (o e : List ℕ) → play (sent o e (world_of q s))
    ≡ done (went (with_more stream bytes (sent o e (world_of q new)))))
    → Crosses before (put stream bytes) after → PlaysOnce play (Ok Went) s before new after
plays_put play stream bytes s new before after goes crosses = record {
  ends = record {
    crossings = put stream bytes ∷ [];
    tells = crosses.tells;
    stands = crosses.stands;
    fits = All-nil IsFit;
    running = tt;
    goes = λ q o e. goes q o e ∙ put_so stream bytes q o e new;
  };
  stops = tt;
}

-- or not all of them
pub plays_broken : (play : World → Play FlatServed) (stream : Stream) (bytes : List ℕ)
    (s m : State) (table : Tables) (stop : RunStop) (before after : BorderState)
    → ((q : ℕ) (o e : List ℕ) → play (sent o e (world_of q s))
    ≡ done (went (with_more stream bytes (sent o e (world_of q (record m { table = table }))))))
    → BreaksAt before stream bytes after → stopper stop ≡ by_sink stream
    → PlaysOnce play (Err stop) s before m after
plays_broken play stream bytes s m table stop before after goes breaks is = record {
  ends = tt;
  stops = subst (λ by. StopsBy by play s before m after) (sym is) (record {
    bytes = bytes;
    breaks = breaks;
    table = table;
    goes = λ q o e. ap (over []) (goes q o e);
  });
}

-- ---- where the shim is asked

-- and answers
pub plays_asked : (play : World → Play FlatServed) (x : Exchange) (s new : State)
    (before after : BorderState) (next : ℕ → List ℕ → List ℕ → Answer → Play FlatServed)
    → ((q : ℕ) (o e : List ℕ) → play (sent o e (world_of q s))
    ≡ ask (question_of x) o e (next q o e))
    → ((q : ℕ) (o e : List ℕ) → next q o e (answer_of x)
    ≡ done (went (sent o e (world_of q new))))
    → IsFit (answer_of x) → HasNoEnd (x ∷ []) → Crosses before (exchanged x) after
    → PlaysOnce play (Ok Went) s before new after
plays_asked play x s new before after next first goes fit running crosses = record {
  ends = record {
    crossings = exchanged x ∷ [];
    tells = crosses.tells;
    stands = crosses.stands;
    fits = All-cons IsFit (answer_of x) [] fit (All-nil IsFit);
    running = running;
    goes = λ q o e.
        subst (λ (p : Play FlatServed). GoesOver o e (exchanged x ∷ []) p
        (done (went (sent_then (exchanged x ∷ []) o e (world_of q new)))))
        (sym (first q o e)) (refl, refl, refl, goes q o e ∙ unsent Went q o e new);
  };
  stops = tt;
}

-- a stop of the shim's is by the shim
pub stopped_by : (stop : RunStop) (why : ShimStop) → shim_stop stop ≡ Some why
    → stopper stop ≡ by_shim why
stopped_by HostFault why is = let same : _ ≡ why = cc in ap by_shim same
stopped_by LogFull why is = let same : _ ≡ why = cc in ap by_shim same
stopped_by (Misfit m) why is = let same : _ ≡ why = cc in ap by_shim same
stopped_by Memory why is = let same : _ ≡ why = cc in ap by_shim same
stopped_by OutFault why is = absurd (cc)
stopped_by ErrFault why is = absurd (cc)

-- or stops
pub plays_stopped : (play : World → Play FlatServed) (question : Question) (s new : State)
    (stop : RunStop) (why : ShimStop) (before after : BorderState) → IsBeforeEnd question
    → ((q : ℕ) (o e : List ℕ) → over [] (play (sent o e (world_of q s))) ≡ asks question o e)
    → shim_stop stop ≡ Some why → StopsAt before question why after
    → PlaysOnce play (Err stop) s before new after
plays_stopped play question s new stop why before after running first is stopped = record {
  ends = tt;
  stops = subst (λ by. StopsBy by play s before new after) (sym (stopped_by stop why is)) (record {
    question = question;
    running = running;
    asks = first;
    stopped = stopped;
  });
}

-- ---- another play that does from this state what one does from that

module _ (play same : World → Play FlatServed) (s s' : State)
    (is : (q : ℕ) (o e : List ℕ) → play (sent o e (world_of q s)) ≡ same (sent o e (world_of q s')))
    (before after : BorderState) where
  pub answers_as : (way : Served) (new : State) → Answers same s' before way new after
      → Answers play s before way new after
  answers_as way new h = record {
    crossings = h.crossings;
    tells = h.tells;
    stands = h.stands;
    fits = h.fits;
    running = h.running;
    goes = λ q o e.
        subst (λ (p : Play FlatServed). GoesOver o e h.crossings p
        (done (way_in way (sent_then h.crossings o e (world_of q new)))))
        (sym (is q o e)) (h.goes q o e);
  }

  stops_as : (by : Stopper) (new : State) → StopsBy by same s' before new after
      → StopsBy by play s before new after
  stops_as (by_shim stop) new h = record {
    question = h.question;
    running = h.running;
    asks = λ q o e. ap (over []) (is q o e) ∙ h.asks q o e;
    stopped = h.stopped;
  }
  stops_as (by_sink stream) new h = record {
    bytes = h.bytes;
    breaks = h.breaks;
    table = h.table;
    goes = λ q o e. ap (over []) (is q o e) ∙ h.goes q o e;
  }

  pub plays_as : (r : Result Served RunStop) (new : State) → PlaysOnce same r s' before new after
      → PlaysOnce play r s before new after
  plays_as r new h = record {
    ends = IfOk-weaker r _ _ (λ way. answers_as way new) h.ends;
    stops = IfErr-weaker r _ _ (λ stop. stops_as (stopper stop) new) h.stops;
  }
