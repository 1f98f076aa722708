-- What was said at an event.
use Rattle.std.proofs.Common.{ℕ, ◌≡◌, refl, sym, ap, ap₂, ◌∙◌, subst, List, [], ◌∷◌, ◌++◌}
use Rattle.std.proofs.Common.{Bool, true, false, ◌&&◌, not, Option, Ok, Err}
use Rattle.std.specs.Prelude.{map}
use Rattle.std.specs.Global.{Vec}
use Rattle.dos_io.specs.Outside.{grown, GrewByFront}
use Rattle.gdb_packets.specs.Framing.{frame}
use Rattle.gdb_packets.specs.Packets.{packet_from}
use Rattle.debug_session.specs.Answers.{answer_to}
use Rattle.debug_session.specs.Connections.{acknowledgement, answers_packet}
use Rattle.debug_session.specs.Connections.{ends_acknowledging, framed_replies, last_or}
use Rattle.debug_session.specs.Connections.{reply_text}
use Rattle.debug_session.specs.Resuming.{Reply}
use Rattle.debug_session.specs.Sessions.{Session}
use Rattle.debug_connection.specs.Keeping.{Wire, all_of, connection_of, texts_of}
use Rattle.debug_connection.specs.Speaking.{HasSpoken}
use Rattle.debug_connection.specs.declared.stops.HearStop.TheVariants.{SinkFault}

-- ---- the last packet

last_behind : (other : List ℕ) (vs : List (Vec ℕ)) (v : Vec ℕ)
    → last_or other (texts_of (vs ++ v ∷ [])) ≡ v.items
last_behind other [] v = refl
last_behind other (w ∷ vs) v = last_behind w.items vs v

pub last_is : (other : List ℕ) (all vs : List (Vec ℕ)) (v : Vec ℕ) → all ≡ vs ++ v ∷ []
    → v.items ≡ last_or other (texts_of all)
last_is other all vs v is =
    sym (ap (λ (l : List (Vec ℕ)). last_or other (texts_of l)) is ∙ last_behind other vs v)

-- ---- an answer

framed_again : (replies : List Reply) → map frame (map reply_text replies) ≡ framed_replies replies
framed_again [] = refl
framed_again (r ∷ replies) =
    ap (λ (l : List (List ℕ)). frame (reply_text r) ∷ l) (framed_again replies)

pub frames_are : (said : List Reply) (replies frames : List (Vec ℕ))
    → texts_of replies ≡ map reply_text said → texts_of frames ≡ map frame (texts_of replies)
    → texts_of frames ≡ framed_replies said
frames_are said replies frames are framed = framed ∙ ap (map frame) are ∙ framed_again said

pub answer_spoken : (shows : Session → Type 0) (kept kept' : Wire) (s : Session) (a : Bool)
    (text : List ℕ) (frames : List (Vec ℕ)) (out out' : Option (List ℕ))
    → shows (answer_to s text).0 → texts_of frames ≡ framed_replies (answer_to s text).1
    → kept'.is_acknowledging
    ≡ kept.is_acknowledging && not (ends_acknowledging (packet_from text))
    → kept'.last ≡ last_or kept.last (texts_of frames)
    → out' ≡ grown out (all_of (acknowledgement a ++ texts_of frames))
    → HasSpoken shows kept' (Ok tt) (answers_packet (connection_of kept s) a text) out out'
answer_spoken shows kept kept' s a text frames out out' shown are is_on last told = (
  (
    shown,
    ap₂ (λ (b : Bool) (l : List ℕ). record {
      session = (answer_to s text).0;
      is_acknowledging = b;
      last = l;
    }) is_on (last ∙ ap (last_or kept.last) are),
  ),
  told ∙ ap (λ (l : List (List ℕ)). grown out (all_of (acknowledgement a ++ l))) are,
)

pub answer_front : (shows : Session → Type 0) (kept kept' : Wire) (s : Session) (a : Bool)
    (text : List ℕ) (frames : List (Vec ℕ)) (out out' : Option (List ℕ))
    → texts_of frames ≡ framed_replies (answer_to s text).1
    → GrewByFront out out' (all_of (acknowledgement a ++ texts_of frames))
    → HasSpoken shows kept' (Err SinkFault) (answers_packet (connection_of kept s) a text) out out'
answer_front shows kept kept' s a text frames out out' are front = (
  tt,
  subst (λ (l : List (List ℕ)). GrewByFront out out' (all_of (acknowledgement a ++ l))) are front,
)

-- ---- whether packets are acknowledged on

pub on_still : (now inside joined is asked ends : Bool) → inside ≡ now → inside ≡ true
    → is ≡ joined → joined ≡ not asked → asked ≡ ends → is ≡ now && not ends
on_still now inside joined is asked ends same on kept join asks =
    let was : now ≡ true = sym same ∙ on in rw was (kept ∙ join ∙ ap not asks)

pub on_over : (now inside joined is ends : Bool) → inside ≡ now → inside ≡ false → is ≡ joined
    → joined ≡ inside → is ≡ now && not ends
on_over now inside joined is ends same on kept join =
    let was : now ≡ false = sym same ∙ on in rw was (kept ∙ join ∙ on)
