-- Bytes heard one by one.
use Rattle.std.proofs.Common.{ℕ, ◌≡◌, ◌<◌, ◌+◌, sym, ap, ◌∙◌, subst, List, [], ◌∷◌, ◌++◌}
use Rattle.std.proofs.Common.{Option, Ok, Err, take, drop, get_or, length}
use Rattle.std.proofs.lemmas.List.{drop_more, take-append-drop}
use Rattle.dos_io.specs.Outside.{grown}
use Rattle.dos_io.proofs.OutsideLaws.{grown_more}
use Rattle.gdb_packets.specs.Framing.{Framing, framing_behind}
use Rattle.debug_session.specs.Connections.{Connection}
use Rattle.debug_session.specs.Sessions.{Session}
use Rattle.debug_connection.specs.Keeping.{Wire, connection_of}
use Rattle.debug_connection.specs.Speaking.{HasHeard, HasSpoken, behind_bytes, bytes_put}
use Rattle.debug_connection.specs.Speaking.{byte_spoken}
use Rattle.debug_connection.specs.declared.stops.HearStop.{HearStop}
use Rattle.debug_connection.specs.declared.stops.HearStop.TheVariants.{SinkFault, Memory}
use Rattle.debug_connection.proofs.Fronts.{front_of_whole}
use Rattle.debug_connection.proofs.Pieces.{framing_on, heard_alike, put_alike}

pub heard_more : (shows shows' : Session → Type 0) (kept kept' : Wire) (c : Connection)
    (f f' : Framing) (xs : List ℕ) (b : ℕ) (all : List ℕ) (out now after : Option (List ℕ))
    → all ≡ xs ++ b ∷ [] → f' ≡ framing_behind f xs → HasHeard shows kept (Ok tt) c f xs out now
    → ((s : Session) → shows s
    → HasSpoken shows' kept' (Ok tt) (byte_spoken (connection_of kept s) f' b) now after)
    → HasHeard shows' kept' (Ok tt) c f all out after
heard_more shows shows' kept kept' c f f' xs b all out now after are at heard spoken =
    let d : Connection = behind_bytes c f xs in
    let said : HasSpoken shows' kept' (Ok tt) (byte_spoken d (framing_behind f xs) b) now after =
    subst (λ (g : Framing). HasSpoken shows' kept' (Ok tt) (byte_spoken d g b) now after) at
    (subst (λ (e : Connection). HasSpoken shows' kept' (Ok tt) (byte_spoken e f' b) now after)
    heard.0.1 (spoken d.session heard.0.0)) in (
      subst (λ (e : Connection). shows' e.session × (connection_of kept' e.session ≡ e))
          (sym (ap (behind_bytes c f) are ∙ heard_alike c f xs (b ∷ []))) said.0,
      grown_more out now after (bytes_put c f xs) (bytes_put d (framing_behind f xs) (b ∷ []))
          heard.1 said.1
          ∙ ap (grown out) (sym (ap (bytes_put c f) are ∙ put_alike c f xs (b ∷ []))),
    )

-- of all bytes, the first, one more and the others
put_split : (c : Connection) (f : Framing) (bytes : List ℕ) (i : ℕ) → i < length bytes
    → bytes_put c f bytes
    ≡ bytes_put c f (take i bytes)
    ++ (bytes_put (behind_bytes c f (take i bytes)) (framing_behind f (take i bytes))
    (get_or bytes i 0 ∷ [])
    ++ bytes_put
    (behind_bytes (behind_bytes c f (take i bytes)) (framing_behind f (take i bytes))
    (get_or bytes i 0 ∷ []))
    (framing_behind (framing_behind f (take i bytes)) (get_or bytes i 0 ∷ []))
    (drop (i + 1) bytes))
put_split c f bytes i within =
    let xs : List ℕ = take i bytes in
    let ys : List ℕ = drop (i + 1) bytes in
    let b : ℕ = get_or bytes i 0 in
    ap (bytes_put c f) (sym (take-append-drop i bytes)
    ∙ ap (λ (l : List ℕ). xs ++ l) (drop_more bytes i 0 within))
    ∙ put_alike c f xs (b ∷ ys)
    ∙ ap (λ (l : List ℕ). bytes_put c f xs ++ l)
    (put_alike (behind_bytes c f xs) (framing_behind f xs) (b ∷ []) ys)

pub heard_stop : (shows shows' : Session → Type 0) (kept kept' : Wire) (c : Connection)
    (f f' : Framing) (bytes : List ℕ) (i : ℕ) (stop : HearStop)
    (out now after : Option (List ℕ)) → i < length bytes
    → f' ≡ framing_behind f (take i bytes)
    → HasHeard shows kept (Ok tt) c f (take i bytes) out now
    → ((s : Session) → shows s → HasSpoken shows' kept' (Err stop)
    (byte_spoken (connection_of kept s) f' (get_or bytes i 0)) now after)
    → HasHeard shows' kept' (Err stop) c f bytes out after
heard_stop shows shows' kept kept' c f f' bytes i SinkFault out now after within at heard spoken =
    let d : Connection = behind_bytes c f (take i bytes) in
    let g : Framing = framing_behind f (take i bytes) in
    let b : ℕ = get_or bytes i 0 in
    let said : HasSpoken shows' kept' (Err SinkFault) (byte_spoken d g b) now after =
    subst (λ (h : Framing). HasSpoken shows' kept' (Err SinkFault) (byte_spoken d h b) now after) at
    (subst (λ (e : Connection). HasSpoken shows' kept' (Err SinkFault) (byte_spoken e f' b) now
    after) heard.0.1 (spoken d.session heard.0.0)) in
    front_of_whole out now after (bytes_put c f (take i bytes)) (bytes_put d g (b ∷ []))
    (bytes_put (behind_bytes d g (b ∷ [])) (framing_behind g (b ∷ [])) (drop (i + 1) bytes))
    (bytes_put c f bytes) heard.1 said.1 (put_split c f bytes i within)
heard_stop shows shows' kept kept' c f f' bytes i Memory out now after within at heard spoken =
    let d : Connection = behind_bytes c f (take i bytes) in
    (i, (spoken d.session heard.0.0).1 ∙ heard.1)

pub framing_more : (f g h : Framing) (xs : List ℕ) (b : ℕ) (all : List ℕ) → all ≡ xs ++ b ∷ []
    → g ≡ framing_behind f xs → h ≡ framing_behind g (b ∷ []) → h ≡ framing_behind f all
framing_more f g h xs b all are at step =
    step ∙ ap (λ (k : Framing). framing_behind k (b ∷ [])) at
    ∙ sym (framing_on f xs (b ∷ [])) ∙ ap (framing_behind f) (sym are)
