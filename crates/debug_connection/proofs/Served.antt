-- A session served so far.
use Rattle.std.proofs.Common.{ℕ, zero, suc, ◌≡◌, ◌<◌, refl, sym, ap, ◌∙◌, subst, arith, cond}
use Rattle.std.proofs.Common.{Bool, true, false, List, [], ◌∷◌, ◌++◌, length, take, drop}
use Rattle.std.proofs.Common.{Option, Some, None, Ok, Err, append-nil, append_assoc}
use Rattle.std.specs.Prelude.{IfSome, ⊤}
use Rattle.std.proofs.Math.Dec.{leb}
use Rattle.std.proofs.lemmas.List.{take-append-drop}
use Rattle.dos_io.specs.Hosts.{Told, AreFilled, after_input, taken}
use Rattle.dos_io.specs.Outside.{grown}
use Rattle.dos_io.proofs.OutsideLaws.{grown-nothing, grown_more}
use Rattle.gdb_packets.specs.Framing.{Framing, framing_begun, framing_behind}
use Rattle.debug_session.specs.Connections.{Connection, opening_connection, session_puts}
use Rattle.debug_session.specs.Sessions.{Session}
use Rattle.debug_connection.specs.Keeping.{Wire, all_of, connection_of}
use Rattle.debug_connection.specs.Serving.{AreAllGiven, AreGiven, HasServed}
use Rattle.debug_connection.specs.Speaking.{HasHeard, IsConnected, behind_bytes, bytes_put}
use Rattle.debug_connection.specs.Stopping.{serve_stop}
use Rattle.debug_connection.specs.declared.stops.HearStop.{HearStop}
use Rattle.debug_connection.specs.declared.stops.HearStop.TheVariants.{SinkFault, Memory}
use Rattle.debug_connection.specs.declared.stops.ServeStop.TheVariants as serve
use Rattle.debug_connection.proofs.Fronts.{front_of_whole}
use Rattle.debug_connection.proofs.Pieces.{framing_on, heard_alike, put_alike}

-- ---- what a host gives

-- an answer, and pieces
abbrev Taken : Type 0
Taken = List ℕ × List (List ℕ)

-- the answer, and the pieces that are left
taken_split : (max : ℕ) (pieces : List (List ℕ))
    → all_of pieces ≡ (taken max pieces).0 ++ all_of (taken max pieces).1
taken_split max [] = refl
taken_split max (piece ∷ pieces) = go (leb (length piece) max)
  where
    go : (v : Bool) → piece ++ all_of pieces
        ≡ (cond {A = Taken} v (piece, pieces) (take max piece, drop max piece ∷ pieces)).0
        ++ all_of (cond {A = Taken} v (piece, pieces) (take max piece, drop max piece ∷ pieces)).1
    go true = refl
    go false =
        ap (λ (l : List ℕ). l ++ all_of pieces) (sym (take-append-drop max piece))
        ∙ append_assoc (take max piece) (drop max piece) (all_of pieces)

-- An empty answer means that none is left.
taken_end : (max : ℕ) (pieces : List (List ℕ)) → 0 < max → AreFilled pieces
    → [] ≡ (taken max pieces).0 → all_of pieces ≡ []
taken_end max [] some filled is = refl
taken_end max ([] ∷ pieces) some filled is = absurd filled
taken_end zero ((b ∷ bytes) ∷ pieces) some filled is = absurd (omega (arith, some))
taken_end (suc m) ((b ∷ bytes) ∷ pieces) some filled is =
    go (leb (length (b ∷ bytes)) (suc m)) is
  where
    go : (v : Bool) → [] ≡ (cond {A = Taken} v (b ∷ bytes, pieces)
        (take (suc m) (b ∷ bytes), drop (suc m) (b ∷ bytes) ∷ pieces)).0
        → all_of ((b ∷ bytes) ∷ pieces) ≡ []
    go true is = absurd cc
    go false is = absurd cc

-- What a host told is these bytes and what it tells now.
abbrev pub IsLeft : (input : List ℕ) → (before now : Option Told) → Type 0
IsLeft input None now = ⊤
IsLeft input (Some b) now =
    (n : Told) × (now ≡ Some n) × (all_of b.pieces ≡ input ++ all_of n.pieces)

left_begins : (told : Option Told) → IsLeft [] told told
left_begins None = tt
left_begins (Some b) = (b, refl, refl)

left_more : (input xs : List ℕ) (max : ℕ) (told now after : Option Told) → IsLeft input told now
    → IfSome now (λ t. xs ≡ (taken max t.pieces).0) → after ≡ after_input max now
    → IsLeft (input ++ xs) told after
left_more input xs max None now after left gave is = tt
left_more input xs max (Some b) now after left gave is =
    let n : Told = left.0 in
    let was : xs ≡ (taken max n.pieces).0 =
    subst (λ (o : Option Told). IfSome o (λ t. xs ≡ (taken max t.pieces).0)) left.1 gave in (
      record n { pieces = (taken max n.pieces).1 },
      is ∙ ap (after_input max) left.1,
      left.2 ∙ ap (λ (l : List ℕ). input ++ l) (taken_split max n.pieces)
          ∙ ap (λ (l : List ℕ). input ++ (l ++ all_of (taken max n.pieces).1)) (sym was)
          ∙ sym (append_assoc input xs (all_of (taken max n.pieces).1)),
    )

left_given : (input : List ℕ) (told now : Option Told) → IsLeft input told now
    → AreGiven input told
left_given input None now left = tt
left_given input (Some b) now left = (all_of left.0.pieces, left.2)

-- the front of a front
given_less : (short rest input : List ℕ) (told : Option Told) → input ≡ short ++ rest
    → AreGiven input told → AreGiven short told
given_less short rest input None is given = tt
given_less short rest input (Some b) is given = (
  rest ++ given.0,
  given.1 ∙ ap (λ (l : List ℕ). l ++ given.0) is ∙ append_assoc short rest given.0,
)

left_all : (input : List ℕ) (max : ℕ) (told now : Option Told) → 0 < max
    → IfSome now (λ t. AreFilled t.pieces) → IsLeft input told now
    → IfSome now (λ t. [] ≡ (taken max t.pieces).0) → AreAllGiven input told
left_all input max None now some filled left gave = tt
left_all input max (Some b) now some filled left gave =
    let n : Told = left.0 in
    left.2
    ∙ ap (λ (l : List ℕ). input ++ l)
    (taken_end max n.pieces some
    (subst (λ (o : Option Told). IfSome o (λ t. AreFilled t.pieces)) left.1 filled)
    (subst (λ (o : Option Told). IfSome o (λ t. [] ≡ (taken max t.pieces).0)) left.1 gave))
    ∙ append-nil input

-- ---- what was served so far

-- The input so far; what the host has left; where the reading stands; the session that is shown;
-- and what was put.
pub record Serving (shows : Session → Type 0) (kept : Wire) (f : Framing) (s : Session)
    (told now : Option Told) (out out_now : Option (List ℕ)) : Type 0 where
  pub input : List ℕ
  pub left : IsLeft input told now
  pub framing : f ≡ framing_behind framing_begun input
  pub stands : IsConnected shows kept (behind_bytes (opening_connection s) framing_begun input)
  pub put : out_now ≡ grown out (all_of (session_puts s input))

pub serving_begins : (shows : Session → Type 0) (kept : Wire) (f : Framing) (s : Session)
    (told : Option Told) (out : Option (List ℕ)) → f ≡ framing_begun
    → connection_of kept s ≡ opening_connection s → shows s
    → Serving shows kept f s told told out out
serving_begins shows kept f s told out begun is shown = record {
  input = [];
  left = left_begins told;
  framing = begun;
  stands = (shown, is);
  put = grown-nothing out;
}

-- what was heard, of the connection that stands
heard_there : (shows' : Session → Type 0) (kept kept' : Wire) (c : Connection) (f g : Framing)
    (xs : List ℕ) (now after : Option (List ℕ)) → connection_of kept c.session ≡ c → f ≡ g
    → HasHeard shows' kept' (Ok tt) (connection_of kept c.session) f xs now after
    → HasHeard shows' kept' (Ok tt) c g xs now after
heard_there shows' kept kept' c f g xs now after is at heard =
    subst (λ (h : Framing). HasHeard shows' kept' (Ok tt) c h xs now after) at
    (subst (λ (d : Connection). HasHeard shows' kept' (Ok tt) d f xs now after) is heard)

stopped_there : (shows' : Session → Type 0) (kept kept' : Wire) (stop : HearStop) (c : Connection)
    (f g : Framing) (xs : List ℕ) (now after : Option (List ℕ)) → connection_of kept c.session ≡ c
    → f ≡ g
    → HasHeard shows' kept' (Err stop) (connection_of kept c.session) f xs now after
    → HasHeard shows' kept' (Err stop) c g xs now after
stopped_there shows' kept kept' stop c f g xs now after is at heard =
    subst (λ (h : Framing). HasHeard shows' kept' (Err stop) c h xs now after) at
    (subst (λ (d : Connection). HasHeard shows' kept' (Err stop) d f xs now after) is heard)

pub serving_more : (shows shows' : Session → Type 0) (kept kept' : Wire) (f f' : Framing)
    (s : Session) (max : ℕ) (xs : List ℕ) (told now after : Option Told)
    (out out_now out_after : Option (List ℕ)) → Serving shows kept f s told now out out_now
    → IfSome now (λ t. xs ≡ (taken max t.pieces).0) → after ≡ after_input max now
    → f' ≡ framing_behind f xs
    → ((d : Session) → shows d
    → HasHeard shows' kept' (Ok tt) (connection_of kept d) f xs out_now out_after)
    → Serving shows' kept' f' s told after out out_after
serving_more shows shows' kept kept' f f' s max xs told now after out out_now out_after so gave is
    at hears =
    let c : Connection = opening_connection s in
    let d : Connection = behind_bytes c framing_begun so.input in
    let g : Framing = framing_behind framing_begun so.input in
    let heard : HasHeard shows' kept' (Ok tt) d g xs out_now out_after =
    heard_there shows' kept kept' d f g xs out_now out_after so.stands.1 so.framing
    (hears d.session so.stands.0) in
    record {
      input = so.input ++ xs;
      left = left_more so.input xs max told now after so.left gave is;
      framing = at ∙ ap (λ (h : Framing). framing_behind h xs) so.framing
          ∙ sym (framing_on framing_begun so.input xs);
      stands = subst (λ (e : Connection). IsConnected shows' kept' e)
          (sym (heard_alike c framing_begun so.input xs)) heard.0;
      put = grown_more out out_now out_after (bytes_put c framing_begun so.input) (bytes_put d g xs)
          so.put heard.1
          ∙ ap (grown out) (sym (put_alike c framing_begun so.input xs));
    }

-- ---- how it ends

pub served_whole : (shows : Session → Type 0) (kept : Wire) (f : Framing) (s : Session) (max : ℕ)
    (told now : Option Told) (out out_now : Option (List ℕ)) → 0 < max
    → IfSome now (λ t. AreFilled t.pieces) → Serving shows kept f s told now out out_now
    → IfSome now (λ t. [] ≡ (taken max t.pieces).0) → HasServed s (Ok tt) told out out_now
served_whole shows kept f s max told now out out_now some filled so gave =
    (so.input, left_all so.input max told now some filled so.left gave, so.put)

pub served_host : (shows : Session → Type 0) (kept : Wire) (f : Framing) (s : Session)
    (told now : Option Told) (out out_now : Option (List ℕ))
    → Serving shows kept f s told now out out_now
    → HasServed s (Err serve.HostFault) told out out_now
served_host shows kept f s told now out out_now so =
    (so.input, left_given so.input told now so.left, so.put)

pub served_memory : (shows : Session → Type 0) (kept : Wire) (f : Framing) (s : Session)
    (told now : Option Told) (out out_now : Option (List ℕ))
    → Serving shows kept f s told now out out_now
    → HasServed s (Err serve.Memory) told out out_now
served_memory shows kept f s told now out out_now so =
    (so.input, left_given so.input told now so.left, so.put)

pub served_stop : (shows shows' : Session → Type 0) (kept kept' : Wire) (f : Framing) (s : Session)
    (stop : HearStop) (max : ℕ) (xs : List ℕ) (told now after : Option Told)
    (out out_now out_after : Option (List ℕ)) → Serving shows kept f s told now out out_now
    → IfSome now (λ t. xs ≡ (taken max t.pieces).0) → after ≡ after_input max now
    → ((d : Session) → shows d
    → HasHeard shows' kept' (Err stop) (connection_of kept d) f xs out_now out_after)
    → HasServed s (Err (serve_stop stop)) told out out_after
served_stop shows shows' kept kept' f s SinkFault max xs told now after out out_now out_after so
    gave is hears =
    let c : Connection = opening_connection s in
    let d : Connection = behind_bytes c framing_begun so.input in
    let g : Framing = framing_behind framing_begun so.input in (
      so.input ++ xs,
      left_given (so.input ++ xs) told after
          (left_more so.input xs max told now after so.left gave is),
      front_of_whole out out_now out_after (bytes_put c framing_begun so.input)
          (bytes_put d g xs) [] (bytes_put c framing_begun (so.input ++ xs)) so.put
          (stopped_there shows' kept kept' SinkFault d f g xs out_now out_after so.stands.1
          so.framing (hears d.session so.stands.0))
          (put_alike c framing_begun so.input xs
          ∙ ap (λ (l : List ℕ). bytes_put c framing_begun so.input ++ l)
          (sym (append-nil (bytes_put d g xs)))),
    )
served_stop shows shows' kept kept' f s Memory max xs told now after out out_now out_after so
    gave is hears =
    let c : Connection = opening_connection s in
    let d : Connection = behind_bytes c framing_begun so.input in
    let g : Framing = framing_behind framing_begun so.input in
    let heard : HasHeard shows' kept' (Err Memory) d g xs out_now out_after =
    stopped_there shows' kept kept' Memory d f g xs out_now out_after so.stands.1 so.framing
    (hears d.session so.stands.0) in
    let ys : List ℕ = take heard.0 xs in (
      so.input ++ ys,
      given_less (so.input ++ ys) (drop heard.0 xs) (so.input ++ xs) told
          (ap (λ (l : List ℕ). so.input ++ l) (sym (take-append-drop heard.0 xs))
          ∙ sym (append_assoc so.input ys (drop heard.0 xs)))
          (left_given (so.input ++ xs) told after
          (left_more so.input xs max told now after so.left gave is)),
      grown_more out out_now out_after (bytes_put c framing_begun so.input) (bytes_put d g ys)
          so.put heard.1
          ∙ ap (grown out) (sym (put_alike c framing_begun so.input ys)),
    )
