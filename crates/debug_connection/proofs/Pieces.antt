-- Bytes and events in pieces.
use Rattle.std.proofs.Common.{ℕ, ◌≡◌, refl, sym, ap, ◌∙◌, List, [], ◌∷◌, ◌++◌, append_assoc}
use Rattle.gdb_packets.specs.Framing.{Framing, events_from, framing_begun, framing_behind}
use Rattle.gdb_packets.specs.Framing.{framing_step}
use Rattle.gdb_packets.specs.declared.framing.Event.{Event}
use Rattle.gdb_packets.proofs.StreamLaws.{pieces_are_one}
use Rattle.debug_session.specs.Connections.{Connection, hears, opening_connection, puts_by}
use Rattle.debug_connection.specs.Keeping.{all_of}
use Rattle.debug_connection.specs.Speaking.{behind_events, behind_bytes, bytes_put}
use Rattle.debug_connection.specs.Pieces.{FrontsArePut, PiecesArePutAlike}
use Rattle.debug_connection.specs.Pieces.{PiecesAreHeardAlike}
use Rattle.debug_connection.proofs.Fronts.{all_of-append}

events_behind : (c : Connection) (xs ys : List (Event × List ℕ))
    → behind_events c (xs ++ ys) ≡ behind_events (behind_events c xs) ys
events_behind c [] ys = refl
events_behind c (x ∷ xs) ys = events_behind (hears c x).0 xs ys

events_put : (c : Connection) (xs ys : List (Event × List ℕ))
    → puts_by c (xs ++ ys) ≡ puts_by c xs ++ puts_by (behind_events c xs) ys
events_put c [] ys = refl
events_put c (x ∷ xs) ys =
    ap (λ (l : List (List ℕ)). (hears c x).1 ++ l) (events_put (hears c x).0 xs ys)
    ∙ sym (append_assoc (hears c x).1 (puts_by (hears c x).0 xs)
    (puts_by (behind_events (hears c x).0 xs) ys))

pub framing_on : (f : Framing) (xs ys : List ℕ)
    → framing_behind f (xs ++ ys) ≡ framing_behind (framing_behind f xs) ys
framing_on f [] ys = refl
framing_on f (x ∷ xs) ys = framing_on (framing_step f x).0 xs ys

pub put_alike : PiecesArePutAlike
put_alike c f xs ys =
    ap (λ (es : List (Event × List ℕ)). all_of (puts_by c es)) (pieces_are_one f xs ys)
    ∙ ap all_of (events_put c (events_from f xs) (events_from (framing_behind f xs) ys))
    ∙ all_of-append (puts_by c (events_from f xs))
    (puts_by (behind_bytes c f xs) (events_from (framing_behind f xs) ys))

pub heard_alike : PiecesAreHeardAlike
heard_alike c f xs ys =
    ap (behind_events c) (pieces_are_one f xs ys)
    ∙ events_behind c (events_from f xs) (events_from (framing_behind f xs) ys)

pub fronts_put : FrontsArePut
fronts_put s input more = (
  bytes_put (behind_bytes (opening_connection s) framing_begun input)
      (framing_behind framing_begun input)
      more,
  put_alike (opening_connection s) framing_begun input more,
)
