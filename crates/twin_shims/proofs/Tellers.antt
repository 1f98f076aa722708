-- What a teller shows after an answer.
use Rattle.std.proofs.Common.{◌≡◌, ℕ, ◌≤◌, Bool, List, [], ◌∷◌, ◌++◌, Option, Some, None, refl}
use Rattle.std.proofs.Common.{sym, ap, subst, ◌∙◌, inl, inr}
use Rattle.std.proofs.lemmas.List.{append-nil}
use Rattle.atomic_table.specs.Seated.{TableId}
use Rattle.dos_world.specs.declared.Question.{Question}
use Rattle.dos_io.specs.declared.exchange.Exchange.{Exchange}
use Rattle.dos_io.specs.declared.exchange.ClockRule.TheVariants.{FromHost}
use Rattle.dos_io.specs.declared.shim.ShimStop.{ShimStop}
use Rattle.dos_io.specs.declared.shim.ShimStop.TheVariants.{HostFault}
use Rattle.dos_io.specs.Hosts.{Told}
use Rattle.dos_io.specs.Given.{Given}
use Rattle.dos_io.specs.Outside.{Rose}
use Rattle.dos_io.specs.Shims.{HasNoEnd}
use Rattle.dos_io.proofs.GivenLaws.{given_none}
use Rattle.twin_shims.specs.declared.note.Note.{Note}
use Rattle.twin_shims.specs.declared.note.Note.TheVariants.{Told as told_note}
use Rattle.twin_shims.specs.Notes.{exchanges_in, as_notes, closes, IsOpen}
use Rattle.twin_shims.specs.Leader.{TellerState, IsTeller, FollowsLeader, teller_told}
use Rattle.twin_shims.specs.Leader.{teller_stopped}
use Rattle.twin_shims.proofs.Lines.{exchanges_append, notes_append, open_from, line_goes}

pub teller_goes : (closed now : Bool) (pushed after : List Note) (last : Option ShimStop)
    (e : Exchange) → IsTeller closed pushed last → HasNoEnd (exchanges_in pushed)
    → now ≡ closes (told_note e) → after ≡ pushed ++ told_note e ∷ []
    → IsTeller now after last
teller_goes closed now pushed after last e is none closing more =
    subst (λ (x : List Note). IsTeller now x last) (sym more) (record {
      told_only = ap (λ (x : List Note). x ++ told_note e ∷ []) is.told_only
          ∙ sym (notes_append (exchanges_in pushed) (e ∷ []))
          ∙ ap as_notes (sym (exchanges_append pushed (told_note e ∷ [])));
      line = line_goes pushed (told_note e) now
          (subst IsOpen (sym is.told_only) (open_from (exchanges_in pushed) none)) closing;
      never = is.never;
    })

pub shows_told : (t : TellerState) (line now : TableId) (pushed after : List Note) (stops : ℕ)
    (last : Option ShimStop) (asked : Option Question) (e : Exchange) → record {
      line = line;
      told = exchanges_in pushed;
      stops = stops;
      last = last;
      asked = asked;
    } ≡ t → now ≡ line → after ≡ pushed ++ told_note e ∷ []
    → record {
      line = now;
      told = exchanges_in after;
      stops = stops;
      last = last;
      asked = None;
    } ≡ teller_told t e
shows_told t line now pushed after stops last asked e is same more =
    ap (λ (x : TableId). record {
      line = x;
      told = exchanges_in after;
      stops = stops;
      last = last;
      asked = None;
    }) same
    ∙ ap (λ (x : List Exchange). record {
      line = line;
      told = x;
      stops = stops;
      last = last;
      asked = None;
    }) (ap exchanges_in more ∙ exchanges_append pushed (told_note e ∷ []))
    ∙ ap (λ (x : TellerState). teller_told x e) is

abbrev the_stop : ShimStop → Option ShimStop
the_stop s = Some s

stop_is : (s u : ShimStop) → the_stop s ≡ the_stop u → s ≡ u
stop_is s u e = cc

pub stops_follow : (s t : TellerState) (q : Question) (stop : ShimStop) (a b : Option Told)
    (m n : ℕ) → t ≡ teller_stopped s q stop → b ≡ a → m ≤ n → (stop ≡ HostFault → Rose m n)
    → FollowsLeader s t a b m n
stops_follow s t q stop a b m n is told le rose =
    subst (λ (x : Option Told). FollowsLeader s t a x m n) (sym told)
    (subst (λ (x : TellerState). FollowsLeader s x a a m n) (sym is) (record {
      line_same = refl;
      more = [];
      told_is = sym (append-nil s.told);
      given = given_none [] FromHost 0 a;
      grows = le;
      cause = inr (λ e. rose (stop_is _ _ e));
    }))

pub tells_follow : (s t : TellerState) (e : Exchange) (a b : Option Told) (m n : ℕ)
    → t ≡ teller_told s e → m ≤ n → Given [] FromHost 0 a b (e ∷ []) → FollowsLeader s t a b m n
tells_follow s t e a b m n is le given =
    subst (λ (x : TellerState). FollowsLeader s x a b m n) (sym is) (record {
      line_same = refl;
      more = e ∷ [];
      told_is = refl;
      given = given;
      grows = le;
      cause = inl (refl, refl);
    })
