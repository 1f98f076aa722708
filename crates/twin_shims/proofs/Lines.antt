-- Notes that go over a line, one after another.
use Rattle.std.proofs.Common.{◌≡◌, Bool, true, false, true≢false, List, [], ◌∷◌, ◌++◌, refl}
use Rattle.std.proofs.Common.{sym, ap, ◌∙◌}
use Rattle.std.proofs.lemmas.List.{append-nil}
use Rattle.dos_io.specs.declared.exchange.Exchange.{Exchange}
use Rattle.dos_io.specs.declared.exchange.Exchange.TheVariants.{Signals, Input, Clock, End}
use Rattle.dos_io.specs.Shims.{HasNoEnd}
use Rattle.twin_shims.specs.declared.line.Hand.{Hand}
use Rattle.twin_shims.specs.declared.note.Note.{Note}
use Rattle.twin_shims.specs.declared.note.Note.TheVariants.{Told, Stopped}
use Rattle.twin_shims.specs.Notes.{exchanges_in, as_notes, closes, IsOpen, IsClosed, IsLine}
use Rattle.twin_shims.specs.Order.{hand, HasPushed, HasPopped}

pub exchanges_append : (xs ys : List Note)
    → exchanges_in (xs ++ ys) ≡ exchanges_in xs ++ exchanges_in ys
exchanges_append [] ys = refl
exchanges_append (Told e ∷ xs) ys = ap (λ (es : List Exchange). e ∷ es) (exchanges_append xs ys)
exchanges_append (Stopped ∷ xs) ys = exchanges_append xs ys

pub notes_append : (es fs : List Exchange) → as_notes (es ++ fs) ≡ as_notes es ++ as_notes fs
notes_append [] fs = refl
notes_append (e ∷ es) fs = ap (λ (xs : List Note). Told e ∷ xs) (notes_append es fs)

pub open_from : (es : List Exchange) → HasNoEnd es → IsOpen (as_notes es)
open_from [] none = tt
open_from (Signals round list ∷ es) none = (refl, open_from es none)
open_from (Input round tid max bytes ∷ es) none = (refl, open_from es none)
open_from (Clock round tid n ∷ es) none = (refl, open_from es none)
open_from (End ending rounds ∷ es) none = absurd none

open_push : (xs : List Note) (note : Note) → IsOpen xs → closes note ≡ false
    → IsOpen (xs ++ note ∷ [])
open_push [] note run not = (not, tt)
open_push (x ∷ xs) note run not = (run.0, open_push xs note run.1 not)

-- behind notes that leave it open, a note closes the line or leaves it open
pub line_goes : (xs : List Note) (note : Note) (closed : Bool) → IsOpen xs
    → closed ≡ closes note → IsLine closed (xs ++ note ∷ [])
line_goes xs note true run is =
    record { before = xs; last = note; is = refl; running = run; closing = sym is }
line_goes xs note false run is = open_push xs note run (sym is)

-- ---- what a pass knows

pub record IsWriter (v w : Hand) (note : Note) : Type 0 where
  pub hand_is : w ≡ hand true false w.pushed []
  pub pushed_is : w.pushed ≡ v.pushed ++ note ∷ []

pub writes : (v w : Hand) (note : Note) → v ≡ hand true false v.pushed [] → HasPushed v note w
    → IsWriter v w note
writes v w note own is =
    let whole : w ≡ hand true false (v.pushed ++ note ∷ []) [] =
    is ∙ ap (λ (u : Hand). hand u.pushes u.pops (v.pushed ++ note ∷ []) u.popped) own in
    record {
      hand_is = whole ∙ ap (λ (x : List Note). hand true false x [])
          (sym (ap (λ (u : Hand). u.pushed) whole));
      pushed_is = ap (λ (u : Hand). u.pushed) whole;
    }

pub record IsPopper (v w : Hand) (note : Note) : Type 0 where
  pub hand_is : w ≡ hand false true [] w.popped
  pub popped_is : w.popped ≡ v.popped ++ note ∷ []

pub pops : (v w : Hand) (note : Note) → v ≡ hand false true [] v.popped → HasPopped v note w
    → IsPopper v w note
pops v w note own is =
    let whole : w ≡ hand false true [] (v.popped ++ note ∷ []) =
    is.0 ∙ ap (λ (u : Hand). hand u.pushes u.pops u.pushed (v.popped ++ note ∷ [])) own in
    record {
      hand_is = whole ∙ ap (λ (x : List Note). hand false true [] x)
          (sym (ap (λ (u : Hand). u.popped) whole));
      popped_is = ap (λ (u : Hand). u.popped) whole;
    }

-- ---- two closed lists, of which the one begins the other, are one

tail_is : (a b : Note) (xs ys : List Note) → a ∷ xs ≡ b ∷ ys → xs ≡ ys
tail_is a b xs ys e = cc

head_is : (a b : Note) (xs ys : List Note) → a ∷ xs ≡ b ∷ ys → a ≡ b
head_is a b xs ys e = cc

no_tail : (xs : List Note) (x : Note) (rest : List Note) → [] ≡ (xs ++ x ∷ []) ++ rest → ⊥
no_tail [] x rest e = absurd cc
no_tail (z ∷ xs) x rest e = absurd cc

-- the notes of an open list and one that closes, cut behind another that closes: nothing is behind
pub cut_once : (xs : List Note) (x : Note) (ys : List Note) (y : Note) (rest : List Note)
    → IsOpen ys → closes x ≡ true → ys ++ y ∷ [] ≡ (xs ++ x ∷ []) ++ rest → rest ≡ []
cut_once [] x [] y rest run closing is = sym (tail_is y x [] rest is)
cut_once [] x (z ∷ ys) y rest run closing is =
    absurd (true≢false (sym closing ∙ sym (ap closes (head_is z x (ys ++ y ∷ []) rest is))
    ∙ run.0))
cut_once (z ∷ xs) x [] y rest run closing is =
    absurd (no_tail xs x rest (tail_is y z [] ((xs ++ x ∷ []) ++ rest) is))
cut_once (z ∷ xs) x (u ∷ ys) y rest run closing is =
    cut_once xs x ys y rest run.1 closing
    (tail_is u z (ys ++ y ∷ []) ((xs ++ x ∷ []) ++ rest) is)

pub whole : (sent taken held : List Note) → IsClosed sent → IsClosed taken
    → sent ≡ taken ++ held → taken ≡ sent
whole sent taken held s t is =
    let rest : held ≡ [] = cut_once t.before t.last s.before s.last held s.running t.closing
    (sym s.is ∙ is ∙ ap (λ (x : List Note). x ++ held) t.is) in
    sym (is ∙ ap (λ (x : List Note). taken ++ x) rest ∙ append-nil taken)
