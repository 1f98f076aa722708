-- What a reader shows after it took a note, and after an answer.
use Rattle.std.proofs.Common.{◌≡◌, ℕ, ◌+◌, Bool, List, [], ◌∷◌, ◌++◌, length, Option, Some, None}
use Rattle.std.proofs.Common.{IfSome}
use Rattle.std.proofs.Common.{refl, sym, ap, ap₂, subst, ◌∙◌, ◌≤◌, arith, true, true≢false}
use Rattle.std.specs.Prelude.{is_some, not}
use Rattle.std.proofs.lemmas.List.{length-append}
use Rattle.atomic_table.specs.Seated.{TableId}
use Rattle.dos_world.specs.declared.Question.{Question}
use Rattle.dos_world.specs.declared.Question.TheVariants.{Input as input_question}
use Rattle.dos_io.specs.declared.exchange.Exchange.{Exchange}
use Rattle.dos_io.specs.declared.exchange.Exchange.TheVariants.{Input}
use Rattle.dos_io.specs.Exchanges.{question_of}
use Rattle.dos_io.specs.Shims.{HasNoEnd, shim_answered}
use Rattle.twin_shims.specs.declared.note.Note.{Note}
use Rattle.twin_shims.specs.declared.note.Note.TheVariants.{Told}
use Rattle.twin_shims.specs.Notes.{exchanges_in, as_notes, closes, IsWithinMax, IsOpen}
use Rattle.twin_shims.specs.Follower.{ReaderState, IsReader, front, used, reader_told}
use Rattle.twin_shims.specs.Follower.{StopsReader, counted_to, follower_state, reader_took}
use Rattle.twin_shims.specs.Follower.{reader_answered}
use Rattle.twin_shims.proofs.Lines.{exchanges_append, notes_append, open_from, line_goes}

pub front_push : (xs : List Note) (note : Note) → front (xs ++ note ∷ []) ≡ xs
front_push [] note = refl
front_push (x ∷ []) note = refl
front_push (x ∷ y ∷ xs) note = ap (λ (zs : List Note). x ∷ zs) (front_push (y ∷ xs) note)

pub reader_takes : (closed now : Bool) (r : ReaderState) (note : Note) → IsReader closed r
    → r.next ≡ None → r.asked ≡ None → HasNoEnd (reader_told r) → now ≡ closes note
    → IsWithinMax note
    → IsReader now (reader_took r note)
reader_takes closed now r note is none quiet running closing fits =
    let own : r.taken ≡ as_notes (reader_told r) =
    subst (λ (x : Option Note). used r.taken x ≡ as_notes (reader_told r)) none is.told_only in
    let before : front (r.taken ++ note ∷ []) ≡ r.taken = front_push r.taken note in
    let told : exchanges_in (front (r.taken ++ note ∷ [])) ≡ reader_told r =
    ap exchanges_in before
    ∙ ap (λ (x : Option Note). exchanges_in (used r.taken x)) (sym none) in
    record {
      line = line_goes r.taken note now
          (subst IsOpen (sym own) (open_from (reader_told r) running)) closing;
      told_only = before ∙ own ∙ ap as_notes (sym told);
      next_is = ap (λ (x : List Note). x ++ note ∷ []) (sym before);
      fits = fits;
      count = is.count ∙ ap (λ (x : List Exchange). counted_to (length x)) (sym told);
      stop = subst (λ (x : Option Question).
          IfSome x (λ q. IfSome r.last (StopsReader (reader_took r note) q))) (sym quiet) tt;
      never = is.never;
    }

-- it told one exchange more
pub told_more : (taken : List Note) (e : Exchange) → taken ≡ front taken ++ Told e ∷ []
    → exchanges_in taken ≡ exchanges_in (front taken) ++ e ∷ []
told_more taken e is = ap exchanges_in is ∙ exchanges_append (front taken) (Told e ∷ [])

count_more : (n k : ℕ) → n ≡ counted_to k → counted_to (n + 1) ≡ counted_to (k + 1)
count_more n k is = omega arith

pub reader_answers : (closed : Bool) (r : ReaderState) (e : Exchange) → IsReader closed r
    → r.next ≡ Some (Told e) → IsReader closed (reader_answered r)
reader_answers closed r e is next =
    let ends : r.taken ≡ front r.taken ++ Told e ∷ [] =
    subst (λ (x : Option Note). IfSome x (λ note. r.taken ≡ front r.taken ++ note ∷ [])) next
    is.next_is in
    let own : front r.taken ≡ as_notes (exchanges_in (front r.taken)) =
    subst (λ (x : Option Note). used r.taken x ≡ as_notes (exchanges_in (used r.taken x))) next
    is.told_only in
    let count : r.answered ≡ counted_to (length (exchanges_in (front r.taken))) =
    subst (λ (x : Option Note). r.answered
    ≡ counted_to (length (exchanges_in (used r.taken x)))) next is.count in
    record {
      line = is.line;
      told_only = ends ∙ ap (λ (x : List Note). x ++ Told e ∷ []) own
          ∙ sym (notes_append (exchanges_in (front r.taken)) (e ∷ []))
          ∙ ap as_notes (sym (told_more r.taken e ends));
      next_is = tt;
      fits = tt;
      count = count_more r.answered (length (exchanges_in (front r.taken))) count
          ∙ ap counted_to (sym (ap length (told_more r.taken e ends)
          ∙ length-append (exchanges_in (front r.taken)) (e ∷ [])));
      stop = tt;
      never = is.never;
    }

pub shows_answer : (closed : Bool) (r : ReaderState) (e : Exchange) → IsReader closed r
    → r.next ≡ Some (Told e)
    → follower_state (reader_answered r) ≡ shim_answered (follower_state r) e
shows_answer closed r e is next =
    let ends : r.taken ≡ front r.taken ++ Told e ∷ [] =
    subst (λ (x : Option Note). IfSome x (λ note. r.taken ≡ front r.taken ++ note ∷ [])) next
    is.next_is in
    ap (λ (x : List Exchange). record {
      told = x;
      stops = r.stops;
      last = r.last;
      asked = None;
    }) (told_more r.taken e ends
    ∙ ap (λ (x : Option Note). exchanges_in (used r.taken x) ++ e ∷ []) (sym next))

-- a note more, which isn't answered by, leaves what it tells
pub shows_taking : (r : ReaderState) (note : Note) → r.next ≡ None
    → follower_state (reader_took r note) ≡ follower_state r
shows_taking r note none =
    ap (λ (x : List Exchange). record {
      told = x;
      stops = r.stops;
      last = r.last;
      asked = r.asked;
    }) (ap exchanges_in (front_push r.taken note)
    ∙ ap (λ (x : Option Note). exchanges_in (used r.taken x)) (sym none))

-- ---- the same of a state whose parts are equal to these

pub took_is : (closed now : Bool) (r t : ReaderState) (note : Note) → IsReader closed r
    → r.next ≡ None → r.asked ≡ None → HasNoEnd (reader_told r) → now ≡ closes note
    → IsWithinMax note
    → t ≡ reader_took r note → IsReader now t
took_is closed now r t note is none quiet running closing fits same =
    subst (IsReader now) (sym same)
    (reader_takes closed now r note is none quiet running closing fits)

pub answered_is : (closed : Bool) (r t : ReaderState) (e : Exchange) → IsReader closed r
    → r.next ≡ Some (Told e) → t ≡ reader_answered r → IsReader closed t
answered_is closed r t e is next same =
    subst (IsReader closed) (sym same) (reader_answers closed r e is next)

pub took_same : (r : ReaderState) (line : TableId) (taken : List Note) (note : Note)
    → line ≡ r.line → taken ≡ r.taken ++ note ∷ []
    → record {
      line = line;
      taken = taken;
      next = Some note;
      answered = r.answered;
      stops = r.stops;
      last = r.last;
      asked = r.asked;
    } ≡ reader_took r note
took_same r line taken note p q =
    ap₂ (λ (l : TableId) (t : List Note). record {
      line = l;
      taken = t;
      next = Some note;
      answered = r.answered;
      stops = r.stops;
      last = r.last;
      asked = r.asked;
    }) p q

-- an input's bytes fit where as many were asked for as there is room
pub fits_room : (e : Exchange) (r t m round tid max : ℕ) (bytes : List ℕ) → e ≡ Input r t m bytes
    → IsWithinMax (Told e) → question_of e ≡ input_question round tid max → length bytes ≤ max
fits_room e r t m round tid max bytes is fit asks =
    let few : length bytes ≤ m = subst (λ (x : Exchange). IsWithinMax (Told x)) is fit in
    let same : input_question r t m ≡ input_question round tid max =
    ap question_of (sym is) ∙ asks in
    let h : m ≡ max = cc in
    subst (λ (n : ℕ). length bytes ≤ n) h few

pub answered_same : (r : ReaderState) (next : Option Note) (n : ℕ) → next ≡ None
    → n ≡ counted_to (r.answered + 1)
    → record {
      line = r.line;
      taken = r.taken;
      next = next;
      answered = n;
      stops = r.stops;
      last = r.last;
      asked = None;
    } ≡ reader_answered r
answered_same r next n p q =
    ap₂ (λ (x : Option Note) (k : ℕ). record {
      line = r.line;
      taken = r.taken;
      next = x;
      answered = k;
      stops = r.stops;
      last = r.last;
      asked = None;
    }) p q

pub none_from : (o : Option Note) (b : Bool) → is_some o ≡ not b → b ≡ true → o ≡ None
none_from None b is on = refl
none_from (Some note) b is on = absurd (true≢false (is ∙ ap not on))
