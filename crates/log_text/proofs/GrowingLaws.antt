-- One exchange behind others, in version 2.
use Rattle.std.proofs.Common.{◌≡◌, ◌≢◌, ℕ, ◌+◌, ◌<◌, ◌≤◌, ◌^◌, Bool, true, false, cond}
use Rattle.std.proofs.Common.{eqb, List, [], ◌∷◌, ◌++◌, length, Option, Some, None, refl, sym, ap}
use Rattle.std.proofs.Common.{subst, ◌∙◌, append_assoc, arith, IfSome}
use Rattle.std.proofs.lemmas.Bool.{eqb-true, eq-eqb}
use Rattle.std.proofs.lemmas.List.{append-nil, length-append}
use Rattle.std.proofs.lemmas.List.Concat.{flat_map-cons}
use Rattle.dos_world.specs.declared.Post.{Post}
use Rattle.dos_io.specs.declared.exchange.Exchange.{Exchange}
use Rattle.dos_io.specs.declared.exchange.Exchange.TheVariants.{Signals}
use Rattle.log_text.specs.declared.version.LogVersion.TheVariants.{Two}
use Rattle.log_text.specs.declared.progress.Progress.{Progress}
use Rattle.log_text.specs.Items.{Item, quiet, kept, items_of, quiet_rounds, exchanges_of_items}
use Rattle.log_text.specs.Items.{IsLoud}
use Rattle.log_text.specs.Items.{GoesNotOn, AreJoined}
use Rattle.log_text.specs.LogText.{entry_text, item_text, items_text, entries_text}
use Rattle.log_text.specs.Ranges.{InRange, NotEnd, most_exchanges}
use Rattle.log_text.specs.Reading.{after_item, nothing_read}
use Rattle.log_text.specs.EntriesText.{GrowsBy}
use Rattle.log_text.specs.Spelling.{FitsQuiet, AreSpelled, after_items}
use Rattle.log_text.specs.EntriesText.{items_in_text, stretch_items, counted_up, grown_items}
use Rattle.log_text.specs.EntriesText.{IsGrowing, IsEntriesText}
use Rattle.log_text.proofs.ItemLaws.{items_expanded, items_joined, joined_again}
use Rattle.log_text.proofs.SpellingLaws.{after_append, spelled_append, spelled_front, spelled_back}
use Rattle.log_text.proofs.SpellingLaws.{exchanges_append, items_text_append, quiet_last}
use Rattle.log_text.proofs.SpellingLaws.{after_held, spelled_few, spelled_joined}
use Rattle.log_text.proofs.SpellingLaws.{loud_posts}
use Rattle.log_text.proofs.EntriesTextLaws.{text_spells, text_kept, spelled_text}

-- ---- one entry behind others

abbrev MayFollow : Option ℕ → Item → Type 0
MayFollow o (quiet round count) = (1 ≤ count) × (o ≡ Some round → ⊥)
MayFollow o (kept e) = IsLoud e

alone : (o : Option ℕ) (item : Item) → MayFollow o item → AreJoined (item ∷ [])
alone o (quiet round count) may = (may.0, tt, tt)
alone o (kept e) may = (may, tt)

not_first : (n : ℕ) (item : Item) → MayFollow (Some n) item → GoesNotOn n (item ∷ [])
not_first n (quiet round count) may = λ same. may.1 (ap (λ (k : ℕ). Some k) (sym same))
not_first n (kept e) may = tt

same_first : (n : ℕ) (item : Item) (xs ys : List Item) → GoesNotOn n (item ∷ xs)
    → GoesNotOn n (item ∷ ys)
same_first n (quiet round count) xs ys not = not
same_first n (kept e) xs ys not = tt

joined_push : (p : Progress) (xs : List Item) (item : Item) → AreJoined xs
    → MayFollow (after_items p xs).goes_on item → AreJoined (xs ++ item ∷ [])
joined_push p [] item are may = alone p.goes_on item may
joined_push p (kept e ∷ xs) item are may =
    (are.0, joined_push (after_item p (kept e)) xs item are.1 may)
joined_push p (quiet round count ∷ []) item are may =
    (are.0, not_first (round + count) item may, alone (Some (round + count)) item may)
joined_push p (quiet round count ∷ x ∷ xs) item are may = (
  are.0,
  same_first (round + count) x xs (xs ++ item ∷ []) are.1,
  joined_push (after_item p (quiet round count)) (x ∷ xs) item are.2 may,
)

-- ---- how much longer the text is with it

text_pushed : (xs : List Item) (item : Item)
    → length (items_text (xs ++ item ∷ [])) ≡ length (items_text xs) + length (item_text item)
text_pushed xs item =
    ap length (items_text_append xs (item ∷ []))
    ∙ length-append (items_text xs) (items_text (item ∷ []))
    ∙ ap (λ (t : List ℕ). length (items_text xs) + length t)
    (flat_map-cons item_text item [] ∙ append-nil (item_text item))

exchanges_pushed : (xs : List Item) (item : Item) (es : List Exchange) (e : Exchange)
    → exchanges_of_items xs ≡ es → exchanges_of_items (item ∷ []) ≡ e ∷ []
    → exchanges_of_items (xs ++ item ∷ []) ≡ es ++ e ∷ []
exchanges_pushed xs item es e is one =
    exchanges_append xs (item ∷ []) ∙ ap (λ (t : List Exchange). exchanges_of_items xs ++ t) one
    ∙ ap (λ (t : List Exchange). t ++ e ∷ []) is

grows_with : (xs : List Item) (item : Item) (es : List Exchange) (e : Exchange) → items_of es ≡ xs
    → exchanges_of_items xs ≡ es → AreJoined (xs ++ item ∷ []) → exchanges_of_items (item ∷ [])
    ≡ e ∷ []
    → GrowsBy es e (length (item_text item))
unfolding GrowsBy
grows_with xs item es e spelled is are one =
    let all : exchanges_of_items (xs ++ item ∷ []) ≡ es
    ++ e ∷ [] = exchanges_pushed xs item es e is one
    in
    let items : items_of (es ++ e ∷ []) ≡ xs ++ item ∷ [] =
    ap items_of (sym all) ∙ joined_again (xs ++ item ∷ []) are in
    ap (λ (ys : List Item). length (items_text ys)) items ∙ text_pushed xs item
    ∙ ap (λ (ys : List Item). length (items_text ys) + length (item_text item)) (sym spelled)

pub loud_grows : (es : List Exchange) (e : Exchange) → IsLoud e
    → GrowsBy es e (length (entry_text e))
loud_grows es e loud =
    grows_with (items_of es) (kept e) es e refl (items_expanded es)
    (joined_push nothing_read (items_of es) (kept e) (items_joined es) loud) refl

-- ---- entries that grow

module _ (text : List ℕ) (stretch : Option (ℕ × ℕ)) (count : ℕ) (k : IsGrowing text stretch count)
  where
    abbrev xs : List Item
    xs = grown_items text stretch

    abbrev es : List Exchange
    es = exchanges_of_items xs

    pub grown_text : entries_text Two es ≡ text ++ items_text (stretch_items stretch)
    grown_text =
        spelled_text Two xs k.spelled
        ∙ items_text_append (items_in_text Two text) (stretch_items stretch)
        ∙ ap (λ (t : List ℕ). t ++ items_text (stretch_items stretch)) (sym k.text_is)

    pub grown_few : count ≤ most_exchanges
    grown_few =
        omega (arith, k.count_is, spelled_few Two nothing_read xs k.spelled (omega arith))

    put_is : text ++ items_text (stretch_items stretch) ≡ items_text xs
    put_is =
        sym (items_text_append (items_in_text Two text) (stretch_items stretch)
        ∙ ap (λ (t : List ℕ). t ++ items_text (stretch_items stretch)) (sym k.text_is))

    pub closed : (new : List ℕ) → new ≡ text ++ items_text (stretch_items stretch)
        → IsEntriesText Two new count × (exchanges_of_items (items_in_text Two new) ≡ es)
    closed new is = (
      text_kept Two new xs count (is ∙ put_is) k.spelled k.count_is,
      ap exchanges_of_items (text_spells Two new xs (is ∙ put_is) k.spelled),
    )

    held_is : (after_items nothing_read xs).held ≡ count
    held_is = omega (arith, after_held nothing_read xs, k.count_is)

-- with one exchange more
pub record Grew (text : List ℕ) (stretch : Option (ℕ × ℕ)) (count : ℕ) (e : Exchange)
    (new : List ℕ) (left : Option (ℕ × ℕ)) : Type 0 where
  pub kept : IsGrowing new left (count + 1)
  pub shows : exchanges_of_items (grown_items new left)
      ≡ exchanges_of_items (grown_items text stretch) ++ e ∷ []

counted : (xs : List Item) (es : List Exchange) (e : Exchange) (count : ℕ)
    → exchanges_of_items xs ≡ es ++ e ∷ [] → count ≡ length es
    → count + 1 ≡ length (exchanges_of_items xs)
counted xs es e count is count_is =
    omega (arith, count_is, ap length is, length-append es (e ∷ []))

pub grows_kept : (text : List ℕ) (stretch : Option (ℕ × ℕ)) (count : ℕ) (e : Exchange)
    (new : List ℕ) → IsGrowing text stretch count → InRange e → NotEnd e → IsLoud e
    → count < most_exchanges
    → new ≡ (text ++ items_text (stretch_items stretch)) ++ entry_text e
    → Grew text stretch count e new None
grows_kept text stretch count e new k fits no_end loud few is =
    let before : List Item = grown_items text stretch in
    let all : List Item = before ++ kept e ∷ [] in
    let spelled : AreSpelled Two nothing_read all =
    spelled_append Two nothing_read before (kept e ∷ []) k.spelled (
      record {
        range = fits;
        no_end = no_end;
        posts = loud_posts e loud;
        held = omega (arith, held_is text stretch count k, few);
      },
      tt,
    ) in
    let text_is : new ≡ items_text all =
    is ∙ ap (λ (t : List ℕ). t ++ entry_text e) (put_is text stretch count k)
    ∙ sym (items_text_append before (kept e ∷ [])
    ∙ ap (λ (t : List ℕ). items_text before ++ t)
    (flat_map-cons item_text (kept e) [] ∙ append-nil (entry_text e))) in
    let shows : items_in_text Two new ≡ all = text_spells Two new all text_is spelled in
    let grown : grown_items new None ≡ all = append-nil (items_in_text Two new) ∙ shows in
    let exchanges : exchanges_of_items all ≡ exchanges_of_items before ++ e ∷ [] =
    exchanges_append before (kept e ∷ []) in
    record {
      kept = record {
        text_is = text_is ∙ ap items_text (sym shows);
        spelled = subst (AreSpelled Two nothing_read) (sym grown) spelled;
        shut = ap (λ (ys : List Item). (after_items nothing_read ys).goes_on) shows
            ∙ ap (λ (p : Progress). p.goes_on) (after_append nothing_read before (kept e ∷ []));
        count_is = counted all (exchanges_of_items before) e count exchanges k.count_is
            ∙ ap (λ (ys : List Item). length (exchanges_of_items ys)) (sym grown);
      };
      shows = ap exchanges_of_items grown ∙ exchanges;
    }

-- ---- a round without a signal

abbrev next_of : Option (ℕ × ℕ) → Option ℕ
next_of None = None
next_of (Some s) = Some (s.0 + s.1)

after_grown : (text : List ℕ) (stretch : Option (ℕ × ℕ)) (count : ℕ)
    → IsGrowing text stretch count
    → (after_items nothing_read (grown_items text stretch)).goes_on ≡ next_of stretch
after_grown text None count k =
    ap (λ (ys : List Item). (after_items nothing_read ys).goes_on)
    (append-nil (items_in_text Two text)) ∙ k.shut
after_grown text (Some s) count k =
    ap (λ (p : Progress). p.goes_on)
    (after_append nothing_read (items_in_text Two text) (quiet s.0 s.1 ∷ []))

abbrev some_round : ℕ → Option ℕ
some_round n = Some n

round_is : (m n : ℕ) → some_round m ≡ some_round n → m ≡ n
round_is m n e = cc

abbrev some_stretch : ℕ × ℕ → Option (ℕ × ℕ)
some_stretch s = Some s

stretch_is : (s t : ℕ × ℕ) → some_stretch s ≡ some_stretch t → s ≡ t
stretch_is s t e = cc

on_or_apart : (b : Bool) (s : ℕ × ℕ) (round : ℕ) → eqb (s.0 + s.1) round ≡ b
    → cond b (some_stretch (s.0, s.1 + 1)) None ≡ None → s.0 + s.1 ≢ round
on_or_apart true s round is none same = absurd cc
on_or_apart false s round is none same =
    absurd (let wrong : true ≡ false = sym (eq-eqb (s.0 + s.1) round same) ∙ is in cc)

goes_apart : (stretch : Option (ℕ × ℕ)) (round : ℕ) → counted_up stretch round ≡ None
    → next_of stretch ≡ Some round → ⊥
goes_apart None round none e = absurd cc
goes_apart (Some s) round none e =
    on_or_apart (eqb (s.0 + s.1) round) s round refl none (round_is (s.0 + s.1) round e)

on_is : (b : Bool) (s more : ℕ × ℕ) (round : ℕ) → eqb (s.0 + s.1) round ≡ b
    → cond b (some_stretch (s.0, s.1 + 1)) None ≡ Some more
    → (s.0 + s.1 ≡ round) × ((s.0, s.1 + 1) ≡ more)
on_is true s more round is e = (eqb-true (s.0 + s.1) round is, stretch_is (s.0, s.1 + 1) more e)
on_is false s more round is e = absurd cc

pub quiet_grows : (text : List ℕ) (stretch : Option (ℕ × ℕ)) (count round : ℕ)
    → IsGrowing text stretch count → counted_up stretch round ≡ None
    → GrowsBy (exchanges_of_items (grown_items text stretch)) (Signals round []) 9
unfolding quiet_rounds
quiet_grows text stretch count round k none =
    let before : List Item = grown_items text stretch in
    let apart : (after_items nothing_read before).goes_on ≡ Some round → ⊥ =
    λ e. goes_apart stretch round none (sym (after_grown text stretch count k) ∙ e) in
    let are = spelled_joined nothing_read before k.spelled in
    subst (GrowsBy (exchanges_of_items before) (Signals round [])) (nine round)
    (grows_with before (quiet round 1) (exchanges_of_items before) (Signals round [])
    (joined_again before are) refl
    (joined_push nothing_read before (quiet round 1) are (omega arith, apart)) refl)
  where
    nine : (round : ℕ) → length (item_text (quiet round 1)) ≡ 9
    nine round = omega arith

pub grows_quiet : (text : List ℕ) (stretch : Option (ℕ × ℕ)) (count round : ℕ) (new : List ℕ)
    → IsGrowing text stretch count → counted_up stretch round ≡ None → round < 2 ^ 32
    → count < most_exchanges → new ≡ text ++ items_text (stretch_items stretch)
    → Grew text stretch count (Signals round []) new (Some (round, 1))
unfolding quiet_rounds
grows_quiet text stretch count round new k none low few is =
    let before : List Item = grown_items text stretch in
    let apart : (after_items nothing_read before).goes_on ≡ Some round → ⊥ =
    λ e. goes_apart stretch round none (sym (after_grown text stretch count k) ∙ e) in
    let all : List Item = before ++ quiet round 1 ∷ [] in
    let spelled : AreSpelled Two nothing_read all =
    spelled_append Two nothing_read before (quiet round 1 ∷ []) k.spelled (
      record {
        apart = apart;
        some = omega arith;
        last = omega (arith, low);
        held = omega (arith, held_is text stretch count k, few);
      },
      tt,
    ) in
    let text_is : new ≡ items_text before = is ∙ put_is text stretch count k in
    let shows : items_in_text Two new ≡ before = text_spells Two new before text_is k.spelled in
    let grown : grown_items new (Some (round, 1)) ≡ all =
    ap (λ (ys : List Item). ys ++ quiet round 1 ∷ []) shows in
    let exchanges : exchanges_of_items all ≡ exchanges_of_items before ++ Signals round [] ∷ [] =
    exchanges_append before (quiet round 1 ∷ []) in
    record {
      kept = record {
        text_is = text_is ∙ ap items_text (sym shows);
        spelled = subst (AreSpelled Two nothing_read) (sym grown) spelled;
        shut = tt;
        count_is = counted all (exchanges_of_items before) (Signals round []) count exchanges
            k.count_is
            ∙ ap (λ (ys : List Item). length (exchanges_of_items ys)) (sym grown);
      };
      shows = ap exchanges_of_items grown ∙ exchanges;
    }

-- a stretch of one round more
module _ (text : List ℕ) (s : ℕ × ℕ) (count round : ℕ) (k : IsGrowing text (Some s) count)
    (on : s.0 + s.1 ≡ round) where
  abbrev front : List Item
  front = items_in_text Two text

  abbrev more : List Item
  more = front ++ quiet s.0 (s.1 + 1) ∷ []

  front_spelled : AreSpelled Two nothing_read front
  front_spelled = spelled_front Two nothing_read front (quiet s.0 s.1 ∷ []) k.spelled

  last_fits : FitsQuiet (after_items nothing_read front) s.0 s.1
  last_fits = (spelled_back Two nothing_read front (quiet s.0 s.1 ∷ []) k.spelled).0

  longer : exchanges_of_items (quiet s.0 (s.1 + 1) ∷ [])
      ≡ exchanges_of_items (quiet s.0 s.1 ∷ []) ++ Signals round [] ∷ []
  longer =
      append-nil (quiet_rounds s.0 (s.1 + 1)) ∙ quiet_last s.0 s.1
      ∙ ap (λ (r : ℕ). quiet_rounds s.0 s.1 ++ Signals r [] ∷ []) on
      ∙ ap (λ (xs : List Exchange). xs ++ Signals round [] ∷ [])
      (sym (append-nil (quiet_rounds s.0 s.1)))

  more_exchanges : exchanges_of_items more
      ≡ exchanges_of_items (grown_items text (Some s)) ++ Signals round [] ∷ []
  more_exchanges =
      exchanges_append front (quiet s.0 (s.1 + 1) ∷ [])
      ∙ ap (λ (xs : List Exchange). exchanges_of_items front ++ xs) longer
      ∙ sym (append_assoc (exchanges_of_items front) (exchanges_of_items (quiet s.0 s.1 ∷ []))
      (Signals round [] ∷ []))
      ∙ ap (λ (xs : List Exchange). xs ++ Signals round [] ∷ [])
      (sym (exchanges_append front (quiet s.0 s.1 ∷ [])))

  more_spelled : round < 2 ^ 32 → count < most_exchanges → AreSpelled Two nothing_read more
  more_spelled low few =
      spelled_append Two nothing_read front (quiet s.0 (s.1 + 1) ∷ []) front_spelled (
        record {
          apart = last_fits.apart;
          some = omega arith;
          last = omega (arith, on, low);
          held = omega (
            arith,
            few,
            held_is text (Some s) count k,
            ap (λ (p : Progress). p.held)
                (after_append nothing_read front (quiet s.0 s.1 ∷ [])),
          );
        },
        tt,
      )

  more_joined : AreJoined more
  more_joined =
      joined_push nothing_read front (quiet s.0 (s.1 + 1))
      (spelled_joined nothing_read front front_spelled) (omega arith, last_fits.apart)

  on_grows_by : GrowsBy (exchanges_of_items (grown_items text (Some s))) (Signals round []) 0
  unfolding GrowsBy
  on_grows_by =
      let items : items_of (exchanges_of_items (grown_items text (Some s)) ++ Signals round [] ∷ [])
      ≡ more = ap items_of (sym more_exchanges) ∙ joined_again more more_joined in
      let old : items_of (exchanges_of_items (grown_items text (Some s)))
      ≡ grown_items text (Some s) =
      joined_again (grown_items text (Some s))
      (spelled_joined nothing_read (grown_items text (Some s)) k.spelled) in
      omega (
        arith,
        ap (λ (ys : List Item). length (items_text ys)) items,
        ap (λ (ys : List Item). length (items_text ys)) old,
        text_pushed front (quiet s.0 (s.1 + 1)),
        text_pushed front (quiet s.0 s.1),
        quiet_text s.0 (s.1 + 1),
        quiet_text s.0 s.1,
      )
    where
      quiet_text : (round count : ℕ) → length (item_text (quiet round count)) ≡ 9
      quiet_text round count = omega arith

  grew_on : round < 2 ^ 32 → count < most_exchanges
      → Grew text (Some s) count (Signals round []) text (Some (s.0, s.1 + 1))
  grew_on low few = record {
    kept = record {
      text_is = k.text_is;
      spelled = more_spelled low few;
      shut = tt;
      count_is = counted more (exchanges_of_items (grown_items text (Some s))) (Signals round [])
          count
          more_exchanges k.count_is;
    };
    shows = more_exchanges;
  }

pub on_grows : (text : List ℕ) (stretch : Option (ℕ × ℕ)) (count round : ℕ) (more : ℕ × ℕ)
    → IsGrowing text stretch count → counted_up stretch round ≡ Some more
    → GrowsBy (exchanges_of_items (grown_items text stretch)) (Signals round []) 0
on_grows text None count round more k on = absurd cc
on_grows text (Some s) count round more k on =
    on_grows_by text s count round k
    (on_is (eqb (s.0 + s.1) round) s more round refl on).0

pub grows_on : (text : List ℕ) (stretch : Option (ℕ × ℕ)) (count round : ℕ) (more : ℕ × ℕ)
    → IsGrowing text stretch count → counted_up stretch round ≡ Some more → round < 2 ^ 32
    → count < most_exchanges
    → Grew text stretch count (Signals round []) text (Some more)
grows_on text None count round more k on low few = absurd cc
grows_on text (Some s) count round more k on low few =
    let is = on_is (eqb (s.0 + s.1) round) s more round refl on in
    subst (λ (t : ℕ × ℕ). Grew text (Some s) count (Signals round []) text (Some t)) is.1
    (grew_on text s count round k is.0 low few)

-- ---- what code asks for

-- a stretch has no more rounds than there are exchanges
pub stretch_few : (text : List ℕ) (stretch : Option (ℕ × ℕ)) (count : ℕ)
    → IsGrowing text stretch count → IfSome stretch (λ s. s.1 ≤ most_exchanges)
stretch_few text None count k = tt
stretch_few text (Some s) count k =
    let last : FitsQuiet (after_items nothing_read (items_in_text Two text)) s.0 s.1 =
    (spelled_back Two nothing_read (items_in_text Two text) (quiet s.0 s.1 ∷ []) k.spelled).0 in
    omega (arith, last.held)

-- the stretch has the same bytes with one round more
pub stretch_fits : (stretch : Option (ℕ × ℕ)) (round len room : ℕ) (more : ℕ × ℕ)
    → counted_up stretch round ≡ Some more
    → len + length (items_text (stretch_items stretch)) ≤ room
    → len + length (items_text (stretch_items (Some more))) ≤ room
stretch_fits None round len room more on le = absurd cc
stretch_fits (Some s) round len room more on le = omega (arith, le)

pub is_loud : (round : ℕ) (posts : List Post) → 1 ≤ length posts → IsLoud (Signals round posts)
is_loud round [] le = absurd (omega (arith, le))
is_loud round (post ∷ posts) le = tt

-- where memory is taken for the text with it, it is for its bytes
pub grown_fits : (es : List Exchange) (e : Exchange) (bytes room : ℕ) → GrowsBy es e bytes
    → length (entries_text Two (es ++ e ∷ [])) ≤ length (entries_text Two es) + room
    → bytes ≤ room
unfolding GrowsBy
grown_fits es e bytes room grows le = omega (arith, grows, le)

pub fits_grown : (es : List Exchange) (e : Exchange) (bytes room : ℕ) → GrowsBy es e bytes
    → bytes ≤ room
    → length (entries_text Two (es ++ e ∷ [])) ≤ length (entries_text Two es) + room
unfolding GrowsBy
fits_grown es e bytes room grows le = omega (arith, grows, le)
