-- Where the exchanges of a log stand in its text.
use Rattle.std.proofs.Common.{◌≡◌, ◌≤◌, ◌<◌, ◌∙◌, ◌+◌, ◌-◌, ◌^◌, ℕ, zero, suc, List, [], ◌∷◌, ◌++◌}
use Rattle.std.proofs.Common.{subst}
use Rattle.std.proofs.Common.{length, take, drop, Some, Ok, Err, refl, sym, ap, append_assoc}
use Rattle.std.proofs.Common.{arith}
use Rattle.std.specs.List.{slice_get}
use Rattle.std.proofs.lemmas.List.{take_more, take-append-drop, drop_at, length-append}
use Rattle.std.proofs.lemmas.List.Concat.{flat_map-cons}
use Rattle.std.proofs.lemmas.Option.{get_or_from_slice_get, slice_get_within}
use Rattle.dos_io.specs.declared.exchange.Exchange.{Exchange}
use Rattle.dos_io.specs.declared.exchange.Exchange.TheVariants.{Signals}
use Rattle.log_text.specs.declared.refusal.LogError.{LogError}
use Rattle.log_text.specs.declared.version.LogVersion.{LogVersion}
use Rattle.log_text.specs.declared.version.LogVersion.TheVariants.{One, Two}
use Rattle.log_text.specs.declared.progress.Progress.{Progress}
use Rattle.log_text.specs.Items.{Item, quiet, kept, items_in, quiet_rounds, exchanges_of_item}
use Rattle.log_text.specs.Items.{exchanges_of_items}
use Rattle.log_text.specs.LogText.{Log, item_text, items_text, entries_text}
use Rattle.log_text.specs.Ranges.{InRange, NotEnd, FitsLog}
use Rattle.log_text.specs.Reading.{item_at, after_item, nothing_read}
use Rattle.log_text.specs.Spelling.{FitsItem, FitsQuiet, AreSpelled}
use Rattle.log_text.specs.Places.{IsWithin, StandsAt}
use Rattle.log_text.proofs.Steps.{ok_is}
use Rattle.log_text.proofs.ItemReading.{item_again, fits_comes, comes_first}
use Rattle.log_text.proofs.SpellingLaws.{are_spelled, expanded_in}

-- ---- what is read at its place

pub get_left : (es fs : List Exchange) (k : ℕ) → k < length es
    → slice_get (es ++ fs) k ≡ slice_get es k
get_left [] fs k lt = absurd (omega arith)
get_left (e ∷ es) fs zero lt = refl
get_left (e ∷ es) fs (suc k) lt = get_left es fs k (omega arith)

-- the bytes behind it, in the whole text
rest_is : (text front rest : List ℕ) (place : ℕ) → drop place text ≡ front ++ rest
    → (length rest ≤ length text) × (drop (length text - length rest) text ≡ rest)
rest_is text front rest place is =
    let whole : text ≡ (take place text ++ front) ++ rest =
    sym (take-append-drop place text) ∙ ap (λ (x : List ℕ). take place text ++ x) is
    ∙ sym (append_assoc (take place text) front rest) in
    let long : length text ≡ length (take place text ++ front) + length rest =
    ap length whole ∙ length-append (take place text ++ front) rest in (
      omega (arith, long),
      ap (drop (length text - length rest)) whole
          ∙ drop_at (take place text ++ front) rest (length text - length rest)
          (omega (arith, long)),
    )

-- ---- the first entry that isn't wholly answered

-- the first of the exchanges that are left
get_first : (es rest : List Exchange) (n : ℕ) (e : Exchange) → drop n es ≡ e ∷ rest
    → (slice_get es n ≡ Some e) × (drop (n + 1) es ≡ rest)
get_first [] rest zero e is = absurd cc
get_first [] rest (suc n) e is = absurd cc
get_first (x ∷ es) rest zero e is =
    let first : x ≡ e = cc in
    let others : es ≡ rest = cc in
    (ap (λ (y : Exchange). Some y) first, others)
get_first (x ∷ es) rest (suc n) e is =
    let next : suc n + 1 ≡ suc (n + 1) = omega arith in
    let g = get_first es rest n e is in
    (g.0, ap (λ (k : ℕ). drop k (x ∷ es)) next ∙ g.1)

none_left : (es : List Exchange) (n : ℕ) → n < length es → drop n es ≡ [] → ⊥
none_left [] n lt is = omega (arith, lt)
none_left (e ∷ es) zero lt is = cc
none_left (e ∷ es) (suc n) lt is = none_left es n (omega (arith, lt)) is

pub drop_none : (n : ℕ) → drop n (exchanges_of_items []) ≡ []
drop_none zero = refl
drop_none (suc n) = refl

pub record First (log : Log) (answered place within : ℕ) : Type 0 where
  pub progress : Progress
  pub item : Item
  pub items : List Item
  pub text_is : drop place (entries_text log.version log.entries)
      ≡ item_text item ++ items_text items
  pub fits : FitsItem log.version progress item
  pub spelled : AreSpelled log.version (after_item progress item) items
  pub left : drop answered log.entries
      ≡ drop within (exchanges_of_item item ++ exchanges_of_items items)
  pub within_first : IsWithin within (item ∷ items)

pub first_is : (log : Log) (answered place within : ℕ)
    → StandsAt log answered place within
    → answered < length log.entries → First log answered place within
first_is log answered place within st lt = by_items st.items refl
  where
    by_items : (items : List Item) → st.items ≡ items → First log answered place within
    by_items [] is = absurd (none_left log.entries answered lt
        (st.left ∙ ap (λ (xs : List Item). drop within (exchanges_of_items xs)) is
        ∙ drop_none within))
    by_items (item ∷ items) is =
        let spelled = subst (AreSpelled log.version st.progress) is st.spelled in
        record {
          progress = st.progress;
          item = item;
          items = items;
          text_is = st.text_is ∙ ap items_text is ∙ flat_map-cons item_text item items;
          fits = spelled.0;
          spelled = spelled.1;
          left = st.left ∙ ap (λ (xs : List Item). drop within (exchanges_of_items xs)) is;
          within_first = subst (IsWithin within) is st.within_first;
        }

-- what is read there
read_again : (log : Log) (answered place within end : ℕ)
    (f : First log answered place within)
    → item_at log.version nothing_read end (item_text f.item ++ items_text f.items)
    ≡ Ok (f.item, items_text f.items)
read_again log answered place within end f =
    item_again log.version nothing_read end f.item (items_text f.items)
    (fits_comes log.version nothing_read f.item
    (comes_first log.version f.progress nothing_read f.item (omega arith) refl f.fits))

-- an entry of this log's text, read at this place
pub record IsRead (log : Log) (place : ℕ) (text left : List ℕ) : Type 0 where
  pub text_is : text ≡ entries_text log.version log.entries
  pub left_is : left ≡ drop place text

module _ (log : Log) (answered place within : ℕ) (text left : List ℕ)
    (f : First log answered place within) (here : IsRead log place text left) where
  left_spells : left ≡ item_text f.item ++ items_text f.items
  left_spells = here.left_is ∙ ap (drop place) here.text_is ∙ f.text_is

  pub never_refused : (refusal : LogError)
      → item_at log.version nothing_read (length text) left ≡ Err refusal → ⊥
  never_refused refusal is = absurd (let e = sym (read_again log answered place within
      (length text) f) ∙ ap (item_at log.version nothing_read (length text)) (sym left_spells)
      ∙ is in cc)

  pub read_is : (item : Item) (rest : List ℕ)
      → item_at log.version nothing_read (length text) left ≡ Ok (item, rest)
      → (f.item ≡ item) × (items_text f.items ≡ rest)
  read_is item rest is =
      let same : (f.item, items_text f.items) ≡ (item, rest) =
      ok_is (f.item, items_text f.items) (item, rest)
      (sym (read_again log answered place within (length text) f)
      ∙ ap (item_at log.version nothing_read (length text)) (sym left_spells) ∙ is) in
      (ap (λ (x : Item × List ℕ). x.0) same, ap (λ (x : Item × List ℕ). x.1) same)

  pub rest_place : (item : Item) (rest : List ℕ)
      → item_at log.version nothing_read (length text) left ≡ Ok (item, rest)
      → (length rest ≤ length text) × (drop (length text - length rest) text ≡ rest)
  rest_place item rest is =
      let read = read_is item rest is in
      rest_is text (item_text f.item) rest place
      (sym here.left_is ∙ left_spells ∙ ap (λ (t : List ℕ). item_text f.item ++ t) read.1)

within_none : (v : LogVersion) (p : Progress) (items : List Item) → AreSpelled v p items
    → IsWithin 0 items
within_none v p [] spelled = refl
within_none v p (kept e ∷ items) spelled = refl
within_none One p (quiet round count ∷ items) spelled = absurd spelled.0
within_none Two p (quiet round count ∷ items) spelled = omega (arith, spelled.0.some)

-- behind the entry
behind_first : (log : Log) (answered place within : ℕ) (text left : List ℕ)
    (f : First log answered place within) (here : IsRead log place text left) (item : Item)
    (rest : List ℕ) → item_at log.version nothing_read (length text) left ≡ Ok (item, rest)
    → drop (answered + 1) log.entries ≡ exchanges_of_items f.items
    → StandsAt log (answered + 1) (length text - length rest) 0
behind_first log answered place within text left f here item rest is left_over =
    let there = rest_place log answered place within text left f here item rest is in
    let read = read_is log answered place within text left f here item rest is in
    record {
      progress = after_item f.progress f.item;
      items = f.items;
      text_is = ap (drop (length text - length rest)) (sym here.text_is) ∙ there.1 ∙ sym read.1;
      spelled = f.spelled;
      left = left_over;
      within_first = within_none log.version (after_item f.progress f.item) f.items f.spelled;
      inside = subst (λ (t : List ℕ). length text - length rest ≤ length t) here.text_is
          (omega arith);
    }

-- The next exchange, and where the one behind it stands.
pub record NextAt (log : Log) (answered : ℕ) (e : Exchange) (place within : ℕ) : Type 0 where
  pub entry : slice_get log.entries answered ≡ Some e
  pub fits : InRange e
  pub no_end : NotEnd e
  pub behind : StandsAt log (answered + 1) place within

range_of : (v : LogVersion) (p : Progress) (item : Item) (e : Exchange) → item ≡ kept e
    → FitsItem v p item → InRange e × NotEnd e
range_of v p item e is fits =
    let kept_fits : FitsItem v p (kept e) = subst (FitsItem v p) is fits in
    (kept_fits.range, kept_fits.no_end)

pub next_kept : (log : Log) (answered place within : ℕ) (text left rest : List ℕ) (e : Exchange)
    → answered < length log.entries → StandsAt log answered place within
    → IsRead log place text left
    → item_at log.version nothing_read (length text) left ≡ Ok (kept e, rest)
    → NextAt log answered e (length text - length rest) 0
next_kept log answered place within text left rest e lt st here is =
    let f = first_is log answered place within st lt in
    let read = read_is log answered place within text left f here (kept e) rest is in
    let none : within ≡ 0 =
    subst (λ (x : Item). IsWithin within (x ∷ f.items)) read.0 f.within_first in
    let found : drop answered log.entries ≡ e ∷ exchanges_of_items f.items =
    f.left ∙ ap (λ (k : ℕ). drop k (exchanges_of_item f.item ++ exchanges_of_items f.items)) none
    ∙ ap (λ (x : Item). drop 0 (exchanges_of_item x ++ exchanges_of_items f.items)) read.0 in
    let got = get_first log.entries (exchanges_of_items f.items) answered e found in
    record {
      entry = got.0;
      fits = (range_of log.version f.progress f.item e read.0 f.fits).0;
      no_end = (range_of log.version f.progress f.item e read.0 f.fits).1;
      behind = behind_first log answered place within text left f here (kept e) rest is got.1;
    }

-- ---- in the midst of a stretch

quiet_first : (round count within : ℕ) (es : List Exchange) → within < count
    → drop within (quiet_rounds round count ++ es)
    ≡ Signals (round + within) [] ∷ drop (within + 1) (quiet_rounds round count ++ es)
unfolding quiet_rounds
quiet_first round zero within es lt = absurd (omega (arith, lt))
quiet_first round (suc n) zero es lt =
    let here : round ≡ round + 0 = omega arith in
    ap (λ (r : ℕ). Signals r [] ∷ (quiet_rounds (suc round) n ++ es)) here
quiet_first round (suc n) (suc within) es lt =
    let at : suc round + within ≡ round + suc within = omega arith in
    let next : suc (within + 1) ≡ suc within + 1 = omega arith in
    quiet_first (suc round) n within es (omega (arith, lt))
    ∙ ap (λ (r : ℕ). Signals r [] ∷ drop (within + 1) (quiet_rounds (suc round) n ++ es)) at
    ∙ ap (λ (k : ℕ). Signals (round + suc within) [] ∷
    drop k (Signals round [] ∷ (quiet_rounds (suc round) n ++ es))) next

quiet_over : (round count : ℕ) (es : List Exchange) → drop count (quiet_rounds round count ++ es) ≡
    es
unfolding quiet_rounds
quiet_over round zero es = refl
quiet_over round (suc n) es = quiet_over (suc round) n es

-- a quiet entry is one of version 2
quiet_range : (v : LogVersion) (p : Progress) (item : Item) (round count : ℕ)
    → item ≡ quiet round count → FitsItem v p item → round + count ≤ 2 ^ 32
quiet_range One p item round count is fits =
    absurd (subst (FitsItem One p) is fits)
quiet_range Two p item round count is fits =
    let quiet_fits : FitsQuiet p round count = subst (FitsItem Two p) is fits in
    quiet_fits.last

module _ (log : Log) (answered place within : ℕ) (text left rest : List ℕ) (round count : ℕ)
    (lt : answered < length log.entries) (st : StandsAt log answered place within)
    (here : IsRead log place text left)
    (is : item_at log.version nothing_read (length text) left ≡ Ok (quiet round count, rest))
  where
    abbrev f : First log answered place within
    f = first_is log answered place within st lt

    abbrev read : (f.item ≡ quiet round count) × (items_text f.items ≡ rest)
    read = read_is log answered place within text left f here (quiet round count) rest is

    pub in_stretch : within < count
    in_stretch = subst (λ (x : Item). IsWithin within (x ∷ f.items)) read.0 f.within_first

    pub in_range : round + count ≤ 2 ^ 32
    in_range = quiet_range log.version f.progress f.item round count read.0 f.fits

    found : (slice_get log.entries answered ≡ Some (Signals (round + within) []))
        × (drop (answered + 1) log.entries
        ≡ drop (within + 1) (quiet_rounds round count ++ exchanges_of_items f.items))
    found =
        get_first log.entries
        (drop (within + 1) (quiet_rounds round count ++ exchanges_of_items f.items))
        answered (Signals (round + within) [])
        (f.left
        ∙ ap (λ (x : Item). drop within (exchanges_of_item x ++ exchanges_of_items f.items)) read.0
        ∙ quiet_first round count within (exchanges_of_items f.items) in_stretch)

    entry_fits : InRange (Signals (round + within) [])
    entry_fits = record {
      round_fits = omega (arith, in_stretch, in_range);
      count = omega arith;
      posts = tt;
    }

    pub next_more : within + 1 < count
        → NextAt log answered (Signals (round + within) []) place (within + 1)
    next_more more = record {
      entry = found.0;
      fits = entry_fits;
      no_end = tt;
      behind = record {
        progress = f.progress;
        items = f.item ∷ f.items;
        text_is = f.text_is ∙ sym (flat_map-cons item_text f.item f.items);
        spelled = (f.fits, f.spelled);
        left = found.1
            ∙ ap (λ (x : Item). drop (within + 1)
            (exchanges_of_item x ++ exchanges_of_items f.items)) (sym
            read.0);
        within_first = subst (λ (x : Item). IsWithin (within + 1) (x ∷ f.items)) (sym read.0) more;
        inside = st.inside;
      };
    }

    pub next_last : count ≤ within + 1
        → NextAt log answered (Signals (round + within) []) (length text - length rest) 0
    next_last last =
        let all : within + 1 ≡ count = omega (arith, in_stretch, last) in
        record {
          entry = found.0;
          fits = entry_fits;
          no_end = tt;
          behind = behind_first log answered place within text left f here (quiet round count)
              rest is
              (found.1
              ∙ ap (λ (k : ℕ). drop k (quiet_rounds round count ++ exchanges_of_items f.items)) all
              ∙ quiet_over round count (exchanges_of_items f.items));
        }

-- ---- before the first and behind the last

pub stands_first : (log : Log) → FitsLog log → StandsAt log 0 0 0
stands_first log fits =
    let items : List Item = items_in log.version log.entries in
    let spelled = are_spelled log.version log.entries fits.entries fits.few in
    record {
      progress = nothing_read;
      items = items;
      text_is = refl;
      spelled = spelled;
      left = sym (expanded_in log.version log.entries);
      within_first = within_none log.version nothing_read items spelled;
      inside = omega arith;
    }

pub stands_last : (log : Log) (answered : ℕ) (text : List ℕ)
    → text ≡ entries_text log.version log.entries → answered ≡ length log.entries
    → StandsAt log (answered + 1) (length text) 0
stands_last log answered text is all = record {
  progress = nothing_read;
  items = [];
  text_is = ap (drop (length text)) (sym is) ∙ drop_all text;
  spelled = tt;
  left = past log.entries (answered + 1) (omega (arith, all));
  within_first = refl;
  inside = subst (λ (t : List ℕ). length text ≤ length t) is (omega arith);
}
  where
    drop_all : (xs : List ℕ) → drop (length xs) xs ≡ []
    drop_all [] = refl
    drop_all (x ∷ xs) = drop_all xs

    past : (es : List Exchange) (n : ℕ) → length es ≤ n → drop n es ≡ []
    past [] zero le = refl
    past [] (suc n) le = refl
    past (e ∷ es) zero le = absurd (omega (arith, le))
    past (e ∷ es) (suc n) le = past es n (omega (arith, le))

-- ---- so many first ones

-- with the next exchange
pub passed_more : (es : List Exchange) (n : ℕ) (e : Exchange) → slice_get es n ≡ Some e
    → take (n + 1) es ≡ take n es ++ e ∷ []
passed_more es n e at =
    take_more es n e (slice_get_within es n e at)
    ∙ ap (λ (x : Exchange). take n es ++ x ∷ []) (get_or_from_slice_get es n e e at)
