-- Entries that are spelled one behind the other, and the exchanges that they stand for.
use Rattle.std.proofs.Common.{◌≡◌, ℕ, zero, suc, ◌+◌, ◌≤◌, ◌^◌, List, [], ◌∷◌, ◌++◌, length}
use Rattle.std.proofs.Common.{Option, Some, None, refl, sym, ap, subst, ◌∙◌, append_assoc, arith}
use Rattle.std.proofs.lemmas.List.{length-append}
use Rattle.std.proofs.lemmas.List.Concat.{flat_map-append}
use Rattle.dos_io.specs.declared.exchange.Exchange.{Exchange}
use Rattle.dos_io.specs.declared.exchange.Exchange.TheVariants.{Signals, Input, Clock, End}
use Rattle.log_text.specs.declared.version.LogVersion.{LogVersion}
use Rattle.log_text.specs.declared.version.LogVersion.TheVariants.{One, Two}
use Rattle.log_text.specs.declared.progress.Progress.{Progress}
use Rattle.log_text.specs.Items.{Item, quiet, kept, items_of, items_in, each_kept, quiet_rounds}
use Rattle.log_text.specs.Items.{exchanges_of_item, exchanges_of_items, IsLoud, GoesNotOn}
use Rattle.log_text.specs.Items.{AreJoined}
use Rattle.log_text.specs.LogText.{item_text, items_text}
use Rattle.log_text.specs.Ranges.{AreEntries, HasPosts, most_exchanges}
use Rattle.log_text.specs.Reading.{after_item, nothing_read}
use Rattle.log_text.specs.Spelling.{AreSpelled, after_items}
use Rattle.log_text.proofs.ItemLaws.{items_expanded, items_joined, joined_again}

-- ---- one list behind another

pub after_append : (p : Progress) (xs ys : List Item)
    → after_items p (xs ++ ys) ≡ after_items (after_items p xs) ys
after_append p [] ys = refl
after_append p (x ∷ xs) ys = after_append (after_item p x) xs ys

pub spelled_append : (v : LogVersion) (p : Progress) (xs ys : List Item) → AreSpelled v p xs
    → AreSpelled v (after_items p xs) ys → AreSpelled v p (xs ++ ys)
spelled_append v p [] ys h k = k
spelled_append v p (x ∷ xs) ys h k = (h.0, spelled_append v (after_item p x) xs ys h.1 k)

pub spelled_front : (v : LogVersion) (p : Progress) (xs ys : List Item) → AreSpelled v p (xs ++ ys)
    → AreSpelled v p xs
spelled_front v p [] ys h = tt
spelled_front v p (x ∷ xs) ys h = (h.0, spelled_front v (after_item p x) xs ys h.1)

pub spelled_back : (v : LogVersion) (p : Progress) (xs ys : List Item) → AreSpelled v p (xs ++ ys)
    → AreSpelled v (after_items p xs) ys
spelled_back v p [] ys h = h
spelled_back v p (x ∷ xs) ys h = spelled_back v (after_item p x) xs ys h.1

pub exchanges_append : (xs ys : List Item)
    → exchanges_of_items (xs ++ ys) ≡ exchanges_of_items xs ++ exchanges_of_items ys
exchanges_append [] ys = refl
exchanges_append (x ∷ xs) ys =
    ap (λ (es : List Exchange). exchanges_of_item x ++ es) (exchanges_append xs ys)
    ∙ sym (append_assoc (exchanges_of_item x) (exchanges_of_items xs) (exchanges_of_items ys))

pub items_text_append : (xs ys : List Item)
    → items_text (xs ++ ys) ≡ items_text xs ++ items_text ys
items_text_append xs ys = flat_map-append item_text xs ys

-- ---- a stretch of rounds without a signal

pub quiet_length : (round count : ℕ) → length (quiet_rounds round count) ≡ count
unfolding quiet_rounds
quiet_length round zero = refl
quiet_length round (suc n) = ap suc (quiet_length (suc round) n)

pub quiet_last : (round count : ℕ)
    → quiet_rounds round (count + 1) ≡ quiet_rounds round count ++ Signals (round + count) [] ∷ []
unfolding quiet_rounds
quiet_last round zero =
    let here : round ≡ round + 0 = omega arith in
    ap (λ (r : ℕ). Signals r [] ∷ []) here
quiet_last round (suc n) =
    let more : suc n + 1 ≡ suc (n + 1) = omega arith in
    let last : suc round + n ≡ round + suc n = omega arith in
    ap (quiet_rounds round) more
    ∙ ap (λ (es : List Exchange). Signals round [] ∷ es) (quiet_last (suc round) n)
    ∙ ap (λ (r : ℕ). (Signals round [] ∷ quiet_rounds (suc round) n) ++ Signals r [] ∷ []) last

quiet_fits : (round count : ℕ) (es : List Exchange) → round + count ≤ 2 ^ 32 → AreEntries es
    → AreEntries (quiet_rounds round count ++ es)
unfolding quiet_rounds
quiet_fits round zero es le fits = fits
quiet_fits round (suc n) es le fits = (
  (record { round_fits = omega (arith, le); count = omega arith; posts = tt }, tt),
  quiet_fits (suc round) n es (omega (arith, le)) fits,
)

quiet_bound : (round n : ℕ) (es : List Exchange) → AreEntries (quiet_rounds round (suc n) ++ es)
    → round + suc n ≤ 2 ^ 32
unfolding quiet_rounds
quiet_bound round zero es fits = omega (arith, fits.0.0.round_fits)
quiet_bound round (suc n) es fits = omega (arith, quiet_bound (suc round) n es fits.1)

quiet_behind : (round count : ℕ) (es : List Exchange) → AreEntries (quiet_rounds round count ++ es)
    → AreEntries es
unfolding quiet_rounds
quiet_behind round zero es fits = fits
quiet_behind round (suc n) es fits = quiet_behind (suc round) n es fits.1

-- ---- what entries stand for is in its ranges

pub item_length : (round count : ℕ) (items : List Item)
    → length (exchanges_of_items (quiet round count ∷ items))
    ≡ count + length (exchanges_of_items items)
item_length round count items =
    length-append (quiet_rounds round count) (exchanges_of_items items)
    ∙ ap (λ (n : ℕ). n + length (exchanges_of_items items)) (quiet_length round count)

pub after_held : (p : Progress) (items : List Item)
    → (after_items p items).held ≡ p.held + length (exchanges_of_items items)
after_held p [] = omega arith
after_held p (quiet round count ∷ items) =
    omega (
      arith,
      after_held (after_item p (quiet round count)) items,
      item_length round count items,
    )
after_held p (kept e ∷ items) = omega (arith, after_held (after_item p (kept e)) items)

pub spelled_few : (v : LogVersion) (p : Progress) (items : List Item) → AreSpelled v p items
    → p.held ≤ most_exchanges → p.held + length (exchanges_of_items items) ≤ most_exchanges
spelled_few v p [] h le = omega (arith, le)
spelled_few v p (kept e ∷ items) h le =
    omega (arith, spelled_few v (after_item p (kept e)) items h.1 h.0.held)
spelled_few One p (quiet round count ∷ items) h le = absurd h.0
spelled_few Two p (quiet round count ∷ items) h le =
    omega (
      arith,
      spelled_few Two (after_item p (quiet round count)) items h.1 h.0.held,
      item_length round count items,
    )

pub spelled_fits : (v : LogVersion) (p : Progress) (items : List Item) → AreSpelled v p items
    → AreEntries (exchanges_of_items items)
spelled_fits v p [] h = tt
spelled_fits v p (kept e ∷ items) h =
    ((h.0.range, h.0.no_end), spelled_fits v (after_item p (kept e)) items h.1)
spelled_fits One p (quiet round count ∷ items) h = absurd h.0
spelled_fits Two p (quiet round count ∷ items) h =
    quiet_fits round count (exchanges_of_items items) h.0.last
    (spelled_fits Two (after_item p (quiet round count)) items h.1)

-- ---- and has these entries

posts_loud : (e : Exchange) → HasPosts 1 e → IsLoud e
posts_loud (Signals round []) h = absurd (omega (arith, h))
posts_loud (Signals round (post ∷ posts)) h = tt
posts_loud (Input round tid max bytes) h = tt
posts_loud (Clock round tid n) h = tt
posts_loud (End ending rounds) h = tt

pub loud_posts : (e : Exchange) → IsLoud e → HasPosts 1 e
loud_posts (Signals round []) h = absurd h
loud_posts (Signals round (post ∷ posts)) h = omega arith
loud_posts (Input round tid max bytes) h = tt
loud_posts (Clock round tid n) h = tt
loud_posts (End ending rounds) h = tt

abbrev some_round : ℕ → Option ℕ
some_round n = Some n

some_is : (m n : ℕ) → some_round m ≡ some_round n → m ≡ n
some_is m n e = cc

not_on : (p : Progress) (n : ℕ) (items : List Item) → p.goes_on ≡ Some n → AreSpelled Two p items
    → GoesNotOn n items
not_on p n [] is h = tt
not_on p n (kept e ∷ items) is h = tt
not_on p n (quiet next count ∷ items) is h =
    λ same. h.0.apart (is ∙ ap (λ (k : ℕ). some_round k) (sym same))

pub spelled_joined : (p : Progress) (items : List Item) → AreSpelled Two p items
    → AreJoined items
spelled_joined p [] h = tt
spelled_joined p (kept e ∷ items) h =
    (posts_loud e h.0.posts, spelled_joined (after_item p (kept e)) items h.1)
spelled_joined p (quiet round count ∷ items) h = (
  h.0.some,
  not_on (after_item p (quiet round count)) (round + count) items refl h.1,
  spelled_joined (after_item p (quiet round count)) items h.1,
)

each_again : (p : Progress) (items : List Item) → AreSpelled One p items
    → each_kept (exchanges_of_items items) ≡ items
each_again p [] h = refl
each_again p (kept e ∷ items) h =
    ap (λ (xs : List Item). kept e ∷ xs) (each_again (after_item p (kept e)) items h.1)
each_again p (quiet round count ∷ items) h = absurd h.0

pub spelled_again : (v : LogVersion) (p : Progress) (items : List Item) → AreSpelled v p items
    → items_in v (exchanges_of_items items) ≡ items
spelled_again One p items h = each_again p items h
spelled_again Two p items h = joined_again items (spelled_joined p items h)

-- ---- the entries of exchanges in their ranges are spelled

each_expanded : (es : List Exchange) → exchanges_of_items (each_kept es) ≡ es
each_expanded [] = refl
each_expanded (e ∷ es) = ap (λ (xs : List Exchange). e ∷ xs) (each_expanded es)

pub expanded_in : (v : LogVersion) (es : List Exchange) → exchanges_of_items (items_in v es) ≡ es
expanded_in One es = each_expanded es
expanded_in Two es = items_expanded es

has_none : (e : Exchange) → HasPosts 0 e
has_none (Signals round list) = omega arith
has_none (Input round tid max bytes) = tt
has_none (Clock round tid n) = tt
has_none (End ending rounds) = tt

each_spelled : (p : Progress) (es : List Exchange) → AreEntries es
    → p.held + length es ≤ most_exchanges → AreSpelled One p (each_kept es)
each_spelled p [] fits le = tt
each_spelled p (e ∷ es) fits le = (
  record {
    range = fits.0.0;
    no_end = fits.0.1;
    posts = has_none e;
    held = omega (arith, le);
  },
  each_spelled (after_item p (kept e)) es fits.1 (omega (arith, le)),
)

-- the first of these doesn't go on
abbrev Starts : Option ℕ → List Item → Type 0
Starts None items = Unit {0}
Starts (Some n) items = GoesNotOn n items

starts_apart : (o : Option ℕ) (round count : ℕ) (items : List Item)
    → Starts o (quiet round count ∷ items) → o ≡ Some round → ⊥
starts_apart None round count items h e = absurd cc
starts_apart (Some n) round count items h e = h (sym (some_is n round e))

joined_spelled : (p : Progress) (items : List Item) → AreJoined items
    → AreEntries (exchanges_of_items items)
    → p.held + length (exchanges_of_items items) ≤ most_exchanges
    → Starts p.goes_on items → AreSpelled Two p items
joined_spelled p [] are fits le starts = tt
joined_spelled p (kept e ∷ items) are fits le starts = (
  record {
    range = fits.0.0;
    no_end = fits.0.1;
    posts = loud_posts e are.0;
    held = omega (arith, le);
  },
  joined_spelled (after_item p (kept e)) items are.1 fits.1 (omega (arith, le)) tt,
)
joined_spelled p (quiet round zero ∷ items) are fits le starts = absurd (omega (arith, are.0))
joined_spelled p (quiet round (suc n) ∷ items) are fits le starts = (
  record {
    apart = starts_apart p.goes_on round (suc n) items starts;
    some = are.0;
    last = quiet_bound round n (exchanges_of_items items) fits;
    held = omega (arith, le, item_length round (suc n) items);
  },
  joined_spelled (after_item p (quiet round (suc n))) items are.2
      (quiet_behind round (suc n) (exchanges_of_items items) fits)
      (omega (arith, le, item_length round (suc n) items)) are.1,
)

pub are_spelled : (v : LogVersion) (es : List Exchange) → AreEntries es
    → length es ≤ most_exchanges → AreSpelled v nothing_read (items_in v es)
are_spelled One es fits few = each_spelled nothing_read es fits (omega (arith, few))
are_spelled Two es fits few =
    joined_spelled nothing_read (items_of es) (items_joined es)
    (subst AreEntries (sym (items_expanded es)) fits)
    (omega (arith, few, ap (λ (xs : List Exchange). length xs) (items_expanded es))) tt
