-- Reading the entries of a log one after the other, as a loop does.
use Rattle.std.proofs.Common.{◌≡◌, ℕ, suc, ◌+◌, ◌-◌, ◌<◌, ◌≤◌, List, [], ◌∷◌, ◌++◌, length, take}
use Rattle.std.proofs.Common.{Result, Ok, Err, refl, sym, ap, subst, ◌∙◌}
use Rattle.std.proofs.Common.{append_assoc, arith}
use Rattle.std.proofs.lemmas.List.{append-nil, length-append, take_at}
use Rattle.std.proofs.lemmas.List.Concat.{flat_map-cons}
use Rattle.dos_world.specs.declared.Ending.{Ending}
use Rattle.dos_io.specs.declared.exchange.Exchange.TheVariants.{Signals, Input, Clock, End}
use Rattle.text_fields.specs.Reading.{◌>>=◌, field_place}
use Rattle.log_text.specs.declared.refusal.LogError.{LogError}
use Rattle.log_text.specs.declared.refusal.LogError.TheVariants as refusal
use Rattle.log_text.specs.declared.version.LogVersion.{LogVersion}
use Rattle.log_text.specs.declared.progress.Progress.{Progress}
use Rattle.log_text.specs.Items.{Item, quiet, kept, exchanges_of_items}
use Rattle.log_text.specs.LogText.{item_text, items_text}
use Rattle.log_text.specs.Ranges.{most_exchanges}
use Rattle.log_text.specs.Reading.{Body, behind_item, item_at, body_at, after_item, nothing_read}
use Rattle.log_text.specs.Spelling.{FitsItem, AreSpelled, after_items}
use Rattle.log_text.specs.Passing.{PassesItem}
use Rattle.log_text.specs.EntriesText.{items_in_text, IsEntriesText}
use Rattle.log_text.proofs.SpellingLaws.{after_append, spelled_append, items_text_append}
use Rattle.log_text.proofs.SpellingLaws.{after_held, spelled_few}
use Rattle.log_text.proofs.EntriesTextLaws.{text_spells, text_kept}

-- what was read before, and what is still read
abbrev with_items : List Item → Result (Body × List ℕ) LogError → Result (Body × List ℕ) LogError
with_items front read = read >>= λ x. Ok (record x.0 { items = front ++ x.0.items }, x.1)

abbrev in_front : Item → Result (Body × List ℕ) LogError → Result (Body × List ℕ) LogError
in_front item more = more >>= λ read. Ok (record read.0 { items = item ∷ read.0.items }, read.1)

joined : (front : List Item) (item : Item) (read : Result (Body × List ℕ) LogError)
    → with_items front (in_front item read) ≡ with_items (front ++ item ∷ []) read
joined front item (Ok x) =
    ap (λ (xs : List Item). Ok (record x.0 { items = xs }, x.1))
    (sym (append_assoc front (item ∷ []) x.0.items))
joined front item (Err d) = refl

one_more : (v : LogVersion) (p : Progress) (front : List Item) (item : Item) (after : List ℕ)
    (more : Result (Body × List ℕ) LogError) → FitsItem v p item
    → with_items front (behind_item item after more) ≡ with_items (front ++ item ∷ []) more
one_more v p front (quiet round count) after more h = joined front (quiet round count) more
one_more v p front (kept (Signals round list)) after more h =
    joined front (kept (Signals round list)) more
one_more v p front (kept (Input round tid max bytes)) after more h =
    joined front (kept (Input round tid max bytes)) more
one_more v p front (kept (Clock round tid n)) after more h =
    joined front (kept (Clock round tid n)) more
one_more v p front (kept (End ending rounds)) after more h = absurd h.no_end

last_one : (front : List Item) (ending : Ending) (rounds : ℕ) (after : List ℕ)
    (more : Result (Body × List ℕ) LogError)
    → with_items front (behind_item (kept (End ending rounds)) after more)
    ≡ Ok (record { items = front; ending = ending; rounds = rounds }, after)
last_one front ending rounds after more = rw (append-nil front) refl

-- So many entries of these bytes are read, the rest is left, and reading goes on there.
pub record Walked (v : LogVersion) (end : ℕ) (bytes rest : List ℕ) (p : Progress) (count : ℕ)
    : Type 0 where
  pub items : List Item
  pub split : bytes ≡ items_text items ++ rest
  pub spelled : AreSpelled v nothing_read items
  pub count_is : count ≡ length items
  pub progress : p ≡ after_items nothing_read items
  pub so_far : with_items items (body_at v (length bytes - count) p end rest)
      ≡ body_at v (length bytes) nothing_read end bytes

-- before the first entry
pub walk_starts : (v : LogVersion) (end : ℕ) (bytes : List ℕ) (p : Progress) → p ≡ nothing_read
    → Walked v end bytes bytes p 0
walk_starts v end bytes p is = record {
  items = [];
  split = refl;
  spelled = tt;
  count_is = refl;
  progress = is;
  so_far = nothing_before (body_at v (length bytes - 0) p end bytes)
      ∙ ap (λ (n : ℕ). body_at v n p end bytes) all
      ∙ ap (λ (q : Progress). body_at v (length bytes) q end bytes) is;
}
  where
    nothing_before : (read : Result (Body × List ℕ) LogError) → with_items [] read ≡ read
    nothing_before (Ok x) = refl
    nothing_before (Err d) = refl

    all : length bytes - 0 ≡ length bytes
    all = omega arith

module _ (v : LogVersion) (end : ℕ) (bytes rest : List ℕ) (p : Progress) (count : ℕ)
    (w : Walked v end bytes rest p count) where
  pub rest_short : length rest ≤ length bytes
  rest_short = omega (arith, ap length w.split, length-append (items_text w.items) rest)

  pub walk_held : p.held ≡ length (exchanges_of_items w.items)
  walk_held = omega (
    arith,
    ap (λ (q : Progress). q.held) w.progress,
    after_held nothing_read w.items,
  )

  pub walk_few : p.held ≤ most_exchanges
  walk_few =
      omega (arith, walk_held, spelled_few v nothing_read w.items w.spelled (omega arith))

  one_read : (item : Item) (after : List ℕ) → count < length bytes
      → item_at v p end rest ≡ Ok (item, after)
      → with_items w.items (behind_item item after
      (body_at v (length bytes - (count + 1)) (after_item p item) end after))
      ≡ body_at v (length bytes) nothing_read end bytes
  unfolding body_at
  one_read item after lt read =
      let k : length bytes - count ≡ suc (length bytes - (count + 1)) = omega arith in
      let one : with_items w.items (body_at v (length bytes - count) p end rest)
      ≡ with_items w.items
      (behind_item item after
      (body_at v (length bytes - (count + 1)) (after_item p item) end after)) =
      rw (k, read) refl in
      sym one ∙ w.so_far

  pub walk_goes_on : (q : Progress) (after : List ℕ) → count < length bytes
      → PassesItem v p end rest q after → Walked v end bytes after q (count + 1)
  walk_goes_on q after lt passes = record {
    items = w.items ++ passes.item ∷ [];
    split = w.split ∙ ap (λ (x : List ℕ). items_text w.items ++ x) passes.parts
        ∙ sym (append_assoc (items_text w.items) (item_text passes.item) after)
        ∙ ap (λ (x : List ℕ). x ++ after) (sym (items_text_append w.items (passes.item ∷ [])
        ∙ ap (λ (x : List ℕ). items_text w.items ++ x)
        (flat_map-cons item_text passes.item [] ∙ append-nil (item_text passes.item))));
    spelled = spelled_append v nothing_read w.items (passes.item ∷ []) w.spelled
        (subst (λ (r : Progress). FitsItem v r passes.item) w.progress passes.fits, tt);
    count_is = omega (arith, w.count_is, length-append w.items (passes.item ∷ []));
    progress = passes.progress
        ∙ ap (λ (r : Progress). after_item r passes.item) w.progress
        ∙ sym (after_append nothing_read w.items (passes.item ∷ []));
    so_far =
        ap (λ (r : Progress). with_items (w.items ++ passes.item ∷ [])
        (body_at v (length bytes - (count + 1)) r end after)) passes.progress
        ∙ sym (one_more v p w.items passes.item after
        (body_at v (length bytes - (count + 1)) (after_item p passes.item) end after) passes.fits)
        ∙ one_read passes.item after lt passes.read;
  }

  -- the text in front of the rest
  walked_text : take (length bytes - length rest) bytes ≡ items_text w.items
  walked_text =
      let long : length bytes ≡ length (items_text w.items) + length rest =
      ap length w.split ∙ length-append (items_text w.items) rest in
      ap (take (length bytes - length rest)) w.split
      ∙ take_at (items_text w.items) rest (length bytes - length rest) (omega (arith, long))

  pub walk_text : (text : List ℕ) → text ≡ take (length bytes - length rest) bytes
      → IsEntriesText v text p.held
  walk_text text is = text_kept v text w.items p.held (is ∙ walked_text) w.spelled walk_held

  pub walk_ends : (after text : List ℕ) (ending : Ending) (rounds : ℕ) → count < length bytes
      → item_at v p end rest ≡ Ok (kept (End ending rounds), after)
      → text ≡ take (length bytes - length rest) bytes
      → body_at v (length bytes) nothing_read end bytes
      ≡ Ok (record { items = items_in_text v text; ending = ending; rounds = rounds }, after)
  walk_ends after text ending rounds lt read is =
      let shows : items_in_text v text ≡ w.items =
      text_spells v text w.items (is ∙ walked_text) w.spelled in
      sym (one_read (kept (End ending rounds)) after lt read)
      ∙ last_one w.items ending rounds after (body_at v (length bytes - (count + 1))
      (after_item p (kept (End ending rounds))) end after)
      ∙ ap (λ (xs : List Item).
      Ok (record { items = xs; ending = ending; rounds = rounds }, after)) (sym shows)

  pub walk_refuses : (d : LogError) → count < length bytes → item_at v p end rest ≡ Err d
      → body_at v (length bytes) nothing_read end bytes ≡ Err d
  unfolding body_at
  walk_refuses d lt read =
      let k : length bytes - count ≡ suc (length bytes - (count + 1)) = omega arith in
      let one : with_items w.items (body_at v (length bytes - count) p end rest) ≡ Err d =
      rw (k, read) refl in
      sym w.so_far ∙ one

  pub walk_runs_out : length bytes ≤ count
      → body_at v (length bytes) nothing_read end bytes ≡ Err (refusal.Short (field_place end rest))
  unfolding body_at
  walk_runs_out le =
      let k : length bytes - count ≡ 0 = omega arith in
      let one : with_items w.items (body_at v (length bytes - count) p end rest)
      ≡ Err (refusal.Short (field_place end rest)) = rw k refl in
      sym w.so_far ∙ one
