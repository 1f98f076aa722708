-- Each row of a log is a format: what is read was written so, and what is written is read again.
-- Its text and its range are those of the log.
use Rattle.std.proofs.Common.{◌≡◌, ℕ, zero, suc, ◌+◌, ◌-◌, ◌^◌, ◌≤◌, min, Bool, true, false}
use Rattle.std.proofs.Common.{cond, eqb, leb, List, [], ◌∷◌, ◌++◌, length, Option, Some, None}
use Rattle.std.proofs.Common.{refl, sym, ap, ◌∙◌, arith}
use Rattle.std.specs.Int.{w16, w32, w64, to_le_bytes}
use Rattle.std.specs.List.{concat, flat_map}
use Rattle.std.proofs.lemmas.Bool.{eq-eqb, le-leb, leb-true, and_parts}
use Rattle.std.proofs.lemmas.List.Concat.{flat_map-cons}
use Rattle.dos_world.specs.declared.Post.{Post}
use Rattle.dos_world.specs.declared.Ending.{Ending}
use Rattle.dos_world.specs.declared.Ending.TheVariants.{Done, Limit, Stalled}
use Rattle.dos_io.specs.declared.exchange.Exchange.TheVariants.{Signals, Input, Clock, End}
use Rattle.dos_io.specs.Posts.{ArePosts}
use Rattle.text_fields.specs.Formats.{Format, bytes, u8_in, u16_in, u32_in, u64_in, list_text}
use Rattle.text_fields.specs.Formats.{ListFits, many, from_to}
use Rattle.text_fields.specs.Laws.{IsFormat}
use Rattle.text_fields.proofs.FormatLaws.{bytes_format, number_format, u8_format, then_format}
use Rattle.text_fields.proofs.FormatLaws.{as_format, tagged_format, many_format, with_count_format}
use Rattle.text_fields.proofs.FormatLaws.{listed_length, wide16, wide32, wide64}
use Rattle.log_text.specs.declared.header.LogHeader.{LogHeader}
use Rattle.log_text.specs.declared.version.LogVersion.{LogVersion}
use Rattle.log_text.specs.declared.version.LogVersion.TheVariants.{One, Two}
use Rattle.log_text.specs.declared.progress.Progress.{Progress}
use Rattle.log_text.specs.Bytes.{AreDigests}
use Rattle.log_text.specs.Items.{Item, quiet, kept}
use Rattle.log_text.specs.LogText.{ending_code, post_text, item_text}
use Rattle.log_text.specs.Ranges.{FitsHeader, least_posts}
use Rattle.log_text.specs.Ranges.{most_exchanges}
use Rattle.log_text.specs.Rows as row
use Rattle.log_text.specs.Spelling.{MayCome}
use Rattle.log_text.proofs.ItemLaws.{eqb-false}

n16 : (test : ℕ → Bool) → IsFormat (u16_in test)
n16 test = number_format w16 wide16 test

n32 : (test : ℕ → Bool) → IsFormat (u32_in test)
n32 test = number_format w32 wide32 test

n64 : (test : ℕ → Bool) → IsFormat (u64_in test)
n64 test = number_format w64 wide64 test

range_is : (low high n : ℕ) → from_to low high n ≡ true → (low ≤ n) × (n ≤ high)
range_is low high n e =
    let p = and_parts (leb low n) (leb n high) e in (leb-true _ _ p.0, leb-true _ _ p.1)

in_range : (low high n : ℕ) → low ≤ n → n ≤ high → from_to low high n ≡ true
in_range low high n p q = rw (le-leb low n p, le-leb n high q) refl

many_length : {A : Type 0} (n : ℕ) (form : Format A) (xs : List A) → (many n form).Fits xs
    → length xs ≡ n
many_length n form xs fits = listed_length (λ (s : ℕ). form) (λ s x. s) n 0 xs fits

-- ---- the header

digests_text : (s : ℕ) (ds : List (List ℕ))
    → list_text (λ (s : ℕ). bytes 32) (λ s x. s) s ds ≡ concat ds
digests_text s [] = refl
digests_text s (d ∷ ds) = ap (λ (t : List ℕ). d ++ t) (digests_text s ds)

digests_of : (n s : ℕ) (ds : List (List ℕ))
    → ListFits (λ (s : ℕ). bytes 32) (λ s x. s) n s ds → AreDigests ds
digests_of zero s [] fits = tt
digests_of zero s (d ∷ ds) fits = absurd fits
digests_of (suc n) s [] fits = absurd fits
digests_of (suc n) s (d ∷ ds) fits =
    (record { len = fits.0.0; bytes = fits.0.1 }, digests_of n s ds fits.1)

of_digests : (s : ℕ) (ds : List (List ℕ)) → AreDigests ds
    → ListFits (λ (s : ℕ). bytes 32) (λ s x. s) (length ds) s ds
of_digests s [] fits = tt
of_digests s (d ∷ ds) fits = ((fits.0.len, fits.0.bytes), of_digests s ds fits.1)

pub header_format : IsFormat row.log_header_row
header_format = as_format row.to_log_header row.of_log_header row.log_fields
    (then_format _ _ (n16 _) (λ _ _.
    then_format _ _ (n32 _) (λ _ _.
    then_format _ _ (n32 _) (λ _ _.
    then_format _ _ (n32 _) (λ _ _. many_format _ _ (bytes_format 32))))))
    (λ a fits. ap (λ n. (n, a.1))
    (many_length a.0 (bytes 32) a.1.1.1.1 fits.1.1.1.1))

pub header_text_is : (h : LogHeader) → row.log_header_row.text h
    ≡ to_le_bytes w16 (length h.digests) ++ (to_le_bytes w32 h.quantum
    ++ (to_le_bytes w32 h.rounds ++ (to_le_bytes w32 h.frames ++ concat h.digests)))
header_text_is h =
    ap (λ (t : List ℕ). to_le_bytes w16 (length h.digests) ++ (to_le_bytes w32 h.quantum
    ++ (to_le_bytes w32 h.rounds ++ (to_le_bytes w32 h.frames ++ t)))) (digests_text 0 h.digests)

pub header_of_row : (h : LogHeader) → row.log_header_row.Fits h → FitsHeader h
header_of_row h fits = record {
  quantum = range_is 16 65536 h.quantum fits.0.1.0.1;
  rounds = range_is 1 1000000 h.rounds fits.0.1.1.0.1;
  frames = range_is 16 16384 h.frames fits.0.1.1.1.0.1;
  count = range_is 1 8 (length h.digests) fits.0.0.1;
  digests = digests_of (length h.digests) 0 h.digests fits.0.1.1.1.1;
}

pub row_of_header : (h : LogHeader) → FitsHeader h → row.log_header_row.Fits h
row_of_header h fits = (
  (
    (
      omega (arith, fits.count.1),
      in_range 1 8 (length h.digests) fits.count.0 fits.count.1,
    ),
    (
      (
        omega (arith, fits.quantum.1),
        in_range 16 65536 h.quantum fits.quantum.0 fits.quantum.1,
      ),
      (
        (
          omega (arith, fits.rounds.1),
          in_range 1 1000000 h.rounds fits.rounds.0 fits.rounds.1,
        ),
        (
          (
            omega (arith, fits.frames.1),
            in_range 16 16384 h.frames fits.frames.0 fits.frames.1,
          ),
          of_digests 0 h.digests fits.digests,
        ),
      ),
    ),
  ),
  refl,
)

-- ---- an entry behind its kind

post_fields_format : IsFormat row.post_fields
post_fields_format = then_format _ _ (n32 _) (λ _ _. u8_format _)

pub post_format : IsFormat row.post_row
post_format = as_format row.to_post row.of_post row.post_fields post_fields_format (λ a fits. refl)

pub posts_text : (s : ℕ) (posts : List Post)
    → list_text (λ (s : ℕ). row.post_row) (λ s x. s) s posts ≡ flat_map post_text posts
posts_text s [] = refl
posts_text s (post ∷ posts) =
    ap (λ (t : List ℕ). post_text post ++ t) (posts_text s posts)
    ∙ sym (flat_map-cons post_text post posts)

pub posts_of : (n s : ℕ) (posts : List Post)
    → ListFits (λ (s : ℕ). row.post_row) (λ s x. s) n s posts → ArePosts posts
posts_of zero s [] fits = tt
posts_of zero s (post ∷ posts) fits = absurd fits
posts_of (suc n) s [] fits = absurd fits
posts_of (suc n) s (post ∷ posts) fits =
    let signal = range_is 1 31 post.signal fits.0.0.1.1 in (
      record { pid = omega (arith, fits.0.0.0.0); low = signal.0; high = signal.1 },
      posts_of n s posts fits.1,
    )

of_posts : (s : ℕ) (posts : List Post) → ArePosts posts
    → ListFits (λ (s : ℕ). row.post_row) (λ s x. s) (length posts) s posts
of_posts s [] fits = tt
of_posts s (post ∷ posts) fits = (
  (
    (
      (omega (arith, fits.0.pid), refl),
      (
        omega (arith, fits.0.high),
        in_range 1 31 post.signal fits.0.low fits.0.high,
      ),
    ),
    refl,
  ),
  of_posts s posts fits.1,
)

posts_format : (least : ℕ) → IsFormat (row.posts_row least)
posts_format least = with_count_format (u8_in (from_to least 32)) (λ n. many n row.post_row)
    (u8_format _) (λ n. many_format n _ post_format)
    (λ n xs fits. many_length n row.post_row xs fits)

signals_format : (least : ℕ) → IsFormat (row.signals_row least)
signals_format least =
    as_format row.to_signals row.of_signals (row.signals_fields least)
    (then_format _ _ (n32 _) (λ _ _. posts_format least)) (λ a fits. refl)

input_bytes_format : (max : ℕ) → IsFormat (row.input_row_bytes max)
input_bytes_format max =
    with_count_format (u16_in (from_to 0 max)) bytes (n16 _) bytes_format (λ n xs fits. fits.0)

input_format : IsFormat row.input_row
input_format = as_format row.to_input row.of_input row.input_fields
    (then_format _ _ (n32 _) (λ _ _.
    then_format _ _ (n32 _) (λ _ _.
    then_format _ _ (n16 _) (λ max _. input_bytes_format max))))
    (λ a fits. refl)

clock_format : IsFormat row.clock_row
clock_format = as_format row.to_clock row.of_clock row.clock_fields
    (then_format _ _ (n32 _) (λ _ _. then_format _ _ (n32 _) (λ _ _. n64 _)))
    (λ a fits. refl)

ending_back : (n : ℕ) → (u8_in (from_to 0 2)).Fits n → ending_code (row.ending_of_byte n) ≡ n
ending_back zero fits = refl
ending_back (suc zero) fits = refl
ending_back (suc (suc zero)) fits = refl
ending_back (suc (suc (suc n))) fits =
    let r = range_is 0 2 (suc (suc (suc n))) fits.1 in absurd (omega arith)

ending_format : IsFormat row.ending_row
ending_format = as_format row.ending_of_byte ending_code (u8_in (from_to 0 2)) (u8_format _)
    ending_back

end_format : IsFormat row.end_row
end_format = as_format row.to_end row.of_end row.end_fields
    (then_format _ _ ending_format (λ _ _. n32 _)) (λ a fits. refl)

quiet_format : (p : Progress) → IsFormat (row.quiet_row p)
quiet_format p = as_format row.to_quiet row.of_quiet (row.quiet_fields p)
    (then_format _ _ (n32 _) (λ _ _. n32 _)) (λ a fits. refl)

-- ---- an entry

not_full : (m n : ℕ) → eqb m n ≡ false → m ≤ n → m + 1 ≤ n
not_full m n is le = by_cases (eqb m n) refl is
  where
    differ : (m ≡ n → ⊥) → m + 1 ≤ n
    differ not = omega (arith, not, le)

    by_cases : (b : Bool) → eqb m n ≡ b → b ≡ false → m + 1 ≤ n
    by_cases true t f = absurd cc
    by_cases false t f =
        differ (λ same. absurd (let wrong : true ≡ false = sym (eq-eqb m n same) ∙ t in cc))

-- what a kind but the end's has passed
record Came (v : LogVersion) (p : Progress) (n : ℕ) : Type 0 where
  pub free : eqb p.held most_exchanges ≡ false
  pub known : n ≤ row.last_kind v

came : (v : LogVersion) (p : Progress) (n : ℕ) → row.kind_may_stand v p (suc n) ≡ true
    → Came v p (suc n)
came v p n e = by_cases (eqb p.held most_exchanges) refl e
  where
    by_cases : (b : Bool) → eqb p.held most_exchanges ≡ b
        → cond b false (leb (suc n) (row.last_kind v)) ≡ true → Came v p (suc n)
    by_cases true is e = absurd cc
    by_cases false is e = record { free = is; known = leb-true _ _ e }

comes : (v : LogVersion) (p : Progress) (n : ℕ) → p.held + 1 ≤ most_exchanges
    → suc n ≤ row.last_kind v → row.kind_may_stand v p (suc n) ≡ true
comes v p n held known =
    rw (
      eqb-false p.held most_exchanges (λ same. omega (arith, held, same)),
      le-leb (suc n) (row.last_kind v) known,
    ) refl

row_format : (v : LogVersion) (p : Progress) (n : ℕ) → (u8_in (row.kind_may_stand v p)).Fits n
    → IsFormat (row.row_of_kind v p n)
row_format v p zero fits = end_format
row_format v p (suc zero) fits = signals_format (least_posts v)
row_format v p (suc (suc zero)) fits = input_format
row_format v p (suc (suc (suc zero))) fits = clock_format
row_format v p (suc (suc (suc (suc n)))) fits = quiet_format p

at_most_four : (v : LogVersion) → row.last_kind v ≤ 4
at_most_four One = omega arith
at_most_four Two = omega arith

row_tags : (v : LogVersion) (p : Progress) (n : ℕ) (item : Item)
    → (u8_in (row.kind_may_stand v p)).Fits n → (row.row_of_kind v p n).Fits item
    → row.kind_of item ≡ n
row_tags v p zero item fits f = ap row.kind_of (sym f.1)
row_tags v p (suc zero) item fits f = ap row.kind_of (sym f.1)
row_tags v p (suc (suc zero)) item fits f = ap row.kind_of (sym f.1)
row_tags v p (suc (suc (suc zero))) item fits f = ap row.kind_of (sym f.1)
row_tags v p (suc (suc (suc (suc zero)))) item fits f = ap row.kind_of (sym f.1)
row_tags v p (suc (suc (suc (suc (suc n))))) item fits f =
    let c = came v p (suc (suc (suc (suc n)))) fits.1 in
    absurd (omega (arith, c.known, at_most_four v))

pub item_format : (v : LogVersion) (p : Progress) → IsFormat (row.item_row v p)
item_format v p =
    tagged_format row.kind_of (row.kind_may_stand v p) (row.row_of_kind v p) (row_format v p)
    (row_tags v p)

pub item_text_is : (v : LogVersion) (p : Progress) (item : Item)
    → (row.item_row v p).text item ≡ item_text item
item_text_is v p (kept (End ending rounds)) = refl
item_text_is v p (kept (Signals round posts)) =
    ap (λ (t : List ℕ). 1 ∷ (to_le_bytes w32 round ++ (length posts ∷ t))) (posts_text 0 posts)
item_text_is v p (kept (Input round tid max input)) = refl
item_text_is v p (kept (Clock round tid reading)) = refl
item_text_is v p (quiet round count) = refl

-- ---- its range

apart_is : (goes_on : Option ℕ) (round : ℕ) → row.is_apart goes_on round ≡ true
    → goes_on ≡ Some round → ⊥
apart_is None round t e = absurd cc
apart_is (Some n) round t e =
    let same : n ≡ round = cc in
    let next : eqb n round ≡ true = eq-eqb n round same in
    let wrong : cond true false true ≡ true =
    ap (λ (b : Bool). cond b false true) (sym next) ∙ t in absurd cc

is_apart_from : (goes_on : Option ℕ) (round : ℕ) → (goes_on ≡ Some round → ⊥)
    → row.is_apart goes_on round ≡ true
is_apart_from None round not = refl
is_apart_from (Some n) round not =
    ap (λ (b : Bool). cond b false true)
    (eqb-false n round (λ same. not (ap (λ (k : ℕ). Some k) same)))

min_least : (a b n : ℕ) → n ≤ min a b → (n ≤ a) × (n ≤ b)
min_least a b n le = (omega (arith, le), omega (arith, le))

min_most : (a b n : ℕ) → n ≤ a → n ≤ b → n ≤ min a b
min_most a b n le le' = omega (arith, le, le')

pub comes_of_row : (v : LogVersion) (p : Progress) (item : Item) → p.held ≤ most_exchanges
    → (row.item_row v p).Fits item → MayCome v p item
comes_of_row v p (kept (End ending rounds)) le fits = omega (arith, fits.1.0.1.0)
comes_of_row v p (kept (Signals round posts)) le fits =
    let c = came v p 0 fits.0.1 in
    let count = range_is (least_posts v) 32 (length posts) fits.1.0.1.0.0.1 in
    record {
      range = record {
        round_fits = omega (arith, fits.1.0.0.0);
        count = count.1;
        posts = posts_of (length posts) 0 posts fits.1.0.1.0.1;
      };
      no_end = tt;
      posts = count.0;
      held = not_full p.held most_exchanges c.free le;
    }
comes_of_row v p (kept (Input round tid max input)) le fits =
    let c = came v p 1 fits.0.1 in
    record {
      range = record {
        round_fits = omega (arith, fits.1.0.0.0);
        tid_fits = omega (arith, fits.1.0.1.0.0);
        max_fits = range_is 1 4096 max fits.1.0.1.1.0.1;
        short = (range_is 0 max (length input) fits.1.0.1.1.1.0.0.1).1;
        bytes_fit = fits.1.0.1.1.1.0.1.1;
      };
      no_end = tt;
      posts = tt;
      held = not_full p.held most_exchanges c.free le;
    }
comes_of_row v p (kept (Clock round tid reading)) le fits =
    let c = came v p 2 fits.0.1 in
    record {
      range = record {
        round_fits = omega (arith, fits.1.0.0.0);
        tid_fits = omega (arith, fits.1.0.1.0.0);
        reading = omega (arith, fits.1.0.1.1.0);
      };
      no_end = tt;
      posts = tt;
      held = not_full p.held most_exchanges c.free le;
    }
comes_of_row One p (quiet round count) le fits =
    let c = came One p 3 fits.0.1 in absurd (omega (arith, c.known))
comes_of_row Two p (quiet round count) le fits =
    let c = came Two p 3 fits.0.1 in
    let most = range_is 1 (row.most_quiet round p.held) count fits.1.0.1.1 in
    let high = min_least (2 ^ 32 - round) (most_exchanges - p.held) count most.1 in
    record {
      apart = apart_is p.goes_on round fits.1.0.0.1;
      some = most.0;
      last = omega (arith, high.0, fits.1.0.0.0);
      held = omega (arith, high.1, le);
    }

pub row_of_coming : (v : LogVersion) (p : Progress) (item : Item) → MayCome v p item
    → (row.item_row v p).Fits item
row_of_coming v p (kept (End ending rounds)) fits = (
  (omega arith, refl),
  (((code ending, ending_is ending), (omega (arith, fits), refl)), refl),
)
  where
    code : (ending : Ending) → (u8_in (from_to 0 2)).Fits (ending_code ending)
    code Done = (omega arith, refl)
    code Limit = (omega arith, refl)
    code Stalled = (omega arith, refl)

    ending_is : (ending : Ending) → row.ending_of_byte (ending_code ending) ≡ ending
    ending_is Done = refl
    ending_is Limit = refl
    ending_is Stalled = refl
row_of_coming v p (kept (Signals round posts)) fits = (
  (omega arith, comes v p 0 fits.held (one_kind v)),
  (
    (
      (omega (arith, fits.range.round_fits), refl),
      (
        (
          (
            omega (arith, fits.range.count),
            in_range (least_posts v) 32 (length posts) fits.posts fits.range.count,
          ),
          of_posts 0 posts fits.range.posts,
        ),
        refl,
      ),
    ),
    refl,
  ),
)
  where
    one_kind : (v : LogVersion) → 1 ≤ row.last_kind v
    one_kind One = omega arith
    one_kind Two = omega arith
row_of_coming v p (kept (Input round tid max input)) fits = (
  (omega arith, comes v p 1 fits.held (two_kinds v)),
  (
    (
      (omega (arith, fits.range.round_fits), refl),
      (
        (omega (arith, fits.range.tid_fits), refl),
        (
          (
            omega (arith, fits.range.max_fits.1),
            in_range 1 4096 max fits.range.max_fits.0 fits.range.max_fits.1,
          ),
          (
            (
              (
                omega (arith, fits.range.max_fits.1, fits.range.short),
                in_range 0 max (length input) (omega arith) fits.range.short,
              ),
              (refl, fits.range.bytes_fit),
            ),
            refl,
          ),
        ),
      ),
    ),
    refl,
  ),
)
  where
    two_kinds : (v : LogVersion) → 2 ≤ row.last_kind v
    two_kinds One = omega arith
    two_kinds Two = omega arith
row_of_coming v p (kept (Clock round tid reading)) fits = (
  (omega arith, comes v p 2 fits.held (three_kinds v)),
  (
    (
      (omega (arith, fits.range.round_fits), refl),
      (
        (omega (arith, fits.range.tid_fits), refl),
        (omega (arith, fits.range.reading), refl),
      ),
    ),
    refl,
  ),
)
  where
    three_kinds : (v : LogVersion) → 3 ≤ row.last_kind v
    three_kinds One = omega arith
    three_kinds Two = omega arith
row_of_coming One p (quiet round count) fits = absurd fits
row_of_coming Two p (quiet round count) fits = (
  (omega arith, comes Two p 3 (omega (arith, fits.held, fits.some)) (omega arith)),
  (
    (
      (
        omega (arith, fits.last, fits.some),
        is_apart_from p.goes_on round fits.apart,
      ),
      (
        omega (arith, fits.held),
        in_range 1 (row.most_quiet round p.held) count fits.some
            (min_most (2 ^ 32 - round) (most_exchanges - p.held) count
            (omega (arith, fits.last)) (omega (arith, fits.held))),
      ),
    ),
    refl,
  ),
)
