-- A log that is read is the log that was written, and what was written is read again.
use Rattle.std.proofs.Common.{Bool, true, false, cond}
use Rattle.std.proofs.Common.{◌≡◌, ℕ, zero, suc, ◌^◌, ◌<◌, ◌≤◌, eqb, List, [], ◌∷◌, ◌++◌, length}
use Rattle.std.proofs.Common.{Result, Ok, Err, refl, sym, ap, subst, ◌∙◌, append_assoc, arith}
use Rattle.std.specs.Int.{w16, w32, to_le_bytes}
use Rattle.std.specs.List.{concat}
use Rattle.std.specs.Str.{bytes_eq}
use Rattle.std.proofs.lemmas.Bool.{eqb-true}
use Rattle.std.proofs.lemmas.List.{append-nil, nil_from_length, length-append}
use Rattle.std.proofs.lemmas.List.Concat.{flat_map-cons}
use Rattle.std.proofs.lemmas.Slice.Eq.{bytes_eq-Decides}
use Rattle.dos_world.specs.declared.Ending.{Ending}
use Rattle.dos_io.specs.declared.exchange.Exchange.{Exchange}
use Rattle.dos_io.specs.declared.exchange.Exchange.TheVariants.{Signals, Input, Clock, End}
use Rattle.text_fields.specs.declared.refusal.FieldError.{FieldError}
use Rattle.text_fields.specs.Formats.{AreBytes, bytes as bytes_row, u16_in, any}
use Rattle.text_fields.specs.Reading.{◌>>=◌, field_place, first_bytes, first_number, passing}
use Rattle.text_fields.proofs.FormatLaws.{bytes_format, number_format, wide16}
use Rattle.log_text.specs.declared.refusal.LogError.{LogError}
use Rattle.log_text.specs.declared.refusal.LogError.TheVariants as refusal
use Rattle.log_text.specs.declared.header.LogHeader.{LogHeader}
use Rattle.log_text.specs.declared.version.LogVersion.{LogVersion}
use Rattle.log_text.specs.declared.version.LogVersion.TheVariants.{One, Two}
use Rattle.log_text.specs.declared.progress.Progress.{Progress}
use Rattle.log_text.specs.Bytes.{IsBytes}
use Rattle.log_text.specs.Items.{Item, quiet, kept, items_in, exchanges_of_items}
use Rattle.log_text.specs.Ranges.{FitsHeader, FitsLog, most_exchanges}
use Rattle.log_text.specs.LogText.{Log, log_magic, version_number, header_text, entry_text}
use Rattle.log_text.specs.LogText.{item_text}
use Rattle.log_text.specs.LogText.{items_text, entries_text, logtext}
use Rattle.log_text.specs.Reading.{as_row, magic_at, version_at, fields_at, read_header}
use Rattle.log_text.specs.Reading.{nothing_read, after_item, item_at, Body, behind_item, body_at}
use Rattle.log_text.specs.Reading.{log_of, log_at}
use Rattle.log_text.specs.Rows.{log_header_row}
use Rattle.log_text.specs.Spelling.{FitsItem, MayCome, AreSpelled}
use Rattle.log_text.proofs.RowLaws.{header_format, header_of_row, header_text_is, row_of_header}
use Rattle.log_text.proofs.Steps.{bind_ok, done, goes, guard_true, ok_is, Takes, then, row_again}
use Rattle.log_text.proofs.Steps.{row_takes}
use Rattle.log_text.proofs.ItemReading.{item_takes, item_again, item_held, fits_comes}
use Rattle.log_text.proofs.SpellingLaws.{spelled_few, spelled_fits, are_spelled, expanded_in}
use Rattle.log_text.proofs.EntriesTextLaws.{one_byte, items_short, spelled_text}

-- ---- entries up to the end

pub record SpellsBody (v : LogVersion) (p : Progress) (bytes : List ℕ) (x : Body × List ℕ)
    : Type 0 where
  pub takes : Takes bytes (items_text x.0.items ++ entry_text (End x.0.ending x.0.rounds)) x.1
  pub spelled : AreSpelled v p x.0.items
  pub rounds : x.0.rounds < 2 ^ 32

module _ (v : LogVersion) where
  -- one more entry in front of what comes after it
  more_takes : (p : Progress) (bytes : List ℕ) (item : Item) (rest : List ℕ)
      (t u : Body × List ℕ) → Takes bytes (item_text item) rest → FitsItem v p item
      → SpellsBody v (after_item p item) rest t
      → done (record t.0 { items = item ∷ t.0.items }, t.1) ≡ Ok u → SpellsBody v p bytes u
  more_takes p bytes item rest t u s fits s' is =
      let both = then _ _ _ _ _ s s'.takes in
      let last : List ℕ = entry_text (End t.0.ending t.0.rounds) in
      subst (SpellsBody v p bytes) (ok_is (record t.0 { items = item ∷ t.0.items }, t.1) u is)
      (record {
        takes = subst (λ (x : List ℕ). Takes bytes x t.1)
            (sym (ap (λ (x : List ℕ). x ++ last) (flat_map-cons item_text item t.0.items)
            ∙ append_assoc (item_text item) (items_text t.0.items) last)) both;
        spelled = (fits, s'.spelled);
        rounds = s'.rounds;
      })

  then_takes : (p : Progress) (bytes : List ℕ) (item : Item) (rest : List ℕ)
      (more : Result (Body × List ℕ) LogError) (u : Body × List ℕ)
      → Takes bytes (item_text item) rest → FitsItem v p item
      → ((t : Body × List ℕ) → more ≡ Ok t → SpellsBody v (after_item p item) rest t)
      → (more >>= λ read. Ok (record read.0 { items = item ∷ read.0.items }, read.1)) ≡ Ok u
      → SpellsBody v p bytes u
  then_takes p bytes item rest (Ok t) u s fits later is =
      more_takes p bytes item rest t u s fits (later t refl) is
  then_takes p bytes item rest (Err d) u s fits later is = absurd cc

  after_takes : (p : Progress) (bytes : List ℕ) (item : Item) (rest : List ℕ)
      (more : Result (Body × List ℕ) LogError) (u : Body × List ℕ)
      → Takes bytes (item_text item) rest → MayCome v p item
      → (FitsItem v p item → (t : Body × List ℕ) → more ≡ Ok t
      → SpellsBody v (after_item p item) rest t)
      → behind_item item rest more ≡ Ok u → SpellsBody v p bytes u
  after_takes p bytes (kept (End ending rounds)) rest more u s comes later is =
      subst (SpellsBody v p bytes)
      (ok_is (record { items = []; ending = ending; rounds = rounds }, rest) u is)
      (record { takes = s; spelled = tt; rounds = comes })
  after_takes p bytes (kept (Signals round list)) rest more u s comes later is =
      then_takes p bytes (kept (Signals round list)) rest more u s comes (later comes) is
  after_takes p bytes (kept (Input round tid max input)) rest more u s comes later is =
      then_takes p bytes (kept (Input round tid max input)) rest more u s comes (later comes) is
  after_takes p bytes (kept (Clock round tid n)) rest more u s comes later is =
      then_takes p bytes (kept (Clock round tid n)) rest more u s comes (later comes) is
  after_takes p bytes (quiet round count) rest more u s comes later is =
      then_takes p bytes (quiet round count) rest more u s comes (later comes) is

  body_takes : (n : ℕ) (p : Progress) (end : ℕ) (bytes : List ℕ) (u : Body × List ℕ)
      → IsBytes bytes → p.held ≤ most_exchanges → body_at v n p end bytes ≡ Ok u
      → SpellsBody v p bytes u
  unfolding body_at
  body_takes zero p end bytes u fits le e = absurd cc
  body_takes (suc n) p end bytes u fits le e =
      let a = bind_ok (item_at v p end bytes) _ u e in
      let s = item_takes v p end bytes a.0 fits le a.1 in
      after_takes p bytes a.0.0 a.0.1 (body_at v n (after_item p a.0.0) end a.0.1) u s.takes
      s.comes
      (λ may t is. body_takes n (after_item p a.0.0) end a.0.1 t s.takes.rest_fits
      (item_held v p a.0.0 may) is) a.2

  behind_again : (p : Progress) (item : Item) (rest : List ℕ) (t : Body × List ℕ)
      → FitsItem v p item
      → behind_item item rest (Ok t) ≡ Ok (record t.0 { items = item ∷ t.0.items }, t.1)
  behind_again p (quiet round count) rest t fits = refl
  behind_again p (kept (Signals round list)) rest t fits = refl
  behind_again p (kept (Input round tid max bytes)) rest t fits = refl
  behind_again p (kept (Clock round tid n)) rest t fits = refl
  behind_again p (kept (End ending rounds)) rest t fits = absurd fits.no_end

  body_again : (n : ℕ) (p : Progress) (end : ℕ) (items : List Item) (ending : Ending)
      (rounds : ℕ) (rest : List ℕ) → length items < n → AreSpelled v p items → rounds < 2 ^ 32
      → body_at v n p end (items_text items ++ (entry_text (End ending rounds) ++ rest))
      ≡ Ok (record { items = items; ending = ending; rounds = rounds }, rest)
  unfolding body_at
  body_again zero p end items ending rounds rest lt spelled low = absurd (omega arith)
  body_again (suc n) p end [] ending rounds rest lt spelled low =
      rw (item_again v p end (kept (End ending rounds)) rest low) refl
  body_again (suc n) p end (item ∷ items) ending rounds rest lt spelled low =
      let later : List ℕ = entry_text (End ending rounds) ++ rest in
      let regrouped : items_text (item ∷ items) ++ later
      ≡ item_text item ++ (items_text items ++ later) =
      ap (λ (x : List ℕ). x ++ later) (flat_map-cons item_text item items)
      ∙ append_assoc (item_text item) (items_text items) later in
      ap (body_at v (suc n) p end) regrouped
      ∙ rw (
        item_again v p end item (items_text items ++ later) (fits_comes v p item spelled.0),
        body_again n (after_item p item) end items ending rounds rest (omega arith) spelled.1 low,
      )
      (behind_again p item (items_text items ++ later)
      (record { items = items; ending = ending; rounds = rounds }, rest) spelled.0)

-- ---- the header

magic_takes : (end : ℕ) (bytes rest : List ℕ) → IsBytes bytes → magic_at end bytes ≡ Ok rest
    → Takes bytes log_magic rest
unfolding magic_at
magic_takes end bytes rest fits e =
    let a = bind_ok (as_row refusal.Header (first_bytes 4 end bytes)) _ rest e in
    let p = row_takes (bytes_row 4) (bytes_format 4) refusal.Header end bytes a.0 fits a.1 in
    let g = guard_true (bytes_eq a.0.0 log_magic) refusal.Magic a.0.1 rest a.2 in
    subst (λ (r : List ℕ). Takes bytes log_magic r) g.1
    (subst (λ (m : List ℕ). Takes bytes m a.0.1) ((bytes_eq-Decides a.0.0 log_magic).0 g.0) p.takes)

-- the version of a number that is 1 or 2
version_known : (b c : Bool) (n : ℕ) (rest : List ℕ) (x : LogVersion × List ℕ) → eqb n 1 ≡ b
    → eqb n 2 ≡ c
    → cond b (done (One, rest)) (cond c (done (Two, rest)) (Err (refusal.Version n))) ≡ Ok x
    → (n ≡ version_number x.0) × (rest ≡ x.1)
version_known true c n rest x p q e =
    subst (λ (y : LogVersion × List ℕ). (n ≡ version_number y.0) × (rest ≡ y.1))
    (ok_is (One, rest) x e) (eqb-true n 1 p, refl)
version_known false true n rest x p q e =
    subst (λ (y : LogVersion × List ℕ). (n ≡ version_number y.0) × (rest ≡ y.1))
    (ok_is (Two, rest) x e) (eqb-true n 2 q, refl)
version_known false false n rest x p q e = absurd cc

-- each number passes
any_number : (end : ℕ) (bytes : List ℕ) → as_row refusal.Header ((u16_in any).read end bytes)
    ≡ as_row refusal.Header (first_number w16 end bytes)
any_number end bytes = go (first_number w16 end bytes)
  where
    go : (r : Result (ℕ × List ℕ) FieldError)
        → as_row refusal.Header (r >>= passing any (field_place end bytes))
        ≡ as_row refusal.Header r
    go (Ok n) = refl
    go (Err e) = refl

version_takes : (end : ℕ) (bytes : List ℕ) (x : LogVersion × List ℕ) → IsBytes bytes
    → version_at end bytes ≡ Ok x → Takes bytes (to_le_bytes w16 (version_number x.0)) x.1
unfolding version_at
version_takes end bytes x fits e =
    let a = bind_ok (as_row refusal.Header (first_number w16 end bytes)) _ x e in
    let p = row_takes (u16_in any) (number_format w16 wide16 any) refusal.Header end bytes a.0 fits
    (any_number end bytes ∙ a.1) in
    let g = version_known (eqb a.0.0 1) (eqb a.0.0 2) a.0.0 a.0.1 x refl refl a.2 in
    subst (λ (r : List ℕ). Takes bytes (to_le_bytes w16 (version_number x.0)) r) g.1
    (subst (λ (k : ℕ). Takes bytes (to_le_bytes w16 k) a.0.1) g.0 p.takes)

pub record SpellsHeader (bytes : List ℕ) (x : (LogVersion × LogHeader) × List ℕ) : Type 0 where
  pub takes : Takes bytes (header_text x.0.0 x.0.1) x.1
  pub fits : FitsHeader x.0.1

-- the fields behind the first bytes and the version
fields_take : (w : LogVersion) (end : ℕ) (bytes s v : List ℕ) (x : LogHeader × List ℕ)
    → Takes bytes log_magic s → Takes s (to_le_bytes w16 (version_number w)) v
    → fields_at end v ≡ Ok x → SpellsHeader bytes ((w, x.0), x.1)
unfolding fields_at
fields_take w end bytes s v x p q e =
    let t = row_takes log_header_row header_format refusal.Header end v x q.rest_fits e in
    let fields = subst (λ (text : List ℕ). Takes v text x.1) (header_text_is x.0) t.takes in
    record {
      takes = then _ _ _ _ _ p (then _ _ _ _ _ q fields);
      fits = header_of_row x.0 t.fits;
    }

pub header_takes : (end : ℕ) (bytes : List ℕ) (x : (LogVersion × LogHeader) × List ℕ)
    → IsBytes bytes → read_header end bytes ≡ Ok x → SpellsHeader bytes x
unfolding read_header
header_takes end bytes x fits e =
    let a = bind_ok (magic_at end bytes) _ x e in
    let p = magic_takes end bytes a.0 fits a.1 in
    let b = bind_ok (version_at end a.0) _ x a.2 in
    let q = version_takes end a.0 b.0 p.rest_fits b.1 in
    let c = bind_ok (fields_at end b.0.1) _ x b.2 in
    subst (SpellsHeader bytes) (ok_is ((b.0.0, c.0.0), c.0.1) x c.2)
    (fields_take b.0.0 end bytes a.0 b.0.1 c.0 p q c.1)

magic_again : (end : ℕ) (rest : List ℕ) → magic_at end (log_magic ++ rest) ≡ Ok rest
unfolding magic_at
magic_again end rest =
    goes (as_row refusal.Header (first_bytes 4 end (log_magic ++ rest))) _ (log_magic, rest)
    (row_again (bytes_row 4) (bytes_format 4) refusal.Header end log_magic rest (refl, magic_bytes))
  where
    magic_bytes : AreBytes log_magic
    magic_bytes zero = omega arith
    magic_bytes (suc zero) = omega arith
    magic_bytes (suc (suc zero)) = omega arith
    magic_bytes (suc (suc (suc zero))) = omega arith
    magic_bytes (suc (suc (suc (suc i)))) = omega arith

number_again : (end n : ℕ) (rest : List ℕ) → n < 2 ^ 16
    → as_row refusal.Header (first_number w16 end (to_le_bytes w16 n ++ rest)) ≡ Ok (n, rest)
number_again end n rest lt =
    sym (any_number end (to_le_bytes w16 n ++ rest))
    ∙ row_again (u16_in any) (number_format w16 wide16 any) refusal.Header end n rest
    (omega (arith, lt), refl)

version_again : (end : ℕ) (v : LogVersion) (rest : List ℕ)
    → version_at end (to_le_bytes w16 (version_number v) ++ rest) ≡ Ok (v, rest)
unfolding version_at
version_again end One rest = rw (number_again end 1 rest (omega arith)) refl
version_again end Two rest = rw (number_again end 2 rest (omega arith)) refl

fields_again : (end : ℕ) (h : LogHeader) (rest : List ℕ) → FitsHeader h
    → fields_at end (to_le_bytes w16 (length h.digests) ++ (to_le_bytes w32
    h.quantum ++ (to_le_bytes w32 h.rounds ++ (to_le_bytes w32 h.frames ++ (concat h.digests ++
    rest))))) ≡ Ok (h, rest)
unfolding fields_at
fields_again end h rest fits =
    ap (λ (text : List ℕ). as_row refusal.Header (log_header_row.read end (text ++ rest)))
    (sym (header_text_is h))
    ∙ row_again log_header_row header_format refusal.Header end h rest (row_of_header h fits)

pub header_again_all : (end : ℕ) (v : LogVersion) (h : LogHeader) (rest : List ℕ)
    → FitsHeader h → read_header end (header_text v h ++ rest) ≡ Ok ((v, h), rest)
unfolding read_header
header_again_all end v h rest fits =
    let number : List ℕ = to_le_bytes w16 (version_number v) in
    let r0 : List ℕ = to_le_bytes w16 (length h.digests) ++ (to_le_bytes w32
    h.quantum ++ (to_le_bytes w32 h.rounds ++ (to_le_bytes w32 h.frames ++ (concat h.digests ++
    rest)))) in
    goes (magic_at end (log_magic ++ (number ++ r0))) _ (number ++ r0)
    (magic_again end (number ++ r0))
    ∙ goes (version_at end (number ++ r0)) _ (v, r0) (version_again end v r0)
    ∙ goes (fields_at end r0) _ (h, rest) (fields_again end h rest fits)

-- ---- the whole text

pub record SpellsLog (bytes : List ℕ) (log : Log) : Type 0 where
  pub text : bytes ≡ logtext log
  pub fits : FitsLog log

-- the header's text and the entries' behind it are the log's, where nothing is left
log_spelled : (bytes rest : List ℕ) (start : LogVersion × LogHeader) (body : Body)
    → bytes ≡ (header_text start.0 start.1 ++ (items_text body.items ++ entry_text
    (End body.ending body.rounds))) ++ rest → rest ≡ []
    → AreSpelled start.0 nothing_read body.items → bytes ≡ logtext (log_of start body)
log_spelled bytes rest start body both nothing spelled =
    let last : List ℕ = entry_text (End body.ending body.rounds) in
    let front : List ℕ = header_text start.0 start.1 in
    both ∙ ap (λ (r : List ℕ). (front ++ (items_text body.items ++ last)) ++ r) nothing
    ∙ append-nil (front ++ (items_text body.items ++ last))
    ∙ ap (λ (t : List ℕ). front ++ (t ++ last)) (sym (spelled_text start.0 body.items spelled))
    ∙ sym (append_assoc front (entries_text start.0 (exchanges_of_items body.items)) last)

pub log_takes : (bytes : List ℕ) (log : Log) → IsBytes bytes → log_at bytes ≡ Ok log
    → SpellsLog bytes log
unfolding log_at
log_takes bytes log fits e =
    let a = bind_ok (read_header (length bytes) bytes) _ log e in
    let p = header_takes (length bytes) bytes a.0 fits a.1 in
    let b = bind_ok (body_at a.0.0.0 (length a.0.1) nothing_read (length bytes) a.0.1) _ log a.2 in
    let q = body_takes a.0.0.0 (length a.0.1) nothing_read (length bytes) a.0.1 b.0
    p.takes.rest_fits (omega arith) b.1 in
    let made : Log = log_of a.0.0 b.0.0 in
    let g = guard_true (eqb (length b.0.1) 0)
    (refusal.AfterEnd (field_place (length bytes) b.0.1)) made log b.2 in
    let nothing : b.0.1 ≡ [] = nil_from_length b.0.1 (eqb-true _ _ g.0) in
    let both = (then _ _ _ _ _ p.takes q.takes).parts in
    subst (SpellsLog bytes) g.1
    (record {
      text = log_spelled bytes b.0.1 a.0.0 b.0.0 both nothing q.spelled;
      fits = record {
        header = p.fits;
        entries = spelled_fits a.0.0.0 nothing_read b.0.0.items q.spelled;
        few = omega (
          arith,
          spelled_few a.0.0.0 nothing_read b.0.0.items q.spelled (omega arith),
        );
        rounds = q.rounds;
      };
    })

pub log_again : (log : Log) → FitsLog log → log_at (logtext log) ≡ Ok log
unfolding log_at
log_again log fits =
    let v : LogVersion = log.version in
    let last : List ℕ = entry_text (End log.ending log.rounds) in
    let items : List Item = items_in v log.entries in
    let end : ℕ = length (logtext log) in
    let spelled : AreSpelled v nothing_read items = are_spelled v log.entries fits.entries
    fits.few in
    let regrouped : logtext log ≡ header_text v log.header ++ (items_text items ++ last) =
    append_assoc (header_text v log.header) (items_text items) last in
    let head : read_header end (logtext log) ≡ Ok ((v, log.header), items_text items ++ last) =
    ap (read_header end) regrouped ∙ header_again_all end v log.header (items_text items ++ last)
    fits.header in
    let enough : length items < length (items_text items ++ last) =
    rw (length-append (items_text items) last)
    (omega (arith, items_short items, one_byte (kept (End log.ending log.rounds)))) in
    let body : Body = record { items = items; ending = log.ending; rounds = log.rounds } in
    let tail : body_at v (length (items_text items ++ last)) nothing_read end
    (items_text items ++ last) ≡ Ok (body, []) =
    ap (λ (x : List ℕ). body_at v (length (items_text items ++ last)) nothing_read end
    (items_text items ++ x)) (sym (append-nil last))
    ∙ body_again v (length (items_text items ++ last)) nothing_read end items log.ending
    log.rounds [] enough spelled fits.rounds in
    let made : log_of (v, log.header) body ≡ log =
    ap (λ (es : List Exchange). record log { entries = es }) (expanded_in v log.entries) in
    goes _ _ _ head ∙ goes _ _ _ tail ∙ ap (λ (x : Log). done x) made
