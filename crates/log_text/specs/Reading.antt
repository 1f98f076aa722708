-- Reading a log from left to right. Fields are read in their order, each is tested as soon as it is
-- read, and the first thing that is wrong is answered with its place. This project's own rule.
use Rattle.std.specs.Prelude.{ℕ, zero, suc, List, [], ◌∷◌, length, Result, Ok, Err, ◌==◌}
use Rattle.std.specs.Prelude.{if◌then◌else◌, ◌+◌, Some, None}
use Rattle.std.specs.Int.{w16}
use Rattle.std.specs.Str.{bytes_eq}
use Rattle.dos_world.specs.declared.Ending.{Ending}
use Rattle.dos_io.specs.declared.exchange.Exchange.TheVariants.{End}
use Rattle.text_fields.specs.declared.refusal.FieldError.{FieldError}
use Rattle.text_fields.specs.declared.refusal.FieldError.TheVariants.{Short, Range}
use Rattle.text_fields.specs.Reading.{field_place, ◌>>=◌, first_bytes, first_number}
use Rattle.log_text.specs.declared.refusal.LogError.{LogError}
use Rattle.log_text.specs.declared.refusal.LogError.TheVariants as refusal
use Rattle.log_text.specs.declared.header.LogHeader.{LogHeader}
use Rattle.log_text.specs.declared.version.LogVersion.{LogVersion}
use Rattle.log_text.specs.declared.version.LogVersion.TheVariants.{One, Two}
use Rattle.log_text.specs.declared.progress.Progress.{Progress}
use Rattle.log_text.specs.Items.{Item, quiet, kept, exchanges_of_items}
use Rattle.log_text.specs.LogText.{Log, log_magic}
use Rattle.log_text.specs.Rows.{log_header_row, item_row}

-- A reader is given the length of the whole text and the bytes that are left of it, and answers a
-- value and the bytes behind it.
abbrev pub Reader : Type 0 → Type 0
Reader A = ℕ → List ℕ → Result (A × List ℕ) LogError

-- the refusal of a field, where one that is out of its range is so refused
abbrev pub refused_as : (ℕ → LogError) → FieldError → LogError
refused_as wrong (Short at) = refusal.Short at
refused_as wrong (Range at) = wrong at

abbrev pub as_row : {A : Type 0} → (ℕ → LogError) → Result A FieldError → Result A LogError
as_row wrong (Ok read) = Ok read
as_row wrong (Err e) = Err (refused_as wrong e)

-- ---- the header

-- the first four bytes
unfoldable pub magic_at : ℕ → List ℕ → Result (List ℕ) LogError
magic_at end bytes = do
  first ← as_row refusal.Header (first_bytes 4 end bytes)
  if bytes_eq first.0 log_magic then Ok first.1 else Err refusal.Magic

-- the version, 1 or 2
unfoldable pub version_at : Reader LogVersion
version_at end bytes = do
  n ← as_row refusal.Header (first_number w16 end bytes)
  if n.0 == 1 then Ok (One, n.1)
      else (if n.0 == 2 then Ok (Two, n.1) else Err (refusal.Version n.0))

-- the fields behind it
unfoldable pub fields_at : Reader LogHeader
fields_at end bytes = as_row refusal.Header (log_header_row.read end bytes)

-- the whole header
unfoldable pub read_header : Reader (LogVersion × LogHeader)
read_header end bytes = do
  start ← magic_at end bytes
  version ← version_at end start
  header ← fields_at end version.1
  Ok ((version.0, header.0), header.1)

-- ---- an entry

-- How many exchanges were read so far, and the round with which a quiet entry would go on with the
-- last entry, where that is a quiet one: before the first entry, and behind an entry.
abbrev pub nothing_read : Progress
nothing_read = record { held = 0; goes_on = None }

abbrev pub after_item : Progress → Item → Progress
after_item p (quiet round count) =
    record { held = p.held + count; goes_on = Some (round + count) }
after_item p (kept e) = record { held = p.held + 1; goes_on = None }

unfoldable pub item_at : LogVersion → Progress → Reader Item
item_at v p end bytes = as_row refusal.Entry ((item_row v p).read end bytes)

-- ---- the whole text

-- what stands behind a header: the entries, and the end
pub record Body : Type 0 where
  pub items : List Item
  pub ending : Ending
  pub rounds : ℕ

-- An entry is read. The end is the last; each other entry stands in front of what comes after it.
abbrev pub behind_item : Item → List ℕ → Result (Body × List ℕ) LogError
    → Result (Body × List ℕ) LogError
behind_item (kept (End ending rounds)) rest more =
    Ok (record { items = []; ending = ending; rounds = rounds }, rest)
behind_item item rest more =
    more >>= λ read. Ok (record read.0 { items = item ∷ read.0.items }, read.1)

-- at most n entries; each has a byte at least, so as many as there are bytes are enough
unfoldable pub body_at : LogVersion → ℕ → Progress → Reader Body
body_at v zero p end bytes = Err (refusal.Short (field_place end bytes))
body_at v (suc n) p end bytes = do
  item ← item_at v p end bytes
  behind_item item.0 item.1 (body_at v n (after_item p item.0) end item.1)

-- the log of a header and of what stands behind it
abbrev pub log_of : LogVersion × LogHeader → Body → Log
log_of start body = record {
  version = start.0;
  header = start.1;
  entries = exchanges_of_items body.items;
  ending = body.ending;
  rounds = body.rounds;
}

-- A header, the entries and the end, and nothing more.
unfoldable pub log_at : List ℕ → Result Log LogError
log_at bytes = do
  start ← read_header (length bytes) bytes
  body ← body_at start.0.0 (length start.1) nothing_read (length bytes) start.1
  if length body.1 == 0 then Ok (log_of start.0 body.0)
      else Err (refusal.AfterEnd (field_place (length bytes) body.1))
