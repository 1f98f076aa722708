-- Two calls from their words to what they leave, computed: a run of a guest of three instructions,
-- which ends with 7, and the replay of the log that the run writes.
use Rattle.std.specs.Prelude.{ℕ, ◌≡◌, ◌≢◌, List, [], ◌∷◌, ◌++◌, flat_map, replicate, Option, Some}
use Rattle.std.specs.Prelude.{None, Ok, true, codes, IfSome, option_map, option_and_then}
use Rattle.std.specs.Fmt.{digits}
use Rattle.std.proofs.Common.{refl, ap, ap₂, ◌∙◌, subst}
use Rattle.sha2.specs.Sha256.{compress, digest_bytes, first_words, hash_after, rounds, schedule}
use Rattle.sha2.specs.Sha256.{sha256}
use Rattle.dos_world.specs.Bytes.{bytes_of}
use Rattle.dos_world.specs.declared.Config.{Config}
use Rattle.dos_world.specs.declared.Ending.TheVariants.{Done}
use Rattle.dos_world.specs.declared.Question.TheVariants.{Signals, End}
use Rattle.flat_machine.specs.Computing.{computing}
use Rattle.elf_image.specs.Image.{Image, image, image_of, refusal, format_refusal, machine_refusal}
use Rattle.elf_image.specs.Image.{table_refusal, segment_refusal, overlap_refusal, entry_refusal}
use Rattle.elf_image.specs.Fields.{headers, headers_from, header_at, half, word}
use Rattle.dos_io.specs.Given.{GivesPosts}
use Rattle.dos_io.specs.declared.exchange.Exchange.TheVariants.{Signals as signals}
use Rattle.flat_machine.specs.Machine.{Seen, group}
use Rattle.dpg_run.specs.Report.{report}
use Rattle.dpg_run.proofs.MisfitLaws.{fits_have_none}
use Rattle.log_text.specs.LogText.{Log, exchanges, logtext}
use Rattle.log_text.specs.declared.version.LogVersion.TheVariants.{Two}
use Rattle.log_text.specs.Items.{quiet_rounds}
use Rattle.log_text.specs.Reading.{body_at, fields_at, read_header as log_header_at}
use Rattle.log_text.specs.Reading.{item_at, log_at, magic_at, version_at}
use Rattle.text_fields.specs.Reading.{read_list}
use Rattle.log_files.specs.Judging.{disagreement, log_verdict}
use Rattle.logged_runs.specs.Runs.{RanWhole}
use Rattle.dos_texts.specs.Exit.{ending_status}
use Rattle.dos_words.specs.Numbers.{Text}
use Rattle.dos_words.specs.Request.{request}
use Rattle.dos_words.specs.declared.request.Request.{Request}
use Rattle.dos_words.specs.declared.request.Request.TheVariants.{Run, Replay}
use Rattle.dos_world.specs.declared.Scheme.TheVariants.{Ownership}
use Rattle.dos_cmd.specs.Judging.{Taken, agreed, by_log, digests_of, images_from, judgement}
use Rattle.dos_cmd.specs.Judging.{taken_images, taken_log}
use Rattle.dos_cmd.specs.Judging.{of_images, replay_judgement, verdict, with_images, with_room}
use Rattle.dos_cmd.specs.Outside.{Outside, Counted, FilesStay, Grew, FileHolds, OthersStay}
use Rattle.dos_cmd.specs.Results.{MustDo, MustReplay}
use Rattle.dos_cmd.specs.RunLeaves.{header_of}
use Rattle.logged_runs.proofs.OneRecording.{one_log}
use Rattle.dos_cmd.proofs.BareRuns.{bare_once}

-- ---- the words

abbrev run_words : List Text
run_words =
    codes "run" ∷ codes "--log" ∷ codes "l" ∷ codes "--rounds" ∷ codes "2" ∷ codes "--frames"
    ∷ codes "17" ∷ codes "a" ∷ []

abbrev run_asked : Request
run_asked = Run 1000 2 17 4 Ownership [] None 1 (codes "l") (codes "a" ∷ [])

run_asks : request run_words ≡ Some run_asked
run_asks = refl

abbrev replay_words : List Text
replay_words = codes "replay" ∷ codes "--log" ∷ codes "l" ∷ codes "a" ∷ []

abbrev replay_asked : Request
replay_asked = Replay 4 Ownership (codes "l") (codes "a" ∷ [])

replay_asks : request replay_words ≡ Some replay_asked
replay_asks = refl

-- ---- the file, whose layout is that of the System V ABI's chapter on object files

-- numbers of so many bytes each
abbrev fields : ℕ → List ℕ → List ℕ
fields size numbers = flat_map (bytes_of size) numbers

-- li a7, 2; li a0, 7; ecall: service 2 ends the process with 7
abbrev code : List ℕ
code = fields 4 (0x00200893 ∷ 0x00700513 ∷ 0x00000073 ∷ [])

-- of 32 bits, little-endian, version 1
abbrev identification : List ℕ
identification = 0x7F ∷ 0x45 ∷ 0x4C ∷ 0x46 ∷ 1 ∷ 1 ∷ 1 ∷ replicate 9 0

-- an executable for RISC-V, version 1; its entry, its program headers at 52, no section headers, no
-- flags; the sizes of this header and of a program header, and one of these
abbrev file_header : List ℕ
file_header =
    identification ++ fields 2 (2 ∷ 243 ∷ []) ++ fields 4 (1 ∷ 0x10000 ∷ 52 ∷ 0 ∷ 0 ∷ [])
    ++ fields 2 (52 ∷ 32 ∷ 1 ∷ 0 ∷ 0 ∷ 0 ∷ [])

-- to be loaded from 84 on to 0x10000: 12 bytes, to be read, written and executed, by pages of 4096
abbrev program_header : List ℕ
program_header = fields 4 (1 ∷ 84 ∷ 0x10000 ∷ 0 ∷ 12 ∷ 12 ∷ 7 ∷ 4096 ∷ [])

abbrev file : List ℕ
file = file_header ++ program_header ++ code

-- ---- what the files are taken for

abbrev parsed : Image
parsed = record {
  entry = 0x10000;
  parts =
      record { address = 0x10000; bytes = code; zeros = 0; write = true; exec = true; index = 0 }
      ∷ [];
}

abbrev images : List Image
images = parsed ∷ []

abbrev config : Config
config = record { quantum = 1000; rounds = 2; frames = 17; scheme = Ownership }

images_are : images_from 1 (Some file ∷ []) ≡ Some (Ok images)
unfolding verdict image image_of refusal format_refusal machine_refusal table_refusal
    segment_refusal overlap_refusal entry_refusal headers headers_from header_at half word
images_are = refl

abbrev run_taken : Taken
run_taken = taken_images images

run_takes : (contents : Text → Option (List ℕ)) → contents (codes "a") ≡ Some file
    → judgement contents run_asked ≡ Some (Ok run_taken)
run_takes contents a = ap (λ (f : Option (List ℕ)). option_map
    (λ found. of_images (with_room config.frames found)) (images_from 1 (f ∷ []))) a
    ∙ ap (option_map (λ found. of_images (with_room config.frames found))) images_are

-- the file's digest (SHA-256, FIPS 180-4)
abbrev digest : List ℕ
digest =
    0xAA ∷ 0x52 ∷ 0xB5 ∷ 0xBD ∷ 0xA1 ∷ 0x72 ∷ 0x58 ∷ 0xD4 ∷ 0xFC ∷ 0xF4 ∷ 0x20 ∷ 0x0B ∷ 0xB4
    ∷ 0x30 ∷ 0x60 ∷ 0xB2 ∷ 0x88 ∷ 0x67 ∷ 0xFC ∷ 0x07 ∷ 0x3D ∷ 0x4F ∷ 0x25 ∷ 0xED ∷ 0x5C ∷ 0xFF
    ∷ 0xC9 ∷ 0x4B ∷ 0x23 ∷ 0xDF ∷ 0x42 ∷ 0x52 ∷ []

digest_is : sha256 file ≡ digest
unfolding first_words schedule rounds compress hash_after digest_bytes sha256
digest_is = refl

-- ---- the run: one round, in which two instructions are run before the one that calls

-- one question for the signals of the round, which are none, and the end
abbrev log : Log
log = record {
  version = Two;
  header = header_of config (digest ∷ []);
  entries = signals 1 [] ∷ [];
  ending = Done;
  rounds = 1;
}

abbrev seen : Seen
seen = record {
  questions = Signals 1 ∷ End Done 1 ∷ [];
  output = [];
  error = [];
  statuses = Some 7 ∷ [];
  ending = Done;
  rounds = 1;
  work = 2;
}

ran : RanWhole images config (exchanges log) seen
unfolding computing
ran = record { fits = refl; is = refl }

abbrev reported : List ℕ
reported = codes "process 1 status 7" ++ 10 ∷ codes "rounds 1 done" ++ 10 ∷ []

report_is : report seen ≡ reported
unfolding digits
report_is = refl

-- The log's file: `DPGL`, the version, one image, the three numbers, and the digest; the
-- stretch of round 1 alone; and the end, after one round.
abbrev text : List ℕ
text =
    0x44 ∷ 0x50 ∷ 0x47 ∷ 0x4C ∷ 2 ∷ 0 ∷ 1 ∷ 0 ∷ 0xE8 ∷ 3 ∷ 0 ∷ 0 ∷ 2 ∷ 0 ∷ 0 ∷ 0 ∷ 17 ∷ 0 ∷ 0 ∷ 0
    ∷ digest ++ 4 ∷ 1 ∷ 0 ∷ 0 ∷ 0 ∷ 1 ∷ 0 ∷ 0 ∷ 0 ∷ 0 ∷ 0 ∷ 1 ∷ 0 ∷ 0 ∷ 0 ∷ []

text_is : logtext log ≡ text
text_is = refl

log_is : log_verdict text ≡ Ok log
unfolding log_verdict log_at log_header_at magic_at version_at fields_at read_list body_at item_at
    quiet_rounds
log_is = refl

abbrev replay_taken : Taken
replay_taken = taken_log log images

replay_takes : (contents : Text → Option (List ℕ)) → contents (codes "l") ≡ Some text
    → contents (codes "a") ≡ Some file
    → judgement contents replay_asked ≡ Some (Ok replay_taken)
replay_takes contents l a =
    ap₂ (λ f g. replay_judgement f (g ∷ [])) l a ∙ ap (λ x. by_log x (Some file ∷ [])) log_is
    ∙ ap (option_and_then (with_images log (Some (sha256 file ∷ [])))) images_are
    ∙ ap (λ d. Some (agreed log images (disagreement (d ∷ []) (digest ∷ [])))) digest_is

-- ---- what is left behind

-- What the clause `done` of `dos_main` says of a call with these words.
abbrev pub MustCome : List Text → ℕ → Outside → Type 0
MustCome words status o = (asked : Request) (taken : Taken) → request words ≡ Some asked
    → judgement o.files asked ≡ Some (Ok taken) → status ≢ 5 → status ≢ 6 → status ≢ 9
    → MustDo asked taken status o

-- Output stays, error grew by two lines, and two instructions were counted.
pub record LeftBehind (status : ℕ) (o : Outside) : Type 0 where
  pub status_is : status ≡ 0
  pub grew : Grew o [] reported
  pub counted : Counted o 2

left_by : (o : Outside) (status : ℕ) (other : Seen) → other ≡ seen
    → status ≡ ending_status other.ending → Grew o other.output (other.error ++ report other)
    → Counted o other.work → LeftBehind status o
left_by o status other same status_is grew counted = record {
  status_is = status_is ∙ ap (λ (x : Seen). ending_status x.ending) same;
  grew = subst (λ error. Grew o [] error) report_is
      (subst (λ (x : Seen). Grew o x.output (x.error ++ report x)) same grew);
  counted = subst (λ (x : Seen). Counted o x.work) same counted;
}

-- Whatever the host and the outputs tell: unless a file, an output or memory fails, or the log is
-- full, the status is 0, and the log's file holds the text, and no other file changes.
pub run_leaves : (status : ℕ) (o : Outside) → MustCome run_words status o
    → o.files (codes "a") ≡ Some file → status ≢ 5 → status ≢ 6 → status ≢ 9 → status ≢ 10
    → LeftBehind status o × FileHolds o (codes "l") text × OthersStay o (codes "l")
run_leaves status o must a no_fault no_sink no_memory no_room =
    let did = must run_asked run_taken run_asks (run_takes o.files a) no_fault no_sink no_memory
    no_room in
    let planned = did.was.planned in
    let recorded = did.was.recorded in
    let as_planned = subst (λ (i : List Image). RanWhole i config (exchanges did.log) did.seen)
    planned.images_are (subst (λ (c : Config). RanWhole did.was.plan.images c (exchanges did.log)
    did.seen) planned.config_is recorded.ran) in
    let gives = subst (λ posts. GivesPosts posts (exchanges did.log)) planned.posts_are
    recorded.given.signals in
    let same = bare_once images config (exchanges did.log) (exchanges log) did.seen seen gives
    (refl, (tt, tt)) as_planned ran in
    let digests : did.was.plan.header.digests ≡ digest ∷ [] =
    subst (λ d. did.was.plan.header.digests ≡ d ∷ []) digest_is
    (subst (λ f. IfSome (digests_of (f ∷ [])) (λ ds. did.was.plan.header.digests ≡ ds)) a
    planned.digests_are) in
    let header = recorded.header ∙ planned.header_is ∙ ap (header_of config) digests in (
      left_by o status did.seen same.1 did.status_is did.grew did.counted,
      subst (FileHolds o (codes "l"))
          (ap logtext (one_log did.log log recorded.version header same.0) ∙ text_is) did.written,
      did.others,
    )

-- The replay of that text leaves the same, and no file changes.
pub replay_leaves : (status : ℕ) (o : Outside) → MustCome replay_words status o
    → o.files (codes "l") ≡ Some text → o.files (codes "a") ≡ Some file → status ≢ 5 → status ≢ 6
    → status ≢ 9 → LeftBehind status o × FilesStay o
replay_leaves status o must l a no_fault no_sink no_memory =
    let fits = fits_have_none 0 (exchanges log) (group images config) ran.fits in
    let did = subst (λ m. MustReplay m Ownership log replay_taken status o) fits
    (must replay_asked replay_taken replay_asks (replay_takes o.files l a) no_fault no_sink
    no_memory) in
    let same = bare_once images config (exchanges log) (exchanges log) did.seen seen (refl, tt)
    (refl, (tt, tt)) did.replayed ran in (
      left_by o status did.seen same.1 did.status_is did.grew did.counted,
      did.stays.files_stay,
    )
