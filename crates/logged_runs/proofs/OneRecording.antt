-- What the words and the host give determines a recorded run.
use Rattle.std.proofs.Common.{ℕ, suc, ◌≡◌, refl, sym, ap, ◌∙◌, subst, List, [], ◌∷◌, ◌++◌, map}
use Rattle.std.proofs.Common.{append_assoc, append-nil, Option, Some}
use Rattle.std.proofs.lemmas.List.{append_cancel_left, map-append}
use Rattle.dos_world.specs.declared.Config.{Config}
use Rattle.dos_world.specs.declared.Ending.{Ending}
use Rattle.dos_world.specs.declared.Post.{Post}
use Rattle.dos_io.specs.Exchanges.{question_of}
use Rattle.dos_io.specs.Given.{AreCountedFrom, Given, GivesCounted, GivesHost, GivesInputs}
use Rattle.dos_io.specs.Given.{GivesPosts, readings}
use Rattle.dos_io.specs.Hosts.{Told, taken}
use Rattle.dos_io.specs.declared.exchange.ClockRule.{ClockRule}
use Rattle.dos_io.specs.declared.exchange.ClockRule.TheVariants.{Counted, FromHost}
use Rattle.dos_io.specs.declared.exchange.Exchange.{Exchange}
use Rattle.dos_io.specs.declared.exchange.Exchange.TheVariants.{End, Input, Signals}
use Rattle.dos_io.proofs.GivenLaws.{given_once, readings_append}
use Rattle.log_text.specs.declared.header.LogHeader.{LogHeader}
use Rattle.log_text.specs.declared.version.LogVersion.{LogVersion}
use Rattle.log_text.specs.LogText.{Log, exchanges}
use Rattle.shim_log.specs.Room.{HadRoom, NoRoom}
use Rattle.flat_machine.specs.Machine.{group}
use Rattle.dpg_run.proofs.Asked.{Determines, next_asked, one_run}
use Rattle.dpg_run.proofs.MisfitLaws.{fits_have_none}
use Rattle.logged_runs.specs.Laws.{FullRunsNeverEnd, RecordedRunsAreOne, RecordingsReplay}
use Rattle.logged_runs.specs.Replaying.{config_of}
use Rattle.logged_runs.specs.Runs.{RanWhole}
use Rattle.logged_runs.proofs.Recordings.{fronts_same}

-- ---- the front of what was given

posts_front : (posts : List (ℕ × Post)) (es fs : List Exchange) → GivesPosts posts (es ++ fs)
    → GivesPosts posts es
posts_front posts [] fs h = tt
posts_front posts (Signals round list ∷ es) fs h = (h.0, posts_front posts es fs h.1)
posts_front posts (e ∷ es) fs h = posts_front posts es fs h

inputs_front : (before after : List (List ℕ)) (es fs : List Exchange)
    → GivesInputs before after (es ++ fs) → (left : List (List ℕ)) × GivesInputs before left es
inputs_front before after [] fs h = (before, refl)
inputs_front before after (Input round tid max bytes ∷ es) fs h =
    let rest = inputs_front (taken max before).1 after es fs h.1 in (rest.0, (h.0, rest.1))
inputs_front before after (e ∷ es) fs h = inputs_front before after es fs h

counted_front : (start step k : ℕ) (ns ms : List ℕ) → AreCountedFrom start step k (ns ++ ms)
    → AreCountedFrom start step k ns
counted_front start step k [] ms h = tt
counted_front start step k (n ∷ ns) ms h = (h.0, counted_front start step (suc k) ns ms h.1)

rule_front : (clock : ClockRule) (k : ℕ) (es fs : List Exchange)
    → GivesCounted clock k (es ++ fs) → GivesCounted clock k es
rule_front FromHost k es fs h = tt
rule_front (Counted start step) k es fs h =
    counted_front start step k (readings es) (readings fs)
    (subst (AreCountedFrom start step k) (readings_append es fs) h)

host_front : (clock : ClockRule) (before : Told) (after : Option Told) (es fs : List Exchange)
    → GivesHost clock (Some before) after (es ++ fs)
    → (left : Option Told) × GivesHost clock (Some before) left es
host_front FromHost before after es fs h =
    let pieces = inputs_front before.pieces h.0.pieces es fs h.2 in
    let left : Told =
    record { pieces = pieces.0; readings = readings fs ++ h.0.readings } in (
      Some left,
      (
        left,
        refl,
        pieces.1,
        sym (append_assoc (readings es) (readings fs) h.0.readings)
            ∙ ap (λ ns. ns ++ h.0.readings) (sym (readings_append es fs)) ∙ h.3,
      ),
    )
host_front (Counted start step) before after es fs h =
    let pieces = inputs_front before.pieces h.0.pieces es fs h.2 in
    let left : Told = record { pieces = pieces.0; readings = h.0.readings } in
    (Some left, (left, refl, pieces.1, h.3))

given_front : (posts : List (ℕ × Post)) (clock : ClockRule) (k : ℕ) (before : Told)
    (after : Option Told) (es fs : List Exchange)
    → Given posts clock k (Some before) after (es ++ fs)
    → (left : Option Told) × Given posts clock k (Some before) left es
given_front posts clock k before after es fs g =
    let host = host_front clock before after es fs g.host in (
      host.0,
      record {
        signals = posts_front posts es fs g.signals;
        counted = rule_front clock k es fs g.counted;
        host = host.1;
      },
    )

-- ---- one list

lasts_same : (es : List Exchange) (e f : Exchange) → es ++ e ∷ [] ≡ es ++ f ∷ [] → e ≡ f
lasts_same es e f is =
    let last : e ∷ [] ≡ f ∷ [] = append_cancel_left es (e ∷ []) (f ∷ []) is in cc

module _ (posts : List (ℕ × Post)) (clock : ClockRule) (host : Told) where
  -- behind the same exchanges, the same question has the same answer
  next_same : (seen : List Exchange) (e f : Exchange) (es fs : List Exchange)
      (after other : Option Told) → Given posts clock 0 (Some host) after (seen ++ e ∷ es)
      → Given posts clock 0 (Some host) other (seen ++ f ∷ fs)
      → question_of e ≡ question_of f → e ≡ f
  next_same seen e f es fs after other g h same =
      let left = given_front posts clock 0 host after (seen ++ e ∷ []) es
      (subst (Given posts clock 0 (Some host) after) (sym (append_assoc seen (e ∷ []) es)) g) in
      let right = given_front posts clock 0 host other (seen ++ f ∷ []) fs
      (subst (Given posts clock 0 (Some host) other) (sym (append_assoc seen (f ∷ []) fs)) h) in
      lasts_same seen e f
      (given_once posts clock 0 host left.0 right.0 (seen ++ e ∷ []) (seen ++ f ∷ []) left.1
      right.1 (map-append question_of seen (e ∷ [])
      ∙ ap (λ q. map question_of seen ++ q ∷ []) same
      ∙ sym (map-append question_of seen (f ∷ []))))

  -- With the same exchanges in front, both are given.
  abbrev BothGiven : Option Told → Option Told → List Exchange → List Exchange → Type 0
  BothGiven after other es fs = (seen : List Exchange)
      × Given posts clock 0 (Some host) after (seen ++ es)
      × Given posts clock 0 (Some host) other (seen ++ fs)

  given_determines : (after other : Option Told) → Determines (BothGiven after other)
  given_determines after other e f es fs given same =
      let seen = given.0 in
      let first : e ≡ f = next_same seen e f es fs after other given.1 given.2 same in (
        first,
        (
          seen ++ e ∷ [],
          subst (Given posts clock 0 (Some host) after) (sym (append_assoc seen (e ∷ []) es))
              given.1,
          subst (Given posts clock 0 (Some host) other)
              (ap (λ x. seen ++ x ∷ fs) (sym first) ∙ sym (append_assoc seen (e ∷ []) fs)) given.2,
        ),
      )

-- ---- one log

abbrev log_of : LogVersion → LogHeader → List Exchange → Ending → ℕ → Log
log_of version header entries ending rounds = record {
  version = version;
  header = header;
  entries = entries;
  ending = ending;
  rounds = rounds;
}

-- logs of one version and header and the same exchanges are one
pub one_log : (a b : Log) → a.version ≡ b.version → a.header ≡ b.header → exchanges a ≡ exchanges b
    → a ≡ b
one_log a b version header same =
    let entries : a.entries ≡ b.entries =
    fronts_same a.entries b.entries (End a.ending a.rounds) (End b.ending b.rounds) same in
    let last : End a.ending a.rounds ≡ End b.ending b.rounds =
    lasts_same a.entries (End a.ending a.rounds) (End b.ending b.rounds)
    (same ∙ ap (λ es. es ++ End b.ending b.rounds ∷ []) (sym entries)) in
    let ending : a.ending ≡ b.ending = cc in
    let rounds : a.rounds ≡ b.rounds = cc in
    ap (λ (v : LogVersion). log_of v a.header a.entries a.ending a.rounds) version
    ∙ ap (λ (h : LogHeader). log_of b.version h a.entries a.ending a.rounds) header
    ∙ ap (λ (es : List Exchange). log_of b.version b.header es a.ending a.rounds) entries
    ∙ ap (λ (e : Ending). log_of b.version b.header b.entries e a.rounds) ending
    ∙ ap (λ (n : ℕ). log_of b.version b.header b.entries b.ending n) rounds

pub recorded_once : RecordedRunsAreOne
recorded_once plan host asked other_asked after other_after log other seen other_seen a b =
    let same = one_run (BothGiven plan.posts plan.clock host after.told other_after.told)
    (given_determines plan.posts plan.clock host after.told other_after.told) plan.images
    plan.config
    (exchanges log) (exchanges other) seen other_seen ([], a.given, b.given) a.ran.fits b.ran.fits
    a.ran.is b.ran.is in
    (one_log log other (a.version ∙ sym b.version) (a.header ∙ sym b.header) same.0, same.1)

pub recording_replays : RecordingsReplay
recording_replays scheme plan host after log seen recorded is =
    let config : plan.config ≡ config_of scheme log.header =
    is ∙ ap (config_of scheme) (sym recorded.header) in
    let ran = subst (λ (c : Config). RanWhole plan.images c (exchanges log) seen) config
    recorded.ran in
    let run = group plan.images (config_of scheme log.header) in
    (ran, fits_have_none 0 (exchanges log) run ran.fits)

-- ---- where a recorder stops, and where it doesn't

-- each exchange that has a log had room, and the end needs none
room_at : (header : LogHeader) (posts : List (ℕ × Post)) (seen es fs : List Exchange)
    (next : Exchange) (rest : List Exchange) (ending : Ending) (rounds : ℕ)
    → es ++ End ending rounds ∷ [] ≡ fs ++ next ∷ rest → HadRoom header posts seen es
    → NoRoom header posts (seen ++ fs) (question_of next) → ⊥
room_at header posts seen [] [] next rest ending rounds is had none =
    let last : End ending rounds ≡ next = cc in
    subst (λ e. NoRoom header posts (seen ++ []) (question_of e)) (sym last) none
room_at header posts seen [] (f ∷ []) next rest ending rounds is had none = absurd cc
room_at header posts seen [] (f ∷ g ∷ fs) next rest ending rounds is had none = absurd cc
room_at header posts seen (e ∷ es) [] next rest ending rounds is had none =
    let first : e ≡ next = cc in
    had.0 (subst (λ x. NoRoom header posts x (question_of e)) (append-nil seen)
    (subst (λ x. NoRoom header posts (seen ++ []) (question_of x)) (sym first) none))
room_at header posts seen (e ∷ es) (f ∷ fs) next rest ending rounds is had none =
    let first : e ≡ f = cc in
    let left : es ++ End ending rounds ∷ [] ≡ fs ++ next ∷ rest = cc in
    room_at header posts (seen ++ e ∷ []) es fs next rest ending rounds left had.1
    (subst (λ x. NoRoom header posts x (question_of next))
    (ap (λ x. seen ++ x ∷ fs) (sym first) ∙ sym (append_assoc seen (e ∷ []) fs)) none)

pub full_never_ends : FullRunsNeverEnd
full_never_ends plan host asked other_asked after other_after log seen output error work whole
    full =
    let parts = next_asked (BothGiven plan.posts plan.clock host after.told other_after.told)
    (given_determines plan.posts plan.clock host after.told other_after.told) (exchanges log)
    full.before
    full.question (group plan.images plan.config) ([], whole.given, full.given) whole.ran.fits
    full.ran.asked in
    room_at plan.header plan.posts [] log.entries full.before parts.next parts.rest log.ending
    log.rounds parts.whole whole.room
    (subst (λ q. NoRoom plan.header plan.posts full.before q) (sym parts.asks) full.stops)
