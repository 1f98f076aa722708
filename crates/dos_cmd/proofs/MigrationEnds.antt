-- How `migrate` ends.
use Rattle.std.proofs.Common.{◌≡◌, ◌≢◌, ◌≤◌, ◌<◌, ◌⊎◌, inl, refl, sym, ap, ◌∙◌, subst, true, ℕ}
use Rattle.std.proofs.Common.{Bool, List, [], length, Option, Some, None, Result, Ok, Err, inr}
use Rattle.std.proofs.Common.{arith}
use Rattle.std.specs.Prelude.{IfOk, IfErr, IfSome, IsTrue, OnOk, nat_lt, option_map}
use Rattle.std.proofs.lemmas.Bool.{le-ltb}
use Rattle.std.proofs.lemmas.Bool.Decides.{nat_tests}
use Rattle.logged_runs.specs.Recording.{HostSeen, host_seen}
use Rattle.dos_io.specs.Outside.{GrewByFront, Rose}
use Rattle.dos_io.proofs.OutsideLaws.{grown-nothing}
use Rattle.dos_world.specs.declared.Ending.{Ending}
use Rattle.dos_world.specs.declared.Ending.TheVariants.{Done}
use Rattle.log_files.specs.Judging.{log_verdict}
use Rattle.log_files.specs.declared.refusal.LogRefusal.{LogRefusal}
use Rattle.log_text.specs.declared.version.LogVersion.{LogVersion}
use Rattle.log_text.specs.LogText.{Log, logtext}
use Rattle.log_text.specs.Ranges.{most_bytes}
use Rattle.dos_texts.specs.Exit.{ending_status}
use Rattle.dos_texts.specs.Migration.{migrated_lines}
use Rattle.dos_texts.specs.declared.refusal.Refusal.{Refusal}
use Rattle.dos_texts.specs.declared.refusal.Refusal.TheVariants as refusals
use Rattle.dos_words.specs.Numbers.{Text}
use Rattle.dos_words.specs.declared.request.Request.TheVariants.{Migrate}
use Rattle.dos_cmd.specs.Judging.{Taken, judgement, migrate_judged, migrated_of, taken_log}
use Rattle.dos_cmd.specs.Migrating.{migrated_text, migration_lines, DoesMigrate, LeavesMigration}
use Rattle.dos_cmd.specs.Migrating.{WasStored}
use Rattle.dos_cmd.specs.Outside.{Outside, outside, faults}
use Rattle.dos_cmd.specs.ReplayLeaves.{OfLogFile, OfReading}
use Rattle.dos_cmd.specs.Results.{Begun, Did, Leaves}
use Rattle.dos_cmd.proofs.NotBegun.{says_nothing}
use Rattle.dos_cmd.proofs.RunEnds.{all_stay, then_rose}

-- ---- what the log's file is taken for

abbrev taken_alone : Log → Taken
taken_alone log = taken_log log []

small_taken : (log : Log) → length (migrated_text log) ≤ most_bytes
    → migrated_of log ≡ Ok (taken_alone log)
unfolding migrated_of
small_taken log fits = rw (le-ltb most_bytes (length (migrated_text log)) fits) refl

long_refused : (log : Log) → most_bytes < length (migrated_text log)
    → migrated_of log ≡ Err refusals.LogFull
unfolding migrated_of
long_refused log long =
    let longer : nat_lt most_bytes (length (migrated_text log)) ≡ true = grind (arith, nat_tests)
    in
    rw longer refl

module _ (contents : Text → Option (List ℕ)) (name to : Text) where
  -- what is judged of a log that the file is
  log_judged_as : (log : Log) (judged : Result Taken Refusal) → migrated_of log ≡ judged
      → IfSome (contents name) (λ file. log_verdict file ≡ Ok log)
      → IfSome (judgement contents (Migrate name to)) (λ j. j ≡ judged)
  log_judged_as log judged is h = one (contents name) h
    where
      one : (told : Option (List ℕ)) → IfSome told (λ file. log_verdict file ≡ Ok log)
          → IfSome (option_map (λ file. migrate_judged (log_verdict file)) told) (λ j. j ≡ judged)
      one None h = tt
      one (Some file) h = ap migrate_judged h ∙ is

  log_refused_as : (why : LogRefusal)
      → IfSome (contents name) (λ file. log_verdict file ≡ Err why)
      → IfSome (judgement contents (Migrate name to)) (λ j. j ≡ Err (refusals.Log why))
  log_refused_as why h = one (contents name) h
    where
      one : (told : Option (List ℕ)) → IfSome told (λ file. log_verdict file ≡ Err why)
          → IfSome (option_map (λ file. migrate_judged (log_verdict file)) told)
          (λ j. j ≡ Err (refusals.Log why))
      one None h = tt
      one (Some file) h = ap migrate_judged h

  pub migrate_reading : (why : Refusal)
      → OfLogFile why (λ found. IfSome (contents name) (λ file. log_verdict file ≡ Err found))
      → OfReading why (λ w. IfSome (judgement contents (Migrate name to)) (λ j. j ≡ Err w))
  migrate_reading (refusals.Log why) h = log_refused_as why h
  migrate_reading refusals.Files h = tt
  migrate_reading refusals.Memory h = tt
  migrate_reading why h = absurd h

-- ---- before the lines

-- The text was wanting memory, or is too long.
pub not_made : (log : Log) (to : Text) (why : Refusal) (tells : Bool)
    (files : Text → Option (List ℕ)) (out : Option (List ℕ)) (k n : ℕ)
    → (why ≡ refusals.Memory)
    ⊎ ((why ≡ refusals.LogFull) × (most_bytes < length (migrated_text log)))
    → LeavesMigration log to why tells files files out out k k n n
not_made log to why tells files out k n (inl is) =
    subst (λ (w : Refusal). LeavesMigration log to w tells files files out out k k n n) (sym is)
    (record { files_stay = λ name. refl; out_stays = refl })
not_made log to why tells files out k n (inr is) =
    subst (λ (w : Refusal). LeavesMigration log to w tells files files out out k k n n) (sym is.0)
    (is.1, record { files_stay = λ name. refl; out_stays = refl })

-- It wasn't written.
pub not_stored : (log : Log) (to : Text) (why : Refusal) (tells : Bool)
    (files after : Text → Option (List ℕ)) (out : Option (List ℕ)) (k k' n : ℕ)
    → length (migrated_text log) ≤ most_bytes
    → (why ≡ refusals.Files) ⊎ ((why ≡ refusals.Memory) × (after to ≡ files to))
    → (why ≡ refusals.Files → Rose k k') → ((name : Text) → name ≢ to → after name ≡ files name)
    → LeavesMigration log to why tells files after out out k k' n n
not_stored log to why tells files after out k k' n fits (inl is) rose others =
    subst (λ (w : Refusal). LeavesMigration log to w tells files after out out k k' n n) (sym is)
    (fits, record { rose = rose is; others = others; out_stays = refl })
not_stored log to why tells files after out k k' n fits (inr is) rose others =
    subst (λ (w : Refusal). LeavesMigration log to w tells files after out out k k' n n) (sym is.0)
    (record {
      files_stay = all_stay
          (outside tells files after (host_seen None []) (host_seen None []) None None None None
          0 0) to is.1 others;
      out_stays = refl;
    })

-- It was written.
pub stored_text : (log : Log) (to : Text) (text : List ℕ) (tells : Bool)
    (files after : Text → Option (List ℕ)) → text ≡ migrated_text log
    → IfSome (files to) (λ _. after to ≡ Some text) → (IsTrue tells → after to ≡ Some text)
    → ((name : Text) → name ≢ to → after name ≡ files name)
    → WasStored to (migrated_text log) tells files after
stored_text log to text tells files after is told all others =
    subst (λ (t : List ℕ). WasStored to t tells files after) is
    (record { where_told = told; where_all_tell = all; others = others })

-- the lines of these numbers
pub lines_are : (log : Log) (version : LogVersion) (bytes written : ℕ) → version ≡ log.version
    → bytes ≡ length (logtext log) → written ≡ length (migrated_text log)
    → migrated_lines version bytes written ≡ migration_lines log
lines_are log version bytes written a b d = rw (a, b, d) refl

pub untold : (log : Log) (version : LogVersion) (bytes written : ℕ) (out out' : Option (List ℕ))
    → version ≡ log.version → bytes ≡ length (logtext log)
    → written ≡ length (migrated_text log)
    → GrewByFront out out' (migrated_lines version bytes written)
    → GrewByFront out out' (migration_lines log)
untold log version bytes written out out' a b d front =
    subst (λ (lines : List ℕ). GrewByFront out out' lines)
    (lines_are log version bytes written a b d) front

-- ---- files that were only read before

stored_before : (to : Text) (text : List ℕ) (tells read_tells : Bool)
    (files read after : Text → Option (List ℕ)) → ((n : Text) → read n ≡ files n)
    → read_tells ≡ tells → WasStored to text read_tells read after
    → WasStored to text tells files after
stored_before to text tells read_tells files read after stays same stored = record {
  where_told = subst (λ (told : Option (List ℕ)). IfSome told (λ _. after to ≡ Some text))
      (stays to) stored.where_told;
  where_all_tell = λ all. stored.where_all_tell (subst IsTrue (sym same) all);
  others = λ name other. stored.others name other ∙ stays name;
}

-- ---- the call

module _ (name to : Text) (log : Log) (tells read_tells : Bool)
    (files read after : Text → Option (List ℕ)) (out out' : Option (List ℕ))
    (stays : (n : Text) → read n ≡ files n) (same : read_tells ≡ tells)
    (accepted : IfSome (files name) (λ file. log_verdict file ≡ Ok log))
    (r : Result Ending Refusal) where
  abbrev seen : (h : HostSeen) (e : Option (List ℕ)) (t : ℕ) → Outside
  seen h e t = outside tells files after h h out out' e e t t

  begun : (h : HostSeen) (e : Option (List ℕ)) (t : ℕ) (P : Taken → Type 0)
      → length (migrated_text log) ≤ most_bytes → P (taken_alone log)
      → Begun (Migrate name to) (seen h e t) P
  begun h e t P fits so = record {
    taken = taken_alone log;
    is = log_judged_as files name to log (Ok (taken_alone log)) (small_taken log fits) accepted;
    so = so;
  }

  pub migrate_did : IfOk r (λ ending. ending ≡ Done)
      → OnOk r (DoesMigrate log to read_tells read after out out')
      → (h : HostSeen) (e : Option (List ℕ)) (t : ℕ) → IfOk r (λ ending.
      Begun (Migrate name to) (seen h e t)
      (λ taken. Did (Migrate name to) taken (ending_status ending) (seen h e t)))
  migrate_did ends does h e t = by_result r ends does
    where
      by_result : (r : Result Ending Refusal) → IfOk r (λ ending. ending ≡ Done)
          → OnOk r (DoesMigrate log to read_tells read after out out') → IfOk r (λ ending.
          Begun (Migrate name to) (seen h e t)
          (λ taken. Did (Migrate name to) taken (ending_status ending) (seen h e t)))
      by_result (Err why) ends does = tt
      by_result (Ok ending) ends does =
          let stored = stored_before to (migrated_text log) tells read_tells files read after
          stays same does.stored in
          begun h e t
          (λ taken. Did (Migrate name to) taken (ending_status ending) (seen h e t)) does.fits
          (record {
            status_is = ap ending_status ends;
            written = record {
              where_told = stored.where_told;
              where_all_tell = stored.where_all_tell;
            };
            others = stored.others;
            grew = record { out_is = does.out_is; err_is = grown-nothing e };
            host_stays = refl;
            tally_stays = refl;
          })

  pub migrate_leaves : (k k' k'' n n' : ℕ) → k ≤ k'
      → IfErr r (λ why. LeavesMigration log to why read_tells read after out out' k' k'' n n')
      → (h : HostSeen) (e : Option (List ℕ)) (t l m : ℕ) → IfErr r (λ why.
      Leaves (Migrate name to) (seen h e t) (faults k k'' l l n n' m m) why [])
  migrate_leaves k k' k'' n n' later leaves h e t l m = by_result r leaves
    where
      by_why : (why : Refusal)
          → LeavesMigration log to why read_tells read after out out' k' k'' n n'
          → Leaves (Migrate name to) (seen h e t) (faults k k'' l l n n' m m) why []
      by_why refusals.LogFull x = record {
        is = log_judged_as files name to log (Err refusals.LogFull) (long_refused log x.0) accepted;
        says = says_nothing (seen h e t) x.1.out_stays refl
            (λ name. x.1.files_stay name ∙ stays name) refl refl;
      }
      by_why refusals.Memory x =
          inl (says_nothing (seen h e t) x.out_stays refl
          (λ name. x.files_stay name ∙ stays name) refl refl)
      by_why refusals.Files x = (
        then_rose k k' k'' later x.1.rose,
        inr (begun h e t _ x.0 (record {
          out_stays = x.1.out_stays;
          err_says = grown-nothing e;
          others = λ name other. x.1.others name other ∙ stays name;
          host_stays = refl;
          tally_stays = refl;
        })),
      )
      by_why refusals.Sink x =
          let stored = stored_before to (migrated_text log) tells read_tells files read after
          stays same x.1.stored in (
            inl x.1.rose,
            refl,
            begun h e t _ x.0 (record {
              written = record {
                where_told = stored.where_told;
                where_all_tell = stored.where_all_tell;
              };
              others = stored.others;
              out_is = x.1.front;
              err_stays = refl;
              host_stays = refl;
              tally_stays = refl;
            }),
          )
      by_why why x = absurd x

      by_result : (r : Result Ending Refusal)
          → IfErr r (λ why. LeavesMigration log to why read_tells read after out out' k' k'' n n')
          → IfErr r (λ why. Leaves (Migrate name to) (seen h e t) (faults k k'' l l n n' m m)
          why [])
      by_result (Ok ending) leaves = tt
      by_result (Err why) leaves = by_why why leaves
