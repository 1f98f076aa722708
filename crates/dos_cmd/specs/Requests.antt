-- The code's own values of a request, as what the words ask for, and what is made ready for it.
use Rattle.std.specs.Prelude.{◌≡◌, ℕ, Bool, List, [], Option, IfSome, Ok}
use Rattle.logged_runs.specs.Recording.{HostSeen}
use Rattle.dos_texts.specs.declared.refusal.Refusal.{Refusal}
use Rattle.dos_words.specs.Numbers.{Text}
use Rattle.dos_words.specs.declared.request.Request.{Request}
use Rattle.dos_words.specs.declared.request.Request.TheVariants.{Run}
use Rattle.elf_image.specs.Image.{Image}
use Rattle.group_rounds.specs.Kernels.{Held}
use Rattle.logged_runs.specs.Opened.{IsOpenedWith}
use Rattle.shim_log.specs.Ledger.{LedgerState}
use Rattle.dos_cmd.specs.declared.run.RunRequest.{RunRequest}
use Rattle.dos_cmd.specs.Judging.{judgement, taken_images}
use Rattle.dos_cmd.specs.Outside.{Outside, outside, faults}
use Rattle.dos_cmd.specs.Results.{Leaves, run_request_asked}
use Rattle.dos_cmd.specs.RunLeaves.{IsPrepared, RunAsked}

-- with so many workers
abbrev pub run_request : RunRequest → (workers : ℕ) → Request
run_request r workers =
    Run r.config.quantum r.config.rounds r.config.frames workers r.config.scheme r.posts.now
    r.clock_from r.clock_step r.log.now r.names.now

-- without them
abbrev pub request_asked : RunRequest → RunAsked
request_asked r =
    run_request_asked r.config.quantum r.config.rounds r.config.frames r.config.scheme r.posts.now
    r.clock_from r.clock_step r.log.now r.names.now

-- The files are taken for these images, as far as they tell.
abbrev pub AreFilesTaken : RunRequest → (contents : Text → Option (List ℕ)) → List Image → Type 0
AreFilesTaken r contents images = (n : ℕ)
    → IfSome (judgement contents (run_request r n)) (λ j. j ≡ Ok (taken_images images))

-- A kernel was opened with the images that the files are taken for.
pub record AreOpened (r : RunRequest) (contents : Text → Option (List ℕ)) (kernel : Held) :
    Type 0 where
  pub images : List Image
  pub taken : AreFilesTaken r contents images
  pub opened : IsOpenedWith kernel images (request_asked r).config

-- All is at hand for the run, whatever a host, the outputs and the workers tell.
pub record IsReadyToRun (r : RunRequest) (contents : Text → Option (List ℕ)) (kernel : Held)
    (ledger : LedgerState) : Type 0 where
  pub images : List Image
  pub taken : AreFilesTaken r contents images
  pub prepared : (o : Outside)
      → IsPrepared (request_asked r) images kernel ledger r.log.now (record o { files = contents })

-- The run isn't begun, for this reason, whatever a host, the outputs and the workers tell, and
-- however often they failed.
abbrev pub IsNotBegun : RunRequest → (tells : Bool) → (files files_after : Text → Option (List ℕ))
    → (faults_before faults_after : ℕ) → Refusal → Type 0
IsNotBegun r tells files files_after faults_before faults_after why = (n : ℕ)
    (host : HostSeen) (out err : Option (List ℕ)) (tally k l m : ℕ) → Leaves (run_request r n)
    (outside tells files files_after host host out out err err tally tally)
    (faults faults_before faults_after k k l l m m) why []
