-- A call of `save`, by what its files are taken for.
use Rattle.std.proofs.Common.{◌≡◌, ◌≤◌, inl, inr, ℕ, Bool, List, [], map, Option, Result, Ok, Err}
use Rattle.std.proofs.Common.{subst, refl, le_refl, None}
use Rattle.std.specs.Prelude.{IfSome, IfOk, IfErr, OnOk}
use Rattle.logged_runs.specs.Recording.{HostSeen, host_seen}
use Rattle.dos_world.specs.declared.Ending.{Ending}
use Rattle.elf_image.specs.Image.{Image}
use Rattle.flat_machine.specs.Opening.{needed}
use Rattle.log_text.specs.LogText.{Log}
use Rattle.dos_texts.specs.Exit.{ending_status}
use Rattle.dos_texts.specs.declared.refusal.Refusal.{Refusal}
use Rattle.dos_texts.specs.declared.refusal.Refusal.TheVariants as refusals
use Rattle.dos_words.specs.Numbers.{Text}
use Rattle.dos_words.specs.declared.request.Request.TheVariants as requests
use Rattle.dos_cmd.specs.Judging.{agreed, replay_judgement, taken_log}
use Rattle.dos_cmd.specs.Outside.{Outside, Faults, outside, faults}
use Rattle.dos_cmd.specs.Results.{Begun, Did, Leaves}
use Rattle.dos_cmd.specs.SaveLeaves.{DidSave, LeavesSave}
use Rattle.dos_cmd.proofs.Asked.{IsLater, later_save}
use Rattle.dos_cmd.proofs.NotBegun.{no_room_so}
use Rattle.dos_cmd.proofs.ReplayTaking.{room_refused, room_taken}

pub save_begun : (log : Log) (images : List Image) (name : Text) (round : ℕ) (to : Text)
    (names : List Text) (o : Outside) (r : Result Ending Refusal) (n : ℕ)
    → IfSome (replay_judgement (o.files name) (map o.files names)) (λ j. j ≡ agreed log images None)
    → OnOk r (needed images ≤ log.header.frames)
    → IfOk r (λ ended. DidSave log images round to (ending_status ended) o)
    → IfOk r (λ ended. Begun (requests.Save n name round to names) o
    (λ taken. Did (requests.Save n name round to names) taken (ending_status ended) o))
save_begun log images name round to names o (Err why) n told fits did = tt
save_begun log images name round to names o (Ok ended) n told fits did = record {
  taken = taken_log log images;
  is = room_taken (replay_judgement (o.files name) (map o.files names)) log images fits told;
  so = did;
}

leaves_save : (log : Log) (images : List Image) (name : Text) (round : ℕ) (to : Text)
    (names : List Text) (n : ℕ) (o : Outside) (f : Faults) (why : Refusal)
    → IfSome (replay_judgement (o.files name) (map o.files names))
    (λ j. j ≡ agreed log images None) → LeavesSave log images round to o f why
    → Leaves (requests.Save n name round to names) o f why []
leaves_save log images name round to names n o f (refusals.NoRoom m frames) told h = record {
  is = subst (λ (w : Refusal). IfSome (replay_judgement (o.files name) (map o.files names))
      (λ j. j ≡ Err w)) (no_room_so m frames (needed images) log.header.frames h.0 h.1)
      (room_refused (replay_judgement (o.files name) (map o.files names)) log images h.2 told);
  says = h.3;
}
leaves_save log images name round to names n o f (refusals.Misfit found) told h = record {
  taken = taken_log log images;
  is = room_taken (replay_judgement (o.files name) (map o.files names)) log images h.0 told;
  so = h.1;
}
leaves_save log images name round to names n o f refusals.Sink told h = (
  h.1,
  refl,
  record {
    taken = taken_log log images;
    is = room_taken (replay_judgement (o.files name) (map o.files names)) log images h.0 told;
    so = h.2;
  },
)
leaves_save log images name round to names n o f refusals.Files told h = (
  h.1,
  inr (record {
    taken = taken_log log images;
    is = room_taken (replay_judgement (o.files name) (map o.files names)) log images h.0 told;
    so = h.2;
  }),
)
leaves_save log images name round to names n o f refusals.Memory told (inl says) = inl says
leaves_save log images name round to names n o f refusals.Memory told (inr h) = inr (inr (
  h.1,
  record {
    taken = taken_log log images;
    is = room_taken (replay_judgement (o.files name) (map o.files names)) log images h.0 told;
    so = h.2;
  },
))
leaves_save log images name round to names n o f why told h = absurd h

pub save_leaves : (log : Log) (images : List Image) (name : Text) (round : ℕ) (to : Text)
    (names : List Text) (o : Outside) (f : Faults) (r : Result Ending Refusal) (n : ℕ)
    → IfSome (replay_judgement (o.files name) (map o.files names))
    (λ j. j ≡ agreed log images None)
    → IfErr r (λ why. LeavesSave log images round to o f why)
    → IfErr r (λ why. Leaves (requests.Save n name round to names) o f why [])
save_leaves log images name round to names o f (Ok ended) n told leaves = tt
save_leaves log images name round to names o f (Err why) n told leaves =
    leaves_save log images name round to names n o f why told leaves

-- ---- however the files came to what they tell

module _ (log : Log) (images : List Image) (name : Text) (round : ℕ) (to : Text)
    (names : List Text) (tells tells1 : Bool) (f f1 f' : Text → Option (List ℕ))
    (same : (n : Text) → f1 n ≡ f n) (is : tells1 ≡ tells)
    (told : IfSome (replay_judgement (f name) (map f names)) (λ j. j ≡ agreed log images None))
    (out err out1 err1 : Option (List ℕ)) (tally tally1 : ℕ) (r : Result Ending Refusal) where
  abbrev seen_by : Bool → (Text → Option (List ℕ)) → HostSeen → Outside
  seen_by t files h = outside t files f' h h out out1 err err1 tally tally1

  pub save_whole : OnOk r (needed images ≤ log.header.frames)
      → IfOk r (λ ended. (files : Text → Option (List ℕ)) (h : HostSeen)
      → ((n : Text) → f1 n ≡ files n)
      → DidSave log images round to (ending_status ended) (seen_by tells1 files h))
      → (n : ℕ) (h : HostSeen) → IfOk r (λ ended. Begun (requests.Save n name round to names)
      (seen_by tells f h) (λ taken. Did (requests.Save n name round to names) taken
      (ending_status ended) (seen_by tells f h)))
  save_whole fits did n h =
      save_begun log images name round to names (seen_by tells f h) r n told fits (each r did)
    where
      each : (r : Result Ending Refusal)
          → IfOk r (λ ended. (files : Text → Option (List ℕ)) (h : HostSeen)
          → ((n : Text) → f1 n ≡ files n)
          → DidSave log images round to (ending_status ended) (seen_by tells1 files h))
          → IfOk r (λ ended. DidSave log images round to (ending_status ended) (seen_by tells f h))
      each (Err why) did = tt
      each (Ok ended) did = subst (λ (t : Bool). DidSave log images round to (ending_status ended)
          (seen_by t f h)) is (did f h same)

  pub save_left : (k k1 k' oc oc1 ec ec1 : ℕ) → k ≤ k1
      → IfErr r (λ why. (files : Text → Option (List ℕ)) (h : HostSeen) (k m : ℕ)
      → ((n : Text) → f1 n ≡ files n) → k ≤ k1 → LeavesSave log images round to
      (seen_by tells1 files h) (faults k k' m m oc oc1 ec ec1) why)
      → (n : ℕ) (h : HostSeen) (m : ℕ) → IfErr r (λ why. Leaves
      (requests.Save n name round to names) (seen_by tells f h)
      (faults k k' m m oc oc1 ec ec1) why [])
  save_left k k1 k' oc oc1 ec ec1 few leaves n h m =
      save_leaves log images name round to names (seen_by tells f h)
      (faults k k' m m oc oc1 ec ec1) r n told (each r leaves)
    where
      each : (r : Result Ending Refusal)
          → IfErr r (λ why. (files : Text → Option (List ℕ)) (h : HostSeen) (k m : ℕ)
          → ((n : Text) → f1 n ≡ files n) → k ≤ k1 → LeavesSave log images round to
          (seen_by tells1 files h) (faults k k' m m oc oc1 ec ec1) why)
          → IfErr r (λ why. LeavesSave log images round to (seen_by tells f h)
          (faults k k' m m oc oc1 ec ec1) why)
      each (Ok ended) leaves = tt
      each (Err why) leaves = subst (λ (t : Bool). LeavesSave log images round to (seen_by t f h)
          (faults k k' m m oc oc1 ec ec1) why) is (leaves f h k m same few)

-- what a refused log or image is not among
pub saving_later : (log : Log) (images : List Image) (round : ℕ) (to : Text) (tells : Bool)
    (f1 f' : Text → Option (List ℕ)) (out err out1 err1 : Option (List ℕ))
    (tally tally1 k1 k' oc oc1 ec ec1 : ℕ) (r : Result Ending Refusal)
    → IfErr r (λ why. (files : Text → Option (List ℕ)) (h : HostSeen) (k m : ℕ)
    → ((n : Text) → f1 n ≡ files n) → k ≤ k1 → LeavesSave log images round to
    (outside tells files f' h h out out1 err err1 tally tally1) (faults k k' m m oc oc1 ec ec1) why)
    → IfErr r IsLater
saving_later log images round to tells f1 f' out err out1 err1 tally tally1 k1 k' oc oc1 ec ec1
    (Ok ended) leaves = tt
saving_later log images round to tells f1 f' out err out1 err1 tally tally1 k1 k' oc oc1 ec ec1
    (Err why) leaves =
    let h : HostSeen = host_seen None [] in
    later_save log images round to (outside tells f1 f' h h out out1 err err1 tally tally1)
    (faults k1 k' 0 0 oc oc1 ec ec1) why (leaves f1 h k1 0 (λ n. refl) (le_refl k1))
