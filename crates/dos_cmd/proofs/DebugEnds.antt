-- What a debugger's session leaves, by how it ends.
use Rattle.std.proofs.Common.{◌≡◌, ◌≤◌, ◌+◌, ◌++◌, ◌∷◌, inl, inr, ℕ, List, [], map, take, Some}
use Rattle.std.proofs.Common.{None, Result, Ok, Err, length, sym, ap, ◌∙◌, subst, refl}
use Rattle.std.proofs.lemmas.List.{length-map}
use Rattle.std.specs.Global.{Vec}
use Rattle.std.specs.Prelude.{⊤, IfSome, slice_get}
use Rattle.debug_connection.specs.Keeping.{texts_of}
use Rattle.debug_connection.specs.declared.stops.ServeStop.{ServeStop}
use Rattle.debug_connection.specs.declared.stops.ServeStop.TheVariants as serve
use Rattle.debugger.specs.Debugging.{HasDebugged, HasStopped}
use Rattle.debugger.specs.declared.stops.DebugStop.{DebugStop}
use Rattle.debugger.specs.declared.stops.DebugStop.TheVariants as debugs
use Rattle.dos_io.specs.Outside.{Rose}
use Rattle.dos_io.proofs.OutsideLaws.{grown-nothing}
use Rattle.dos_world.specs.declared.Ending.{Ending}
use Rattle.elf_image.specs.Image.{Image}
use Rattle.flat_machine.specs.Opening.{needed}
use Rattle.log_text.specs.LogText.{Log}
use Rattle.dos_texts.specs.declared.refusal.Refusal.{Refusal}
use Rattle.dos_texts.specs.declared.refusal.Refusal.TheVariants as refusals
use Rattle.dos_words.specs.Numbers.{Text}
use Rattle.dos_words.specs.declared.request.Request.TheVariants as requests
use Rattle.dos_cmd.specs.DebugLeaves.{LeavesDebug, WasDebugged, debug_refusal}
use Rattle.dos_cmd.specs.Judging.{agreed, contents_of, replay_judgement, taken_log}
use Rattle.dos_cmd.specs.Outside.{Outside, Faults, FilesStay, TallyStays}
use Rattle.dos_cmd.specs.Results.{Begun, Did, Leaves}
use Rattle.dos_cmd.proofs.Asked.{take_next}
use Rattle.dos_cmd.proofs.NotBegun.{no_room_so, says_nothing}
use Rattle.dos_cmd.proofs.ReplayTaking.{room_refused, room_taken}
use Rattle.dos_cmd.proofs.RunFiles.{texts_more}

-- ---- names

-- one more was copied
pub copied_more : (old new : List (Vec ℕ)) (copy : Vec ℕ) (names : List Text) (i : ℕ) (name : Text)
    → slice_get names i ≡ Some name → copy.items ≡ name → new ≡ old ++ copy ∷ []
    → texts_of old ≡ take i names → texts_of new ≡ take (i + 1) names
copied_more old new copy names i name at is grew before =
    texts_more old new copy grew ∙ ap (λ (x : List Text). x ++ copy.items ∷ []) before
    ∙ ap (λ (b : Text). take i names ++ b ∷ []) is ∙ sym (take_next names i name at)

-- as many as there are of these, where they are as many as the names
pub as_many_copied : (copies : List (Vec ℕ)) (names : List Text) (count : ℕ)
    → texts_of copies ≡ names → count ≡ length names → length copies ≡ count
as_many_copied copies names count same many =
    sym (length-map copies (λ (v : Vec ℕ). v.items)) ∙ ap length same ∙ sym many

-- ---- a session of a log and its images, by names and bytes that are those of the files

abbrev debug_so : DebugStop → Result ⊤ DebugStop
debug_so stop = Err stop

module _ (log : Log) (images : List Image) (names : List Text) (copies files : List (List ℕ))
    (o : Outside) (same : copies ≡ names)
    (are : IfSome (contents_of (map o.files names)) (λ all. files ≡ all)) (stay : FilesStay o)
    (rest : TallyStays o) (quiet : o.err_after ≡ o.err) where
  was_debugged : (result : Result ⊤ ServeStop)
      → HasDebugged images copies files log result o.host.told o.out o.out_after
      → WasDebugged log images names result o
  was_debugged result h = record {
    files = files;
    files_are = are;
    debugged = subst (λ (n : List (List ℕ)). HasDebugged images n files log result o.host.told
        o.out o.out_after) same h;
    files_stay = stay;
    tally_stays = rest;
  }

  -- to the end of the input
  pub debug_begun : (name : Text) (n status : ℕ) → status ≡ 0
      → IfSome (replay_judgement (o.files name) (map o.files names))
      (λ j. j ≡ agreed log images None) → needed images ≤ log.header.frames
      → HasDebugged images copies files log (Ok tt) o.host.told o.out o.out_after
      → Begun (requests.Debug n name names) o
      (λ taken. Did (requests.Debug n name names) taken status o)
  debug_begun name n status done told fits h = record {
    taken = taken_log log images;
    is = room_taken (replay_judgement (o.files name) (map o.files names)) log images fits told;
    so = record { status_is = done; was = was_debugged (Ok tt) h; err_stays = quiet };
  }

  -- until it stopped
  pub debug_stopped : (f : Faults) (stop : DebugStop) (why : Refusal) → why ≡ debug_refusal stop
      → HasStopped images copies files log stop o.host o.host_after o.out o.out_after
      → (debug_so stop ≡ Err debugs.HostFault → Rose f.host f.host_after)
      → (debug_so stop ≡ Err debugs.SinkFault → Rose f.out f.out_after)
      → LeavesDebug log images names o f why
  debug_stopped f stop why is h host sink =
      subst (λ (w : Refusal). LeavesDebug log images names o f w) (sym is)
      (by_stop stop h host sink)
    where
      by_stop : (stop : DebugStop)
          → HasStopped images copies files log stop o.host o.host_after o.out o.out_after
          → (debug_so stop ≡ Err debugs.HostFault → Rose f.host f.host_after)
          → (debug_so stop ≡ Err debugs.SinkFault → Rose f.out f.out_after)
          → LeavesDebug log images names o f (debug_refusal stop)
      by_stop (debugs.NoRoom n frames) h host sink = (
        h.0,
        h.1,
        h.2,
        says_nothing o h.3.out_stays quiet stay h.3.host_stays rest,
      )
      by_stop debugs.HostFault h host sink = (
        h.room,
        host refl,
        record {
          was = was_debugged (Err serve.HostFault) h.debugged;
          err_says = quiet ∙ grown-nothing o.err;
        },
      )
      by_stop debugs.SinkFault h host sink = (
        h.room,
        inl (sink refl),
        record { was = was_debugged (Err serve.SinkFault) h.debugged; err_stays = quiet },
      )
      by_stop debugs.Memory (inl h) host sink =
          inl (says_nothing o h.out_stays quiet stay h.host_stays rest)
      by_stop debugs.Memory (inr h) host sink = inr (
        h.room,
        record {
          was = was_debugged (Err serve.Memory) h.debugged;
          err_says = quiet ∙ grown-nothing o.err;
        },
      )

-- ---- the call

pub debug_leaves : (log : Log) (images : List Image) (name : Text) (names : List Text) (n : ℕ)
    (o : Outside) (f : Faults) (why : Refusal)
    → IfSome (replay_judgement (o.files name) (map o.files names))
    (λ j. j ≡ agreed log images None) → LeavesDebug log images names o f why
    → Leaves (requests.Debug n name names) o f why []
debug_leaves log images name names n o f (refusals.NoRoom m frames) told h = record {
  is = subst (λ (w : Refusal). IfSome (replay_judgement (o.files name) (map o.files names))
      (λ j. j ≡ Err w)) (no_room_so m frames (needed images) log.header.frames h.0 h.1)
      (room_refused (replay_judgement (o.files name) (map o.files names)) log images h.2 told);
  says = h.3;
}
debug_leaves log images name names n o f refusals.Host told h = (
  h.1,
  record {
    taken = taken_log log images;
    is = room_taken (replay_judgement (o.files name) (map o.files names)) log images h.0 told;
    so = h.2;
  },
)
debug_leaves log images name names n o f refusals.Sink told h = (
  h.1,
  refl,
  record {
    taken = taken_log log images;
    is = room_taken (replay_judgement (o.files name) (map o.files names)) log images h.0 told;
    so = h.2;
  },
)
debug_leaves log images name names n o f refusals.Memory told (inl h) = inl h
debug_leaves log images name names n o f refusals.Memory told (inr h) = inr (inl (record {
  taken = taken_log log images;
  is = room_taken (replay_judgement (o.files name) (map o.files names)) log images h.0 told;
  so = h.1;
}))
debug_leaves log images name names n o f why told h = absurd h

-- ---- counts that stand

-- where it isn't a fault of the host, no read failed
pub no_read_fault : (stop : DebugStop) (why : Refusal) → why ≡ debug_refusal stop
    → (◌≡◌ {A = Result Ending Refusal} (Err why) (Err refusals.Host) → ⊥)
    → debug_so stop ≡ Err debugs.HostFault → ⊥
no_read_fault stop why is other fault = other (ap refused (is ∙ ap debug_refusal same))
  where
    refused : Refusal → Result Ending Refusal
    refused r = Err r

    same : stop ≡ debugs.HostFault
    same = cc

-- nor a put, where it isn't a fault of a sink
pub no_put_fault : (stop : DebugStop) (why : Refusal) → why ≡ debug_refusal stop
    → (◌≡◌ {A = Result Ending Refusal} (Err why) (Err refusals.Sink) → ⊥)
    → debug_so stop ≡ Err debugs.SinkFault → ⊥
no_put_fault stop why is other fault = other (ap refused (is ∙ ap debug_refusal same))
  where
    refused : Refusal → Result Ending Refusal
    refused r = Err r

    same : stop ≡ debugs.SinkFault
    same = cc
