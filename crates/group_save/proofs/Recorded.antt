-- What is read out of a state is what is saved of its world, and has a text.
use Rattle.std.proofs.Common.{◌≡◌, ℕ, zero, suc, ◌+◌, ◌<◌, ◌≤◌, List, [], ◌∷◌, length}
use Rattle.std.proofs.Common.{map}
use Rattle.std.proofs.Common.{refl, sym, ap, subst, ◌∙◌, arith, Option, Some, None, slice_get}
use Rattle.std.specs.Prelude.{All, IfSome}
use Rattle.std.specs.Global.{Vec}
use Rattle.std.proofs.lemmas.List.Elements.{All-head, All-tail, All-map}
use Rattle.dos_world.specs.World.{Thread, World, flat, thread_at}
use Rattle.dos_world.specs.Lawful.{IsConfig, IsWord, Lawful}
use Rattle.dos_world.specs.declared.Config.{Config}
use Rattle.dos_world.specs.declared.Scheme.TheVariants.{Ownership}
use Rattle.proc_table.specs.Spread.{living_from}
use Rattle.kernel_calls.specs.StateWorld.{IsSound, world_of}
use Rattle.kernel_calls.specs.declared.state.State.{State}
use Rattle.group_text.specs.GroupText as row
use Rattle.group_text.specs.Groups.{SavedGroup, group_of, world_in}
use Rattle.group_text.specs.Records.{group_of_record, frame_of_record, thread_of_record}
use Rattle.group_text.specs.declared.records.FrameRecord.{FrameRecord}
use Rattle.group_text.specs.declared.records.GroupRecord.{GroupRecord}
use Rattle.lawful_groups.specs.Recording.{IsRecordable}
use Rattle.lawful_groups.proofs.Recorded.{records_fit, worlds_come_back}
use Rattle.group_parts.specs.FrameLists.{framed}
use Rattle.group_parts.proofs.FrameFacts.{framed_is}
use Rattle.group_save.specs.Recording.{IsKernelOf}

-- ---- saved groups that are the same in each part

same_group : (a b : SavedGroup) → a.digest ≡ b.digest → a.used ≡ b.used → a.config ≡ b.config
    → a.rounds ≡ b.rounds → a.given ≡ b.given → a.processes ≡ b.processes
    → a.threads ≡ b.threads → a.pipes ≡ b.pipes → a.sleepers ≡ b.sleepers
    → a.frames ≡ b.frames → a ≡ b
same_group a b digest used config rounds given processes threads pipes sleepers frames =
    ap (λ x. record a { digest = x }) digest
    ∙ ap (λ x. record a { digest = b.digest; used = x }) used
    ∙ ap (λ x. record a { digest = b.digest; used = b.used; config = x }) config
    ∙ ap (λ x. record a { digest = b.digest; used = b.used; config = b.config; rounds = x }) rounds
    ∙ ap (λ x. record b {
      given = x;
      processes = a.processes;
      threads = a.threads;
      pipes = a.pipes;
      sleepers = a.sleepers;
      frames = a.frames;
    }) given
    ∙ ap (λ x. record b {
      processes = x;
      threads = a.threads;
      pipes = a.pipes;
      sleepers = a.sleepers;
      frames = a.frames;
    }) processes
    ∙ ap (λ x. record b {
      threads = x;
      pipes = a.pipes;
      sleepers = a.sleepers;
      frames = a.frames;
    }) threads
    ∙ ap (λ x. record b { pipes = x; sleepers = a.sleepers; frames = a.frames }) pipes
    ∙ ap (λ x. record b { sleepers = x; frames = a.frames }) sleepers
    ∙ ap (λ x. record b { frames = x }) frames

-- ---- budgets

living_back : (P : Thread → Type 0) (n : ℕ) (threads : List (Option Thread))
    → All (λ e. P e.1) (living_from n threads) → (i : ℕ)
    → IfSome (flat (slice_get threads i)) P
living_back P n [] all i = tt
living_back P n (None ∷ threads) all zero = tt
living_back P n (None ∷ threads) all (suc i) = living_back P (suc n) threads all i
living_back P n (Some thread ∷ threads) all zero =
    All-head (λ (e : ℕ × Thread). P e.1) (n, thread) (living_from (suc n) threads) all
living_back P n (Some thread ∷ threads) all (suc i) =
    living_back P (suc n) threads
    (All-tail (λ (e : ℕ × Thread). P e.1) (n, thread) (living_from (suc n) threads) all) i

-- ---- all of it

module _ (digest : List ℕ) (used : ℕ) (config : Config) (s : State) (g : GroupRecord)
    (is : IsKernelOf digest used config s g) (sound : IsSound s) (range : IsConfig config)
    (scheme : config.scheme ≡ Ownership) (count : length s.frames.owners ≡ config.frames)
    (low : s.round ≤ config.rounds + 1) where
  abbrev w : World
  w = world_of config.quantum s

  lawful_now : Lawful w
  lawful_now = sound.lawful config.quantum range.quantum.0 range.quantum.1

  pub recorded_is : {frames : Vec FrameRecord} {new : GroupRecord}
      → map frame_of_record frames.items ≡ framed s.frames.pages s.frames.owners
      → new ≡ record g { frames = frames } → group_of_record new ≡ group_of digest used config w
  recorded_is {frames} {new} are e =
      ap group_of_record e
      ∙ same_group (group_of_record (record g { frames = frames })) (group_of digest used config w)
      is.digest_is is.used_is is.config_is is.rounds is.given is.processes is.threads is.pipes
      is.sleepers
      (are ∙ framed_is s.frames.pages s.frames.owners sound.counted.home.owners)

  budgets : (t : ℕ) → IfSome (thread_at w t) (λ thread. IsWord thread.budget)
  budgets zero = tt
  budgets (suc i) = living_back (λ thread. IsWord thread.budget) 1 s.table.threads
      (subst (λ es. All (λ e. IsWord e.1.budget) es) is.threads
      (All-map (λ (e : ℕ × Thread). IsWord e.1.budget) thread_of_record g.threads.items
      is.budgets)) i

  recordable : IsRecordable digest used config w
  recordable = record {
    digest_count = is.digest_count;
    digest_bytes = is.digest_bytes;
    few_used = is.few_used;
    config_range = range;
    scheme = scheme;
    lawful = lawful_now;
    frames = count;
    rounds = omega (arith, low);
    budgets = budgets;
    sleepers = omega (arith, is.few_sleep);
  }

  pub recorded_fits : (new : GroupRecord) → group_of_record new ≡ group_of digest used config w
      → row.group_row.Fits (group_of_record new)
  recorded_fits new e = subst (λ x. row.group_row.Fits x) (sym e)
      (records_fit digest used config w recordable)

  pub recorded_world : (new : GroupRecord) → group_of_record new ≡ group_of digest used config w
      → world_in (group_of_record new) ≡ w
  recorded_world new e =
      ap world_in e ∙ worlds_come_back digest used config w lawful_now refl refl refl

  pub recorded_lawful : (new : GroupRecord) → group_of_record new ≡ group_of digest used config w
      → Lawful (world_in (group_of_record new))
  recorded_lawful new e = subst Lawful (sym (recorded_world new e)) lawful_now

-- ---- what reading a state out asks

module _ (s : State) (sound : IsSound s) where
  lawful_some : Lawful (world_of 16 s)
  lawful_some = sound.lawful 16 (omega arith) (omega arith)

  pub words_slept_on : All (λ x. x.offset < 4096) s.futexes
  words_slept_on k d lt = (lawful_some.threads.sleepers k d lt).2

  pub few_given : length s.table.threads ≤ 65535
  few_given = lawful_some.limits.threads.1
