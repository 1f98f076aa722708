-- A state that is built of a saved group in a lawful world: its world, and that it is sound.
use Rattle.std.proofs.Common.{◌≡◌, ℕ, ◌+◌, ◌-◌, ◌≤◌, List, [], ◌∷◌, length, map}
use Rattle.std.proofs.Common.{refl, sym, ap, subst, ◌∙◌, arith, Option, Result, Ok, Err}
use Rattle.std.specs.Prelude.{IsSome, IfOk, All}
use Rattle.std.proofs.lemmas.List.{length-map}
use Rattle.std.proofs.lemmas.List.Elements.{All-nil, All-cons}
use Rattle.dos_world.specs.World.{Sleeper, World}
use Rattle.dos_world.specs.Lawful.{Lawful}
use Rattle.page_store.specs.Store.{Store, joined, uses_at}
use Rattle.dos_world.specs.Lawful.{uses_of}
use Rattle.kernel_calls.specs.StateWorld.{AreCounted, IsCounted, IsSound, world_of}
use Rattle.kernel_calls.specs.declared.state.State.{State}
use Rattle.group_text.specs.GroupText as row
use Rattle.group_text.specs.Groups.{world_in}
use Rattle.group_text.specs.Records.{group_of_record, process_of_record}
use Rattle.group_text.specs.Records.{sleeper_of_record}
use Rattle.group_text.specs.declared.records.ProcessRecord.{ProcessRecord}
use Rattle.group_text.specs.declared.records.FrameRecord.{FrameRecord}
use Rattle.group_text.specs.declared.records.GroupRecord.{GroupRecord}
use Rattle.group_parts.specs.FrameLists.{page_of_record}
use Rattle.group_parts.specs.PipeEnds.{HaveEnds}
use Rattle.group_parts.proofs.Facts.{frames_count, holds}
use Rattle.group_parts.proofs.FrameFacts.{bytes_kept, owners_are, uses_at_are}
use Rattle.group_parts.proofs.PipeFacts.{reads_are, writes_are}
use Rattle.kernel_objects.specs.Pipework.{Pipework, vector_bytes}
use Rattle.proc_table.specs.Tables.{Tables}
use Rattle.std.specs.Global.{Vec}
use Rattle.group_save.specs.Restored.{ArePipesOf, AreSavedFrames, IsRestored, table_of_record}

-- ---- another quantum

-- no part of lawfulness but one speaks of the quantum
lawful_under : (w : World) (q : ℕ) → Lawful w → 16 ≤ q → q ≤ 65536
    → Lawful (record w { quantum = q })
lawful_under w q law low high = record {
  frames = record {
    bytes = law.frames.bytes;
    free = law.frames.free;
    zeros = law.frames.zeros;
    owned = law.frames.owned;
  };
  processes = record {
    holdings = law.processes.holdings;
    private = law.processes.private;
    populated = law.processes.populated;
    parents = law.processes.parents;
    statuses = law.processes.statuses;
    given = law.processes.given;
  };
  threads = record {
    ranges = law.threads.ranges;
    asleep = law.threads.asleep;
    sleepers = law.threads.sleepers;
  };
  pipes = record { ranges = law.pipes.ranges; closed = law.pipes.closed };
  limits = record {
    threads = law.limits.threads;
    processes = law.limits.processes;
    frames = law.limits.frames;
  };
  run = record { turn = (low, high); count = law.run.count };
}

module _ (g : GroupRecord) (fits : row.group_row.Fits (group_of_record g))
    (law : Lawful (world_in (group_of_record g))) (s : State) (is : IsRestored g s) where
  abbrev w : World
  w = world_in (group_of_record g)

  bytes_same : joined s.frames.pages ≡ w.bytes
  bytes_same = ap (λ f. joined f.pages) is.frames ∙ bytes_kept g.frames.items

  owners_same : s.frames.owners ≡ w.owners
  owners_same = ap (λ f. f.owners) is.frames ∙ owners_are g.frames.items

  rounds_same : s.round - 1 ≡ g.rounds
  rounds_same = omega (arith, is.round)

  -- its world under any quantum
  world_same : (q : ℕ) → world_of q s ≡ record w { quantum = q }
  world_same q =
      ap (λ xs. record (world_of q s) { bytes = xs }) bytes_same
      ∙ ap (λ os. record (world_of q s) { bytes = w.bytes; owners = os }) owners_same
      ∙ ap (λ t. record (world_of q s) {
        bytes = w.bytes;
        owners = w.owners;
        processes = t.processes;
        threads = t.threads;
      }) is.table
      ∙ ap (λ xs. record w {
        quantum = q;
        pipes = xs;
        sleepers = s.futexes;
        rounds = s.round - 1;
      }) is.pipes.bytes
      ∙ ap (λ xs. record w { quantum = q; sleepers = xs; rounds = s.round - 1 }) is.futexes
      ∙ ap (λ n. record w { quantum = q; rounds = n }) rounds_same

  pub restored_world : world_of g.config.quantum s ≡ w
  restored_world = world_same g.config.quantum

  pub restored_frames : length s.frames.owners ≡ g.config.frames
  restored_frames =
      ap (λ f. length f.owners) is.frames ∙ length-map g.frames.items (λ f. f.owner)
      ∙ frames_count g fits law

  all_home : (fs : List FrameRecord) → All IsSome (map page_of_record fs)
  all_home [] = All-nil (λ (o : Option (List ℕ)). IsSome o)
  all_home (f ∷ fs) = All-cons (λ (o : Option (List ℕ)). IsSome o) (page_of_record f)
      (map page_of_record fs) refl (all_home fs)

  counted : IsCounted s
  counted = record {
    home = record {
      home = subst (λ f. All IsSome f.pages) (sym is.frames) (all_home g.frames.items);
      owners = ap (λ f. length f.owners) is.frames ∙ length-map g.frames.items (λ f. f.owner)
          ∙ sym (ap (λ f. length f.pages) is.frames ∙ length-map g.frames.items page_of_record);
    };
    round = omega (arith, is.round);
    room = omega (arith, restored_frames, ap (λ t. t.room) is.table);
    uses = λ q frame.
        ap (λ f. uses_at f frame) is.frames ∙ uses_at_are g fits law frame
        ∙ sym (ap (λ v. uses_of v frame) (world_same q));
    ends = subst (λ ps. AreCounted ps s.pipes) (sym (ap (λ t. t.processes) is.table))
        is.pipes.ends;
  }

  pub restored_sound : IsSound s
  restored_sound = record {
    counted = counted;
    lawful = λ q low high. subst (λ v. Lawful v) (sym (world_same q))
        (lawful_under w q law low high);
  }

-- ---- what it is built of

pub built_is : (g : GroupRecord) {s : State} {frames : Store} {pipes : Pipework}
    {futexes : List Sleeper} {table : Tables} → s.frames ≡ frames → AreSavedFrames g frames
    → s.pipes ≡ pipes → ArePipesOf g pipes → s.futexes ≡ futexes
    → futexes ≡ map sleeper_of_record g.sleepers.items → s.table ≡ table
    → table ≡ table_of_record g → s.round ≡ g.rounds + 1 → IsRestored g s
built_is g frames saved pipes are futexes sleep table known round = record {
  frames = frames ∙ saved;
  pipes = subst (λ p. ArePipesOf g p) (sym pipes) are;
  futexes = futexes ∙ sleep;
  table = table ∙ known;
  round = round;
}

module _ (g : GroupRecord) (fits : row.group_row.Fits (group_of_record g))
    (law : Lawful (world_in (group_of_record g))) where
  ends_counted : (p : Pipework) → HaveEnds g.processes.items p.readers p.writers
      → AreCounted (map process_of_record g.processes.items) p
  ends_counted p ends = record {
    readers = λ pipe. reads_are g.config.frames g.processes.items (holds g fits law) ends pipe;
    writers = λ pipe. writes_are g.config.frames g.processes.items (holds g fits law) ends pipe;
    reader_counts = ends.reader_count;
    writer_counts = ends.writer_count;
  }

  -- pipes of these bytes, with the ends that are counted
  pub pipes_are : {E : Type 0} {pipes : List (Vec ℕ)} {rs : List ProcessRecord}
      (o : Result Pipework E) → pipes ≡ g.pipes.items → rs ≡ g.processes.items
      → IfOk o (λ p. p.bytes ≡ vector_bytes pipes)
      → IfOk o (λ p. HaveEnds rs p.readers p.writers) → IfOk o (ArePipesOf g)
  pipes_are (Ok p) same_pipes same bytes ends = record {
    bytes = bytes ∙ ap vector_bytes same_pipes;
    ends = ends_counted p (subst (λ rs. HaveEnds rs p.readers p.writers) same ends);
  }
  pipes_are (Err e) same_pipes same bytes ends = tt
