-- What a saved group whose fields fit gives the test of its parts.
use Rattle.std.proofs.Common.{◌≡◌, ℕ, zero, suc, ◌+◌, ◌<◌, ◌≤◌, arith, List, [], ◌∷◌, length}
use Rattle.std.proofs.Common.{map}
use Rattle.std.proofs.Common.{Vec, Global, refl, sym, ap, subst, ◌∙◌}
use Rattle.std.specs.Prelude.{All, ◌↔◌}
use Rattle.std.proofs.lemmas.List.{length-map}
use Rattle.std.proofs.lemmas.List.Elements.{All-nil, All-cons, All-head, All-tail}
use Rattle.dos_world.specs.World.{World}
use Rattle.dos_world.specs.Lawful.{Lawful, IsPage}
use Rattle.dos_world.specs.declared.Entry.{Entry}
use Rattle.dos_world.specs.declared.Owner.{Owner}
use Rattle.proc_table.specs.Spread.{AreRising}
use Rattle.text_fields.specs.Formats.{many}
use Rattle.group_text.specs.declared.records.ProcessRecord.{ProcessRecord}
use Rattle.group_text.specs.declared.records.ThreadRecord.{ThreadRecord}
use Rattle.group_text.specs.declared.records.SleeperRecord.{SleeperRecord}
use Rattle.group_text.specs.declared.records.FrameRecord.{FrameRecord}
use Rattle.group_text.specs.declared.records.GroupRecord.{GroupRecord}
use Rattle.group_text.specs.Records.{process_of_record as process_of, thread_of_record as thread_of}
use Rattle.group_text.specs.Records.{group_of_record, frame_of_record}
use Rattle.group_text.specs.Groups.{world_in}
use Rattle.group_text.specs.GroupText as row
use Rattle.lawful_groups.specs.Counts.{HasFrameBelow as HasFrame, HaveFrames}
use Rattle.lawful_groups.specs.Agreeing.{PartsAgree, world_of_parts}
use Rattle.lawful_groups.proofs.RangeLaws.{in_range, many_count, pages_range, live_range}
use Rattle.lawful_groups.proofs.RangeLaws.{threads_range}
use Rattle.lawful_groups.proofs.LawfulLaws.{lawful_by_parts, parts_by_law}

owners_same : (fs : List FrameRecord)
    → map (λ f. f.owner) fs ≡ map (λ f. f.0) (map frame_of_record fs)
owners_same [] = refl
owners_same (f ∷ fs) = ap (λ (os : List Owner). f.owner ∷ os) (owners_same fs)

pages_below : (frames : ℕ) (pages : List (ℕ × Entry)) → All (IsPage frames) pages
    → All (HasFrame frames) pages
pages_below frames [] all = All-nil (HasFrame frames)
pages_below frames (e ∷ pages) all =
    All-cons (HasFrame frames) e pages (All-head (IsPage frames) e pages all).2
    (pages_below frames pages (All-tail (IsPage frames) e pages all))

module _ (frames processes : ℕ) (some : 0 < frames) where
  frames_one : (r : ProcessRecord) → (row.process_row frames processes).Fits (process_of r)
      → HaveFrames frames r
  frames_one r fits lives =
      let life = ap (λ s. (process_of (record r { status = s })).life) lives in
      let h = live_range frames (process_of r).life fits.0.1 _ life in
      pages_below frames r.pages.items
      (pages_range frames (length r.pages.items) 1 r.pages.items some (omega arith) h.0.1.1.0.1)

  frames_all : (n : ℕ) (rs : List ProcessRecord)
      → (many n (row.process_row frames processes)).Fits (map process_of rs)
      → All (HaveFrames frames) rs
  frames_all zero [] fits = All-nil (HaveFrames frames)
  frames_all zero (r ∷ rs) fits = absurd fits
  frames_all (suc n) [] fits = absurd fits
  frames_all (suc n) (r ∷ rs) fits =
      All-cons (HaveFrames frames) r rs (frames_one r fits.0) (frames_all n rs fits.1)

module _ (g : GroupRecord) (fits : row.group_row.Fits (group_of_record g)) where
  made : (1 ≤ length (map process_of g.processes.items))
      × (length (map process_of g.processes.items) ≤ 65535)
  made = in_range 1 65535 (length (map process_of g.processes.items)) fits.0.0.0.1.1.1.1.1.1

  frames_range : (16 ≤ g.config.frames) × (g.config.frames ≤ 16384)
  frames_range = in_range 16 16384 g.config.frames fits.0.0.0.1.1.0.0.1.1.1

  frames_count : length g.frames.items ≡ g.config.frames
  frames_count =
      sym (length-map g.frames.items frame_of_record)
      ∙ many_count (row.frame_row g.given) g.config.frames (map frame_of_record g.frames.items)
      fits.0.1.1.1.1.1

  pub few_frames : length g.frames.items ≤ 16384
  few_frames = omega (arith, frames_count, frames_range.1)

  pub have_frames : All (HaveFrames (length g.frames.items)) g.processes.items
  have_frames =
      subst (λ n. All (HaveFrames n) g.processes.items) (sym frames_count)
      (frames_all g.config.frames (length (map process_of g.processes.items))
      (omega (arith, frames_range.0)) (length (map process_of g.processes.items))
      g.processes.items fits.0.1.0)

  pub few_processes : length g.processes.items ≤ 65535
  few_processes = omega (arith, made.1, length-map g.processes.items process_of)

  pub rising : AreRising 1 (g.given + 1) (map thread_of g.threads.items)
  rising = (threads_range g.given (length (map process_of g.processes.items))
      (length (map thread_of g.threads.items)) 1 (map thread_of g.threads.items)
      fits.0.1.1.0.0.1).0

  pub pipes_64 : length g.pipes.items ≡ 64
  pipes_64 =
      sym (length-map g.pipes.items (λ p. p.items))
      ∙ many_count row.pipe_row 64 (map (λ p. p.items) g.pipes.items) fits.0.1.1.1.0

  -- the parts that the test is given
  abbrev pub parts_of : List Owner → World
  parts_of owners = world_of_parts owners g.processes.items g.given g.threads.items
      (map (λ p. p.items) g.pipes.items) g.sleepers.items

  there : PartsAgree (parts_of (map (λ f. f.0) (map frame_of_record g.frames.items)))
      → PartsAgree (world_in (group_of_record g))
  there a = record {
    free = a.free;
    apart = a.apart;
    private = a.private;
    populated = a.populated;
    parents = a.parents;
    numbers = a.numbers;
    living = a.living;
    asleep = a.asleep;
    closed = a.closed;
    few = a.few;
  }

  back : PartsAgree (world_in (group_of_record g))
      → PartsAgree (parts_of (map (λ f. f.0) (map frame_of_record g.frames.items)))
  back a = record {
    free = a.free;
    apart = a.apart;
    private = a.private;
    populated = a.populated;
    parents = a.parents;
    numbers = a.numbers;
    living = a.living;
    asleep = a.asleep;
    closed = a.closed;
    few = a.few;
  }

  pub lawful_is : (owners : List Owner) → owners ≡ map (λ f. f.owner) g.frames.items
      → PartsAgree (parts_of owners) ↔ Lawful (world_in (group_of_record g))
  lawful_is owners is =
      let same = is ∙ owners_same g.frames.items in (
        λ a. lawful_by_parts (group_of_record g) fits
            (there (subst (λ os. PartsAgree (parts_of os)) same a)),
        λ l. subst (λ os. PartsAgree (parts_of os)) (sym same)
            (back (parts_by_law (group_of_record g) l)),
      )

module _ (g : GroupRecord) (fits : row.group_row.Fits (group_of_record g)) where
  pub lawful_by : (owners : List Owner) (ps : List ProcessRecord) (given : ℕ)
      (ts : List ThreadRecord) (pipes : List (Vec ℕ Global)) (ss : List SleeperRecord)
      → owners ≡ map (λ f. f.owner) g.frames.items → ps ≡ g.processes.items → given ≡ g.given
      → ts ≡ g.threads.items → pipes ≡ g.pipes.items → ss ≡ g.sleepers.items
      → PartsAgree (world_of_parts owners ps given ts (map (λ p. p.items) pipes) ss)
      ↔ Lawful (world_in (group_of_record g))
  lawful_by owners ps given ts pipes ss is ps_are given_is ts_are pipes_are ss_are =
      rw (ps_are, given_is, ts_are, pipes_are, ss_are) (lawful_is g fits owners is)

pub owners_len : (owners : List Owner) (frames : List FrameRecord)
    → owners ≡ map (λ f. f.owner) frames → length owners ≡ length frames
owners_len owners frames is = ap length is ∙ length-map frames (λ f. f.owner)
