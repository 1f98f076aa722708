-- What dup and close answer, and which state they leave.
use Rattle.std.proofs.Common.{◌≡◌, ℕ, ◌+◌, ◌<◌, Bool, true, false, cond, List, [], ◌∷◌, length}
use Rattle.std.proofs.Common.{Option, Some, None, IsSome, IfSome, refl, sym, ap, subst, ◌∙◌, arith}
use Rattle.std.specs.Prelude.{nat_lt, ◌==◌, count_by, position, is_none, filter}
use Rattle.std.proofs.lemmas.Iterator.Adapters.{position_from-zero}
use Rattle.std.proofs.lemmas.List.{ext_get_or}
use Rattle.dos_world.specs.Numbered.{run_of, changed, map_from}
use Rattle.dos_world.specs.World.{World, Holdings, live_process, on_holdings, with_holdings}
use Rattle.dos_world.specs.World.{first_of, owner_of, registers_by}
use Rattle.dos_world.specs.Kernel.{answered, minus, tidied, zero_page}
use Rattle.dos_world.specs.Counts.{uses_of, is_mapped, owner_if_mapped, bytes_if_mapped}
use Rattle.dos_world.specs.Counts.{bytes_if_open}
use Rattle.dos_world.specs.Play.{Play, done}
use Rattle.dos_world.specs.Calls.{Call, Served as FlatServed, went, returns_in, refuses}
use Rattle.dos_world.specs.DescriptorCalls.{close, descriptor, dup, dup_by, free_descriptors}
use Rattle.dos_world.specs.DescriptorCalls.{with_end}
use Rattle.dos_world.specs.Lawful.{Lawful, IsEnd}
use Rattle.dos_world.specs.declared.End.{End}
use Rattle.dos_world.specs.declared.Owner.{Owner}
use Rattle.dos_world.specs.declared.Owner.TheVariants.{Free}
use Rattle.dos_laws.proofs.Ends.{length-map_from, get_or-map_from}
use Rattle.dos_laws.proofs.Holders.{sum_changed}
use Rattle.page_store.specs.Store.{joined, page_at}
use Rattle.page_store.specs.Store.{shown as page_shown}
use Rattle.page_store.proofs.Joined.{joined-tidied, zeros-shown}
use Rattle.proc_table.specs.Tables.{Tables, held_in, held_by, end_named}
use Rattle.kernel_objects.specs.Pipework.{Pipework}
use Rattle.kernel_calls.specs.Ending.{IsNamed, without_end}
use Rattle.kernel_calls.specs.Ends.{CanHave, with_end_more}
use Rattle.kernel_calls.specs.StateWorld.{AreCounted, IsCounted, IsSound, sent, world_of}
use Rattle.kernel_calls.specs.CallResults.{AreAsked, ActsQuietly, call_in}
use Rattle.kernel_calls.specs.declared.state.State.{State}
use Rattle.kernel_calls.specs.declared.state.Asked.{Asked}
use Rattle.kernel_calls.specs.declared.state.Served.TheVariants.{Went}
use Rattle.kernel_calls.proofs.Callers.{has as known, process_lives}
use Rattle.kernel_calls.proofs.Counted.{counted-thread_by}
use Rattle.kernel_calls.proofs.DescriptorCounts.{end_at, first_free, lowest_is_free}
use Rattle.kernel_calls.proofs.EndCounts.{bytes_stay, can_have, counted_less, counted_more}
use Rattle.kernel_calls.proofs.EndCounts.{end_range, is_named, one_dropped}
use Rattle.kernel_calls.proofs.Keeping.{lawful_now}
use Rattle.kernel_calls.proofs.ProcessEnds.{pipes_tidied}
use Rattle.kernel_calls.proofs.Sending.{answering, descriptor_is}
use Rattle.kernel_calls.proofs.Uses.{mapped-used}

-- ---- a descriptor that is set

-- the state with one descriptor of a process set, and these pipes
abbrev pub with_set : State → ℕ → ℕ → Option End → Pipework → State
with_set s p k end pipes =
    record s { table = held_by (with_end k end) s.table p; pipes = pipes }

uses_set : (w : World) (p : ℕ) (h : Holdings) (k : ℕ) (end : Option End)
    → live_process w p ≡ Some h → (frame : ℕ)
    → uses_of (with_holdings w p (with_end k end)) frame ≡ uses_of w frame
uses_set w p h k end is frame =
    omega (
      arith,
      sum_changed (with_end k end) (λ x. count_by (λ e. e.1.frame == frame) x.space) w.processes p h
          is,
    )

-- it is counted, where the ends are
pub counted_set : (s : State) (p : ℕ) (h : Holdings) (k : ℕ) (end : Option End) (pipes : Pipework)
    → held_in s.table.processes p ≡ Some h → IsCounted s
    → AreCounted (changed (on_holdings (with_end k end)) s.table.processes p) pipes
    → IsCounted (with_set s p k end pipes)
counted_set s p h k end pipes is counted ends = record {
  home = counted.home;
  round = counted.round;
  room = counted.room;
  uses = λ q frame. counted.uses q frame ∙ sym (uses_set (world_of q s) p h k end is frame);
  ends = ends;
}

-- ---- what the caller names

module _ (s : State) (a : Asked) (h : Holdings)
    (is : held_in s.table.processes a.process ≡ Some h) where
  -- what is said of the process's descriptors
  pub of_held : (P : Holdings → Type 0) → IfSome (held_in s.table.processes a.process) P → P h
  of_held P all = subst (λ (o : Option Holdings). IfSome o P) is all

  lives : IsSome (held_in s.table.processes a.process)
  lives = subst (λ (o : Option Holdings). IsSome o) (sym is) refl

  -- a0
  pub names : (q : ℕ) (o e : List ℕ) (d : Option End) → d ≡ end_named h a.a0
      → descriptor (call_in (sent o e (world_of q s)) a) ≡ d
  names q o e d same =
      descriptor_is (sent o e (world_of q s)) a d lives
      (subst (λ (k : Option Holdings). IfSome k (λ x. d ≡ end_named x a.a0)) (sym is) same)

  abbrev ends_shown : Option Holdings → List (Option End)
  ends_shown o = elim o as (λ _. List (Option End)) [ None ↦ [] | Some x ↦ x.descriptors ]

  -- the lowest free one
  pub lowest_free : (q : ℕ) (o e : List ℕ)
      → first_of (free_descriptors (call_in (sent o e (world_of q s)) a))
      ≡ position is_none h.descriptors
  lowest_free q o e =
      ap (λ (ends : List (Option End)). first_of
      (filter (λ number. is_none (end_at ends number)) (run_of 0 (length ends))))
      (ap (λ (x : Option Holdings). ends_shown x) is)
      ∙ first_free (λ number. is_none (end_at h.descriptors number)) h.descriptors 0
      (λ i. ap (λ k. is_none (end_at h.descriptors k)) (omega arith))
      ∙ sym (position_from-zero is_none h.descriptors)

  -- ---- dup

  pub dups : (end : End) (k : ℕ) (new : State) → Some end ≡ end_named h a.a0
      → Some k ≡ position is_none h.descriptors
      → new ≡ answering (with_set s a.process k (Some end) (with_end_more end s.pipes)) a.thread k
      → ActsQuietly dup s a Went new
  dups end k new open_is lowest left q o e =
      let c : Call = call_in (sent o e (world_of q s)) a in
      ap (λ d. dup_by d (first_of (free_descriptors c)) c) (names q o e (Some end) open_is)
      ∙ ap (λ x. dup_by (Some end) x c) (lowest_free q o e ∙ sym lowest)
      ∙ ap (λ held. done (went (sent o e (world_of q (answering
      (with_set s a.process k (Some end)
      (record s.pipes { bytes = held })) a.thread k)))))
      (sym (bytes_stay end s.pipes))
      ∙ ap (λ x. done (went (sent o e (world_of q x)))) (sym left)

  pub dup_full : (end : End) (new : State) → Some end ≡ end_named h a.a0
      → None ≡ position is_none h.descriptors → new ≡ answering s a.thread (minus 24)
      → ActsQuietly dup s a Went new
  dup_full end new open_is lowest left q o e =
      let c : Call = call_in (sent o e (world_of q s)) a in
      ap (λ d. dup_by d (first_of (free_descriptors c)) c) (names q o e (Some end) open_is)
      ∙ ap (λ x. dup_by (Some end) x c) (lowest_free q o e ∙ sym lowest)
      ∙ ap (λ x. done (went (sent o e (world_of q x)))) (sym left)

  pub dup_closed : (new : State) → None ≡ end_named h a.a0 → new ≡ answering s a.thread (minus 9)
      → ActsQuietly dup s a Went new
  dup_closed new shut left q o e =
      let c : Call = call_in (sent o e (world_of q s)) a in
      ap (λ d. dup_by d (first_of (free_descriptors c)) c) (names q o e None shut)
      ∙ ap (λ x. done (went (sent o e (world_of q x)))) (sym left)

  -- ---- close

  abbrev close_by : Call → Option End → Play FlatServed
  close_by c d =
      elim d as (λ _. Play FlatServed) [
        | None ↦ refuses 9 c
        | Some end ↦ returns_in
            (tidied (with_holdings c.world c.process (with_end c.a0 None))) 0 c
      ]

  pub close_closed : (new : State) → None ≡ end_named h a.a0 → new ≡ answering s a.thread (minus 9)
      → ActsQuietly close s a Went new
  close_closed new shut left q o e =
      let c : Call = call_in (sent o e (world_of q s)) a in
      ap (λ d. close_by c d) (names q o e None shut)
      ∙ ap (λ x. done (went (sent o e (world_of q x)))) (sym left)

  module _ (lawful : Lawful (world_of 16 s)) (counted : IsCounted s) (end : End)
      (open_is : end_named h a.a0 ≡ Some end) where
    abbrev left : World
    left = with_holdings (world_of 16 s) a.process (with_end a.a0 None)

    abbrev new_pipes : Pipework
    new_pipes = without_end (Some end) s.pipes

    owners_stay : map_from 0 (owner_if_mapped left) s.frames.owners ≡ s.frames.owners
    owners_stay =
        ext_get_or Free (map_from 0 (owner_if_mapped left) s.frames.owners) s.frames.owners
        (length-map_from 0 (owner_if_mapped left) s.frames.owners) (λ frame lt.
        let within : frame < length s.frames.owners =
        omega (arith, length-map_from 0 (owner_if_mapped left) s.frames.owners) in
        let here : 0 + frame ≡ frame = omega arith in
        get_or-map_from 0 (owner_if_mapped left) s.frames.owners frame Free Free within
        ∙ ap (λ k. owner_if_mapped left k (owner_of (world_of 16 s) frame)) here
        ∙ ap (λ b. cond b (owner_of (world_of 16 s) frame) Free)
        (mapped-used left frame
        ∙ ap (nat_lt 0) (uses_set (world_of 16 s) a.process h a.a0 None is frame)
        ∙ sym (mapped-used (world_of 16 s) frame))
        ∙ by (is_mapped (world_of 16 s) frame) (owner_of (world_of 16 s) frame)
        (λ free. (lawful.frames.free frame within).1 free))
      where
        by : (b : Bool) (o : Owner) → (b ≡ false → o ≡ Free) → cond b o Free ≡ o
        by true o free = refl
        by false o free = sym (free refl)

    -- a frame that nothing maps then isn't mapped now, and is zero
    blank : (frame : ℕ) → frame < length s.frames.owners → is_mapped left frame ≡ false
        → page_shown (page_at s.frames frame) ≡ zero_page
    blank frame within unmapped =
        zeros-shown s.frames.pages frame (omega (arith, within, counted.home.owners))
        (λ offset there. lawful.frames.zeros frame offset
        ((lawful.frames.free frame within).1
        (mapped-used (world_of 16 s) frame
        ∙ ap (nat_lt 0) (sym (uses_set (world_of 16 s) a.process h a.a0 None is frame))
        ∙ sym (mapped-used left frame) ∙ unmapped)) there)

    bytes_kept : bytes_if_mapped (is_mapped left) 0 s.frames.owners (joined s.frames.pages)
        ≡ joined s.frames.pages
    bytes_kept =
        joined-tidied (is_mapped left) 0 s.frames.owners s.frames.pages s.frames.pages refl
        counted.home.owners (λ frame lt.
        let here : frame ≡ 0 + frame = omega arith in
        sym (by (is_mapped left frame) (page_shown (page_at s.frames frame))
        (blank frame (omega (arith, lt, counted.home.owners))))
        ∙ ap (λ k. cond (is_mapped left k) (page_shown (page_at s.frames frame)) zero_page) here)
      where
        by : (b : Bool) (bytes : List ℕ) → (b ≡ false → bytes ≡ zero_page)
            → cond b bytes zero_page ≡ bytes
        by true bytes zero = refl
        by false bytes zero = sym (zero refl)

    abbrev shown : World → List ℕ → List Owner → List (List ℕ) → World
    shown v bytes owners held =
        record (with_holdings v a.process (with_end a.a0 None)) {
          bytes = bytes;
          owners = owners;
          pipes = held;
        }

    tidied_is : (q : ℕ) (o e : List ℕ)
        → tidied (with_holdings (sent o e (world_of q s)) a.process (with_end a.a0 None))
        ≡ sent o e (world_of q (with_set s a.process a.a0 None new_pipes))
    tidied_is q o e =
        ap (λ bytes. shown (sent o e (world_of q s)) bytes
        (map_from 0 (owner_if_mapped left) s.frames.owners)
        (map_from 0 (bytes_if_open left) s.pipes.bytes)) bytes_kept
        ∙ ap (λ owners. shown (sent o e (world_of q s)) (joined s.frames.pages) owners
        (map_from 0 (bytes_if_open left) s.pipes.bytes)) owners_stay
        ∙ ap (λ held. shown (sent o e (world_of q s)) (joined s.frames.pages) s.frames.owners held)
        (sym (pipes_tidied (Some end ∷ []) s.pipes new_pipes left
        (one_dropped s lawful counted a.process h is a.a0 end open_is)
        lawful.pipes.ranges.0
        (counted_less s lawful counted a.process h is a.a0 end open_is)))

    pub closes : (new : State)
        → new ≡ answering (with_set s a.process a.a0 None new_pipes) a.thread 0
        → ActsQuietly close s a Went new
    closes new left_is q o e =
        let c : Call = call_in (sent o e (world_of q s)) a in
        ap (λ d. close_by c d) (names q o e (Some end) (sym open_is))
        ∙ ap (λ w. returns_in w 0 c) (tidied_is q o e)
        ∙ ap (λ x. done (went (sent o e (world_of q x)))) (sym left_is)

-- ---- the rows

-- what the caller's process has
pub asker_has : (s : State) → IsSound s → (a : Asked) → AreAsked s a
    → (h : Holdings) × (held_in s.table.processes a.process ≡ Some h)
asker_has s sound a are =
    let k = known s a.process sound (process_lives s a sound are) in (k.holdings, k.is)

module _ (s : State) (sound : IsSound s) (a : Asked) (are : AreAsked s a) where
  abbrev held : Option Holdings
  held = held_in s.table.processes a.process

  has : (h : Holdings) × (held ≡ Some h)
  has = asker_has s sound a are

  -- a0 names an end, which the lowest free one names now
  pub dup_row : (end : End) (k : ℕ) (table : Tables) (pipes : Pipework) (new : State)
      → IfSome held (λ h. Some end ≡ end_named h a.a0)
      → IfSome held (λ h. Some k ≡ position is_none h.descriptors)
      → table ≡ held_by (with_end k (Some end)) s.table a.process
      → pipes ≡ with_end_more end s.pipes
      → new ≡ answering (record s { table = table; pipes = pipes }) a.thread k
      → ActsQuietly dup s a Went new × IsCounted new
  dup_row end k table pipes new open_is lowest opens adds answers =
      let h : Holdings = has.0 in
      let names_it : Some end ≡ end_named h a.a0 =
      of_held s a h has.1 (λ x. Some end ≡ end_named x a.a0) open_is in
      let first : Some k ≡ position is_none h.descriptors =
      of_held s a h has.1 (λ x. Some k ≡ position is_none x.descriptors) lowest in
      let left : new ≡ answering (with_set s a.process k (Some end) (with_end_more end s.pipes))
      a.thread k =
      answers ∙ ap (λ (T : Tables). answering (record s { table = T; pipes = pipes }) a.thread k)
      opens
      ∙ ap (λ (P : Pipework). answering (with_set s a.process k (Some end) P) a.thread k) adds in (
        dups s a h has.1 end k new names_it first left,
        subst IsCounted (sym left)
            (counted-thread_by (with_set s a.process k (Some end) (with_end_more end s.pipes))
            a.thread (registers_by (answered k))
            (counted_set s a.process h k (Some end) (with_end_more end s.pipes) has.1 sound.counted
            (counted_more s.table.processes a.process h k has.1
            (lowest_is_free h.descriptors k first)
            s.pipes sound.counted.ends end
            (end_range s (lawful_now s sound) sound.counted a.process h has.1 a.a0 end
            (sym names_it))))),
      )

  -- what a0 names is in range
  pub named_range : (d : Option End) (end : End) → IfSome held (λ h. d ≡ end_named h a.a0)
      → d ≡ Some end → IsEnd (Some end)
  named_range d end is same =
      let h : Holdings = has.0 in
      end_range s (lawful_now s sound) sound.counted a.process h has.1 a.a0 end
      (sym (of_held s a h has.1 (λ x. d ≡ end_named x a.a0) is) ∙ same)

  -- so an end may come to its pipe
  pub dup_can_have : (end : End) (k : ℕ) → IfSome held (λ h. Some end ≡ end_named h a.a0)
      → IfSome held (λ h. Some k ≡ position is_none h.descriptors) → CanHave end s.pipes
  dup_can_have end k open_is lowest =
      let h : Holdings = has.0 in
      can_have s (lawful_now s sound) sound.counted a.process h has.1 k
      (lowest_is_free h.descriptors k
      (of_held s a h has.1 (λ x. Some k ≡ position is_none x.descriptors) lowest))
      a.a0 end (sym (of_held s a h has.1 (λ x. Some end ≡ end_named x a.a0) open_is))

  -- none is free
  pub dup_full_row : (end : End) (new : State) → IfSome held (λ h. Some end ≡ end_named h a.a0)
      → IfSome held (λ h. None ≡ position is_none h.descriptors)
      → new ≡ answering s a.thread (minus 24) → ActsQuietly dup s a Went new
  dup_full_row end new open_is lowest answers =
      let h : Holdings = has.0 in
      dup_full s a h has.1 end new (of_held s a h has.1 (λ x. Some end ≡ end_named x a.a0) open_is)
      (of_held s a h has.1 (λ x. None ≡ position is_none x.descriptors) lowest) answers

  -- what a0 names is a pipe's end that is there
  pub close_named : (end : End) → IfSome held (λ h. Some end ≡ end_named h a.a0)
      → IsNamed (Some end) s.pipes
  close_named end open_is =
      let h : Holdings = has.0 in
      is_named s (lawful_now s sound) sound.counted a.process h has.1 a.a0 end
      (sym (of_held s a h has.1 (λ x. Some end ≡ end_named x a.a0) open_is))

  -- it is closed
  pub close_row : (end : End) (table : Tables) (pipes : Pipework) (new : State)
      → IfSome held (λ h. Some end ≡ end_named h a.a0)
      → table ≡ held_by (with_end a.a0 None) s.table a.process
      → pipes ≡ without_end (Some end) s.pipes
      → new ≡ answering (record s { table = table; pipes = pipes }) a.thread 0
      → ActsQuietly close s a Went new × IsCounted new
  close_row end table pipes new open_is closed drops answers =
      let h : Holdings = has.0 in
      let names_it : end_named h a.a0 ≡ Some end =
      sym (of_held s a h has.1 (λ x. Some end ≡ end_named x a.a0) open_is) in
      let left_is : new ≡ answering (with_set s a.process a.a0 None
      (without_end (Some end) s.pipes))
      a.thread 0 =
      answers ∙ ap (λ (T : Tables). answering (record s { table = T; pipes = pipes }) a.thread 0)
      closed
      ∙ ap (λ (P : Pipework). answering (with_set s a.process a.a0 None P) a.thread 0) drops in (
        closes s a h has.1 (lawful_now s sound) sound.counted end names_it new left_is,
        subst IsCounted (sym left_is)
            (counted-thread_by (with_set s a.process a.a0 None (without_end (Some end) s.pipes))
            a.thread (registers_by (answered 0))
            (counted_set s a.process h a.a0 None (without_end (Some end) s.pipes) has.1
            sound.counted
            (counted_less s (lawful_now s sound) sound.counted a.process h has.1 a.a0 end
            names_it))),
      )
