-- A pack that can run over a view: what its run needs, and what that comes to.
use Rattle.std.proofs.Common.{ℕ, zero, suc, [], ◌∷◌, IfSome, ◌-◌, ◌<◌, ◌≤◌, ◌≡◌, ◌≢◌, ◌⊎◌, ◌∙◌, sym}
use Rattle.std.proofs.Common.{ap, subst, refl, true, false, List, map, is_some, length, Option}
use Rattle.std.proofs.Common.{Some, None, option_map, slice_get, Ok, Err, arith}
use Rattle.std.specs.Prelude.{MatchOption, slice_index_or}
use Rattle.std.proofs.lemmas.List.{length-map}
use Rattle.dos_world.specs.Numbered.{numbered}
use Rattle.dos_world.specs.World.{World, Process, Holdings, Registers, holdings_of, look}
use Rattle.dos_world.specs.declared.Access.{Access}
use Rattle.dos_world.specs.declared.Entry.{Entry}
use Rattle.dos_world.specs.declared.Owner.TheVariants.{Free, Shared, Of}
use Rattle.dos_world.specs.declared.Reason.{Reason}
use Rattle.page_store.specs.Store.{Store, whole}
use Rattle.proc_table.specs.Tables.{Tables, held_in}
use Rattle.flat_machine.specs.Step.{step}
use Rattle.flat_machine.specs.Alone.{steps}
use Rattle.quantum_run.specs.Finding.{frame_for, IsWriting}
use Rattle.quantum_run.specs.Pages.{is_here, overlay}
use Rattle.quantum_run.specs.Packs.{IsPacked, paired, space_held, view_of}
use Rattle.written_words.specs.declared.Written.{Written}
use Rattle.quantum_run.specs.Shows.{Pack, View, CanRunOwning, RanForOwning, RanOutOwning, Shows}
use Rattle.quantum_run.specs.ThreadRuns.{IsRunOf, run_to, store_of}
use Rattle.flat_machine.specs.Laws.{after_steps}
use Rattle.flat_machine.proofs.After.{steps-all}
use Rattle.quantum_run.proofs.Finishing.{finished, Some-some}
use Rattle.quantum_run.proofs.Packing.{all-reached, all-own, frames-paired}
use Rattle.quantum_run.proofs.Parts.{steps-run, stops-here, stops-out}
use Rattle.quantum_run.proofs.Slices.{LeadsToOwning, leads, runs-out}

-- the space that was looked up is the one that the view shows
pub space-entries : (processes : List Process) (pid : ℕ) (entries found : List (ℕ × Entry))
    → numbered (map space_held processes) pid ≡ Some (Some entries)
    → IfSome (held_in processes pid) (λ h. found ≡ h.space) → found ≡ entries
space-entries processes zero entries found h e = cc
space-entries [] (suc i) entries found h e = cc
space-entries (p ∷ ps) (suc zero) entries found h e = by_life (holdings_of p) h e
  where
    by_life : (o : Option Holdings)
        → ◌≡◌ {A = Option (Option (List (ℕ × Entry)))}
        (Some (option_map (λ (x : Holdings). x.space) o)) (Some (Some entries))
        → IfSome o (λ x. found ≡ x.space) → found ≡ entries
    by_life None q f = cc
    by_life (Some x) q f = f ∙ Some-some q
space-entries (p ∷ ps) (suc (suc i)) entries found h e = space-entries ps (suc i) entries found h e

home-of : (pages : List (Option (List ℕ))) (f : ℕ) (page : List ℕ)
    → slice_get (map (option_map whole) pages) f ≡ Some (Some page) → is_here pages f ≡ true
home-of [] f page h = cc
home-of (None ∷ pages) zero page h = cc
home-of (Some x ∷ pages) zero page h = refl
home-of (x ∷ pages) (suc f) page h = home-of pages f page h

-- a run that didn't stop came down to its floor
pub floor-left : (B : Reason → Type 0) (stop : Option Reason) (left floor : ℕ)
    → is_some stop ≡ false → MatchOption stop (left ≡ floor) B → left ≡ floor
floor-left B None left floor on at = at
floor-left B (Some reason) left floor on at = cc

module _ (t pid : ℕ) (r : Registers) (budget : ℕ) (words : Option (List Written)) (held : List ℕ)
    (table : List (Option (List ℕ))) (capacity : ℕ) (packed : IsPacked held table capacity)
    (frames : Store) (tables : Tables) (entries : List (ℕ × Entry))
    (found : IfSome (held_in tables.processes pid) (λ (h : Holdings). entries ≡ h.space))
    (p : Pack) (is : record {
      thread = t;
      process = pid;
      registers = r;
      budget = budget;
      pages = paired held table;
      room = length table;
      words = words;
    } ≡ p)
    (able : CanRunOwning p (view_of frames tables)) where
  abbrev view : View
  view = view_of frames tables

  abbrev before : Pack
  before = record {
    thread = t;
    process = pid;
    registers = r;
    budget = budget;
    pages = paired held table;
    room = length table;
    words = words;
  }

  can : CanRunOwning before view
  can = subst (λ (q : Pack). CanRunOwning q view) (sym is) able

  same-space : entries ≡ can.entries
  same-space = space-entries tables.processes pid can.entries entries can.space found

  level : length table ≡ length frames.pages
  level = can.level ∙ length-map frames.pages (option_map whole)

  mapped : (page : ℕ) (e : Entry) → look entries page ≡ Some e
      → (e.frame < length frames.owners) × (slice_index_or frames.owners e.frame Free ≢ Free)
  mapped page e is = can.mapped page e (ap (λ es. look es page) (sym same-space) ∙ is)

  own : (frame : ℕ) → slice_index_or frames.owners frame Free ≡ Of t → is_here table frame ≡ true
  own frame mine = let a = can.own frame mine in
      packed.here a.0 frame (ap (λ fs. slice_get fs a.0) (sym (frames-paired held table)) ∙ a.1)

  shared : (frame : ℕ) → slice_index_or frames.owners frame Free ≡ Shared
      → is_here frames.pages frame ≡ true
  shared frame all = let a = can.shared frame all in home-of frames.pages frame a.0 a.1

  pub ready-reached : (access : Access) (address frame : ℕ)
      → frame_for t frames.owners entries access address ≡ Ok frame
      → is_here (overlay table frames.pages) frame ≡ true
  ready-reached =
      all-reached t frames.owners entries table frames.pages level mapped own shared

  pub ready-own : (access : Access) (address frame : ℕ) → IsWriting access
      → frame_for t frames.owners entries access address ≡ Ok frame → is_here table frame ≡ true
  ready-own = all-own t frames.owners entries table frames.pages level mapped own shared

  pub ready-within : (page : ℕ) (e : Entry) → look entries page ≡ Some e
      → e.frame < length frames.owners
  ready-within page e is = (mapped page e is).0

  module _ (as_many : length frames.owners ≡ length frames.pages)
      (begun : Registers) (begins : begun ≡ r) (after : List (Option (List ℕ)))
      (r' : Registers) (left floor : ℕ) (stop : Option Reason)
      (same : map is_some after ≡ map is_some table)
      (within : left ≤ budget)
      (runs : (u : World)
      → IsRunOf u (store_of frames.owners (overlay table frames.pages)) entries t begun budget
      → after_steps (budget - left) u t ≡ Some (run_to u t (overlay after frames.pages) r' left))
      (stops : MatchOption stop (left ≡ floor)
      (λ reason. (0 < left)
      × ((u : World)
      → IsRunOf u (store_of frames.owners (overlay table frames.pages)) entries t begun budget
      → step (run_to u t (overlay after frames.pages) r' left) t ≡ Err reason))) where
    abbrev now : Pack
    now = record {
      thread = t;
      process = pid;
      registers = r';
      budget = left;
      pages = paired held after;
      room = length after;
      words = words;
    }

    abbrev IsRun : World → Type 0
    IsRun u = IsRunOf u (store_of frames.owners (overlay table frames.pages)) entries t begun budget

    abbrev end : World → World
    end u = run_to u t (overlay after frames.pages) r' left

    shown : (n : ℕ) → ((u : World) → IsRun u → steps n u t ≡ end u)
        → (w : World) → Shows before view w → Shows now view (steps n w t)
    shown n ends =
        finished t pid r budget words held table frames.pages capacity frames.owners
        (map space_held tables.processes) entries packed level as_many
        (can.space ∙ ap (λ x. Some (Some x)) (sym same-space))
        (λ i frame at. can.owned i frame
        (ap (λ fs. slice_get fs i) (frames-paired held table) ∙ at))
        after r' left n same
        (λ u run. ends u (subst (λ (x : Registers).
        IsRunOf u (store_of frames.owners (overlay table frames.pages)) entries t x budget)
        (sym begins) run))

    pub slice-out : (is_some stop ≡ true) ⊎ (floor ≡ 0) → RanOutOwning p view now
    slice-out out = subst (λ (q : Pack). RanOutOwning q view now) is
        (runs-out before view now (shown budget (λ u run.
        steps-run budget left u (end u) t stop within (runs u run)
        (stops-out stop floor left t (end u) out
        (stops-here stop floor left t IsRun end u run stops)))))

    pub slice-leads : LeadsToOwning p view now
    slice-leads = subst (λ (q : Pack). LeadsToOwning q view now) is
        (leads before view now (budget - left) refl (omega (arith, within))
        (shown (budget - left) (λ u run.
        steps-all (budget - left) u (end u) t (runs u run))))

    pub slice-part : (most : ℕ) → budget - left ≡ most → RanForOwning most p view now
    slice-part most count = subst (λ (q : Pack). RanForOwning most q view now) is
        (shown most (λ u run.
        ap (λ n. steps n u t) (sym count)
        ∙ steps-all (budget - left) u (end u) t (runs u run)))
