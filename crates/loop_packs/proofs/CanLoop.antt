-- Packs that jump on the spot can run.
use Rattle.std.proofs.Common.{ℕ, zero, suc, ◌≡◌, ◌≢◌, ◌<◌, List, [], ◌∷◌, length, map, refl, sym}
use Rattle.std.proofs.Common.{ap, ◌∙◌, subst, arith, Option, Some, None, true, false, eq-eqb}
use Rattle.std.proofs.Common.{ne_eqb}
use Rattle.std.proofs.lemmas.List.Elements.{All-nil, All-cons}
use Rattle.std.specs.Prelude.{All, slice_get, slice_index_or, option_map, IsSome}
use Rattle.dos_world.specs.Numbered.{numbered}
use Rattle.dos_world.specs.World.{look}
use Rattle.dos_world.specs.declared.Entry.{Entry}
use Rattle.dos_world.specs.declared.Owner.TheVariants.{Free, Shared, Of}
use Rattle.page_store.specs.Store.{Store, whole}
use Rattle.proc_table.specs.Tables.{Tables}
use mathlib.Core.Logic.{dite}
use native.Mathlib.Decide.{ℕ_discrete}
use Rattle.quantum_run.specs.Packs.{space_held, view_of}
use Rattle.quantum_run.specs.Shows.{Pack, View, CanRun, CanRunOwning, CanRunWriting, frames_of}
use Rattle.worker_pool.specs.Ran.{AllCanRun}
use Rattle.page_store.proofs.Joined.{home-at}
use Rattle.worker_pool.proofs.RanPacks.{index-at}
use Rattle.loop_packs.specs.Loops.{HasOneShared, IsLoop, page_of_code}

-- the one view that there is, but for the page
abbrev the_view : List ℕ → View
the_view page = record {
  owners = Shared ∷ [];
  pages = Some page ∷ [];
  spaces =
      Some page_of_code ∷ [];
}

free-not-of : (t : ℕ) → Free ≡ Of t → ⊥
free-not-of t e = cc

shared-not-of : (t : ℕ) → Shared ≡ Of t → ⊥
shared-not-of t e = cc

shared-not-free : Shared ≢ Free
shared-not-free e = cc

free-not-shared : Free ≡ Shared → ⊥
free-not-shared e = cc

-- no frame is a thread's
none-of : (frame t : ℕ) → slice_index_or (Shared ∷ []) frame Free ≡ Of t → ⊥
none-of zero t e = shared-not-of t e
none-of (suc frame) t e = free-not-of t e

home : (page : List ℕ) (frame : ℕ) → slice_index_or (Shared ∷ []) frame Free ≡ Shared
    → (p : List ℕ) × (slice_get (Some page ∷ []) frame ≡ Some (Some p))
home page zero e = (page, refl)
home page (suc frame) e = absurd (free-not-shared e)

abbrev code : Entry
code = record { frame = 0; write = false; exec = true; shared = false }

entry-is : {a b : Entry} → ◌≡◌ {A = Option Entry} (Some a) (Some b) → a ≡ b
entry-is e = cc

no-entry : {a : Entry} → ◌≡◌ {A = Option Entry} None (Some a) → ⊥
no-entry e = cc

mapped : (page : ℕ) (e : Entry) → look page_of_code page ≡ Some e
    → (e.frame < 1) × (slice_index_or (Shared ∷ []) e.frame Free ≢ Free)
mapped page e at = dite (ℕ_discrete 0x10 page)
    (λ same.
    let found : look page_of_code page ≡ Some code = rw (eq-eqb 0x10 page same) refl in
    subst (λ (x : Entry). (x.frame < 1) × (slice_index_or (Shared ∷ []) x.frame Free ≢ Free))
    (entry-is (sym found ∙ at)) (omega arith, shared-not-free))
    (λ other.
    let none : look page_of_code page ≡ None = rw (ne_eqb 0x10 page other) refl in
    absurd (no-entry (sym none ∙ at)))

owning-loop : (page : List ℕ) (p : Pack) → IsLoop p → CanRunOwning p (the_view page)
owning-loop page p loop = record {
  entries = page_of_code;
  space = ap (numbered (Some page_of_code ∷ [])) loop.0;
  mapped = mapped;
  own = λ frame e. absurd (none-of frame p.thread e);
  owned = λ i frame at. absurd
      (nothing i frame (sym (ap (λ ps. slice_get (frames_of ps) i) loop.1) ∙ at));
  shared = home page;
  level = loop.2;
}
  where
    nothing : (i frame : ℕ) → slice_get (frames_of []) i ≡ Some frame → ⊥
    nothing i frame e = cc

is-home : (page : List ℕ) → All IsSome (Some page ∷ [])
is-home page = All-cons IsSome (Some page) [] refl (All-nil IsSome)

writing-loop : (page : List ℕ) (p : Pack) → IsLoop p → CanRunWriting p (the_view page)
writing-loop page p loop = record {
  entries = page_of_code;
  space = ap (numbered (Some page_of_code ∷ [])) loop.0;
  mapped = mapped;
  home = is-home page;
}

-- in either scheme, since the one frame is Shared and home
can-loop : (page : List ℕ) (p : Pack) → IsLoop p → CanRun p (the_view page)
can-loop page p loop = record {
  owning = λ _. owning-loop page p loop;
  writing = λ _. writing-loop page p loop;
}

none-there : {page : List ℕ}
    → ◌≡◌ {A = Option (Option (List ℕ))} (Some None) (Some (Some page)) → ⊥
none-there e = cc

one-page : (ps : List (Option (List ℕ))) → All IsSome ps → length ps ≡ 1
    → (page : List ℕ) × (map (option_map whole) ps ≡ Some page ∷ [])
one-page [] some count = absurd (omega arith)
one-page (Some page ∷ []) some count = (whole page, refl)
one-page (None ∷ []) some count = absurd (none-there (home-at (None ∷ []) 0 some (omega arith)).1)
one-page (x ∷ y ∷ ps) some count = absurd (omega arith)

pub all-can : (s : Store) (t : Tables) (ps : List Pack) → HasOneShared s
    → map space_held t.processes ≡ Some page_of_code ∷ [] → All IsLoop ps
    → AllCanRun (view_of s t) ps
all-can s t ps one space loops i p at =
    let page = one-page s.pages one.1 one.2 in
    let same : view_of s t ≡ the_view page.0
    = λ k. record { owners = one.0 k; pages = page.1 k; spaces = space k } in
    let r = index-at ps i p p at in
    subst (λ v. CanRun p v) (sym same) (can-loop page.0 p (subst IsLoop r.1 (loops i p r.0)))
