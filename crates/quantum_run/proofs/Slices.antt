-- A thread's part in slices: what a pack says as it begins, and where its slices lead.
use Rattle.std.proofs.Common.{ℕ, ◌+◌, ◌≡◌, refl, sym, ap, ◌∙◌, subst, slice_get, Some, List}
use Rattle.std.proofs.Common.{true, false, is_some}
use Rattle.dos_world.specs.Numbered.{numbered}
use Rattle.dos_world.specs.World.{World, released, look}
use Rattle.dos_world.specs.declared.Owner.TheVariants.{Of}
use Rattle.flat_machine.specs.Alone.{budget_of, emptied, steps}
use Rattle.written_words.specs.declared.Written.{Written}
use Rattle.quantum_run.specs.Shows.{Pack, View, Shows, CanRun, CanRunOwning, CanRunWriting}
use Rattle.quantum_run.specs.Shows.{Finished, FinishedOwning, LeadsTo, RanFor, RanForOwning, RanOut}
use Rattle.quantum_run.specs.Shows.{RanOutOwning}
use Rattle.quantum_run.specs.Shows.{begun_pack, frames_of, has_words}
use Rattle.flat_machine.proofs.After.{steps-split}
use Rattle.quantum_run.proofs.Parts.{budget-is, emptied-space, emptied-kept}

-- ---- a part begins

-- A pack without a reservation shows the world in which its thread has none.
pub begun-shows : (p : Pack) (v : View) (w : World) → Shows p v w
    → Shows (begun_pack p) v (emptied w p.thread)
begun-shows p v w shows = record {
  owners = shows.owners;
  thread = emptied-kept w p.thread p.registers p.budget shows.thread;
  space = shows.space ∙ ap (λ x. Some (Some x)) (sym (emptied-space w p.thread));
  count = shows.count;
  mapped = λ page e has.
      shows.mapped page e (ap (λ x. look x page) (sym (emptied-space w p.thread)) ∙ has);
  shared = shows.shared;
  own = record {
    owner = shows.own.owner;
    bytes = shows.own.bytes;
    all = shows.own.all;
    apart = shows.own.apart;
  };
}

begun-owning : (p : Pack) (v : View) (q : Pack) → RanOutOwning (begun_pack p) v q
    → FinishedOwning p v q
begun-owning p v q out = λ w shows.
    let t = p.thread in
    let begins = begun-shows p v w shows in
    let same : budget_of (emptied w t) t ≡ budget_of w t =
    budget-is (emptied w t) t (released p.registers) p.budget begins.thread
    ∙ sym (budget-is w t p.registers p.budget shows.thread) in
    subst (λ n. Shows q v (steps n (emptied w t) t)) same (out (emptied w t) begins)

-- What runs out from a part's begin is the whole part.
pub begun-runs : (p : Pack) (v : View) (q : Pack) → RanOut (begun_pack p) v q → Finished p v q
begun-runs p v q out = record {
  scheme = out.scheme;
  owning = λ none. begun-owning p v q (out.owning none);
  writing = λ words is w sees.
      out.writing words is w
      (record { owners = sees.owners; bytes = sees.bytes; space = sees.space });
}

-- ---- what a pack needs to run

still-owning : (p q : Pack) (v : View) → q.thread ≡ p.thread → q.process ≡ p.process
    → frames_of q.pages ≡ frames_of p.pages → q.room ≡ p.room → CanRunOwning p v
    → CanRunOwning q v
still-owning p q v thread process frames room can = record {
  entries = can.entries;
  space = ap (numbered v.spaces) process ∙ can.space;
  mapped = can.mapped;
  own = λ frame mine.
      let held = can.own frame (mine ∙ ap Of thread) in
      (held.0, ap (λ fs. slice_get fs held.0) frames ∙ held.1);
  owned = λ i frame at.
      can.owned i frame (ap (λ fs. slice_get fs i) (sym frames) ∙ at) ∙ ap Of (sym thread);
  shared = can.shared;
  level = room ∙ can.level;
}

still-writing : (p q : Pack) (v : View) → q.process ≡ p.process → CanRunWriting p v
    → CanRunWriting q v
still-writing p q v process can = record {
  entries = can.entries;
  space = ap (numbered v.spaces) process ∙ can.space;
  mapped = can.mapped;
  home = can.home;
}

-- A pack of the same scheme whose thread, process, frames and room are the same can run where the
-- other can.
pub still-can : (p q : Pack) (v : View) → has_words q ≡ has_words p → q.thread ≡ p.thread
    → q.process ≡ p.process → frames_of q.pages ≡ frames_of p.pages → q.room ≡ p.room
    → CanRun p v → CanRun q v
still-can p q v scheme thread process frames room can = record {
  owning = λ none.
      still-owning p q v thread process frames room (can.owning (sym scheme ∙ none));
  writing = λ some. still-writing p q v process (can.writing (sym scheme ∙ some));
}

pub begun-can : (p : Pack) (v : View) → CanRun p v → CanRun (begun_pack p) v
begun-can p v can = still-can p (begun_pack p) v refl refl refl refl refl can

-- ---- where a slice leads

-- Where the thread runs out from the later pack, it runs out from the earlier one.
abbrev pub LeadsToOwning : Pack → View → Pack → Type 0
LeadsToOwning p v later = (after : Pack) → RanOutOwning later v after → RanOutOwning p v after

-- A pack runs out where its whole budget leads.
pub runs-out : (p : Pack) (v : View) (after : Pack)
    → ((w : World) → Shows p v w → Shows after v (steps p.budget w p.thread))
    → RanOutOwning p v after
runs-out p v after led = λ w shows.
    subst (λ n. Shows after v (steps n w p.thread))
    (sym (budget-is w p.thread p.registers p.budget shows.thread)) (led w shows)

-- What runs out from where some of its instructions lead runs out from it.
pub leads : (p : Pack) (v : View) (later : Pack) (n : ℕ) → later.thread ≡ p.thread
    → n + later.budget ≡ p.budget
    → ((w : World) → Shows p v w → Shows later v (steps n w p.thread)) → LeadsToOwning p v later
leads p v later n same whole led = λ after out. runs-out p v after (λ w shows.
    let mid = steps n w p.thread in
    let there = led w shows in
    subst (Shows after v)
    (ap (λ k. steps k mid later.thread)
    (budget-is mid later.thread later.registers later.budget there.thread)
    ∙ ap (steps later.budget mid) same
    ∙ sym (steps-split n later.budget w p.thread) ∙ ap (λ k. steps k w p.thread) whole)
    (out mid there))

-- ---- a pack with pages, as either

no-words : (p : Pack) (words : List Written) → has_words p ≡ false → p.words ≡ Some words → ⊥
no-words p words none is = never (sym none ∙ ap is_some is)
  where
    never : false ≡ true → ⊥
    never q = cc

pub owning-out : (p : Pack) (v : View) (after : Pack) → has_words p ≡ false
    → has_words after ≡ false → RanOutOwning p v after → RanOut p v after
owning-out p v after none still out = record {
  scheme = still ∙ sym none;
  owning = λ _. out;
  writing = λ words is. absurd (no-words p words none is);
}

pub owning-for : (n : ℕ) (p : Pack) (v : View) (after : Pack) → has_words p ≡ false
    → RanForOwning n p v after → RanFor n p v after
owning-for n p v after none ran = record {
  owning = λ _. ran;
  writing = λ words is. absurd (no-words p words none is);
}

pub owning-leads : (p : Pack) (v : View) (later : Pack) → has_words p ≡ false
    → has_words later ≡ false → LeadsToOwning p v later → LeadsTo p v later
owning-leads p v later none still led = record {
  scheme = still ∙ sym none;
  leads = λ after out. owning-out p v after none (out.scheme ∙ still) (led after (out.owning
      still));
}
