use Rattle.std.proofs.Common.{ℕ, ◌≡◌, ◌<◌, ◌∙◌, List, ap, length, length-set, le_refl, le_trans}
use Rattle.std.proofs.Common.{refl, subst, sym}
use Rattle.std.specs.Prelude.{slice_set}
use Rattle.std.proofs.lemmas.Result.{err_from_is_err_and}
use Rattle.dos_world.specs.declared.Owner.{Owner}
use Rattle.dos_io.specs.Outside.{GrewByFront, grown}
use Rattle.kernel_calls.specs.declared.state.State.{State}
use Rattle.page_store.specs.Store.{AreMarked, IsFirstChanged, marked_at, owner_at}
use Rattle.group_rounds.specs.Kernels.{Held, kernel_marked}
use Rattle.page_trace.specs.Lines.{change_lines}
use Rattle.page_trace.specs.Trace.{change_at, changes}
use Rattle.page_trace.proofs.Changes.{PutSoFar, fewer_left, put_all, put_front, put_more, put_none}
use Rattle.page_trace.proofs.Changes.{rose_later}
use Rattle.page_trace.proofs.putting.put_changes.Goals as goal

-- what is said of the frames of a state is said of those of the kernel
first_in : (s t : State) (f : ℕ) → s ≡ t → IsFirstChanged s.frames.marked s.frames.owners f
    → IsFirstChanged t.frames.marked t.frames.owners f
first_in s t f is h = subst (λ (x : State). IsFirstChanged x.frames.marked x.frames.owners f) is h

lines_in : (s t : State) (round f : ℕ) → s ≡ t
    → change_lines (change_at round f (marked_at s.frames f) (owner_at s.frames f))
    ≡ change_lines (change_at round f (marked_at t.frames f) (owner_at t.frames f))
lines_in s t round f is = ap (λ (x : State).
    change_lines (change_at round f (marked_at x.frames f) (owner_at x.frames f))) is

-- a kernel that is another but for its marks, marked once more
marked_twice : (k k' first : Held) (marked : List Owner)
    → k ≡ kernel_marked first k.state.frames.marked → k' ≡ kernel_marked k marked
    → k' ≡ kernel_marked first k'.state.frames.marked
marked_twice k k' first marked before is =
    is ∙ ap (λ (x : Held). kernel_marked x marked) before
    ∙ ap (kernel_marked first) (sym (ap (λ (x : Held). x.state.frames.marked) is))

pub loop-frame-init : goal.loop-frame-init
loop-frame-init g c = record {
  kernel = refl;
  level = c.requires;
  put = put_none c.args.round c.args.kernel.now.state.frames.marked
      c.args.kernel.now.state.frames.owners (g.T.Sink.told c.args.lines.now);
  later = le_refl _;
  steady = refl;
}

pub loop-frame-preserved : goal.loop-frame-preserved
loop-frame-preserved g c =
    let inv = c.loop-frame.invariant in
    let k : Held = c.loop-frame.kernel in
    let frame = c.in-Some.frame in
    let s = k.state.frames in
    let first = first_in c.state.result.now k.state frame c.state.ensures.state
    c.in-Some.ensures.some in
    let marked : List Owner = slice_set s.marked frame (owner_at s frame) in
    let is = c.settle.ensures in
    record {
      kernel = marked_twice k c.settle.new.self c.args.kernel.now marked inv.kernel is;
      level = subst (λ (x : Held). AreMarked x.state.frames) (sym is)
          (length-set s.marked frame (owner_at s frame) ∙ inv.level);
      put = subst (λ (x : Held). PutSoFar c.args.round c.args.kernel.now.state.frames.marked
          x.state.frames.marked x.state.frames.owners (g.T.Sink.told c.args.lines.now)
          (g.T.Sink.told c.put_change.new.lines)) (sym is)
          (put_more c.args.round c.args.kernel.now.state.frames.marked s.marked s.owners _ _
          inv.put frame inv.level first _ (c.in_ok-put_change.ensures.ok
          ∙ ap (grown (g.T.Sink.told c.loop-frame.lines))
          (lines_in c.state-in-Some.result.now k.state c.args.round frame
          c.state-in-Some.ensures.state)));
      later = le_trans inv.later c.put_change.ensures.cause.later;
      steady = c.in_ok-put_change.ensures.steady ∙ inv.steady;
    }

pub loop-frame-smaller : goal.loop-frame-smaller
loop-frame-smaller g c =
    let k : Held = c.loop-frame.kernel in
    let frame = c.in-Some.frame in
    subst (λ (x : Held).
    length (changes c.args.round x.state.frames.marked x.state.frames.owners)
    < length (changes c.args.round k.state.frames.marked k.state.frames.owners))
    (sym c.settle.ensures)
    (fewer_left c.args.round frame k.state.frames.marked k.state.frames.owners
    c.loop-frame.invariant.level (first_in c.state.result.now k.state frame c.state.ensures.state
    c.in-Some.ensures.some))

pub returns-in_err-put_change : goal.returns-in_err-put_change
returns-in_err-put_change g c =
    let inv = c.loop-frame.invariant in
    let k : Held = c.loop-frame.kernel in
    let frame = c.in-Some.frame in
    let s = k.state.frames in
    let p = err_from_is_err_and c.from_residual.result c.from_residual.ensures.1 in
    rw (p.1, p.2) (record {
      kernel = inv.kernel;
      marked = tt;
      ok = tt;
      err = subst (λ (os : List Owner). GrewByFront (g.T.Sink.told c.args.lines.now)
          (g.T.Sink.told c.put_change.new.lines)
          (change_lines (changes c.args.round c.args.kernel.now.state.frames.marked os)))
          (ap (λ (x : Held). x.state.frames.owners) inv.kernel)
          (put_front c.args.round c.args.kernel.now.state.frames.marked s.marked s.owners _ _
          inv.put frame inv.level (first_in c.state.result.now k.state frame c.state.ensures.state
          c.in-Some.ensures.some) _
          (subst (λ (xs : List ℕ). GrewByFront (g.T.Sink.told c.loop-frame.lines)
          (g.T.Sink.told c.put_change.new.lines) xs)
          (lines_in c.state-in-Some.result.now k.state c.args.round frame
          c.state-in-Some.ensures.state)
          c.in_err-put_change.ensures.err));
      cause = record {
        later = le_trans inv.later c.put_change.ensures.cause.later;
        failed = rose_later _ _ _ inv.later c.in_err-put_change.ensures.cause.failed;
      };
      steady = tt;
    })

pub returns : goal.returns
returns g c =
    let inv = c.loop-frame.invariant in
    let k : Held = c.loop-frame.kernel in
    let all : k.state.frames.marked ≡ k.state.frames.owners =
    subst (λ (x : State). x.frames.marked ≡ x.frames.owners) c.state.ensures.state
    (c.in_default.ensures.none refl) in
    record {
      kernel = inv.kernel;
      marked = all;
      ok = put_all c.args.round c.args.kernel.now.state.frames.marked k.state.frames.marked
          k.state.frames.owners _ _ inv.put all
          ∙ ap (λ (os : List Owner). grown (g.T.Sink.told c.args.lines.now)
          (change_lines (changes c.args.round c.args.kernel.now.state.frames.marked os)))
          (ap (λ (x : Held). x.state.frames.owners) inv.kernel);
      err = tt;
      cause = record { later = inv.later; failed = tt };
      steady = inv.steady;
    }
