-- A fork leaves every lawful world lawful, where its caller is ready: such a world stands where the
-- caller alone has a part left.
use Rattle.std.proofs.Common.{ℕ, ◌≡◌, Bool, true, false, cond, [], Some, Result, Ok, Err, refl, sym}
use Rattle.std.proofs.Common.{subst, arith}
use Rattle.std.specs.Prelude.{IfSome, nat_lt}
use Rattle.std.proofs.lemmas.Bool.{ltb-false}
use Rattle.dos_world.specs.World.{World, Thread, thread_at}
use Rattle.dos_world.specs.Kernel.{free_frames}
use Rattle.dos_world.specs.Calls.{Call}
use Rattle.dos_world.specs.ProcessCalls.{are_processes_full, forked, forked_by, private_entries}
use Rattle.dos_world.specs.ProcessCalls.{with_child}
use Rattle.dos_world.specs.Lawful.{Lawful}
use Rattle.dos_world.specs.declared.ThreadState.TheVariants.{Ready}
use Rattle.dos_laws.proofs.StandsCalls.{StandsCall, held}
use Rattle.dos_laws.proofs.StandsChildren.{stands-with_child}

module _ (c : Call) (caller : Thread) (is : thread_at c.world c.thread ≡ Some caller)
    (ready : caller.state ≡ Ready) (own : caller.process ≡ c.process)
    (lawful : Lawful c.world) where
  -- the same call, with nothing asked
  abbrev bare : Call
  bare = record c { a0 = 0; a1 = 0; a2 = 0 }

  abbrev stands : StandsCall [] bare
  stands = record {
    stands = record {
      lawful = lawful;
      awake =
          (subst (λ o. IfSome o (λ thread. thread.state ≡ Ready)) (sym is) ready, tt);
      apart =
          (tt, tt);
    };
    caller = caller;
    is = is;
    own = own;
    first = omega arith;
    second = omega arith;
    third = omega arith;
  }

  by_room : (v : World) (a b : Bool) → are_processes_full c.world.processes c.world.threads ≡ a
      → nat_lt (free_frames c.world) (private_entries (held [] bare stands).0.space) ≡ b
      → ◌≡◌ {A = Result World ℕ}
      (cond a (Err 11) (cond b (Err 12) (Ok (with_child c (held [] bare stands).0 caller))))
      (Ok v)
      → Lawful v
  by_room v true b p q e = cc
  by_room v false true p q e = cc
  by_room v false false p q e =
      let same : with_child c (held [] bare stands).0 caller ≡ v = cc in
      subst Lawful same
      (stands-with_child [] bare stands p
      (ltb-false (free_frames c.world)
      (private_entries (held [] bare stands).0.space) q)).lawful

  kept : (v : World) → forked c ≡ Ok v → Lawful v
  kept v e =
      by_room v (are_processes_full c.world.processes c.world.threads)
      (nat_lt (free_frames c.world) (private_entries (held [] bare stands).0.space)) refl refl
      (subst (λ x. forked_by c (Some (held [] bare stands).0) x ≡ Ok v) is
      (subst (λ o. forked_by c o (thread_at c.world c.thread) ≡ Ok v)
      (held [] bare stands).1 e))

pub forks-keep : (c : Call) (v : World) (caller : Thread) → Lawful c.world
    → thread_at c.world c.thread ≡ Some caller → caller.state ≡ Ready → caller.process ≡ c.process
    → forked c ≡ Ok v → Lawful v
forks-keep c v caller lawful is ready own e = kept c caller is ready own lawful v e
