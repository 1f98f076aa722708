-- What is served leaves a state sound, and who has a part left: the law of all services, once.
use Rattle.std.proofs.Common.{ℕ, List, [], ◌∷◌, map}
use Rattle.dos_world.specs.World.{World}
use Rattle.dos_world.specs.Services.{service}
use Rattle.round_core.specs.Invariants.{LeavesServed}
use Rattle.round_core.proofs.Allowed.{over_allows}
use Rattle.round_core.proofs.Keeps.{kept_throughout}
use Rattle.dos_io.specs.Exchanges.{answer_of}
use Rattle.dos_io.specs.Borders.{BorderState, exchanges_of}
use Rattle.dos_laws.specs.Standing.{LawfulWith, fit_protocol}
use Rattle.dos_laws.proofs.Outside.{lawful-sent}
use Rattle.dos_laws.proofs.Stands.{awake_by}
use Rattle.dos_laws.proofs.StandsKeeps.{stands_kept}
use Rattle.kernel_calls.specs.StateWorld.{HaveParts, IsCounted, IsReady, IsSound, left_after}
use Rattle.kernel_calls.specs.StateWorld.{way_in, world_of}
use Rattle.kernel_calls.specs.Plays.{Answers, sent_then}
use Rattle.kernel_calls.specs.declared.state.State.{State}
use Rattle.kernel_calls.specs.declared.state.Served.{Served}
use Rattle.kernel_calls.specs.declared.state.Served.TheVariants.{Went, Waits, Yields, Gone}
use Rattle.kernel_calls.proofs.Keeping.{lawful_now}
use Rattle.kernel_calls.proofs.ServicePlays.{goes-over}

-- who has a part left in the world that a service leaves
left : (way : Served) (t : ℕ) (ts : List ℕ) (w : World)
    → LeavesServed LawfulWith t ts (way_in way w) → LawfulWith (left_after way t ts) w
left Went t ts w k = k
left Waits t ts w k = k
left Yields t ts w k = k
left Gone t ts w k = k

module _ (s new : State) (t : ℕ) (way : Served) (before b : BorderState)
    (answers : Answers (λ w. service w t) s before way new b)
  where
    -- the world that the service leaves
    abbrev after : ℕ → World
    after q = sent_then answers.crossings [] [] (world_of q new)

    stands-served : (q : ℕ) (ts : List ℕ) → LawfulWith (t ∷ ts) (world_of q s)
        → LawfulWith (left_after way t ts) (after q)
    stands-served q ts k =
        left way t ts (after q)
        (over_allows fit_protocol (LeavesServed LawfulWith t ts)
        (map answer_of (exchanges_of answers.crossings))
        (service (world_of q s) t) (way_in way (after q)) []
        ((kept_throughout fit_protocol LawfulWith stands_kept).service_kept ts (world_of q s) t k)
        answers.fits
        (goes-over [] [] answers.crossings (service (world_of q s) t) (way_in way (after q))
        (answers.goes q [] [])))

    pub sound-served : IsSound s → IsReady s.table.threads t → IsCounted new → IsSound new
    sound-served sound ready counted = record {
      counted = counted;
      lawful = λ q low high.
          lawful-sent (after q) [] []
          (stands-served q [] (record {
            lawful = sound.lawful q low high;
            awake = (ready, tt);
            apart = (tt, tt);
          })).lawful;
    }

    pub parts-served : IsSound s → (ts : List ℕ) → HaveParts (t ∷ ts) s
        → HaveParts (left_after way t ts) new
    parts-served sound ts parts =
        let k = stands-served 16 ts (record {
          lawful = lawful_now s sound;
          awake = awake_by (world_of 0 s) (world_of 16 s) (t ∷ ts) (λ u is. is) parts.awake;
          apart = parts.apart;
        }) in record {
          awake = awake_by (after 16) (world_of 0 new) (left_after way t ts) (λ u is. is) k.awake;
          apart = k.apart;
        }
