use Rattle.std.proofs.Common.{◌+◌, ℕ, Bool, List, Option, [], ◌∷◌, drop, filter, arith, ap, ◌∙◌}
use Rattle.std.specs.Prelude.{filter_map, is_none}
use Rattle.std.proofs.lemmas.Option.{slice_get-get_or}
use Rattle.std.proofs.lemmas.List.Elements.{filter_map-append}
use Rattle.dos_world.specs.World.{live_process}
use Rattle.kernel_calls.specs.StateWorld.{world_of, sent}
use Rattle.debug_session.specs.Positions.{all_moments}
use Rattle.debug_session.specs.Homes.{birth_thread}
use Rattle.debug_client.specs.Births.{has_process}
use Rattle.debug_client.proofs.Walked.{some_put, all_put, kept_split, kept_end, all_next}
use Rattle.debug_client.proofs.client.Client.put_absent.Goals as goal

pub loop-process-preserved : goal.loop-process-preserved
loop-process-preserved c =
    let told : List ℕ = c.told-told.result.now in
    let i = c.loop-process.process-index in
    record {
      known = all_next (has_process c.args.births.now) told i
          (omega (arith, c.loop-process-test.true)) c.loop-process.invariant.known;
      so_far = λ r at q output error a.
          let w = sent output error (world_of q c.args.state.now) in
          let dead : ℕ → Bool = λ p. is_none (live_process w p) in
          let birth : ℕ → Option ℕ = birth_thread (all_moments at) in
          some_put c.loop-process.numbers.items _ _ c.put_absent_thread.new.numbers.items
          (filter_map birth (filter dead (drop i told)))
          (filter_map birth (filter dead (drop (i + 1) told)))
          (c.loop-process.invariant.so_far r at q output error a)
          (ap (filter_map birth) (kept_split dead told i _
          (slice_get-get_or told i _ (omega (arith, c.loop-process-test.true))))
          ∙ filter_map-append birth (filter dead (_ ∷ [])) (filter dead (drop (i + 1) told)))
          (c.in_ok-put_absent_thread.ensures r at q output error a);
    }

pub returns : goal.returns
returns c r at q output error a =
    let told : List ℕ = c.told-told.result.now in
    let i = c.loop-process.process-index in
    let w = sent output error (world_of q c.args.state.now) in
    let dead : ℕ → Bool = λ p. is_none (live_process w p) in
    let birth : ℕ → Option ℕ = birth_thread (all_moments at) in
    all_put c.loop-process.numbers.items _ (filter_map birth (filter dead (drop i told)))
    (c.loop-process.invariant.so_far r at q output error a)
    (ap (filter_map birth) (kept_end dead told i (omega (arith, c.loop-process-test.false))))
