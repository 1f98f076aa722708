use Rattle.std.proofs.Common.{◌≡◌, ◌∙◌, ap, sym, arith, Some}
use Rattle.std.specs.Prelude.{slice_get}
use Rattle.std.proofs.lemmas.Option.{slice_get-get_or}
use Rattle.std.proofs.Common.{set}
use Rattle.kernel_calls.specs.StateWorld.{sent, world_of}
use Rattle.group_rounds.specs.Buffers.{CanBePut}
use Rattle.group_rounds.specs.Handing.{view_of}
use Rattle.group_rounds.proofs.BuffersRan.{count-same}
use Rattle.group_rounds.proofs.OnlyPack.{one-of, one-put, one-ran}
use Rattle.group_rounds.proofs.buffers.run_only.Goals as goal

pub run_through-work-requires-clause-part : goal.run_through-work-requires-clause-part
run_through-work-requires-clause-part g c = λ after ran.
    let s = c.args.state.now in
    let ps = c.args.packs.now.items in
    let p = c.index_mut.result.now in
    let there : slice_get ps 0 ≡ Some p =
    slice_get-get_or ps 0 p (omega (arith, c.requires.one))
    ∙ ap Some (sym c.index_mut.ensures.value) in
    one-of (CanBePut s) ps after c.requires.one
    (c.requires.parts (set ps 0 after)
    (one-ran (view_of s.frames s.table) ps p after c.requires.one there ran))

pub returns-clause-puts : goal.returns-clause-puts
returns-clause-puts g c = λ q o e.
    one-put c.args.packs.now.items c.run_through-work.new.pack c.requires.one
    (sent o e (world_of q c.args.state.now))
    ∙ c.run_through-work.ensures.puts q o e

pub returns-clause-count : goal.returns-clause-count
returns-clause-count g c =
    count-same c.args.state.now c.run_through-work.new.state c.run_through-work.new.pack
    c.run_through-work.ensures.puts
