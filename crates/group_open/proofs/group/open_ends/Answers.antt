use Rattle.std.proofs.Common.{refl, replicate, None}
use Rattle.dos_world.specs.declared.End.TheVariants.{Input, Output, Error}
use Rattle.group_open.proofs.GroupLaws.{HasEnds, ends_live, ends_more, ends_start}
use Rattle.group_open.proofs.group.open_ends.Goals as goal

pub open_lowest-output-requires : goal.open_lowest-output-requires
open_lowest-output-requires c =
    let table = c.args.table.now in
    let first = c.open_lowest-input in
    let one = ends_more table table first.new.self c.args.pid 0
    (replicate 32 None) Input first.result
    (ends_start table c.args.pid (replicate 32 None) c.requires.live c.requires.closed) refl
    first.ensures.lowest first.ensures.opens in
    ends_live table first.new.self c.args.pid _ one

pub open_lowest-error-requires : goal.open_lowest-error-requires
open_lowest-error-requires c =
    let table = c.args.table.now in
    let first = c.open_lowest-input in
    let second = c.open_lowest-output in
    let one = ends_more table table first.new.self c.args.pid 0
    (replicate 32 None) Input first.result
    (ends_start table c.args.pid (replicate 32 None) c.requires.live c.requires.closed) refl
    first.ensures.lowest first.ensures.opens in
    ends_live table second.new.self c.args.pid _
    (ends_more table first.new.self second.new.self c.args.pid 1 _ Output second.result one
    refl second.ensures.lowest second.ensures.opens)

pub returns : goal.returns
returns c =
    let table = c.args.table.now in
    let first = c.open_lowest-input in
    let second = c.open_lowest-output in
    let third = c.open_lowest-error in
    let one = ends_more table table first.new.self c.args.pid 0
    (replicate 32 None) Input first.result
    (ends_start table c.args.pid (replicate 32 None) c.requires.live c.requires.closed) refl
    first.ensures.lowest first.ensures.opens in
    let two = ends_more table first.new.self second.new.self c.args.pid 1 _ Output second.result one
    refl second.ensures.lowest second.ensures.opens in
    let three : HasEnds table third.new.self c.args.pid _ =
    ends_more table second.new.self third.new.self c.args.pid 2 _ Error third.result two refl
    third.ensures.lowest third.ensures.opens in
    three.is
