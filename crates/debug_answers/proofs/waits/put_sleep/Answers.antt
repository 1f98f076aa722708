use Rattle.std.proofs.Common.{◌++◌, ap, codes, Option}
use Rattle.std.specs.Prelude.{option_map}
use Rattle.dos_world.specs.World.{Sleeper}
use Rattle.kernel_objects.specs.Queue.{sleeper_of}
use Rattle.debug_session.specs.Waits.{word_digits, place_text}
use Rattle.debug_answers.proofs.Behind.{put_as, two, two_put}
use Rattle.debug_answers.proofs.waits.put_sleep.Goals as goal

pub returns : goal.returns
returns c =
    let old = c.args.out.now.items in
    let text = c.put_text.new.out.items in
    let digits = c.put_word_digits.new.out.items in
    let all = c.put_place.new.out.items in
    let sleeps = codes "sleeps at " in
    let address = word_digits c.args.address in
    put_as c.put_place.result old all _ _
    (ap (λ (o : Option Sleeper). sleeps ++ address ++ place_text o) c.find_sleeper.ensures)
    (two_put c.put_place.result old digits all (sleeps ++ address)
    (place_text (option_map sleeper_of c.find_sleeper.result))
    (two old text digits sleeps address c.in_ok-put_text.ensures c.in_ok-put_word_digits.ensures)
    c.put_place.ensures)
