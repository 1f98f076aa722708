use Rattle.std.proofs.Common.{arith, refl, map, sym}
use Rattle.text_fields.specs.Formats.{many}
use Rattle.group_text.specs.GroupText.{thread_row}
use Rattle.group_text.specs.Records.{thread_of_record}
use Rattle.group_writer.proofs.TextLaws.{goes_on}
use Rattle.group_writer.proofs.threads.put_each_thread.Goals as goal

pub loop-i-preserved : goal.loop-i-preserved
loop-i-preserved c =
    let xs = c.args.threads.now in
    let x = c.index-threads-i.result in
    goes_on (λ r. (thread_row 0 0 0).text (thread_of_record r))
    (λ rs. (many 0 (thread_row 0 0 0)).text (map thread_of_record rs)) (λ r rs. refl)
    xs c.loop-i.i x
    c.loop-i.out.items c.put_thread.new.out.items _ (omega (arith, c.loop-i-test.true))
    (sym c.index-threads-i.is) c.loop-i.invariant
    c.in_ok-put_thread.ensures
