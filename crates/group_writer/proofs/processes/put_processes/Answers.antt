use Rattle.std.proofs.Common.{arith, refl, map, sym}
use Rattle.text_fields.specs.Formats.{many}
use Rattle.group_text.specs.GroupText.{process_row}
use Rattle.group_text.specs.Records.{process_of_record}
use Rattle.group_writer.proofs.TextLaws.{goes_on}
use Rattle.group_writer.proofs.processes.put_processes.Goals as goal

pub loop-i-preserved : goal.loop-i-preserved
loop-i-preserved c =
    let xs = c.args.processes.now in
    let x = c.index-processes-i.result in
    goes_on (λ r. (process_row 0 0).text (process_of_record r))
    (λ rs. (many 0 (process_row 0 0)).text (map process_of_record rs)) (λ r rs. refl)
    xs c.loop-i.i x
    c.loop-i.out.items c.put_process.new.out.items _ (omega (arith, c.loop-i-test.true))
    (sym c.index-processes-i.is) c.loop-i.invariant
    c.in_ok-put_process.ensures
