use Rattle.std.proofs.Common.{◌++◌, ◌∙◌, sym, ap, subst, map, List, ℕ}
use Rattle.std.proofs.Common.{◌<◌, ◌^◌, length}
use Rattle.std.specs.Prelude.{All}
use Rattle.text_fields.specs.Formats.{many}
use Rattle.group_text.specs.GroupText.{header_row, header_in, process_row, thread_rows, pipe_row}
use Rattle.group_text.specs.GroupText.{sleeper_rows, frame_row}
use Rattle.group_text.specs.Records.{group_of_record, process_of_record, thread_of_record}
use Rattle.group_text.specs.Records.{sleeper_of_record, frame_of_record}
use Rattle.group_writer.specs.Lengths.{HasFewPages, IsWholeThread}
use Rattle.group_writer.proofs.TextLaws.{behind, group_is}
use Rattle.group_writer.proofs.FitLaws.{few_processes, pages_are_few, few_threads}
use Rattle.group_writer.proofs.FitLaws.{threads_are_whole, pipes_are_short, few_sleepers}
use Rattle.group_writer.proofs.group.put_group.Goals as goal

pub put_header-requires : goal.put_header-requires
put_header-requires c = few_processes c.args.group.now c.requires

pub put_processes-requires : goal.put_processes-requires
put_processes-requires c =
    subst (λ rs. All HasFewPages rs) (sym c.deref.ensures.value)
    (pages_are_few c.args.group.now c.requires)

pub put_threads-requires-clause-count : goal.put_threads-requires-clause-count
put_threads-requires-clause-count c =
    subst (λ ts. length ts < 256) (sym c.deref-2.ensures.value)
    (few_threads c.args.group.now c.requires)

pub put_threads-requires-clause-whole : goal.put_threads-requires-clause-whole
put_threads-requires-clause-whole c =
    subst (λ ts. All IsWholeThread ts) (sym c.deref-2.ensures.value)
    (threads_are_whole c.args.group.now c.requires)

pub put_pipes-requires : goal.put_pipes-requires
put_pipes-requires c =
    subst (λ ps. All (λ p. length p.items < 2 ^ 16) ps) (sym c.deref-3.ensures.value)
    (pipes_are_short c.args.group.now c.requires)

pub put_sleepers-requires : goal.put_sleepers-requires
put_sleepers-requires c =
    subst (λ ss. length ss < 256) (sym c.deref-4.ensures.value)
    (few_sleepers c.args.group.now c.requires)

pub returns : goal.returns
returns c =
    let g = c.args.group.now in
    let header = header_row.text (header_in (group_of_record g)) in
    let processes = (many 0 (process_row 0 0)).text (map process_of_record g.processes.items) in
    let threads = (thread_rows 0 0).text (map thread_of_record g.threads.items) in
    let pipes = (many 64 pipe_row).text (map (λ p. p.items) g.pipes.items) in
    let sleepers = (sleeper_rows 0 0).text (map sleeper_of_record g.sleepers.items) in
    let frames = (many 0 (frame_row 0)).text (map frame_of_record g.frames.items) in
    let put = behind c.args.out.now.items _ _ header
    (processes ++ (threads ++ (pipes ++ (sleepers ++ frames)))) c.in_ok-put_header.ensures
    (behind c.put_header.new.out.items _ _ processes (threads ++ (pipes ++ (sleepers ++ frames)))
    (c.in_ok-put_processes.ensures
    ∙ ap (λ rs. c.put_header.new.out.items
    ++ (many 0 (process_row 0 0)).text (map process_of_record rs))
    c.deref.ensures.value)
    (behind c.put_processes.new.out.items _ _ threads (pipes ++ (sleepers ++ frames))
    (c.in_ok-put_threads.ensures
    ∙ ap (λ rs. c.put_processes.new.out.items ++ (thread_rows 0 0).text (map thread_of_record rs))
    c.deref-2.ensures.value)
    (behind c.put_threads.new.out.items _ _ pipes (sleepers ++ frames)
    (c.in_ok-put_pipes.ensures
    ∙ ap (λ rs. c.put_threads.new.out.items ++ (many 64 pipe_row).text (map (λ p. p.items) rs))
    c.deref-3.ensures.value)
    (behind c.put_pipes.new.out.items _ _ sleepers frames
    (c.in_ok-put_sleepers.ensures
    ∙ ap (λ rs. c.put_pipes.new.out.items ++ (sleeper_rows 0 0).text (map sleeper_of_record rs))
    c.deref-4.ensures.value)
    (c.in_ok-put_frames.ensures
    ∙ ap (λ rs. c.put_sleepers.new.out.items
    ++ (many 0 (frame_row 0)).text (map frame_of_record rs))
    c.deref-5.ensures.value))))) in
    put ∙ ap (λ (t : List ℕ). c.args.out.now.items ++ t) (sym (group_is (group_of_record g)))
