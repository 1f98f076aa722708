use Rattle.std.proofs.Common.{ap, ◌∙◌, ◌++◌, ◌∷◌, [], List, ℕ, sym, map, length}
use Rattle.std.proofs.lemmas.List.{length-map}
use Rattle.text_fields.specs.Formats.{ascending}
use Rattle.group_text.specs.GroupText.{thread_row}
use Rattle.group_text.specs.Records.{thread_of_record}
use Rattle.group_writer.proofs.TextLaws.{behind, threads_text}
use Rattle.group_writer.proofs.threads.put_threads.Goals as goal

pub returns : goal.returns
returns c =
    let threads = map thread_of_record c.args.threads.now in
    let n = length threads in
    behind c.args.out.now.items _ _ (n ∷ [])
    ((ascending (λ t. t.0) (thread_row 0 0) n 1).text threads)
    (c.in_ok-put_byte.ensures ∙ ap (λ (n : ℕ). c.args.out.now.items ++ n ∷ [])
    (sym (length-map c.args.threads.now thread_of_record)))
    (c.in_ok-put_each_thread.ensures
    ∙ ap (λ (t : List ℕ). c.put_byte.new.out.items ++ t) (sym (threads_text n threads)))
