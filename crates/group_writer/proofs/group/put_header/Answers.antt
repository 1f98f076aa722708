use Rattle.std.proofs.Common.{ap, ◌∙◌, ◌++◌, ◌≡◌, ℕ, sym, map, length, rules, vec_len}
use Rattle.std.specs.Int.{w32, to_le_bytes}
use Rattle.std.proofs.lemmas.List.{length-map}
use Rattle.group_text.specs.GroupText.{config_row}
use Rattle.group_text.specs.Records.{process_of_record}
use Rattle.group_writer.proofs.TextLaws.{behind}
use Rattle.group_writer.proofs.group.put_header.Goals as goal

pub returns : goal.returns
returns c =
    let g = c.args.group.now in
    let used = to_le_bytes w32 g.used in
    let config = config_row.text g.config in
    let rounds = to_le_bytes w32 g.rounds in
    let given = to_le_bytes w32 g.given in
    let processes = to_le_bytes w32 (length (map process_of_record g.processes.items)) in
    let len : vec_len g.processes ≡ length g.processes.items = search rules in
    let count = c.in_ok-put_u32-4.ensures
    ∙ ap (λ (n : ℕ). c.put_u32-3.new.out.items ++ to_le_bytes w32 n)
    (c.len.ensures ∙ len ∙ sym (length-map g.processes.items process_of_record)) in
    behind c.args.out.now.items _ _ g.digest (used ++ (config ++ (rounds ++ (given ++ processes))))
    c.in_ok-extend_from_slice.ensures.items
    (behind c.extend_from_slice.new.self.items _ _ used (config ++ (rounds ++ (given ++ processes)))
    c.in_ok-put_u32.ensures
    (behind c.put_u32.new.out.items _ _ config (rounds ++ (given ++ processes))
    c.in_ok-put_config.ensures
    (behind c.put_config.new.out.items _ _ rounds (given ++ processes) c.in_ok-put_u32-2.ensures
    (behind c.put_u32-2.new.out.items _ _ given processes
    (c.in_ok-put_u32-3.ensures
    ∙ ap (λ (n : ℕ). c.put_u32-2.new.out.items ++ to_le_bytes w32 n) c.from.ensures) count))))
