use Rattle.std.proofs.Common.{ℕ, ◌+◌, ◌*◌, ◌∙◌, ap}
use Rattle.rv_asm.specs.Source.{Source, halfwords_of}
use Rattle.rv_asm.specs.File.{file_header, flags_by, code_header, data_header, is_short}
use Rattle.rv_asm.proofs.Added.{three_added}
use Rattle.rv_asm.proofs.builder.Builder.put_two.Goals as goal

pub returns : goal.returns
returns c =
    three_added c.args.file.now.items c.put_file_header.new.file.items
    c.put_code_header.new.file.items c.put_data_header.new.file.items _
    (file_header (flags_by (is_short c.args.self.now)) c.args.self.now.base 2)
    (code_header c.args.self.now 116 (halfwords_of c.args.self.now.items)) _
    (data_header c.args.self.now.data_part (116 + 2 * halfwords_of c.args.self.now.items))
    c.in_ok-put_file_header.ensures
    (ap (λ b. file_header b c.self.inside.base 2) c.flags.ensures
    ∙ ap (λ (s : Source). file_header (flags_by (is_short c.args.self.now)) s.base 2)
    c.self.view_is)
    c.in_ok-put_code_header.ensures c.in_ok-put_data_header.ensures
    (ap (λ (n : ℕ). data_header c.args.self.now.data_part (116 + 2 * n))
    (c.self.invariant.count_is ∙ ap (λ (s : Source). halfwords_of s.items) c.self.view_is))
