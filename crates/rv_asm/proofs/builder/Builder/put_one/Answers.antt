use Rattle.std.proofs.Common.{ap, ◌∙◌}
use Rattle.rv_asm.specs.Source.{Source, halfwords_of}
use Rattle.rv_asm.specs.File.{file_header, flags_by, code_header, is_short}
use Rattle.rv_asm.proofs.Added.{two_added}
use Rattle.rv_asm.proofs.builder.Builder.put_one.Goals as goal

pub returns : goal.returns
returns c = two_added c.args.file.now.items c.put_file_header.new.file.items
    c.put_code_header.new.file.items _
    (file_header (flags_by (is_short c.args.self.now)) c.args.self.now.base 1)
    (code_header c.args.self.now 84 (halfwords_of c.args.self.now.items))
    c.in_ok-put_file_header.ensures
    (ap (λ b. file_header b c.self.inside.base 1) c.flags.ensures
    ∙ ap (λ (s : Source). file_header (flags_by (is_short c.args.self.now)) s.base 1)
    c.self.view_is)
    c.in_ok-put_code_header.ensures
