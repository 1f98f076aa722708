use Rattle.std.proofs.Common.{ℕ, List, [], ◌∷◌, ◌++◌, ◌∙◌, ap}
use Rattle.kernel_calls.specs.StateWorld.{world_of}
use Rattle.debug_session.specs.Pages.{also_lines, mapped_line}
use Rattle.std.specs.Global.{Vec}
use Rattle.kernel_objects.specs.Pipework.{vector_bytes}
use Rattle.debug_answers.proofs.Rows.{pushed}
use Rattle.debug_answers.proofs.one_page.mapped_lines.Goals as goal

pub returns : goal.returns
returns c q =
    let others = also_lines (world_of q c.args.state.now) c.args.process c.args.page
    c.args.entry.frame in
    c.in_ok-add_others.ensures q
    ∙ ap (λ (ls : List (List ℕ)). ls ++ others)
    (pushed c.new-lines.result.items c.push.new.self.items c.in_ok-mapped_line.field-0
    (mapped_line (world_of q c.args.state.now) c.args.process c.args.page c.args.entry)
    c.in_ok-push.ensures.items (c.in_ok-mapped_line.ensures q))
    ∙ ap
    (λ (vs : List (Vec ℕ)).
    (vector_bytes vs ++ mapped_line (world_of q c.args.state.now) c.args.process c.args.page
    c.args.entry ∷ []) ++ others)
    c.new-lines.ensures.items
