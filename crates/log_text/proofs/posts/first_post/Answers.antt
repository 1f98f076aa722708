use Rattle.std.proofs.Common.{◌∙◌}
use Rattle.text_fields.proofs.Numbers.{four_bytes}
use Rattle.log_text.proofs.PostTexts.{first_is}
use Rattle.log_text.proofs.posts.first_post.Goals as goal

pub returns-clause-value : goal.returns-clause-value
returns-clause-value c = first_is c.args.posts.now c.split_at.result.0.now c.split_at.result.1.now
    c.read_u32-pid.result c.requires c.split_at.ensures.front c.split_at.ensures.back
    (c.read_u32-pid.ensures ∙ four_bytes c.split_at.result.0.now)
