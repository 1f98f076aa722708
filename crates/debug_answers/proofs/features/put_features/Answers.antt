use Rattle.std.proofs.Common.{List, ℕ, [], refl, codes, if◌then◌else◌}
use Rattle.debug_session.specs.Answers.{features_text}
use Rattle.debug_answers.proofs.Behind.{put_behind}
use Rattle.debug_answers.proofs.features.put_features.Goals as goal

pub returns : goal.returns
returns c =
    let forks : List ℕ = if c.args.is_told_forks then codes ";fork-events+" else [] in
    put_behind c.put_forks.result c.args.out.now.items c.put_text.new.out.items
    c.put_forks.new.out.items _ forks (features_text c.args.is_told_forks)
    c.in_ok-put_text.ensures refl c.put_forks.ensures
