use Rattle.std.proofs.Common.{◌<◌, ◌∙◌, Some, ap, false, length, rules}
use Rattle.std.proofs.lemmas.Option.{slice_get-get_or}
use Rattle.page_store.proofs.compared.Compared.is_compared.Goals as goal

pub returns : goal.returns
returns c = λ is.
    let blocks = c.args.self.now.blocks in
    let within : c.args.block < length blocks = search rules in
    slice_get-get_or blocks c.args.block false within ∙ ap Some is
