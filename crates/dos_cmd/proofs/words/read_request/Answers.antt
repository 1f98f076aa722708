use Rattle.std.specs.Prelude.{map, string_bytes}
use Rattle.dos_words.proofs.RangeLaws.{request_fits}
use Rattle.dos_cmd.proofs.words.read_request.Goals as goal

pub returns-in-Ok-clause-range : goal.returns-in-Ok-clause-range
returns-in-Ok-clause-range c =
    request_fits (map string_bytes c.args.words.now) c.in-Ok.request c.in-Ok.ensures
