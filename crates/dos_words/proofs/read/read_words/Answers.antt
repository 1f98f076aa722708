use Rattle.std.proofs.Common.{◌≤◌, length, map, arith}
use Rattle.std.specs.Prelude.{string_bytes}
use Rattle.std.proofs.lemmas.List.{length-map}
use Rattle.clap.specs.Lexer.{usize_max}
use Rattle.dos_words.proofs.Agreement.{request_is}
use Rattle.dos_words.proofs.read.read_words.Goals as goal

pub returns : goal.returns
returns c =
    let few : length (map string_bytes c.args.words.now) ≤ usize_max =
    simp length-map (omega arith) in
    rw (request_is (map string_bytes c.args.words.now) few) c.read_by_clap.ensures
