-- What the words ask for, and None where they are refused: canonical words by their pairs and
-- names, all others as `clap` takes them. Both are read by the same ranges.
use Rattle.std.specs.Prelude.{List, Option, Some, None}
use Rattle.dos_words.specs.declared.request.Request.{Request}
use Rattle.dos_words.specs.Numbers.{Text}
use Rattle.dos_words.specs.Canonical.{canonical}
use Rattle.dos_words.specs.Clap.{clap_request}

-- of canonical words or of others
abbrev pub request_by : Option (Option Request) → List Text → Option Request
request_by (Some asked) words = asked
request_by None words = clap_request words

-- of all words
abbrev pub request : List Text → Option Request
request words = request_by (canonical words) words
