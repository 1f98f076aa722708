-- What reading answers, beside what the words ask for.
use Rattle.std.specs.Prelude.{◌≡◌, ⊤, List, Result, Ok, Err, Option, Some, None, option_and_then}
use Rattle.std.specs.Prelude.{codes}
use Rattle.clap.specs.Words.{all_of, rows_of, found_of, subcommand_rows_of}
use Rattle.clap.specs.declared.parser.matches.ArgMatches.{ArgMatches}
use Rattle.dos_words.specs.declared.error.WordsError.{WordsError}
use Rattle.dos_words.specs.declared.error.WordsError.TheVariants.{Refused, Memory}
use Rattle.dos_words.specs.Numbers.{Text}
use Rattle.dos_words.specs.Asked.{Values}
use Rattle.dos_words.specs.Clap.{values_among, names_among, asked_by, clap_request}

-- It is answered, or refused where nothing is asked for; want of memory says nothing of it.
abbrev pub Reads : {A : Type 0} → Result A WordsError → Option A → Type 0
Reads (Ok answer) asked = asked ≡ Some answer
Reads (Err Refused) asked = asked ≡ None
Reads (Err Memory) asked = ⊤

-- What clap found in the words leads to what they ask for. Where it refuses them they ask for
-- nothing; want of memory says nothing of it.
abbrev pub Takes : Result ArgMatches WordsError → List Text → Type 0
Takes (Ok matches) words =
    clap_request words ≡ option_and_then asked_by (subcommand_rows_of matches)
Takes (Err Refused) words = clap_request words ≡ None
Takes (Err Memory) words = ⊤

-- the options that clap found
abbrev pub values_found : ArgMatches → Values
values_found matches = values_among (rows_of (found_of matches))

-- the values that it found for the names, where there are some
abbrev pub names_given : ArgMatches → Option (List Text)
names_given matches = all_of (codes "names") (rows_of (found_of matches))

-- the names that it found
abbrev pub names_found : ArgMatches → List Text
names_found matches = names_among (rows_of (found_of matches))
