-- Canonical words: the command, options in any order, each at most once as the two words `--name
-- value`, and then the names. No value or name is empty or begins with `-`. This project's own
-- rule.
use Rattle.std.specs.Prelude.{Bool, true, false, not, ◌&&◌, List, [], ◌∷◌, Option, Some, None}
use Rattle.std.specs.Prelude.{is_some, ◌==◌, if◌then◌else◌, bytes_eq}
use Rattle.std.specs.List.{list_any, list_all}
use Rattle.std.specs.Map.{lookup}
use Rattle.dos_words.specs.Numbers.{Text, ◌>>=◌}
use Rattle.dos_words.specs.declared.request.Request.{Request}
use Rattle.dos_words.specs.Asked.{Values, images_of}
use Rattle.dos_words.specs.Commands.{command_named}

-- a word that may be a value or a name
abbrev pub is_plain : Text → Bool
is_plain [] = false
is_plain (c ∷ cs) = not (c == 45)

-- options and their values, as they stand in the words
abbrev pub Pairs : Type 0
Pairs = List (Text × Text)

-- with one pair more in front
abbrev pub with_pair : Text → Text → Pairs × List Text → Option (Pairs × List Text)
with_pair word value r = Some ((word, value) ∷ r.0, r.1)

-- the pairs of an option and its value, and the names; None where the words aren't so
abbrev pub pairs_and_names : List Text → Option (Pairs × List Text)
pairs_and_names [] = Some ([], [])
pairs_and_names (word ∷ []) = if is_plain word then Some ([], word ∷ []) else None
pairs_and_names (word ∷ value ∷ words) =
    let names : List Text = word ∷ value ∷ words in
    if is_plain word then (if list_all is_plain names then Some ([], names) else None)
    else (if is_plain value then pairs_and_names words >>= with_pair word value else None)

-- words that are one to eight names, and nothing else
abbrev pub names_alone : List Text → Option (List Text)
names_alone words = if list_all is_plain words then images_of words else None

-- ---- the options

-- the word of an option
abbrev pub dashed : Text → Text
dashed name = 45 ∷ 45 ∷ name

-- the value of an option, by its word
abbrev pub value_in : Pairs → Text → Option Text
value_in pairs word = lookup (bytes_eq word) pairs

-- No option stands twice.
abbrev pub are_once : Pairs → Bool
are_once [] = true
are_once (pair ∷ pairs) = not (is_some (value_in pairs pair.0)) && are_once pairs

-- The pair's option is one of these.
abbrev pub is_option_allowed : List Text → Text × Text → Bool
is_option_allowed options pair = list_any (λ option. bytes_eq pair.0 (dashed option)) options

-- only these options, each at most once
abbrev pub are_allowed : List Text → Pairs → Bool
are_allowed options pairs = are_once pairs && list_all (is_option_allowed options) pairs

-- the option's value by its name
abbrev pub values_in : Pairs → Values
values_in pairs name = value_in pairs (dashed name)

-- ---- the words

-- what canonical words ask for; None where the words aren't canonical
abbrev pub canonical : List Text → Option (Option Request)
canonical [] = None
canonical (name ∷ words) = do
  command ← command_named name
  r ← pairs_and_names words
  if are_allowed command.options r.0 then Some (command.asked (values_in r.0) r.1) else None
