-- What a person asks by gdb's command `monitor`. This project's own rule.
use Rattle.std.specs.Prelude.{ℕ, ◌+◌, ◌-◌, ◌*◌, Bool, true, false, List, [], ◌∷◌}
use Rattle.std.specs.Prelude.{length, drop, filter, find, Option, Some, None, codes, bytes_eq}
use Rattle.std.specs.Prelude.{nat_eq, option_map, if◌then◌else◌, unwrap_or}
use Rattle.std.specs.Int.{is_in_range}
use Rattle.std.specs.List.{starts_with}
use Rattle.gdb_packets.specs.Hexadecimal.{◌>>=◌, number_from}
use Rattle.gdb_packets.specs.Around.{between_marks}
use Rattle.gdb_packets.specs.declared.commands.Word.{Word}
use Rattle.gdb_packets.specs.declared.commands.Word.TheVariants as word
use Rattle.gdb_packets.specs.declared.commands.Command.{Command}
use Rattle.gdb_packets.specs.declared.commands.Command.TheVariants.{Where, Goto, GotoForm, Threads}
use Rattle.gdb_packets.specs.declared.commands.Command.TheVariants.{Processes, Page, PageForm}
use Rattle.gdb_packets.specs.declared.commands.Command.TheVariants.{Pages, Pipes, Ends, Sleepers}
use Rattle.gdb_packets.specs.declared.commands.Command.TheVariants.{Output, Other}

-- ---- numbers

-- what a digit stands for
abbrev pub digit_of : ℕ → Option ℕ
digit_of c = if is_in_range 48 57 c then Some (c - 48) else None

-- what n and then these digits stand for
abbrev pub digits_behind : ℕ → List ℕ → Option ℕ
digits_behind n [] = Some n
digits_behind n (c ∷ cs) = digit_of c >>= λ d. digits_behind (n * 10 + d) cs

-- one to nineteen decimal digits
abbrev pub decimal_from : List ℕ → Option ℕ
decimal_from text = if is_in_range 1 19 (length text) then digits_behind 0 text else None

-- an address: a hexadecimal number, with or without `0x`
abbrev pub address_from : List ℕ → Option ℕ
address_from text =
    number_from (if starts_with nat_eq text (codes "0x") then drop 2 text else text)

-- ---- words

abbrev pub is_some_text : List ℕ → Bool
is_some_text [] = false
is_some_text (c ∷ cs) = true

-- separated by spaces
abbrev pub words_between : List ℕ → List (List ℕ)
words_between text = filter is_some_text (between_marks 32 text)

-- how each command begins
abbrev pub word_text : Word → List ℕ
word_text word.Where = codes "where"
word_text word.Goto = codes "goto"
word_text word.Threads = codes "threads"
word_text word.Processes = codes "processes"
word_text word.Page = codes "page"
word_text word.Pages = codes "pages"
word_text word.Pipes = codes "pipes"
word_text word.Ends = codes "ends"
word_text word.Sleepers = codes "sleepers"
word_text word.Output = codes "output"

-- all of them
abbrev pub command_words : List Word
command_words =
    word.Where ∷ word.Goto ∷ word.Threads ∷ word.Processes ∷ word.Page ∷ word.Pages
    ∷ word.Pipes ∷ word.Ends ∷ word.Sleepers ∷ word.Output ∷ []

-- the first word of a table that is spelled so
abbrev pub word_among : List Word → List ℕ → Option Word
word_among table text = find (λ w. bytes_eq text (word_text w)) table

-- ---- commands

-- with no word behind it
abbrev pub if_alone : Command → List (List ℕ) → Command
if_alone command [] = command
if_alone command (argument ∷ arguments) = Other

-- `goto R`, `goto R K`
abbrev pub goto_numbers : Option ℕ → Option ℕ → Command
goto_numbers (Some round) (Some made) = Goto round made
goto_numbers _ _ = GotoForm

abbrev pub goto_from : List (List ℕ) → Command
goto_from (round ∷ []) = goto_numbers (decimal_from round) (Some 0)
goto_from (round ∷ made ∷ []) = goto_numbers (decimal_from round) (decimal_from made)
goto_from _ = GotoForm

-- `page ADDRESS`, `page ADDRESS P`
abbrev pub page_numbers : Option ℕ → Option (Option ℕ) → Command
page_numbers (Some address) (Some process) = Page address process
page_numbers _ _ = PageForm

abbrev pub page_from : List (List ℕ) → Command
page_from (address ∷ []) = page_numbers (address_from address) (Some None)
page_from (address ∷ process ∷ []) =
    page_numbers (address_from address) (option_map Some (decimal_from process))
page_from _ = PageForm

-- a process that need not be named
abbrev pub process_if_named : List (List ℕ) → Option (Option ℕ)
process_if_named [] = Some None
process_if_named (process ∷ []) = option_map Some (decimal_from process)
process_if_named _ = None

abbrev pub pages_from : List (List ℕ) → Command
pages_from arguments = unwrap_or (option_map Pages (process_if_named arguments)) Other

abbrev pub ends_from : List (List ℕ) → Command
ends_from arguments = unwrap_or (option_map Ends (process_if_named arguments)) Other

-- a command by its first word
abbrev pub command_by : Word → List (List ℕ) → Command
command_by word.Where arguments = if_alone Where arguments
command_by word.Goto arguments = goto_from arguments
command_by word.Threads arguments = if_alone Threads arguments
command_by word.Processes arguments = if_alone Processes arguments
command_by word.Page arguments = page_from arguments
command_by word.Pages arguments = pages_from arguments
command_by word.Pipes arguments = if_alone Pipes arguments
command_by word.Ends arguments = ends_from arguments
command_by word.Sleepers arguments = if_alone Sleepers arguments
command_by word.Output arguments = if_alone Output arguments

abbrev pub command_among : Option Word → List (List ℕ) → Command
command_among (Some w) arguments = command_by w arguments
command_among None arguments = Other

-- of all words
abbrev pub command_of : List (List ℕ) → Command
command_of [] = Other
command_of (name ∷ arguments) = command_among (word_among command_words name) arguments

-- of the text
abbrev pub command_from : List ℕ → Command
command_from text = command_of (words_between text)
