-- What clap takes and what it refuses.
use Rattle.std.proofs.Common.{◌≡◌, ◌∙◌, inl, inr, refl, sym, ap, ap₂, true, List, [], ◌∷◌, Option}
use Rattle.std.proofs.Common.{None, Err, subst}
use Rattle.std.specs.Prelude.{option_and_then}
use Rattle.clap.specs.Words.{App, Row, kind_of, is_simple, is_simple_and_free, fault_of}
use Rattle.clap.specs.Words.{subcommand_of}
use Rattle.clap.specs.Kinds.{Kinds, HasKind}
use Rattle.clap.specs.declared.error.Error.{Error}
use Rattle.clap.specs.declared.error.kind.ErrorKind.TheVariants as kind
use Rattle.clap.proofs.OnLiterals.{clap_on_literals}
use Rattle.dos_words.specs.declared.request.Request.{Request}
use Rattle.dos_words.specs.declared.error.WordsError.{WordsError}
use Rattle.dos_words.specs.declared.error.WordsError.TheVariants.{Refused, Memory}
use Rattle.dos_words.specs.Numbers.{Text}
use Rattle.dos_words.specs.Reads.{Reads, Takes}
use Rattle.dos_words.specs.Clap.{words_app, asked_by, where_taken, clap_request}

-- clap's own definition says all of these commands
pub simple : is_simple words_app ≡ true
unfolding clap_on_literals
simple = refl

pub simple_and_free : is_simple_and_free words_app ≡ true
unfolding clap_on_literals
simple_and_free = refl

pub refused_by : (kinds : Kinds) (e : Error) (asked : Option Request) → HasKind kinds e
    → (kind_of e ≡ kind.OutOfMemory → ⊥) → where_taken kinds asked ≡ None
refused_by [] e asked (inl memory) not = absurd (not memory)
refused_by [] e asked (inr none) not = absurd none
refused_by (k ∷ ks) e asked has not = refl

pub taken_by : (app : App) (words : List Text) (found : Option (Text × List Row))
    → app ≡ words_app → fault_of app words ≡ [] → found ≡ subcommand_of app words
    → clap_request words ≡ option_and_then asked_by found
taken_by app words found same fault is =
    ap₂ where_taken (ap (λ (a : App). fault_of a words) (sym same) ∙ fault)
    (ap (option_and_then asked_by)
    (ap (λ (a : App). subcommand_of a words) (sym same) ∙ sym is))

-- where clap has an error, and why there is no request then
pub takes_none : (why : WordsError) (e : Error) (words : List Text) (app : App)
    → app ≡ words_app → HasKind (fault_of app words) e
    → (why ≡ Refused → kind_of e ≡ kind.OutOfMemory → ⊥) → Takes (Err why) words
takes_none Memory e words app same has not = tt
takes_none Refused e words app same has not =
    refused_by (fault_of words_app words) e _
    (subst (λ (a : App). HasKind (fault_of a words) e) same has) (not refl)

-- what takes nothing reads nothing
pub reads_none : (why : WordsError) (words : List Text) → Takes (Err why) words
    → Reads {A = Request} (Err why) (clap_request words)
reads_none Memory words takes = tt
reads_none Refused words takes = takes
