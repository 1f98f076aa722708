-- How long the texts of logs are.
use Rattle.std.proofs.Common.{◌≡◌, ◌∙◌, ℕ, ◌+◌, ◌*◌, List, [], ◌∷◌, ◌++◌, length, Ok, refl}
use Rattle.std.proofs.Common.{sym, ap, arith}
use Rattle.std.specs.List.{concat, flat_map}
use Rattle.std.proofs.lemmas.List.{length-append}
use Rattle.std.proofs.lemmas.List.Concat.{flat_map-cons}
use Rattle.dos_world.specs.declared.Post.{Post}
use Rattle.dos_io.specs.declared.exchange.Exchange.TheVariants.{Signals, Input, End}
use Rattle.log_text.specs.declared.header.LogHeader.{LogHeader}
use Rattle.log_text.specs.declared.version.LogVersion.{LogVersion}
use Rattle.log_text.specs.Bytes.{IsBytes, AreDigests}
use Rattle.log_text.specs.LogText.{Log, header_text, post_text, entry_text, entries_text, logtext}
use Rattle.log_text.specs.Ranges.{FitsLog}
use Rattle.log_text.specs.Reading.{log_at}
use Rattle.log_text.proofs.Steps.{ok_is}
use Rattle.log_text.proofs.LogLaws.{log_takes, log_again}

posts_length : (list : List Post) → length (flat_map post_text list) ≡ 5 * length list
posts_length [] = refl
posts_length (post ∷ list) = ap length (flat_map-cons post_text post list)
    ∙ length-append (post_text post) (flat_map post_text list) ∙ omega (arith, posts_length list)

digests_length : (digests : List (List ℕ)) → AreDigests digests
    → length (concat digests) ≡ 32 * length digests
digests_length [] fits = refl
digests_length (d ∷ ds) fits = length-append d (concat ds)
    ∙ omega (arith, fits.0.len, digests_length ds fits.1)

pub header_length : (v : LogVersion) (h : LogHeader) → AreDigests h.digests
    → length (header_text v h) ≡ 20 + 32 * length h.digests
header_length v h fits = omega (arith, digests_length h.digests fits)

pub signals_length : (round : ℕ) (list : List Post)
    → length (entry_text (Signals round list)) ≡ 6 + 5 * length list
signals_length round list = omega (arith, posts_length list)

pub input_length : (round tid max : ℕ) (bytes : List ℕ)
    → length (entry_text (Input round tid max bytes)) ≡ 13 + length bytes
input_length round tid max bytes = omega arith

pub text_length : (log : Log) → length (logtext log)
    ≡ length (header_text log.version log.header)
    + length (entries_text log.version log.entries) + 6
text_length log =
    let last : List ℕ = entry_text (End log.ending log.rounds) in
    length-append (header_text log.version log.header ++ entries_text log.version log.entries) last
    ∙ ap (λ (n : ℕ). n + 6) (length-append (header_text log.version log.header)
    (entries_text log.version log.entries))

pub ranges_of_read : (bytes : List ℕ) (log : Log) → IsBytes bytes → log_at bytes ≡ Ok log
    → FitsLog log
ranges_of_read bytes log fits read = (log_takes bytes log fits read).fits

pub one_log : (a b : Log) → FitsLog a → FitsLog b → logtext a ≡ logtext b → a ≡ b
one_log a b p q same = ok_is a b (sym (log_again a p) ∙ ap log_at same ∙ log_again b q)
