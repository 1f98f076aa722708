-- The bytes of the pages as a thread reads them are memory's with its words put in.
use Rattle.std.proofs.Common.{ℕ, ◌*◌, ◌≤◌, ◌≡◌, refl, ap, ◌∙◌, cond, Bool, true}
use Rattle.std.proofs.Common.{false}
use Rattle.std.proofs.Common.{List, [], ◌∷◌, ◌++◌, length, take, drop, Option, Some, arith}
use Rattle.std.specs.Str.{bytes_eq}
use Rattle.std.proofs.lemmas.List.{length-take, length-drop, take-append-drop}
use Rattle.std.proofs.lemmas.Slice.Eq.{bytes_eq-Decides}
use Rattle.page_store.specs.Store.{joined, shown}
use Rattle.page_store.proofs.Joined.{length-joined}
use Rattle.page_store.proofs.Pages.{whole-same}
use Rattle.written_words.specs.declared.Written.{Written}
use Rattle.written_words.specs.Words.{words_put}
use Rattle.written_words.proofs.Putting.{length-put}
use Rattle.quantum_run.specs.Buffering.{page_with, pages_read, pages_with}

pub length-taken : (n : ℕ) (bytes : List ℕ) → n ≤ length bytes → length (take n bytes) ≡ n
length-taken n bytes h = length-take n bytes ∙ omega (arith, h)

shown-with : (page : Option (List ℕ)) (bytes : List ℕ) → length bytes ≡ 4096
    → shown (page_with page bytes) ≡ bytes
shown-with page bytes count = by_test (bytes_eq (shown page) bytes) refl
  where
    by_test : (b : Bool) → bytes_eq (shown page) bytes ≡ b → shown (page_with page bytes) ≡ bytes
    by_test true q = ap (λ (c : Bool). shown (cond c page (Some bytes))) q
        ∙ (bytes_eq-Decides (shown page) bytes).0 q
    by_test false q = ap (λ (c : Bool). shown (cond c page (Some bytes))) q
        ∙ whole-same bytes count

joined-with : (pages : List (Option (List ℕ))) (bytes : List ℕ)
    → length bytes ≡ 4096 * length pages → joined (pages_with pages bytes) ≡ bytes
unfolding joined pages_with
joined-with [] [] count = refl
joined-with [] (b ∷ bytes) count = absurd (omega (arith, count))
joined-with (page ∷ pages) bytes count =
    ap (λ xs. xs ++ joined (pages_with pages (drop 4096 bytes)))
    (shown-with page (take 4096 bytes) (length-taken 4096 bytes (omega (arith, count))))
    ∙ ap (λ xs. take 4096 bytes ++ xs)
    (joined-with pages (drop 4096 bytes) (length-drop 4096 bytes ∙ omega (arith, count)))
    ∙ take-append-drop 4096 bytes

pub count-read : (pages : List (Option (List ℕ))) (words : List Written)
    → length (words_put (joined pages) words) ≡ 4096 * length pages
count-read pages words = length-put (joined pages) words ∙ length-joined pages

-- the bytes that are read
pub read-joined : (pages : List (Option (List ℕ))) (words : List Written)
    → joined (pages_read pages words) ≡ words_put (joined pages) words
read-joined pages words =
    joined-with pages (words_put (joined pages) words) (count-read pages words)
