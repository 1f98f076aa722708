-- Posts that are tested first, and read from their text later.
use Rattle.std.proofs.Common.{◌≡◌, ◌∙◌, ℕ, suc, ◌+◌, ◌-◌, ◌≤◌, ◌<◌, List, [], ◌∷◌, ◌++◌, length}
use Rattle.std.proofs.Common.{take, drop, slice_index_or, Result, Ok, Err, refl, sym, ap, arith}
use Rattle.std.specs.Int.{w32, from_le_bytes}
use Rattle.std.specs.List.{flat_map}
use Rattle.std.proofs.lemmas.List.{take_at, drop_at, length-append}
use Rattle.std.proofs.lemmas.List.Concat.{flat_map-cons}
use Rattle.dos_world.specs.declared.Post.{Post}
use Rattle.dos_io.specs.Posts.{ArePosts}
use Rattle.text_fields.specs.declared.refusal.FieldError.{FieldError}
use Rattle.text_fields.specs.Formats.{many}
use Rattle.text_fields.specs.Reading.{◌>>=◌, read_list}
use Rattle.text_fields.proofs.FormatLaws.{many_format, wide32}
use Rattle.log_text.specs.Bytes.{IsBytes}
use Rattle.log_text.specs.Gives.{behind}
use Rattle.log_text.specs.LogText.{post_text}
use Rattle.log_text.specs.Rows.{post_row}
use Rattle.log_text.specs.Views.{posts_in_text}
use Rattle.log_text.proofs.RowLaws.{post_format, posts_of, posts_text}

-- ---- passing posts one after the other, as a loop does

behind_first : (post : Post) (others : Result (List Post × List ℕ) FieldError)
    → behind (others >>= λ x. Ok (post ∷ x.0, x.1)) ≡ behind others
behind_first post (Ok x) = refl
behind_first post (Err e) = refl

pub pass_goes_on : (count i end : ℕ) (bytes : List ℕ) (post : Post) (after : List ℕ)
    (total : Result (List ℕ) FieldError) → i < count → post_row.read end bytes ≡ Ok (post, after)
    → behind ((many (count - i) post_row).read end bytes) ≡ total
    → behind ((many (count - (i + 1)) post_row).read end after) ≡ total
unfolding read_list
pass_goes_on count i end bytes post after total lt h so_far =
    let k : count - i ≡ suc (count - (i + 1)) = omega arith in
    let one : behind ((many (count - i) post_row).read end bytes)
    ≡ behind ((many (count - (i + 1)) post_row).read end after) =
    rw (k, h) (behind_first post ((many (count - (i + 1)) post_row).read end after)) in
    sym one ∙ so_far

pub pass_ends : (e : FieldError) (count i end : ℕ) (bytes : List ℕ)
    (total : Result (List ℕ) FieldError) → i < count → post_row.read end bytes ≡ Err e
    → behind ((many (count - i) post_row).read end bytes) ≡ total → total ≡ Err e
unfolding read_list
pass_ends e count i end bytes total lt h so_far =
    let k : count - i ≡ suc (count - (i + 1)) = omega arith in
    let one : behind ((many (count - i) post_row).read end bytes) ≡ Err e = rw (k, h) refl in
    sym so_far ∙ one

pub pass_is_done : (count i end : ℕ) (bytes : List ℕ) (total : Result (List ℕ) FieldError)
    → count ≤ i → behind ((many (count - i) post_row).read end bytes) ≡ total → total ≡ Ok bytes
unfolding read_list
pass_is_done count i end bytes total le so_far =
    let k : count - i ≡ 0 = omega arith in
    let one : behind ((many (count - i) post_row).read end bytes) ≡ Ok bytes = rw k refl in
    sym so_far ∙ one

-- ---- their text

posts_again : (posts : List Post) → ArePosts posts
    → posts_in_text (flat_map post_text posts) ≡ posts
posts_again [] fits = refl
posts_again (post ∷ posts) fits =
    ap posts_in_text (flat_map-cons post_text post posts)
    ∙ ap (λ (pid : ℕ). record { pid = pid; signal = post.signal } ∷ posts_in_text
    (flat_map post_text posts)) (wide32.again post.pid (omega (arith, fits.0.pid)))
    ∙ ap (λ (others : List Post). post ∷ others) (posts_again posts fits.1)

abbrev done : List ℕ → Result (List ℕ) FieldError
done left = Ok left

behind_ok : {Y : Type 0} (read : Result (Y × List ℕ) FieldError) (rest : List ℕ)
    → behind read ≡ Ok rest → (y : Y) × (read ≡ Ok (y, rest))
behind_ok (Ok x) rest e = (x.0, ap (λ (left : List ℕ). Ok (x.0, left)) (same x.1 rest e))
  where
    same : (a b : List ℕ) → done a ≡ done b → a ≡ b
    same a b is = cc
behind_ok (Err d) rest e = absurd cc

-- The bytes before the rest are the text of these posts.
pub record PostsIn (count end : ℕ) (bytes rest : List ℕ) : Type 0 where
  pub short : length rest ≤ length bytes
  pub read : (many count post_row).read end bytes
      ≡ Ok (
        posts_in_text (take (length bytes - length rest) bytes),
        drop (length bytes - length rest) bytes,
      )

pub posts_in : (count end : ℕ) (bytes rest : List ℕ) → IsBytes bytes
    → behind ((many count post_row).read end bytes) ≡ Ok rest → PostsIn count end bytes rest
posts_in count end bytes rest fits is =
    let found = behind_ok ((many count post_row).read end bytes) rest is in
    let spelled = (many_format count post_row post_format).spells end bytes (found.0, rest) fits
    found.1 in
    let text : List ℕ = flat_map post_text found.0 in
    let parts : bytes ≡ text ++ rest =
    spelled.parts ∙ ap (λ (t : List ℕ). t ++ rest) (posts_text 0 found.0) in
    let long : length bytes ≡ length text + length rest =
    ap length parts ∙ length-append text rest in
    let len : length text ≡ length bytes - length rest = omega (arith, long) in
    let front : take (length bytes - length rest) bytes ≡ text =
    ap (take (length bytes - length rest)) parts
    ∙ take_at text rest (length bytes - length rest) len in
    let left : drop (length bytes - length rest) bytes ≡ rest =
    ap (drop (length bytes - length rest)) parts
    ∙ drop_at text rest (length bytes - length rest) len in
    let shown : posts_in_text (take (length bytes - length rest) bytes) ≡ found.0 =
    ap posts_in_text front ∙ posts_again found.0 (posts_of count 0 found.0 spelled.fits) in
    record {
      short = omega (arith, long);
      read = found.1 ∙ ap (λ (posts : List Post). Ok (posts, rest)) (sym shown)
          ∙ ap (λ (others : List ℕ). Ok (
            posts_in_text (take (length bytes - length rest) bytes),
            others,
          )) (sym left);
    }

-- ---- reading them

pub no_posts : (bytes : List ℕ) → length bytes < 5 → posts_in_text bytes ≡ []
no_posts (a ∷ b ∷ c ∷ d ∷ e ∷ bytes) few = absurd (omega arith)
no_posts bytes few = refl

pub first_is : (bytes front rest : List ℕ) (pid : ℕ) → 5 ≤ length bytes → front ≡ take 5 bytes
    → rest ≡ drop 5 bytes
    → pid ≡ from_le_bytes w32 front
    → posts_in_text bytes
    ≡ record { pid = pid; signal = slice_index_or front 4 0 } ∷ posts_in_text rest
first_is (a ∷ b ∷ c ∷ d ∷ e ∷ bytes) front rest pid le is left sum = rw (sum, is, left) refl
first_is bytes front rest pid le is left sum = absurd (omega arith)
