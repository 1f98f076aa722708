-- How written words are found: each is in one of 1,024 chains, whose last word is known, and each
-- word knows the one before it in its chain. This project's own rules.
use Rattle.std.specs.Prelude.{ℕ, suc, ◌≡◌, ◌+◌, ◌*◌, ◌/◌, ◌%◌, ◌<◌, ◌≤◌, List, All, length, Some}
use Rattle.std.specs.Prelude.{Bool, true, false, ◌≢◌, slice_get, slice_index, slice_index_or}
use Rattle.written_words.specs.declared.Written.{Written}
use Rattle.written_words.specs.Words.{is_at, most_words}

-- the chain of a frame and an offset; no two words of one page have the same
abbrev pub chain_of : (frame offset : ℕ) → ℕ
chain_of frame offset = (frame % 1024 * 389 + offset / 4) % 1024

-- The place, counted from 1, of the last word of this chain among the first n, or 0 for none.
pub record IsLast (words : List Written) (n chain place : ℕ) : Type 0 where
  pub within : place ≤ n
  pub own : (i : ℕ) (x : Written) → suc i ≡ place → slice_get words i ≡ Some x
      → chain_of x.frame x.offset ≡ chain
  pub last : (i : ℕ) (x : Written) → i < n → slice_get words i ≡ Some x
      → chain_of x.frame x.offset ≡ chain → i < place

-- a word lies in a page, and has four bytes
pub record IsAlignedWord (x : Written) : Type 0 where
  pub aligned : x.offset % 4 ≡ 0
  pub within : x.offset < 4096
  pub mask : x.mask < 16

-- What is kept beside the words: for each the place of the one before it in its chain, and for each
-- chain the place of its last.
pub record IsIndexed (words : List Written) (before last : List ℕ) : Type 0 where
  pub few : length words ≤ most_words
  pub chains : length last ≡ 1024
  pub level : length before ≡ length words
  pub each : All IsAlignedWord words
  -- no word twice
  pub apart : (i j : ℕ) (x y : Written) → slice_get words i ≡ Some x → slice_get words j ≡ Some y
      → x.frame ≡ y.frame → x.offset ≡ y.offset → i ≡ j
  pub heads : (chain : ℕ) → chain < 1024
      → IsLast words (length words) chain (slice_index last chain)
  pub links : (i : ℕ) (x : Written) → slice_get words i ≡ Some x
      → IsLast words i (chain_of x.frame x.offset) (slice_index before i)

-- Of 256 marks, that of each word's frame is set.
pub record FramesAreMarked (words : List Written) (marks : List Bool) : Type 0 where
  pub count : length marks ≡ 256
  pub each : (i : ℕ) (x : Written) → slice_get words i ≡ Some x
      → slice_index_or marks (x.frame % 256) false ≡ true

-- no word is of this frame
abbrev pub HasNoneOf : List Written → (frame : ℕ) → Type 0
HasNoneOf words frame =
    (i : ℕ) (x : Written) → slice_get words i ≡ Some x → x.frame ≢ frame

-- the only word of this frame and offset stands at this place
pub record IsFound (words : List Written) (frame offset place : ℕ) : Type 0 where
  pub word : Written
  pub here : slice_get words place ≡ Some word
  pub is : is_at frame offset word ≡ true
  pub only : (i : ℕ) (x : Written) → slice_get words i ≡ Some x
      → x.frame ≡ frame → x.offset ≡ offset → i ≡ place
