-- Words that are put in memory leave how many bytes there are, each a byte, and Free frames zero;
-- and a store into a list of words leaves each a word of a frame that isn't Free.
use Rattle.std.proofs.Common.{ℕ, suc, ◌+◌, ◌*◌, ◌/◌, ◌%◌, ◌<◌, ◌≤◌, ◌≡◌, ◌≢◌, ◌⊎◌, inl, inr, refl}
use Rattle.std.proofs.Common.{sym, ap, ◌∙◌, subst, Bool, true, false, cond, eqb, List, [], ◌∷◌}
use Rattle.std.proofs.Common.{◌++◌, length, set, length-set, Option, Some, None, arith}
use Rattle.std.specs.Prelude.{All, slice_index_or}
use Rattle.std.specs.List.{list_any}
use Rattle.std.proofs.lemmas.Bool.{cases_lt, true≢false}
use Rattle.std.proofs.lemmas.List.{get_or-set_other}
use Rattle.std.proofs.lemmas.List.Elements.{All-head, All-tail, All-set, All-push, All-map}
use Rattle.std.proofs.lemmas.List.Elements.{All-weaker}
use Rattle.dos_world.specs.World.{World, is_free}
use Rattle.dos_world.specs.Bytes.{bytes_of}
use Rattle.dos_world.specs.Lawful.{Lawful, IsByte}
use Rattle.dos_world.specs.declared.Owner.{Owner}
use Rattle.dos_world.specs.declared.Owner.TheVariants.{Free}
use Rattle.written_words.specs.declared.Written.{Written}
use Rattle.written_words.specs.Words.{is_at, unwritten, with_bytes_from, with_word_changed}
use Rattle.written_words.specs.Words.{with_stored, word_put, words_put, written_by}
use Rattle.written_words.proofs.Indexing.{stored-is-word}
use Rattle.dos_laws.specs.Taken.{IsWordOf}
use Rattle.dos_laws.proofs.Frames.{bytes_of_bytes, lawful-with_frames}
use Rattle.dos_laws.proofs.Zeros.{AreZero}

-- ---- the bytes that a mask names

by-length : (mask : ℕ) (bytes : List ℕ) (place : ℕ) (new : List ℕ)
    → length (written_by mask bytes place new) ≡ length bytes
by-length mask bytes place [] = refl
by-length mask bytes place (b ∷ new) =
    by-length (mask / 2) (cond (eqb (mask % 2) 1) (set bytes place b) bytes) (suc place) new
    ∙ by_bit (eqb (mask % 2) 1)
  where
    by_bit : (c : Bool) → length (cond c (set bytes place b) bytes) ≡ length bytes
    by_bit true = length-set bytes place b
    by_bit false = refl

by-bytes : (mask : ℕ) (bytes : List ℕ) (place : ℕ) (new : List ℕ) → All IsByte bytes
    → All IsByte new → All IsByte (written_by mask bytes place new)
by-bytes mask bytes place [] all in_new = all
by-bytes mask bytes place (b ∷ new) all in_new =
    by-bytes (mask / 2) (cond (eqb (mask % 2) 1) (set bytes place b) bytes) (suc place) new
    (by_bit (eqb (mask % 2) 1)) (All-tail IsByte b new in_new)
  where
    by_bit : (c : Bool) → All IsByte (cond c (set bytes place b) bytes)
    by_bit true = All-set IsByte bytes place b (All-head IsByte b new in_new) all
    by_bit false = all

by-other : (mask : ℕ) (bytes : List ℕ) (place : ℕ) (new : List ℕ) (k : ℕ)
    → (k < place) ⊎ (place + length new ≤ k)
    → slice_index_or (written_by mask bytes place new) k 0 ≡ slice_index_or bytes k 0
by-other mask bytes place [] k out = refl
by-other mask bytes place (b ∷ new) k out =
    by-other (mask / 2) (cond (eqb (mask % 2) 1) (set bytes place b) bytes) (suc place) new k
    (later out) ∙ by_bit (eqb (mask % 2) 1)
  where
    later : (k < place) ⊎ (place + suc (length new) ≤ k)
        → (k < suc place) ⊎ (suc place + length new ≤ k)
    later (inl h) = inl (omega (arith, h))
    later (inr h) = inr (omega (arith, h))

    apart : (k < place) ⊎ (place + suc (length new) ≤ k) → k ≢ place
    apart (inl h) e = omega (arith, h, e)
    apart (inr h) e = omega (arith, h, e)

    by_bit : (c : Bool) → slice_index_or (cond c (set bytes place b) bytes) k 0
        ≡ slice_index_or bytes k 0
    by_bit true = get_or-set_other bytes place k b 0 (apart out)
    by_bit false = refl

-- ---- words put in memory

pub put-length : (words : List Written) (bytes : List ℕ)
    → length (words_put bytes words) ≡ length bytes
put-length [] bytes = refl
put-length (x ∷ words) bytes =
    put-length words (word_put bytes x)
    ∙ by-length x.mask bytes (4096 * x.frame + x.offset) (bytes_of 4 x.value)

pub put-bytes : (words : List Written) (bytes : List ℕ) → All IsByte bytes
    → All IsByte (words_put bytes words)
put-bytes [] bytes all = all
put-bytes (x ∷ words) bytes all =
    put-bytes words (word_put bytes x)
    (by-bytes x.mask bytes (4096 * x.frame + x.offset) (bytes_of 4 x.value) all
    (bytes_of_bytes 4 x.value))

word-zeros : (owners : List Owner) (bytes : List ℕ) (x : Written) → IsWordOf owners x
    → AreZero owners bytes → AreZero owners (word_put bytes x)
word-zeros owners bytes x is zeros frame offset free within =
    by-other x.mask bytes (4096 * x.frame + x.offset) (bytes_of 4 x.value) (4096 * frame + offset)
    (by_order (cases_lt frame x.frame))
    ∙ zeros frame offset free within
  where
    other : frame ≢ x.frame
    other same =
        true≢false (sym (ap is_free (ap (λ f. slice_index_or owners f Free) (sym same) ∙ free))
        ∙ is.owned)

    by_order : (frame < x.frame) ⊎ (x.frame ≤ frame)
        → (4096 * frame + offset < 4096 * x.frame + x.offset)
        ⊎ (4096 * x.frame + x.offset + 4 ≤ 4096 * frame + offset)
    by_order (inl below) = inl (omega (arith, below, within))
    by_order (inr above) = inr (omega (arith, above, other, is.word.aligned, is.word.within))

pub put-zeros : (owners : List Owner) (words : List Written) (bytes : List ℕ)
    → All (IsWordOf owners) words → AreZero owners bytes → AreZero owners (words_put bytes words)
put-zeros owners [] bytes all zeros = zeros
put-zeros owners (x ∷ words) bytes all zeros =
    put-zeros owners words (word_put bytes x) (All-tail (IsWordOf owners) x words all)
    (word-zeros owners bytes x (All-head (IsWordOf owners) x words all) zeros)

pub lawful-put : (w : World) (words : List Written) → All (IsWordOf w.owners) words → Lawful w
    → Lawful (record w { bytes = words_put w.bytes words })
lawful-put w words all l =
    lawful-with_frames w w.owners (words_put w.bytes words) (record {
      places = refl;
      count = put-length words w.bytes;
      range = put-bytes words w.bytes l.frames.bytes.1;
      free = l.frames.free;
      zeros = put-zeros w.owners words w.bytes all l.frames.zeros;
      owned = l.frames.owned;
    }) l

-- ---- a store into the list

-- into one of its words, or a new one
pub words-stored : (owners : List Owner) (words : List Written) (frame offset n : ℕ)
    (new : List ℕ) → length new ≡ n → offset % 4 + n ≤ 4 → offset < 4096
    → is_free (slice_index_or owners frame Free) ≡ false → All (IsWordOf owners) words
    → (after : List Written) → with_stored words frame offset new ≡ Some after
    → All (IsWordOf owners) after
words-stored owners words frame offset n new long fits small owned all after is =
    by_found (list_any (is_at frame (offset / 4 * 4)) words) is
  where
    change : Written → Written
    change = with_bytes_from (offset % 4) new

    kept : (x : Written) → IsWordOf owners x → IsWordOf owners (change x)
    kept x h = record {
      word = stored-is-word x (offset % 4) n new long fits h.word;
      owned = h.owned;
    }

    fresh : IsWordOf owners (change (unwritten frame (offset / 4 * 4)))
    fresh = kept (unwritten frame (offset / 4 * 4)) (record {
      word = record {
        aligned = omega arith;
        within = omega (arith, small);
        mask = omega arith;
      };
      owned = owned;
    })

    one : (c : Bool) (x : Written) → IsWordOf owners x → IsWordOf owners (cond c (change x) x)
    one true x h = kept x h
    one false x h = h

    Some-words : {x y : List Written} → ◌≡◌ {A = Option (List Written)} (Some x) (Some y) → x ≡ y
    Some-words q = cc

    none≢some : {x : List Written} → ◌≡◌ {A = Option (List Written)} None (Some x) → ⊥
    none≢some q = cc

    by_room : (b : Bool)
        → cond b None (Some (words ++ change (unwritten frame (offset / 4 * 4)) ∷ [])) ≡ Some after
        → All (IsWordOf owners) after
    by_room true q = absurd (none≢some q)
    by_room false q =
        subst (All (IsWordOf owners)) (Some-words q)
        (All-push (IsWordOf owners) words (change (unwritten frame (offset / 4 * 4))) all fresh)

    by_found : (b : Bool)
        → cond b (Some (with_word_changed frame (offset / 4 * 4) change words))
        (cond (eqb (length words) 1024) None
        (Some (words ++ change (unwritten frame (offset / 4 * 4)) ∷ []))) ≡ Some after
        → All (IsWordOf owners) after
    by_found true q =
        subst (All (IsWordOf owners)) (Some-words q)
        (All-map (IsWordOf owners) (λ x. cond (is_at frame (offset / 4 * 4) x) (change x) x) words
        (All-weaker (IsWordOf owners)
        (λ x. IsWordOf owners (cond (is_at frame (offset / 4 * 4) x) (change x) x))
        (λ x h. one (is_at frame (offset / 4 * 4) x) x h) words all))
    by_found false q = by_room (eqb (length words) 1024) q
