-- What is written is read back.
use Rattle.std.proofs.Common.{◌≡◌, ◌+◌, ◌*◌, ◌/◌, ◌%◌, ◌^◌, ◌<◌, ◌≤◌, ℕ, suc, zero, List, [], ◌∷◌}
use Rattle.std.proofs.Common.{◌++◌}
use Rattle.std.proofs.Common.{Option, Some, None, Bool, true, false, cond, ltb, eqb, arith, refl}
use Rattle.std.proofs.Common.{ap, sym}
use Rattle.std.proofs.Common.{◌∙◌, append_assoc, length, length-append, option_map, drop, bytes_eq}
use Rattle.std.proofs.Math.Nat.{pow-suc}
use Rattle.std.proofs.lemmas.Bool.{ltb-true, lt-ltb, le-ltb, le-leb, eqb-true, eq-eqb}
use Rattle.std.proofs.lemmas.List.{take_at, drop_at}
use Rattle.std.specs.List.{AllByRecursion, position_or_len}
use Rattle.gdb_packets.specs.Hexadecimal.{◌>>=◌, nibble_of, nibble_text, nibbles, nibbles_behind}
use Rattle.gdb_packets.specs.Hexadecimal.{number_from, number_digits, byte_digits, bytes_digits}
use Rattle.gdb_packets.specs.Hexadecimal.{bytes_from}
use Rattle.gdb_packets.specs.Around.{is_mark, around}
use Rattle.gdb_packets.specs.Ids.{which_from, which_text, process_from, id_text}
use Rattle.gdb_packets.specs.Ids.{id_from}
use Rattle.gdb_packets.specs.declared.ids.Which.{Which}
use Rattle.gdb_packets.specs.declared.ids.Which.TheVariants.{All, Any, Only}
use Rattle.gdb_packets.specs.declared.ids.ThreadId.TheVariants.{Both, ProcessAlone, ThreadAlone}
use Rattle.gdb_packets.specs.ReadBack.{AreReadBack, IsNumber, AreBytes, IsWhich, IsThreadId}

-- ---- digits

-- a digit from 8 on
upper_again : (d : ℕ) → d < 8
    → nibble_of (nibble_text (suc (suc (suc (suc (suc (suc (suc (suc d)))))))))
    ≡ Some (suc (suc (suc (suc (suc (suc (suc (suc d))))))))
upper_again zero h = refl
upper_again (suc zero) h = refl
upper_again (suc (suc zero)) h = refl
upper_again (suc (suc (suc zero))) h = refl
upper_again (suc (suc (suc (suc zero)))) h = refl
upper_again (suc (suc (suc (suc (suc zero))))) h = refl
upper_again (suc (suc (suc (suc (suc (suc zero)))))) h = refl
upper_again (suc (suc (suc (suc (suc (suc (suc zero))))))) h = refl
upper_again (suc (suc (suc (suc (suc (suc (suc (suc d)))))))) h = absurd (omega (arith, h))

pub nibble_again : (d : ℕ) → d < 16 → nibble_of (nibble_text d) ≡ Some d
nibble_again zero h = refl
nibble_again (suc zero) h = refl
nibble_again (suc (suc zero)) h = refl
nibble_again (suc (suc (suc zero))) h = refl
nibble_again (suc (suc (suc (suc zero)))) h = refl
nibble_again (suc (suc (suc (suc (suc zero))))) h = refl
nibble_again (suc (suc (suc (suc (suc (suc zero)))))) h = refl
nibble_again (suc (suc (suc (suc (suc (suc (suc zero))))))) h = refl
nibble_again (suc (suc (suc (suc (suc (suc (suc (suc d)))))))) h =
    upper_again d (omega (arith, h))

-- one list of digits behind another
behind_both : (n : ℕ) (xs ys : List ℕ)
    → nibbles_behind n (xs ++ ys) ≡ nibbles_behind n xs >>= λ v. nibbles_behind v ys
behind_both n [] ys = refl
behind_both n (c ∷ cs) ys = go (nibble_of c) (λ d. behind_both (n * 16 + d) cs ys)
  where
    go : (o : Option ℕ)
        → ((d : ℕ) → nibbles_behind (n * 16 + d) (cs ++ ys)
        ≡ nibbles_behind (n * 16 + d) cs >>= λ v. nibbles_behind v ys)
        → (o >>= λ d. nibbles_behind (n * 16 + d) (cs ++ ys))
        ≡ (o >>= λ d. nibbles_behind (n * 16 + d) cs) >>= λ v. nibbles_behind v ys
    go None h = refl
    go (Some d) h = h d

-- one digit
behind_digit : (n d : ℕ) → d < 16 → nibbles_behind n (nibble_text d ∷ []) ≡ Some (n * 16 + d)
behind_digit n d h = ap (λ o. o >>= λ e. Some (n * 16 + e)) (nibble_again d h)

quotient_below : (n p : ℕ) → n < p * 16 → n / 16 < p
quotient_below n p h = omega arith

pub digits_again : (more n : ℕ) → n < 16 ^ suc more → nibbles_behind 0 (nibbles more n) ≡ Some n
digits_again zero n h =
    let small : n < 16 = omega (arith, h) in
    let same : n % 16 ≡ n = omega arith in
    ap (λ v. nibbles_behind 0 (nibble_text v ∷ [])) same ∙ behind_digit 0 n small
    ∙ ap Some (omega arith)
digits_again (suc more) n h = go (ltb n 16) refl (digits_again more (n / 16) below)
  where
    whole : n / 16 * 16 + n % 16 ≡ n
    whole = omega arith

    below : n / 16 < 16 ^ suc more
    below = quotient_below n (16 ^ suc more) (rw pow-suc at h)

    go : (b : Bool) → ltb n 16 ≡ b
        → nibbles_behind 0 (nibbles more (n / 16)) ≡ Some (n / 16)
        → nibbles_behind 0
        (cond b (nibble_text n ∷ []) (nibbles more (n / 16) ++ nibble_text (n % 16) ∷ [])) ≡ Some n
    go true t again = behind_digit 0 n (ltb-true _ _ t) ∙ ap Some (omega arith)
    go false t again =
        behind_both 0 (nibbles more (n / 16)) (nibble_text (n % 16) ∷ [])
        ∙ ap (λ o. o >>= λ v. nibbles_behind v (nibble_text (n % 16) ∷ [])) again
        ∙ behind_digit (n / 16) (n % 16) (omega arith)
        ∙ ap Some whole

-- how many digits
pub record HasDigits (most : ℕ) (digits : List ℕ) : Type 0 where
  pub some : 1 ≤ length digits
  pub few : length digits ≤ most

pub digits_count : (more n : ℕ) → HasDigits (suc more) (nibbles more n)
digits_count zero n = record { some = omega arith; few = omega arith }
digits_count (suc more) n = go (ltb n 16) (digits_count more (n / 16))
  where
    go : (b : Bool) → HasDigits (suc more) (nibbles more (n / 16)) → HasDigits (suc (suc more))
        (cond b (nibble_text n ∷ []) (nibbles more (n / 16) ++ nibble_text (n % 16) ∷ []))
    go true h = record { some = omega arith; few = omega arith }
    go false h =
        let e : length (nibbles more (n / 16) ++ nibble_text (n % 16) ∷ [])
        ≡ length (nibbles more (n / 16)) + 1 =
        length-append (nibbles more (n / 16)) (nibble_text (n % 16) ∷ []) in
        record { some = omega (arith, e, h.some); few = omega (arith, e, h.few) }

number_by : (text : List ℕ) (n : ℕ) → HasDigits 8 text → nibbles_behind 0 text ≡ Some n
    → number_from text ≡ Some n
number_by text n h e =
    let low : 1 ≤ length text = h.some in
    let high : length text ≤ 8 = h.few in
    rw (le-leb 1 (length text) low, le-leb (length text) 8 high) e

pub number_again : AreReadBack IsNumber number_digits number_from
unfolding number_digits
number_again n h = number_by (nibbles 7 n) n (digits_count 7 n) (digits_again 7 n h)

-- ---- a text without a mark

abbrev pub IsApart : ℕ → List ℕ → Type 0
IsApart mark text = AllByRecursion (λ c. is_mark mark c ≡ false) text

pub apart_both : (mark : ℕ) (xs ys : List ℕ) → IsApart mark xs → IsApart mark ys
    → IsApart mark (xs ++ ys)
apart_both mark [] ys h k = k
apart_both mark (x ∷ xs) ys h k = (h.0, apart_both mark xs ys h.1 k)

pub digit_apart : (mark d : ℕ) → nibble_of mark ≡ None → d < 16
    → is_mark mark (nibble_text d) ≡ false
digit_apart mark d none h = go (eqb (nibble_text d) mark) refl
  where
    go : (b : Bool) → eqb (nibble_text d) mark ≡ b → b ≡ false
    go true e =
        let same : nibble_of (nibble_text d) ≡ nibble_of mark = ap nibble_of (eqb-true _ _ e) in
        let wrong : Some d ≡ None = sym (nibble_again d h) ∙ same ∙ none in absurd cc
    go false e = refl

digits_apart : (mark more n : ℕ) → nibble_of mark ≡ None → IsApart mark (nibbles more n)
digits_apart mark zero n none = (digit_apart mark (n % 16) none (omega arith), tt)
digits_apart mark (suc more) n none = go (ltb n 16) refl (digits_apart mark more (n / 16) none)
  where
    go : (b : Bool) → ltb n 16 ≡ b → IsApart mark (nibbles more (n / 16))
        → IsApart mark
        (cond b (nibble_text n ∷ []) (nibbles more (n / 16) ++ nibble_text (n % 16) ∷ []))
    go true t h = (digit_apart mark n none (ltb-true _ _ t), tt)
    go false t h = apart_both mark (nibbles more (n / 16)) (nibble_text (n % 16) ∷ []) h
        (digit_apart mark (n % 16) none (omega arith), tt)

pub number_apart : (mark n : ℕ) → nibble_of mark ≡ None → IsApart mark (number_digits n)
unfolding number_digits
number_apart mark n none = digits_apart mark 7 n none

pub number_some : (n : ℕ) → 1 ≤ length (number_digits n)
unfolding number_digits
number_some n = (digits_count 7 n).some

-- ---- around a mark

apart_place : (mark : ℕ) (text : List ℕ) → IsApart mark text
    → position_or_len (is_mark mark) text ≡ length text
apart_place mark [] h = refl
apart_place mark (c ∷ cs) h = rw (h.0, apart_place mark cs h.1) (omega arith)

mark_place : (mark : ℕ) (text rest : List ℕ) → IsApart mark text
    → position_or_len (is_mark mark) (text ++ mark ∷ rest) ≡ length text
mark_place mark [] rest h = rw (eq-eqb mark mark refl) refl
mark_place mark (c ∷ cs) rest h = rw (h.0, mark_place mark cs rest h.1) (omega arith)

pub around_apart : (mark : ℕ) (text : List ℕ) → IsApart mark text → around mark text ≡ None
around_apart mark text h =
    rw (apart_place mark text h, le-ltb (length text) (length text) (omega arith)) refl

pub around_again : (mark : ℕ) (text rest : List ℕ) → IsApart mark text
    → around mark (text ++ mark ∷ rest) ≡ Some (text, rest)
around_again mark text rest h =
    let e : length (text ++ mark ∷ rest) ≡ length text + suc (length rest) =
    length-append text (mark ∷ rest) in
    let lt : length text < length (text ++ mark ∷ rest) = omega (arith, e) in
    let back : drop (length text + 1) (text ++ mark ∷ rest) ≡ rest =
    ap (drop (length text + 1)) (sym (append_assoc text (mark ∷ []) rest))
    ∙ drop_at (text ++ mark ∷ []) rest (length text + 1)
    (length-append text (mark ∷ []) ∙ refl) in
    rw (mark_place mark text rest h, lt-ltb _ _ lt, take_at text (mark ∷ rest) _ refl, back) refl

-- ---- ids

not_all : (text : List ℕ) → 1 ≤ length text → IsApart 45 text
    → bytes_eq text (45 ∷ 49 ∷ []) ≡ false
not_all [] some h = absurd (omega (arith, some))
not_all (c ∷ cs) some h = rw (h.0) refl

not_zero : (n : ℕ) → 0 < n → eqb n 0 ≡ false
not_zero n h = go (eqb n 0) refl
  where
    go : (b : Bool) → eqb n 0 ≡ b → b ≡ false
    go true e = absurd (omega (arith, h, eqb-true n 0 e))
    go false e = refl

pub which_again : (w : Which) → IsWhich w → which_from (which_text w) ≡ Some w
which_again All h = refl
which_again Any h = refl
which_again (Only n) h =
    rw (
      not_all (number_digits n) (number_some n) (number_apart 45 n refl),
      number_again n h.1,
      not_zero n h.0,
    ) refl

pub which_apart : (mark : ℕ) (w : Which) → nibble_of mark ≡ None → is_mark mark 45 ≡ false
    → IsApart mark (which_text w)
which_apart mark All none m = (m, (digit_apart mark 1 none (omega arith), tt))
which_apart mark Any none m = (digit_apart mark 0 none (omega arith), tt)
which_apart mark (Only n) none m = number_apart mark n none

-- ---- bytes

byte_behind : (b : ℕ) (rest : List ℕ) → b < 256
    → bytes_from (byte_digits b ++ rest) ≡ bytes_from rest >>= λ bytes. Some (b ∷ bytes)
byte_behind b rest h =
    let whole : b / 16 * 16 + b % 16 ≡ b = omega arith in
    let high : nibble_of (nibble_text (b / 16)) ≡ Some (b / 16) =
    nibble_again (b / 16) (omega arith) in
    let low : nibble_of (nibble_text (b % 16)) ≡ Some (b % 16) =
    nibble_again (b % 16) (omega arith) in
    rw (high, low) (ap (λ v. bytes_from rest >>= λ bytes. Some (v ∷ bytes)) whole)

pub bytes_again : AreReadBack AreBytes bytes_digits bytes_from
bytes_again [] h = refl
bytes_again (b ∷ bs) h =
    byte_behind b (bytes_digits bs) h.0
    ∙ ap (λ o. o >>= λ bytes. Some (b ∷ bytes)) (bytes_again bs h.1)

which_some : (w : Which) → 1 ≤ length (which_text w)
which_some All = omega arith
which_some Any = omega arith
which_some (Only n) = number_some n

thread_alone : (text : List ℕ) → 1 ≤ length text → IsApart 112 text
    → id_from text ≡ option_map ThreadAlone (which_from text)
thread_alone [] some h = absurd (omega (arith, some))
thread_alone (c ∷ cs) some h = rw (h.0) refl

pub id_again : AreReadBack IsThreadId id_text id_from
id_again (Both process thread) h =
    ap (λ o. process_from o (which_text process ++ 46 ∷ which_text thread))
    (around_again 46 (which_text process) (which_text thread) (which_apart 46 process refl refl))
    ∙ rw (which_again process h.0, which_again thread h.1) refl
id_again (ProcessAlone process) h =
    rw (
      around_apart 46 (which_text process) (which_apart 46 process refl refl),
      which_again process h,
    ) refl
id_again (ThreadAlone thread) h =
    thread_alone (which_text thread) (which_some thread) (which_apart 112 thread refl refl)
    ∙ ap (λ w. option_map ThreadAlone w) (which_again thread h)
