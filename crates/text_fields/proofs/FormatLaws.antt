-- Each way to make a format makes one: what it reads it wrote, and what it writes it reads.
use Rattle.std.proofs.Common.{◌≡◌, ℕ, zero, suc, ◌+◌, ◌^◌, ◌<◌, ◌≤◌, Bool, true, false, cond}
use Rattle.std.proofs.Common.{ltb}
use Rattle.std.proofs.Common.{List, [], ◌∷◌, ◌++◌, length, take, drop, Result, Ok, Err}
use Rattle.std.proofs.Common.{refl, sym, ap, subst, ◌∙◌, append_assoc, arith, inl, inr}
use Rattle.std.specs.Int.{Width, w16, w32, w64, byte_len, from_le_bytes, to_le_bytes}
use Rattle.std.proofs.lemmas.Bool.{cases_lt, ltb-false, le-ltb}
use Rattle.std.proofs.lemmas.List.{take_at, drop_at, take-append-drop, length-append, length-take}
use Rattle.std.proofs.lemmas.List.{get_or-drop, get_or-take, get_or_past}
use Rattle.std.proofs.lemmas.Nat.{le_bytes_2, le_bytes_4, from_le_bytes-to_le_bytes_2}
use Rattle.std.proofs.lemmas.Nat.{from_le_bytes-to_le_bytes_4, from_le_bytes-to_le_bytes_8}
use Rattle.std.proofs.lemmas.Nat.{le_bytes_8}
use Rattle.text_fields.specs.declared.refusal.FieldError.{FieldError}
use Rattle.text_fields.specs.declared.refusal.FieldError.TheVariants.{Short, Range}
use Rattle.text_fields.specs.Reading.{◌>>=◌, field_place, first_bytes, first_number, passing}
use Rattle.text_fields.specs.Reading.{read_list}
use Rattle.text_fields.specs.Formats.{Format, AreBytes, bytes, number_in, u8_in, ◌then◌}
use Rattle.text_fields.specs.Formats.{seen_as}
use Rattle.text_fields.specs.Formats.{tagged, list_text, ListFits, listed, many, ascending}
use Rattle.text_fields.specs.Formats.{with_count}
use Rattle.text_fields.specs.Laws.{Spells, IsFormat, WaysMakeFormats}

-- ---- results

-- the value of a step that did not fail
pub bind_ok : {A B E : Type 0} (r : Result A E) (f : A → Result B E) (y : B)
    → (r >>= f) ≡ Ok y → (x : A) × (r ≡ Ok x) × (f x ≡ Ok y)
bind_ok (Ok x) f y e = (x, refl, e)
bind_ok (Err d) f y e = absurd cc

abbrev pub done : {A : Type 0} → A → Result A FieldError
done x = Ok x

pub ok_is : {A : Type 0} (x y : A) → done x ≡ Ok y → x ≡ y
ok_is x y e = cc

passing_ok : {A : Type 0} (test : A → Bool) (at : ℕ) (x y : A × List ℕ)
    → passing test at x ≡ Ok y → (test x.0 ≡ true) × (x ≡ y)
passing_ok {A = A} test at x y e = go (test x.0) refl e
  where
    go : (b : Bool) → test x.0 ≡ b → cond b (done x) (Err (Range at)) ≡ Ok y
        → (test x.0 ≡ true) × (x ≡ y)
    go true t e = (t, cc)
    go false t e = absurd cc

passing_again : {A : Type 0} (test : A → Bool) (at : ℕ) (x : A × List ℕ) → test x.0 ≡ true
    → passing test at x ≡ Ok x
passing_again test at x t = rw t refl

-- ---- bytes

IsBytes-drop : (n : ℕ) (bytes : List ℕ) → AreBytes bytes → AreBytes (drop n bytes)
IsBytes-drop n bytes h i = rw get_or-drop (h (n + i))

IsBytes-take : (n : ℕ) (bytes : List ℕ) → AreBytes bytes → AreBytes (take n bytes)
IsBytes-take n bytes h i =
    elim (cases_lt i n) [
      | inl lt ↦ rw (get_or-take n bytes i 0 lt) (h i)
      | inr le ↦ rw (get_or_past (take n bytes) i 0 (omega (arith, length-take n bytes)))
          (omega arith)
    ]

guard_ok : {A E : Type 0} (b : Bool) (d : E) (x y : A) → cond b (Err d) (Ok x) ≡ Ok y
    → (b ≡ false) × (x ≡ y)
guard_ok true d x y e = absurd cc
guard_ok false d x y e = (refl, cc)

bytes_spells : (count end : ℕ) (text : List ℕ) (x : List ℕ × List ℕ) → AreBytes text
    → first_bytes count end text ≡ Ok x → Spells (bytes count) text x
bytes_spells count end text x fits e =
    let g = guard_ok (ltb (length text) count) (Short (field_place end text))
    (take count text, drop count text) x e in
    let long : count ≤ length text = ltb-false _ _ g.0 in
    subst (Spells (bytes count) text) g.1
    (record {
      parts = sym (take-append-drop count text);
      rest = IsBytes-drop count text fits;
      fits = (omega (arith, length-take count text), IsBytes-take count text fits);
    })

bytes_again : (end : ℕ) (text rest : List ℕ)
    → first_bytes (length text) end (text ++ rest) ≡ Ok (text, rest)
bytes_again end text rest =
    let long : ltb (length (text ++ rest)) (length text) ≡ false =
    le-ltb _ _ (omega (arith, length-append text rest)) in
    rw (long, take_at text rest (length text) refl, drop_at text rest (length text) refl) refl

pub bytes_format : (n : ℕ) → IsFormat (bytes n)
bytes_format n = record {
  spells = bytes_spells n;
  again = λ end a rest fits. subst (λ (k : ℕ). first_bytes k end (a ++ rest) ≡ Ok (a, rest)) fits.0
      (bytes_again end a rest);
}

-- ---- numbers

pub record IsWide (w : Width) : Type 0 where
  pub len : (n : ℕ) → length (to_le_bytes w n) ≡ byte_len w
  pub back : (bytes : List ℕ) → length bytes ≡ byte_len w → AreBytes bytes
      → to_le_bytes w (from_le_bytes w bytes) ≡ bytes
  pub again : (n : ℕ) → n < 256 ^ byte_len w → from_le_bytes w (to_le_bytes w n) ≡ n
  pub below : (bytes : List ℕ) → AreBytes bytes → from_le_bytes w bytes < 256 ^ byte_len w

pub wide16 : IsWide w16
wide16 = record {
  len = λ n. refl;
  back = λ bytes len fits. le_bytes_2 bytes _ len fits refl;
  again = λ n lt. from_le_bytes-to_le_bytes_2 n lt;
  below = λ bytes fits. omega (arith, fits 0, fits 1);
}

pub wide32 : IsWide w32
wide32 = record {
  len = λ n. refl;
  back = λ bytes len fits. le_bytes_4 bytes _ len fits refl;
  again = λ n lt. from_le_bytes-to_le_bytes_4 n lt;
  below = λ bytes fits. omega (arith, fits 0, fits 1, fits 2, fits 3);
}

pub wide64 : IsWide w64
wide64 = record {
  len = λ n. refl;
  back = λ bytes len fits. le_bytes_8 bytes _ len fits refl;
  again = λ n lt. from_le_bytes-to_le_bytes_8 n lt;
  below = λ bytes fits. omega (
    arith,
    fits 0,
    fits 1,
    fits 2,
    fits 3,
    fits 4,
    fits 5,
    fits 6,
    fits 7,
  );
}

module _ (w : Width) (wide : IsWide w) (test : ℕ → Bool) where
  number_spells : (end : ℕ) (text : List ℕ) (x : ℕ × List ℕ) → AreBytes text
      → (number_in w test).read end text ≡ Ok x → Spells (number_in w test) text x
  number_spells end text x fits e =
      let a = bind_ok (first_number w end text) (passing test (field_place end text)) x e in
      let b = bind_ok (first_bytes (byte_len w) end text) _ a.0 a.1 in
      let s = bytes_spells (byte_len w) end text b.0 fits b.1 in
      let p = passing_ok test (field_place end text) a.0 x a.2 in
      let n : (from_le_bytes w b.0.0, b.0.1) ≡ x = ok_is _ _ b.2 ∙ p.1 in
      subst (Spells (number_in w test) text) n
      (record {
        parts = subst (λ (t : List ℕ). text ≡ t ++ b.0.1)
            (sym (wide.back b.0.0 s.fits.0 s.fits.1)) s.parts;
        rest = s.rest;
        fits = (
          wide.below b.0.0 s.fits.1,
          subst (λ (y : ℕ × List ℕ). test y.0 ≡ true) (sym (ok_is _ _ b.2)) p.0,
        );
      })

  number_again : (end n : ℕ) (rest : List ℕ) → (number_in w test).Fits n
      → (number_in w test).read end (to_le_bytes w n ++ rest) ≡ Ok (n, rest)
  number_again end n rest fits =
      let text : List ℕ = to_le_bytes w n in
      let first : first_bytes (byte_len w) end (text ++ rest) ≡ Ok (text, rest) =
      subst (λ (k : ℕ). first_bytes k end (text ++ rest) ≡ Ok (text, rest)) (wide.len n)
      (bytes_again end text rest) in
      rw (first, wide.again n fits.0) (passing_again test (field_place end (text ++ rest)) (n, rest)
      fits.1)

  pub number_format : IsFormat (number_in w test)
  number_format = record { spells = number_spells; again = number_again }

module _ (test : ℕ → Bool) where
  u8_spells : (end : ℕ) (text : List ℕ) (x : ℕ × List ℕ) → AreBytes text
      → (u8_in test).read end text ≡ Ok x → Spells (u8_in test) text x
  u8_spells end [] x fits e = absurd cc
  u8_spells end (b ∷ text) x fits e =
      let p = passing_ok test (field_place end (b ∷ text)) (b, text) x e in
      subst (Spells (u8_in test) (b ∷ text)) p.1
      (record { parts = refl; rest = λ i. fits (suc i); fits = (fits 0, p.0) })

  pub u8_format : IsFormat (u8_in test)
  u8_format = record {
    spells = u8_spells;
    again = λ end n rest fits.
        passing_again test (field_place end (n ∷ rest)) (n, rest) fits.1;
  }

-- ---- one behind the other

module _ {A B : Type 0} (first : Format A) (second : A → Format B) (one : IsFormat first)
    (two : (a : A) → first.Fits a → IsFormat (second a)) where
  then_spells : (end : ℕ) (text : List ℕ) (x : (A × B) × List ℕ) → AreBytes text
      → (first then second).read end text ≡ Ok x → Spells (first then second) text x
  then_spells end text x fits e =
      let a = bind_ok (first.read end text) _ x e in
      let s = one.spells end text a.0 fits a.1 in
      let b = bind_ok ((second a.0.0).read end a.0.1) _ x a.2 in
      let t = (two a.0.0 s.fits).spells end a.0.1 b.0 s.rest b.1 in
      subst (Spells (first then second) text) (ok_is _ _ b.2)
      (record {
        parts = s.parts ∙ ap (λ (y : List ℕ). first.text a.0.0 ++ y) t.parts
            ∙ sym (append_assoc (first.text a.0.0) ((second a.0.0).text b.0.0) b.0.1);
        rest = t.rest;
        fits = (s.fits, t.fits);
      })

  then_again : (end : ℕ) (a : A × B) (rest : List ℕ) → (first then second).Fits a
      → (first then second).read end ((first then second).text a ++ rest) ≡ Ok (a, rest)
  then_again end a rest fits =
      let behind : List ℕ = (second a.0).text a.1 ++ rest in
      ap ((first then second).read end)
      (append_assoc (first.text a.0) ((second a.0).text a.1) rest)
      ∙ rw (one.again end a.0 behind fits.0, (two a.0 fits.0).again end a.1 rest fits.1) refl

  pub then_format : IsFormat (first then second)
  then_format = record { spells = then_spells; again = then_again }

module _ {A B : Type 0} (to : A → B) (from : B → A) (form : Format A) (is : IsFormat form)
    (back : (a : A) → form.Fits a → from (to a) ≡ a) where
  as_spells : (end : ℕ) (text : List ℕ) (x : B × List ℕ) → AreBytes text
      → (seen_as to from form).read end text ≡ Ok x → Spells (seen_as to from form) text x
  as_spells end text x fits e =
      let a = bind_ok (form.read end text) _ x e in
      let s = is.spells end text a.0 fits a.1 in
      let b : from (to a.0.0) ≡ a.0.0 = back a.0.0 s.fits in
      subst (Spells (seen_as to from form) text) (ok_is _ _ a.2)
      (record {
        parts = subst (λ (y : A). text ≡ form.text y ++ a.0.1) (sym b) s.parts;
        rest = s.rest;
        fits = (subst form.Fits (sym b) s.fits, ap to b);
      })

  pub as_format : IsFormat (seen_as to from form)
  as_format = record {
    spells = as_spells;
    again = λ end b rest fits. rw (is.again end (from b) rest fits.0, fits.1) refl;
  }

module _ {A : Type 0} (tag : A → ℕ) (test : ℕ → Bool) (form : ℕ → Format A)
    (is : (n : ℕ) → (u8_in test).Fits n → IsFormat (form n))
    (tags : (n : ℕ) (a : A) → (u8_in test).Fits n → (form n).Fits a → tag a ≡ n) where
  tagged_spells : (end : ℕ) (text : List ℕ) (x : A × List ℕ) → AreBytes text
      → (tagged tag test form).read end text ≡ Ok x → Spells (tagged tag test form) text x
  tagged_spells end text x fits e =
      let a = bind_ok ((u8_in test).read end text) _ x e in
      let s = u8_spells test end text a.0 fits a.1 in
      let t = (is a.0.0 s.fits).spells end a.0.1 x s.rest a.2 in
      let k : tag x.0 ≡ a.0.0 = tags a.0.0 x.0 s.fits t.fits in
      record {
        parts = subst (λ (n : ℕ). text ≡ n ∷ ((form n).text x.0 ++ x.1)) (sym k)
            (s.parts ∙ ap (λ (y : List ℕ). a.0.0 ∷ y) t.parts);
        rest = t.rest;
        fits = (
          subst (u8_in test).Fits (sym k) s.fits,
          subst (λ (n : ℕ). (form n).Fits x.0) (sym k) t.fits,
        );
      }

  pub tagged_format : IsFormat (tagged tag test form)
  tagged_format = record {
    spells = tagged_spells;
    again = λ end a rest fits.
        rw ((u8_format test).again end (tag a) ((form (tag a)).text a ++ rest) fits.0)
        ((is (tag a) fits.0).again end a rest fits.1);
  }

-- ---- lists

module _ {A S : Type 0} (one : S → Format A) (next : S → A → S) (is : (s : S) → IsFormat (one s))
  where
    list_spells : (n : ℕ) (s : S) (end : ℕ) (text : List ℕ) (x : List A × List ℕ) → AreBytes text
        → (listed one next n s).read end text ≡ Ok x → Spells (listed one next n s) text x
    unfolding read_list
    list_spells zero s end text x fits e =
        subst (Spells (listed one next 0 s) text) (ok_is _ _ e)
        (record { parts = refl; rest = fits; fits = tt })
    list_spells (suc n) s end text x fits e =
        let a = bind_ok ((one s).read end text) _ x e in
        let p = (is s).spells end text a.0 fits a.1 in
        let b = bind_ok (read_list (λ s. (one s).read) next n (next s a.0.0) end a.0.1) _ x a.2 in
        let q = list_spells n (next s a.0.0) end a.0.1 b.0 p.rest b.1 in
        subst (Spells (listed one next (suc n) s) text) (ok_is _ _ b.2)
        (record {
          parts = p.parts ∙ ap (λ (y : List ℕ). (one s).text a.0.0 ++ y) q.parts
              ∙ sym (append_assoc ((one s).text a.0.0)
              (list_text one next (next s a.0.0) b.0.0) b.0.1);
          rest = q.rest;
          fits = (p.fits, q.fits);
        })

    list_again : (n : ℕ) (s : S) (end : ℕ) (xs : List A) (rest : List ℕ) → ListFits one next n s xs
        → (listed one next n s).read end (list_text one next s xs ++ rest) ≡ Ok (xs, rest)
    unfolding read_list
    list_again zero s end [] rest fits = refl
    list_again zero s end (x ∷ xs) rest fits = absurd fits
    list_again (suc n) s end [] rest fits = absurd fits
    list_again (suc n) s end (x ∷ xs) rest fits =
        let others : List ℕ = list_text one next (next s x) xs in
        ap ((listed one next (suc n) s).read end) (append_assoc ((one s).text x) others rest)
        ∙ rw (
          (is s).again end x (others ++ rest) fits.0,
          list_again n (next s x) end xs rest fits.1,
        ) refl

    pub listed_format : (n : ℕ) (s : S) → IsFormat (listed one next n s)
    listed_format n s = record { spells = list_spells n s; again = list_again n s }

pub many_format : {A : Type 0} (n : ℕ) (form : Format A) → IsFormat form → IsFormat (many n form)
many_format n form is = listed_format _ _ (λ (s : ℕ). is) n 0

pub ascending_format : {A : Type 0} (number : A → ℕ) (one : ℕ → Format A) (n least : ℕ)
    → ((s : ℕ) → IsFormat (one s)) → IsFormat (ascending number one n least)
ascending_format number one n least is = listed_format one _ is n least

pub listed_length : {A S : Type 0} (one : S → Format A) (next : S → A → S) (n : ℕ) (s : S)
    (xs : List A) → ListFits one next n s xs → length xs ≡ n
listed_length one next zero s [] fits = refl
listed_length one next zero s (x ∷ xs) fits = absurd fits
listed_length one next (suc n) s [] fits = absurd fits
listed_length one next (suc n) s (x ∷ xs) fits =
    ap suc (listed_length one next n (next s x) xs fits.1)

pub with_count_format : {A : Type 0} (count : Format ℕ) (list : ℕ → Format (List A))
    → IsFormat count → ((n : ℕ) → IsFormat (list n))
    → ((n : ℕ) (xs : List A) → (list n).Fits xs → length xs ≡ n)
    → IsFormat (with_count count list)
with_count_format count list is_count is len =
    as_format (λ x. x.1) (λ xs. (length xs, xs)) (count then list)
    (then_format _ _ is_count (λ n _. is n))
    (λ a fits. ap (λ n. (n, a.1)) (len a.0 a.1 fits.1))

pub ways_make_formats : WaysMakeFormats
ways_make_formats = record {
  some_bytes = bytes_format;
  one_byte = u8_format;
  two_bytes = number_format w16 wide16;
  four_bytes = number_format w32 wide32;
  eight_bytes = number_format w64 wide64;
  one_then_another = λ first second one two. then_format first second one two;
  seen_otherwise = λ to from form is back. as_format to from form is back;
  by_a_tag = λ tag test form is tags. tagged_format tag test form is tags;
  list = λ one next is n s. listed_format one next is n s;
  behind_a_count = λ count list is_count is len. with_count_format count list is_count is len;
}
