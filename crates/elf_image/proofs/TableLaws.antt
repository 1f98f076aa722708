-- The table of program headers, read one after another.
use Rattle.std.proofs.Common.{◌≡◌, ℕ, zero, suc, ◌+◌, ◌-◌, ◌<◌, ◌≤◌, List, [], ◌∷◌, ◌++◌, length}
use Rattle.std.proofs.Common.{refl, sym, ap, ◌∙◌, append_assoc, append-nil, arith}
use Rattle.elf_image.specs.declared.header.Header.{Header}
use Rattle.elf_image.specs.Fields.{e_phnum, header_at, headers_from, headers}

headers_from-suc : (bytes : List ℕ) (index after left rest : ℕ) → left ≡ suc rest
    → after ≡ suc index → headers_from bytes index left ≡ header_at bytes index
    ∷ headers_from bytes after rest
unfolding headers_from
headers_from-suc bytes index after left rest e a = rw (e, a) refl

headers_from-zero : (bytes : List ℕ) (index left : ℕ) → left ≡ 0
    → headers_from bytes index left ≡ []
unfolding headers_from
headers_from-zero bytes index left e = rw e refl

-- nothing is read yet
pub none_read : (bytes : List ℕ) (done : List Header) (left : ℕ) → done ≡ [] → left ≡ e_phnum bytes
    → done ++ headers_from bytes 0 left ≡ headers bytes
unfolding headers
none_read bytes done left e c = rw (e, c) refl

-- one header more
pub one_more : (bytes : List ℕ) (all done new : List Header) (index count : ℕ) → index < count
    → new ≡ done ++ header_at bytes index ∷ []
    → done ++ headers_from bytes index (count - index) ≡ all
    → new ++ headers_from bytes (index + 1) (count - (index + 1)) ≡ all
one_more bytes all done new index count lt n e =
    let next : headers_from bytes index (count - index) ≡ header_at bytes index
    ∷ headers_from bytes (index + 1) (count - (index + 1)) =
    headers_from-suc bytes index (index + 1) (count - index) (count - (index + 1)) (omega arith)
    (omega arith) in
    rw n (append_assoc done (header_at bytes index ∷ [])
    (headers_from bytes (index + 1) (count - (index + 1)))
    ∙ ap (λ (hs : List Header). done ++ hs) (sym next) ∙ e)

pub all_read : (bytes : List ℕ) (all done : List Header) (index count : ℕ) → count ≤ index
    → done ++ headers_from bytes index (count - index) ≡ all → done ≡ all
all_read bytes all done index count le e =
    sym (append-nil done)
    ∙ ap (λ (hs : List Header). done ++ hs)
    (sym (headers_from-zero bytes index (count - index) (omega arith))) ∙ e

-- the table has as many headers as it says
length-headers_from : (bytes : List ℕ) (index count : ℕ)
    → length (headers_from bytes index count) ≡ count
unfolding headers_from
length-headers_from bytes index zero = refl
length-headers_from bytes index (suc count) = ap suc (length-headers_from bytes (suc index) count)

pub length-headers : (bytes : List ℕ) → length (headers bytes) ≡ e_phnum bytes
unfolding headers
length-headers bytes = length-headers_from bytes 0 (e_phnum bytes)
