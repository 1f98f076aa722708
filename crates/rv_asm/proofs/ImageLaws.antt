-- The image of a file that has such headers, then the code, then the data.
use Rattle.std.proofs.Common.{◌≡◌, ℕ, ◌+◌, ◌-◌, ◌%◌, ◌^◌, ◌<◌, ◌≤◌, Bool, true, false, List, []}
use Rattle.std.proofs.Common.{◌∷◌, ◌++◌, length, take, drop, Ok, refl, ap, subst, ◌∙◌, arith}
use Rattle.std.proofs.Common.{length-append}
use Rattle.std.proofs.lemmas.List.{drop-drop, take_all}
use Rattle.std.proofs.Math.Seq.{take-append_seam, drop-append_seam}
use Rattle.elf_image.specs.declared.part.Part.{Part}
use Rattle.elf_image.specs.Image.{Image, image, part_of, is_writable, is_executable, do_meet}
use Rattle.rv_asm.specs.File.{code_flags}
use Rattle.rv_asm.proofs.FileFields.{one, two, loads, one-header, two-header, one-headers}
use Rattle.rv_asm.proofs.FileFields.{two-headers, one-rest, two-rest}
use Rattle.rv_asm.proofs.Accepted.{IsGood, IsEntered, image-one, image-two}

-- ---- the rights

flags_write : (write : Bool) (o a f m : ℕ)
    → is_writable (loads 0 o a f m (code_flags write)) ≡ write
flags_write true o a f m = refl
flags_write false o a f m = refl

flags_execute : (write : Bool) (o a f m : ℕ)
    → is_executable (loads 0 o a f m (code_flags write)) ≡ true
flags_execute true o a f m = refl
flags_execute false o a f m = refl

flags_fit : (write : Bool) → code_flags write < 2 ^ 32
flags_fit true = omega arith
flags_fit false = omega arith

-- ---- the bytes

take_front : (n : ℕ) (xs ys : List ℕ) → length xs ≡ n → take n (xs ++ ys) ≡ xs
take_front n xs ys e = subst (λ (k : ℕ). take k (xs ++ ys) ≡ xs) e (take-append_seam xs ys)

drop_front : (n : ℕ) (xs ys : List ℕ) → length xs ≡ n → drop n (xs ++ ys) ≡ ys
drop_front n xs ys e = subst (λ (k : ℕ). drop k (xs ++ ys) ≡ ys) e (drop-append_seam xs ys)

-- what stands behind a front of this length and the code
behind : (file code bytes : List ℕ) (front size place count : ℕ) → drop front file ≡ code ++ bytes
    → length code ≡ size → place ≡ front + size → length bytes ≡ count
    → take count (drop place file) ≡ bytes
behind file code bytes front size place count e len at all =
    rw (at, ← drop-drop size front file, e, drop_front size code bytes len)
    (take_all count bytes (omega arith))

-- ---- the parts

part-at : (address zeros zeros' index : ℕ) (bytes bytes' : List ℕ) (write write' exec exec' : Bool)
    → bytes ≡ bytes' → zeros ≡ zeros' → write ≡ write' → exec ≡ exec'
    → (let p : Part = record {
      address = address;
      bytes = bytes;
      zeros = zeros;
      write = write;
      exec = exec;
      index = index;
    } in p)
    ≡ record {
      address = address;
      bytes = bytes';
      zeros = zeros';
      write = write';
      exec = exec';
      index = index;
    }
part-at address gap gap' index bytes bytes' write write' exec exec' b z w x = rw (b, z, w, x) refl

-- the part of the code
abbrev pub code_at : (base : ℕ) (write : Bool) (code : List ℕ) → Part
code_at base write code =
    record { address = base; bytes = code; zeros = 0; write = write; exec = true; index = 0 }

code_is : (file code bytes : List ℕ) (write : Bool) (front base size : ℕ)
    → drop front file ≡ code ++ bytes → length code ≡ size
    → part_of file (loads 0 front base size size (code_flags write)) ≡ code_at base write code
code_is file code bytes write front base size e len =
    part-at base (size - size) 0 0 _ code _ write _ true
    (ap (take size) e ∙ take_front size code bytes len) (omega arith)
    (flags_write write front base size size) (flags_execute write front base size size)

-- the part of the data
abbrev pub data_at : (address : ℕ) (bytes : List ℕ) (zeros : ℕ) → Part
data_at address bytes zeros =
    record {
      address = address;
      bytes = bytes;
      zeros = zeros;
      write = true;
      exec = false;
      index =
          1;
    }

data_is : (file bytes : List ℕ) (offset address file_size memory_size zeros : ℕ)
    → take file_size (drop offset file) ≡ bytes → memory_size ≡ file_size + zeros
    → part_of file (loads 1 offset address file_size memory_size 6) ≡ data_at address bytes zeros
data_is file bytes offset address file_size memory_size zeros e size =
    part-at address (memory_size - file_size) zeros 1 _ bytes _ true _ false e
    (omega arith) refl refl

-- ---- the code alone

-- where the code may be
pub record IsCode (base size : ℕ) (code : List ℕ) : Type 0 where
  pub aligned : base % 2 ≡ 0
  pub some : 1 ≤ size
  pub len : length code ≡ size
  pub above : 0x1000 ≤ base
  pub below : base + size ≤ 0xEFFF0000

code_good : (file_len front base size flags : ℕ) (code : List ℕ) → IsCode base size code
    → front + size ≤ file_len → IsGood file_len (loads 0 front base size size flags)
code_good file_len front base size flags code c inside =
    record {
      loaded = refl;
      sized = c.some;
      within = omega arith;
      in_file = inside;
      above = c.above;
      below = c.below;
    }

code_entered : (front base size : ℕ) (write : Bool) (code : List ℕ) → IsCode base size code
    → IsEntered base (loads 0 front base size size (code_flags write))
code_entered front base size write code c =
    record {
      aligned = c.aligned;
      first = refl;
      executable =
          flags_execute write front base size size;
      sized = c.some;
    }

pub image-code : (short : Bool) (base size : ℕ) (write : Bool) (code bytes : List ℕ)
    → IsCode base size code
    → image (one short base (code_flags write) size ++ (code ++ bytes))
    ≡ Ok (record { entry = base; parts = code_at base write code ∷ [] })
image-code short base size write code bytes c =
    let flags : ℕ = code_flags write in
    let file : List ℕ = one short base (code_flags write) size ++ (code ++ bytes) in
    let inside : 84 + size ≤ length file =
    omega (
      arith,
      length-append (one short base (code_flags write) size) (code ++ bytes),
      length-append code bytes,
      c.len,
    ) in
    image-one file base (loads 0 84 base size size (code_flags write))
    (one-header short base (code_flags write) size (code ++ bytes) (omega (arith, c.below)))
    (one-headers short base (code_flags write) size (code ++ bytes) (omega (arith, c.below))
    (flags_fit write) (omega (arith, c.below)))
    (code_good (length file) 84 base size (code_flags write) code c inside)
    (code_entered 84 base size write code c)
    ∙ ap (λ (p : Part). Ok (record { entry = base; parts = p ∷ [] }))
    (code_is file code bytes write 84 base size
    (one-rest short base (code_flags write) size (code ++ bytes)) c.len)

-- ---- code and data

-- where the data may be
pub record IsData (base size offset address file_size memory_size zeros : ℕ)
    (bytes : List ℕ) : Type 0 where
  pub behind_code : offset ≡ 116 + size
  pub len : length bytes ≡ file_size
  pub whole : memory_size ≡ file_size + zeros
  pub some : 1 ≤ memory_size
  pub above : 0x1000 ≤ address
  pub below : address + memory_size ≤ 0xEFFF0000
  pub apart : do_meet (loads 0 116 base size size 0)
      (loads 1 offset address file_size memory_size 6) ≡ false

pair-made : (entry : ℕ) (a a' b b' : Part) → a ≡ a' → b ≡ b'
    → (let i : Image = record { entry = entry; parts = a ∷ b ∷ [] } in i)
    ≡ record { entry = entry; parts = a' ∷ b' ∷ [] }
pair-made entry a a' b b' ea eb = rw (ea, eb) refl

pub image-both : (short : Bool) (base size : ℕ) (write : Bool) (code : List ℕ)
    (offset address file_size memory_size zeros : ℕ) (bytes : List ℕ) → IsCode base size code
    → IsData base size offset address file_size memory_size zeros bytes
    → image (two short base (code_flags write) size offset address file_size memory_size
    ++ (code ++ bytes))
    ≡ Ok (record {
      entry = base;
      parts = code_at base write code ∷ data_at address bytes zeros
          ∷ [];
    })
image-both short base size write code offset address file_size memory_size zeros bytes c d =
    let front : List ℕ =
    two short base (code_flags write) size offset address file_size memory_size in
    let file : List ℕ = two short base (code_flags write) size offset address file_size memory_size
    ++ (code ++ bytes) in
    let rest = two-rest short base (code_flags write) size offset address file_size memory_size
    (code ++ bytes) in
    let long : length file ≡ 116 + (size + file_size) =
    omega (
      arith,
      length-append
          (two short base (code_flags write) size offset address file_size memory_size)
          (code ++ bytes),
      length-append code bytes,
      c.len,
      d.len,
    ) in
    image-two file base (loads 0 116 base size size (code_flags write))
    (loads 1 offset address file_size memory_size 6)
    (two-header short base (code_flags write) size offset address file_size memory_size
    (code ++ bytes)
    (omega (arith, c.below)))
    (two-headers short base (code_flags write) size offset address file_size memory_size
    (code ++ bytes)
    (omega (arith, c.below)) (flags_fit write) (omega (arith, c.below))
    (omega (arith, c.below, c.above, d.behind_code)) (omega (arith, d.below))
    (omega (arith, d.below, d.whole)) (omega (arith, d.below)))
    (code_good (length file) 116 base size (code_flags write) code c (omega (arith, long)))
    (record {
      loaded = refl;
      sized = d.some;
      within = omega (arith, d.whole);
      in_file =
          omega (arith, long, d.behind_code);
      above = d.above;
      below = d.below;
    })
    d.apart
    (code_entered 116 base size write code c)
    ∙ ap Ok (pair-made base _ _ _ _ (code_is file code bytes write 116 base size rest c.len)
    (data_is file bytes offset address file_size memory_size zeros
    (behind file code bytes 116 size offset file_size rest c.len d.behind_code d.len)
    d.whole))
