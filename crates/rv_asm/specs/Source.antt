-- What a builder was told, as plain data. This project's own.
use Rattle.std.specs.Prelude.{◌≡◌, ℕ, ◌+◌, ◌%◌, Bool, true, false, List, [], ◌∷◌, ◌++◌, length, All}
use Rattle.std.specs.Prelude.{Option}
use Rattle.std.specs.Prelude.{Some, None, option_and_then, slice_get, slice_set, nat_lt}
use Rattle.rv_isa.specs.Valid.{IsRegister}
use Rattle.rv_asm.specs.declared.item.Item.{Item}
use Rattle.rv_asm.specs.declared.item.Item.TheVariants.{Half, Word, Jump, Branch}

-- the data part: bytes at an address, then so many zeros; where both are none, there is no data
-- part
pub record Data : Type 0 where
  pub address : ℕ
  pub bytes : List ℕ
  pub zeros : ℕ

-- where the code begins and whether it may be written, what it is made of, for each label the place
-- that it stands before, counted in halfwords from the base, and the data part
pub record Source : Type 0 where
  pub base : ℕ
  pub write : Bool
  pub items : List Item
  pub labels : List (Option ℕ)
  pub data_part : Data

abbrev pub no_data : Data
no_data = record { address = 0; bytes = []; zeros = 0 }

-- nothing was told yet
abbrev pub empty_at : ℕ → Bool → Source
empty_at base write = record {
  base = base;
  write = write;
  items = [];
  labels = [];
  data_part =
      no_data;
}

-- how many halfwords an item has
abbrev pub halves_in : Item → ℕ
halves_in (Half value) = 1
halves_in (Word value) = 2
halves_in (Jump rd label) = 2
halves_in (Branch op rs1 rs2 label) = 2

-- how many items have
abbrev pub halfwords_of : List Item → ℕ
halfwords_of [] = 0
halfwords_of (item ∷ items) = halves_in item + halfwords_of items

-- whether an item is a halfword
abbrev pub is_half : Item → Bool
is_half (Half value) = true
is_half (Word value) = false
is_half (Jump rd label) = false
is_half (Branch op rs1 rs2 label) = false

-- one item more
abbrev pub with_item : Source → Item → Source
with_item source item = record source { items = source.items ++ item ∷ [] }

-- one label more, unset
abbrev pub with_label : Source → Source
with_label source = record source { labels = source.labels ++ None ∷ [] }

-- the label stands before the next halfword
abbrev pub with_here : Source → ℕ → Source
with_here source label = record source {
  labels =
      slice_set source.labels label (Some (halfwords_of source.items));
}

abbrev pub with_data : Source → ℕ → List ℕ → ℕ → Source
with_data source address bytes zeros =
    record source { data_part = record { address = address; bytes = bytes; zeros = zeros } }

-- the place that a label stands before, if it was made and set
abbrev pub place_of_label : List (Option ℕ) → ℕ → Option ℕ
place_of_label labels label = option_and_then (λ place. place) (slice_get labels label)

-- how many addresses the data part takes
abbrev pub data_size : Data → ℕ
data_size d = length d.bytes + d.zeros

abbrev pub has_data : Source → Bool
has_data source = nat_lt 0 (data_size source.data_part)

-- ---- what is known of every builder

-- the registers of an item are of x0 to x31
abbrev pub HasRegisters : Item → Type 0
HasRegisters (Half value) = Unit {0}
HasRegisters (Word value) = Unit {0}
HasRegisters (Jump rd label) = IsRegister rd
HasRegisters (Branch op rs1 rs2 label) = IsRegister rs1 × IsRegister rs2

-- the base begins a page, and so many halfwords were given
pub record IsSource (base : ℕ) (items : List Item) (count : ℕ) : Type 0 where
  pub aligned : base % 4096 ≡ 0
  pub registers : All HasRegisters items
  pub count_is : count ≡ halfwords_of items
