-- What the builder of the program is told, stretch by stretch.
use Rattle.std.specs.Prelude.{ℕ, ◌+◌, ◌*◌, false, List, [], ◌∷◌, ◌++◌, map, Some, slice_range}
use Rattle.rv_isa.specs.Encoding.{encoding}
use Rattle.rv_isa.specs.Valid.{IsValid}
use Rattle.rv_isa.specs.declared.Instr.{Instr}
use Rattle.rv_isa.specs.declared.BranchOp.TheVariants.{Beq, Bne}
use Rattle.rv_asm.specs.Source.{Source, no_data, with_data}
use Rattle.rv_asm.specs.declared.item.Item.{Item}
use Rattle.rv_asm.specs.declared.item.Item.TheVariants.{Word, Jump, Branch}
use Rattle.generated_group.specs.Generated.{start_threads, set_up, work, print}

-- each instruction is valid
abbrev pub AreValid : List Instr → Type 0
AreValid [] = Unit {0}
AreValid (instr ∷ code) = IsValid instr × AreValid code

-- the words of instructions
abbrev pub words_of : List Instr → List Item
words_of code = map (λ instr. Word (encoding instr)) code

-- they go last
abbrev pub with_code : Source → List Instr → Source
with_code source code = record source { items = source.items ++ words_of code }

-- the code that makes a thread, if there is one more to be made, between two labels
abbrev pub start_items : (threads next first : ℕ) → List Item
start_items threads next first =
    words_of (slice_range (start_threads threads) 1 2) ++ (Branch Beq 9 5 first ∷ [])
    ++ words_of (slice_range (start_threads threads) 3 9) ++ (Jump 0 next ∷ [])

abbrev pub with_start : Source → (threads next first : ℕ) → Source
with_start source threads next first =
    record source { items = source.items ++ start_items threads next first }

-- the labels 0 and 1 stand before the words 1 and 10, of two halfwords each
abbrev pub started : ℕ → Source
started threads = record {
  base = 0x10000;
  write = false;
  items =
      words_of (slice_range (start_threads threads) 0 2) ++ (Branch Beq 9 5 1 ∷ [])
      ++ words_of (slice_range (start_threads threads) 3 9) ++ (Jump 0 0 ∷ []);
  labels = Some 2 ∷ Some 20 ∷ [];
  data_part = no_data;
}

abbrev pub work_items : List Item
work_items = words_of (slice_range work 0 9) ++ (Branch Bne 6 0 3 ∷ [])
    ++ words_of (slice_range work 10 14) ++ (Branch Bne 21 0 2 ∷ [])

-- behind 24 words and two labels, the labels 2 and 3 stand before the words 24 and 37
abbrev pub worked : Source → Source
worked source = record source {
  items = source.items ++ work_items;
  labels = source.labels ++ Some 48 ∷ Some 74 ∷ [];
}

-- all of it
unfoldable pub told : (number threads : ℕ) → Source
told number threads =
    with_data (with_code (worked (with_code (started threads) (set_up number))) print)
    0x20000 [] (4096 * (threads + 1))
