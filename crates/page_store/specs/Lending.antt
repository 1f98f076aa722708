-- How a write through a lent page comes back.
use Rattle.std.specs.Prelude.{ℕ, List, Option}
use Rattle.std.specs.Borrow.{Lends, MutBor, Fml}
use Rattle.std.specs.Option.Follows.{option_follows_value}
use Rattle.page_store.specs.Store.{Store, with_home}
use Rattle.page_store.specs.contracts.frames.Frames.{the_row}
use Rattle.page_store.specs.contracts.page.Page.{the_row as page_row}

-- the frames end with this page set to the last value behind r
abbrev pub LendsPage : MutBor Store → ℕ → MutBor (List ℕ) → Fml
LendsPage s frame r = Lends the_row page_row s r (λ w. with_home s.now frame w)

abbrev pub LendsSlot : MutBor (Option (List ℕ)) → MutBor (List ℕ) → Fml
LendsSlot s r = option_follows_value page_row s r
