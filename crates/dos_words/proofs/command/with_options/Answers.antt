use Rattle.std.proofs.Common.{◌≡◌, ℕ, ◌+◌, ◌<◌, List, [], map, take, fold, length, get_or}
use Rattle.std.proofs.lemmas.List.{take_more, map-append}
use Rattle.std.proofs.lemmas.List.Sums.{fold-append}
use Rattle.std.specs.Borrow.{Bor}
use Rattle.dos_words.proofs.command.with_options.Goals as goal

-- with one more of the list
fold_more : {X A B : Type 0} (g : B → A → B) (b : B) (f : X → A) (xs : List X) (i : ℕ) (d : X)
    → i < length xs
    → fold g b (map f (take (i + 1) xs)) ≡ g (fold g b (map f (take i xs))) (f (get_or xs i d))
fold_more g b f xs i d more = rw (take_more xs i d more, map-append, fold-append)

pub loop-name-preserved : goal.loop-name-preserved
loop-name-preserved c =
    let none : Bor (List ℕ) = record { ref_ptr = (0, 0); now = [] } in
    record {
      app = rw (fold_more _ _ _ _ _ none c.loop-name-test.true)
          (c.with_option-more.ensures.app _ c.loop-name.invariant.app);
      local = λ is. c.with_option-more.ensures.local (c.loop-name.invariant.local is);
    }
