use Rattle.std.proofs.Common.{◌≡◌, ℕ, Bool, List, Option, ◌∷◌, [], ◌++◌, sym, subst}
use Rattle.std.proofs.lemmas.Result.{on_ok_weaker}
use Rattle.debug_client.specs.Births.{BirthTables, KnowsBirths, HasNoted, Grows}
use Rattle.debug_client.proofs.Noting.{grown, grown_there, grown_grows, noted_one}
use Rattle.group_moves.specs.Moments.{Moment}
use Rattle.kernel_calls.specs.declared.state.State.{State}
use Rattle.debug_client.proofs.births.Births.note.Goals as goal

abbrev tables : (images : ℕ) → List ℕ → List (Option ℕ) → List (Option ℕ)
    → Bool → BirthTables
tables images image_numbers first_threads homes is_whole = record {
  images = images;
  image_numbers = image_numbers;
  first_threads = first_threads;
  homes = homes;
  is_whole = is_whole;
}

module _ (P : BirthTables → Type 0) where
  -- what holds of the grown tables holds of those that equal them
  of_grown : (b : BirthTables) (s : State) (images : List ℕ) (firsts homes : List (Option ℕ))
      → images ≡ (grown b s).image_numbers → firsts ≡ (grown b s).first_threads
      → homes ≡ (grown b s).homes → P (grown b s)
      → P (tables b.images images firsts homes b.is_whole)
  of_grown b s images firsts homes images_are firsts_are homes_are holds =
      subst (λ (l : List ℕ). P (tables b.images l firsts homes b.is_whole)) (sym images_are)
      (subst (λ (l : List (Option ℕ)). P (tables b.images (grown b s).image_numbers l homes
      b.is_whole)) (sym firsts_are)
      (subst (λ (l : List (Option ℕ)). P (tables b.images (grown b s).image_numbers
      (grown b s).first_threads l b.is_whole)) (sym homes_are) holds))

pub returns-clause-known : goal.returns-clause-known
returns-clause-known c noted m q output error is k =
    let s = c.args.state.now in
    let b : BirthTables = tables c.self.inside.images c.self.inside.image_numbers.items
    c.self.inside.first_threads.items c.self.inside.homes.items c.self.inside.is_whole in
    let all : List Moment = noted ++ m ∷ [] in
    let images : List ℕ = c.note_images.new.numbers.items in
    let firsts : List (Option ℕ) = c.note_first_threads.new.firsts.items in
    let before : KnowsBirths b noted =
    subst (λ (t : BirthTables). KnowsBirths t noted) (sym c.self.view_is) k in
    let known : KnowsBirths (grown b s) all =
    noted_one b s noted m q output error is c.requires before in
    on_ok_weaker c.note_homes.result
    (λ homes. of_grown (λ (t : BirthTables). KnowsBirths t all) b s images firsts
    c.note_homes.new.homes.items c.in_ok-note_images.ensures c.in_ok-note_first_threads.ensures
    homes known)
    c.note_homes.ensures

pub returns-clause-there : goal.returns-clause-there
returns-clause-there c =
    let s = c.args.state.now in
    let b : BirthTables = tables c.self.inside.images c.self.inside.image_numbers.items
    c.self.inside.first_threads.items c.self.inside.homes.items c.self.inside.is_whole in
    on_ok_weaker c.note_homes.result
    (λ homes. of_grown (λ (t : BirthTables). HasNoted t s) b s c.note_images.new.numbers.items
    c.note_first_threads.new.firsts.items c.note_homes.new.homes.items
    c.in_ok-note_images.ensures c.in_ok-note_first_threads.ensures homes (grown_there b s))
    c.note_homes.ensures

pub returns-clause-grows : goal.returns-clause-grows
returns-clause-grows c =
    let s = c.args.state.now in
    let b : BirthTables = tables c.self.inside.images c.self.inside.image_numbers.items
    c.self.inside.first_threads.items c.self.inside.homes.items c.self.inside.is_whole in
    on_ok_weaker c.note_homes.result
    (λ homes. subst (λ (old : BirthTables). Grows old (tables b.images
    c.note_images.new.numbers.items c.note_first_threads.new.firsts.items
    c.note_homes.new.homes.items b.is_whole)) c.self.view_is
    (of_grown (Grows b) b s c.note_images.new.numbers.items
    c.note_first_threads.new.firsts.items c.note_homes.new.homes.items
    c.in_ok-note_images.ensures c.in_ok-note_first_threads.ensures homes (grown_grows b s)))
    c.note_homes.ensures
