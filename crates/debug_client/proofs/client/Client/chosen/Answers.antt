use Rattle.std.proofs.Common.{◌≡◌, ℕ, Bool, true, List, [], ◌∷◌, ◌++◌, Option, Some, None, filter}
use Rattle.std.proofs.Common.{refl}
use Rattle.std.proofs.Common.{ap, sym, ◌∙◌}
use Rattle.std.specs.Prelude.{option_to_list}
use Rattle.dos_world.specs.World.{World, live_threads, first_of}
use Rattle.kernel_calls.specs.StateWorld.{world_of, sent}
use Rattle.gdb_packets.specs.declared.resumptions.Resumption.{Resumption}
use Rattle.debug_session.specs.Positions.{Position, all_moments, mover_at}
use Rattle.debug_session.specs.Homes.{is_some_number}
use Rattle.debug_session.specs.Sessions.{Session, is_told_of, is_among, listed_at, home_in}
use Rattle.debug_session.specs.Sessions.{candidates, chosen_among, chosen_at}
use Rattle.debug_client.specs.Births.{has_home, has_homes}
use Rattle.debug_client.specs.Clients.{session_of}
use Rattle.debug_client.proofs.Listed.{told_known, listed_known}
use Rattle.debug_client.proofs.Chosen.{kept_holds, of_first, of_others, listed_holds}
use Rattle.debug_client.proofs.client.Client.chosen.Goals as goal

module _ (s : Session) (rs : List Resumption) (w : World) (mover : Option ℕ) where
  abbrev told : ℕ → Bool
  told = is_told_of s rs w

  abbrev movers : List ℕ
  movers = option_to_list mover ++ s.thread ∷ live_threads w

  abbrev of_home : ℕ → Bool
  of_home t = is_some_number s.process (home_in s t)

  abbrev among : List ℕ → List ℕ
  among listed = filter (λ t. is_among t listed) (s.thread ∷ [])

  by_told : (t : ℕ) → Some t ≡ first_of (filter told movers)
      → first_of (candidates s rs w mover) ≡ Some t
  by_told t is =
      of_first (filter told movers) (among (listed_at s w)) (filter of_home (listed_at s w))
      (listed_at s w) t (sym is)

  by_listed : (o : Option ℕ) → first_of (filter told movers) ≡ None
      → o ≡ first_of ((among (listed_at s w) ++ filter of_home (listed_at s w)) ++ listed_at s w)
      → first_of (candidates s rs w mover) ≡ o
  by_listed o none is =
      of_others (filter told movers) (among (listed_at s w)) (filter of_home (listed_at s w))
      (listed_at s w) none
      ∙ sym is

  -- the chosen pair of a position
  of_position : (at : Position) (o : Option ℕ) → at.moment.world ≡ w → mover_at at ≡ mover
      → first_of (candidates s rs w mover) ≡ o → chosen_among s o ≡ chosen_at s rs at
  of_position at o is moves first =
      ap (chosen_among s) (sym first)
      ∙ ap (λ (v : World). chosen_among s (first_of (candidates s rs v mover))) (sym is)
      ∙ ap (λ (m : Option ℕ). chosen_among s (first_of (candidates s rs at.moment.world m)))
      (sym moves)

pub returns-in-Some : goal.returns-in-Some
returns-in-Some c r from at q output error a is moves =
    let w = sent output error (world_of q c.args.state.now) in
    let s = session_of c.args.self.now r from in
    let rs = c.args.resumptions.now in
    let mover = c.args.mover in
    let t = c.in-Some.thread in
    let first = c.in-Some.ensures r from q output error in
    c.home_pair.ensures r from a
    (told_known c.args.births.now s w rs t c.requires.noted.homes
    (kept_holds (told s rs w mover) (movers s rs w mover) t (sym first)))
    ∙ of_position s rs w mover at (Some t) is moves (by_told s rs w mover t first)

pub returns-in-None : goal.returns-in-None
returns-in-None c r from at q output error a is moves =
    let w = sent output error (world_of q c.args.state.now) in
    let s = session_of c.args.self.now r from in
    let rs = c.args.resumptions.now in
    let mover = c.args.mover in
    let b = c.args.births.now in
    let numbers : c.deref.result.now ≡ listed_at s w =
    c.deref.ensures.value ∙ c.in_ok-listed.ensures r from q output error a in
    let known : has_homes b (listed_at s w) ≡ true =
    listed_known b s w (all_moments from) a refl c.requires.noted.homes c.requires.told in
    let first = c.first_listed.ensures r from a (ap (has_homes b) numbers ∙ known)
    ∙ ap (λ (l : List ℕ). first_of ((among s rs w mover l ++ filter (of_home s rs w mover) l) ++ l))
    numbers in
    ap (λ (p : ℕ). (p, c.thread.result)) c.process.ensures
    ∙ ap (λ (t : ℕ). (s.process, t)) c.thread.ensures
    ∙ of_position s rs w mover at None is moves (by_listed s rs w mover None
    (sym (c.first_told.ensures r from q output error) ∙ c.in_default.is)
    (sym c.in-None.is ∙ first))

pub returns : goal.returns
returns c r from at q output error a is moves =
    let w = sent output error (world_of q c.args.state.now) in
    let s = session_of c.args.self.now r from in
    let rs = c.args.resumptions.now in
    let mover = c.args.mover in
    let b = c.args.births.now in
    let t = c.in-Some-first_listed.thread in
    let numbers : c.deref.result.now ≡ listed_at s w =
    c.deref.ensures.value ∙ c.in_ok-listed.ensures r from q output error a in
    let known : has_homes b (listed_at s w) ≡ true =
    listed_known b s w (all_moments from) a refl c.requires.noted.homes c.requires.told in
    let first : Some t ≡ first_of ((among s rs w mover (listed_at s w)
    ++ filter (of_home s rs w mover) (listed_at s w)) ++ listed_at s w) =
    sym c.in-Some-first_listed.is
    ∙ c.first_listed.ensures r from a (ap (has_homes b) numbers ∙ known)
    ∙ ap (λ (l : List ℕ). first_of ((among s rs w mover l ++ filter (of_home s rs w mover) l) ++ l))
    numbers in
    c.home_pair-in-Some-first_listed.ensures r from a
    (listed_holds (of_home s rs w mover) (listed_at s w) s.thread (has_home b) t known (sym first))
    ∙ of_position s rs w mover at (Some t) is moves (by_listed s rs w mover (Some t)
    (sym (c.first_told.ensures r from q output error) ∙ c.in_default.is) first)
