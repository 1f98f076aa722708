use Rattle.std.proofs.Common.{◌≡◌, ◌≤◌, ◌+◌, ◌*◌, ◌∙◌, ℕ, List, []}
use Rattle.std.proofs.Common.{length, sym, ap, subst, arith}
use Rattle.std.proofs.lemmas.List.{nil_from_length}
use Rattle.dos_world.specs.declared.Post.{Post}
use Rattle.dos_io.specs.declared.exchange.Exchange.{Exchange}
use Rattle.dos_io.specs.declared.exchange.Exchange.TheVariants.{Signals}
use Rattle.log_text.specs.Items.{exchanges_of_items}
use Rattle.log_text.specs.EntriesText.{GrowingState, grown_items}
use Rattle.log_text.specs.EntriesText.{GrowsBy}
use Rattle.log_text.proofs.GrowingLaws.{loud_grows, quiet_grows, on_grows, stretch_few, is_loud}
use Rattle.log_text.proofs.LengthLaws.{signals_length}
use Rattle.log_text.proofs.growing.GrowingEntries.signals_bytes.Goals as goal

pub counted_up-requires : goal.counted_up-requires
counted_up-requires c = stretch_few _ _ _ c.self.invariant.0

pub returns-then-posts-ne0-clause-value : goal.returns-then-posts-ne0-clause-value
returns-then-posts-ne0-clause-value c =
    let long : 1 ≤ length c.args.list.now = omega arith in
    subst (GrowsBy c.args.self.now.list (Signals c.args.round c.args.list.now))
    (signals_length c.args.round c.args.list.now
    ∙ ap (λ (n : ℕ). 6 + 5 * n) (sym c.len-posts.ensures.value))
    (loud_grows c.args.self.now.list (Signals c.args.round c.args.list.now)
    (is_loud c.args.round c.args.list.now long))

pub returns-in-Some-clause-value : goal.returns-in-Some-clause-value
returns-in-Some-clause-value c =
    let none : c.args.list.now ≡ [] = nil_from_length c.args.list.now (omega arith) in
    subst (λ (es : List Exchange). GrowsBy es (Signals c.args.round c.args.list.now) 0)
    (ap (λ (s : GrowingState). s.list) c.self.view_is)
    (subst (λ (posts : List Post). GrowsBy (exchanges_of_items (grown_items c.self.inside.text.items
    c.self.inside.stretch)) (Signals c.args.round posts) 0) (sym none)
    (on_grows _ _ _ c.args.round _ c.self.invariant.0 (sym c.counted_up.ensures ∙ c.in-Some.is)))

pub returns-in-None-clause-value : goal.returns-in-None-clause-value
returns-in-None-clause-value c =
    let none : c.args.list.now ≡ [] = nil_from_length c.args.list.now (omega arith) in
    subst (λ (es : List Exchange). GrowsBy es (Signals c.args.round c.args.list.now) 9)
    (ap (λ (s : GrowingState). s.list) c.self.view_is)
    (subst (λ (posts : List Post). GrowsBy (exchanges_of_items (grown_items c.self.inside.text.items
    c.self.inside.stretch)) (Signals c.args.round posts) 9) (sym none)
    (quiet_grows _ _ _ c.args.round c.self.invariant.0 (sym c.counted_up.ensures ∙ c.in-None.is)))
