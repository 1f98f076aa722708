-- An entry that is read is the entry that was written, and what was written is read again, in each
-- version.
use Rattle.std.proofs.Common.{◌≡◌, ℕ, ◌+◌, ◌≤◌, List, ◌++◌, Option, Some, None, Result}
use Rattle.std.proofs.Common.{Ok, Err, sym, ap, ◌∙◌}
use Rattle.std.proofs.Common.{arith}
use Rattle.dos_world.specs.declared.Ending.{Ending}
use Rattle.dos_io.specs.declared.exchange.Exchange.{Exchange}
use Rattle.dos_io.specs.declared.exchange.Exchange.TheVariants.{Signals, Input, Clock, End}
use Rattle.text_fields.specs.declared.refusal.FieldError.{FieldError}
use Rattle.log_text.specs.declared.refusal.LogError.TheVariants as refusal
use Rattle.log_text.specs.declared.version.LogVersion.{LogVersion}
use Rattle.log_text.specs.declared.version.LogVersion.TheVariants.{One, Two}
use Rattle.log_text.specs.declared.progress.Progress.{Progress}
use Rattle.log_text.specs.Bytes.{IsBytes}
use Rattle.log_text.specs.Items.{Item, quiet, kept}
use Rattle.log_text.specs.LogText.{item_text}
use Rattle.log_text.specs.Ranges.{InRange, NotEnd, HasPosts, least_posts, most_exchanges}
use Rattle.log_text.specs.Reading.{item_at, after_item, as_row, refused_as}
use Rattle.log_text.specs.Rows.{item_row}
use Rattle.log_text.specs.Views.{item_ending}
use Rattle.log_text.specs.Spelling.{FitsItem, MayCome}
use Rattle.log_text.proofs.RowLaws.{item_format, item_text_is, comes_of_row, row_of_coming}
use Rattle.log_text.proofs.Steps.{Takes, row_again, row_takes}

-- ---- what is read is what was written

pub record SpellsItem (v : LogVersion) (p : Progress) (bytes : List ℕ) (x : Item × List ℕ)
    : Type 0 where
  pub takes : Takes bytes (item_text x.0) x.1
  pub comes : MayCome v p x.0

pub item_takes : (v : LogVersion) (p : Progress) (end : ℕ) (bytes : List ℕ) (x : Item × List ℕ)
    → IsBytes bytes → p.held ≤ most_exchanges → item_at v p end bytes ≡ Ok x
    → SpellsItem v p bytes x
unfolding item_at
item_takes v p end bytes x fits le e =
    let t = row_takes (item_row v p) (item_format v p) refusal.Entry end bytes x fits e in
    record {
      takes = record {
        parts = t.takes.parts ∙ ap (λ (text : List ℕ). text ++ x.1) (item_text_is v p x.0);
        rest_fits = t.takes.rest_fits;
      };
      comes = comes_of_row v p x.0 le t.fits;
    }

-- ---- as a log's reading answers what the row does

pub item_read : (v : LogVersion) (p : Progress) (end : ℕ) (bytes : List ℕ) (x : Item × List ℕ)
    → (item_row v p).read end bytes ≡ Ok x → item_at v p end bytes ≡ Ok x
unfolding item_at
item_read v p end bytes x e =
    ap (λ (r : Result (Item × List ℕ) FieldError). as_row refusal.Entry r) e

pub item_refused : (v : LogVersion) (p : Progress) (end : ℕ) (bytes : List ℕ) (d : FieldError)
    → (item_row v p).read end bytes ≡ Err d
    → item_at v p end bytes ≡ Err (refused_as refusal.Entry d)
unfolding item_at
item_refused v p end bytes d e =
    ap (λ (r : Result (Item × List ℕ) FieldError). as_row refusal.Entry r) e

-- ---- what was written is read again

pub item_again : (v : LogVersion) (p : Progress) (end : ℕ) (item : Item) (rest : List ℕ)
    → MayCome v p item → item_at v p end (item_text item ++ rest) ≡ Ok (item, rest)
unfolding item_at
item_again v p end item rest fits =
    ap (λ (text : List ℕ). as_row refusal.Entry ((item_row v p).read end (text ++ rest)))
    (sym (item_text_is v p item))
    ∙ row_again (item_row v p) (item_format v p) refusal.Entry end item rest
    (row_of_coming v p item fits)

pub comes_kept : (v : LogVersion) (p : Progress) (e : Exchange) → InRange e → NotEnd e
    → HasPosts (least_posts v) e → p.held + 1 ≤ most_exchanges → MayCome v p (kept e)
comes_kept v p (Signals round list) fits not posts held =
    record { range = fits; no_end = not; posts = posts; held = held }
comes_kept v p (Input round tid max bytes) fits not posts held =
    record { range = fits; no_end = not; posts = posts; held = held }
comes_kept v p (Clock round tid n) fits not posts held =
    record { range = fits; no_end = not; posts = posts; held = held }
comes_kept v p (End ending rounds) fits not posts held = absurd not

-- where fewer exchanges were read, and nothing goes on, it may come too
pub comes_first : (v : LogVersion) (p q : Progress) (item : Item) → q.held ≤ p.held
    → q.goes_on ≡ None → FitsItem v p item → FitsItem v q item
comes_first v p q (kept e) le none fits =
    record {
      range = fits.range;
      no_end = fits.no_end;
      posts = fits.posts;
      held = omega (arith, le, fits.held);
    }
comes_first One p q (quiet round count) le none fits = absurd fits
comes_first Two p q (quiet round count) le none fits =
    record {
      apart = λ on. absurd (let wrong : None ≡ Some round = sym none ∙ on in cc);
      some = fits.some;
      last = fits.last;
      held = omega (arith, le, fits.held);
    }

pub fits_comes : (v : LogVersion) (p : Progress) (item : Item) → FitsItem v p item
    → MayCome v p item
fits_comes v p (quiet round count) fits = fits
fits_comes v p (kept e) fits = comes_kept v p e fits.range fits.no_end fits.posts fits.held

pub item_held : (v : LogVersion) (p : Progress) (item : Item) → FitsItem v p item
    → (after_item p item).held ≤ most_exchanges
item_held v p (kept e) fits = fits.held
item_held One p (quiet round count) fits = absurd fits
item_held Two p (quiet round count) fits = fits.held

pub comes_fits : (v : LogVersion) (p : Progress) (item : Item) → MayCome v p item
    → item_ending item ≡ None → FitsItem v p item
comes_fits v p (quiet round count) fits none = fits
comes_fits v p (kept (Signals round list)) fits none = fits
comes_fits v p (kept (Input round tid max bytes)) fits none = fits
comes_fits v p (kept (Clock round tid n)) fits none = fits
comes_fits v p (kept (End ending rounds)) fits none = absurd cc

abbrev some_pair : Ending × ℕ → Option (Ending × ℕ)
some_pair p = Some p

some_pair_is : (x y : Ending × ℕ) → some_pair x ≡ some_pair y → x ≡ y
some_pair_is x y e = cc

pub ends_as : (item : Item) (last : Ending × ℕ) → item_ending item ≡ Some last
    → item ≡ kept (End last.0 last.1)
ends_as (kept (End ending rounds)) last is =
    ap (λ (p : Ending × ℕ). kept (End p.0 p.1)) (some_pair_is (ending, rounds) last is)
ends_as (kept (Signals round list)) last is = absurd cc
ends_as (kept (Input round tid max bytes)) last is = absurd cc
ends_as (kept (Clock round tid n)) last is = absurd cc
ends_as (quiet round count) last is = absurd cc
