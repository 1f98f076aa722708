-- What a recorder shows after an answer.
use Rattle.std.proofs.Common.{◌≡◌, ℕ, ◌≤◌, List, [], ◌∷◌, ◌++◌, length, Option, Some, None}
use Rattle.std.proofs.Common.{inl, refl, sym, ap, subst, ◌∙◌, arith}
use Rattle.std.proofs.lemmas.List.{append-nil}
use Rattle.dos_world.specs.declared.Post.{Post}
use Rattle.dos_world.specs.declared.Ending.{Ending}
use Rattle.dos_io.specs.declared.exchange.Exchange.{Exchange}
use Rattle.dos_io.specs.declared.exchange.Exchange.TheVariants.{Clock, End}
use Rattle.dos_io.specs.declared.exchange.ClockRule.{ClockRule}
use Rattle.dos_io.specs.declared.exchange.ClockRule.TheVariants.{FromHost, Counted}
use Rattle.dos_io.specs.Hosts.{Told, before_reading}
use Rattle.dos_io.specs.Outside.{Rose}
use Rattle.dos_world.specs.declared.Question.{Question}
use Rattle.dos_io.specs.declared.shim.ShimStop.{ShimStop}
use Rattle.dos_io.specs.declared.shim.ShimStop.TheVariants.{HostFault}
use Rattle.dos_io.specs.Given.{readings, Given, GivesHost}
use Rattle.dos_io.proofs.GivenSteps.{given_end, given_reading}
use Rattle.dos_io.specs.Shims.{shim_answered, HasNoEnd}
use Rattle.log_text.specs.declared.header.LogHeader.{LogHeader}
use Rattle.shim_log.specs.Ledger.{LedgerState, end_of_ledger, recorder_state, empty_ledger, added}
use Rattle.shim_log.specs.Ledger.{stopped}
use Rattle.shim_log.specs.Ledger.{ledger_closed, RecorderFollows, next_reading}
use Rattle.shim_log.proofs.LedgerLaws.{follows_adds, follows_stop}

pub readings_short : (es : List Exchange) → length (readings es) ≤ length es
readings_short [] = omega arith
readings_short (Clock round tid n ∷ es) = omega (arith, readings_short es)
readings_short (e ∷ es) = omega (arith, readings_short es)

has_end : (es : List Exchange) (e : Ending × ℕ) → HasNoEnd (es ++ end_of_ledger (Some e)) → ⊥
has_end [] e h = h
has_end (End ending rounds ∷ es) e h = h
has_end (x ∷ es) e h = has_end es e h

none_ended : (es : List Exchange) (ended : Option (Ending × ℕ))
    → HasNoEnd (es ++ end_of_ledger ended)
    → ended ≡ None
none_ended es None h = refl
none_ended es (Some e) h = absurd (has_end es e h)

pub no_end : (b : LedgerState) → HasNoEnd (recorder_state b).told → b.ended ≡ None
no_end b h = none_ended b.entries b.ended h

shows : (b : LedgerState) (e : Exchange) → b.ended ≡ None
    → recorder_state (added b e) ≡ shim_answered (recorder_state b) e
shows b e none =
    let told : (b.entries ++ e ∷ []) ++ end_of_ledger b.ended
    ≡ (b.entries ++ end_of_ledger b.ended) ++ e ∷ [] =
    ap (λ (x : Option (Ending × ℕ)). (b.entries ++ e ∷ []) ++ end_of_ledger x) none
    ∙ append-nil (b.entries ++ e ∷ []) ∙ ap (λ (x : List Exchange). x ++ e ∷ [])
    (sym (ap (λ (x : Option (Ending × ℕ)). b.entries ++ end_of_ledger x) none
    ∙ append-nil b.entries)) in
    ap (λ (x : List Exchange). record { told = x; stops = b.stops; last = b.last; asked = None })
    told

-- b' has more room than b, and n has one more exchange
pub adds_ok : (b b' n : LedgerState) (r r' : ℕ) (e : Exchange) → HasNoEnd (recorder_state b).told
    → b' ≡ record b { room = r' } → n ≡ record (added b' e) { room = r }
    → recorder_state n ≡ shim_answered (recorder_state b) e
adds_ok b b' n r r' e h same is = ap recorder_state is
    ∙ ap (λ (x : LedgerState). recorder_state (added x e)) same ∙ shows b e (no_end b h)

pub adds_follow : (b b' n : LedgerState) (r r' : ℕ) (e : Exchange) (a c : Option Told) (l m : ℕ)
    → HasNoEnd (recorder_state b).told → b' ≡ record b { room = r' }
    → n ≡ record (added b' e) { room = r } → l ≤ m
    → Given b'.posts b'.clock (length (readings b'.entries)) a c (e ∷ [])
    → RecorderFollows b n a c l m
adds_follow b b' n r r' e a c l m h same is le given =
    let given' : Given b.posts b.clock (length (readings b.entries)) a c (e ∷ []) =
    subst (λ (x : LedgerState). Given x.posts x.clock (length (readings x.entries)) a c
    (e ∷ [])) same given in
    let n-is : n ≡ record (added b e) { room = r } =
    is ∙ ap (λ (x : LedgerState). record (added x e) { room = r }) same in
    subst (λ (x : LedgerState). RecorderFollows b x a c l m) (sym n-is)
    (follows_adds b e r a c l m (no_end b h) le given')

abbrev pub one_number : ℕ → Option ℕ
one_number n = Some n

number_is : (x y : ℕ) → one_number x ≡ one_number y → x ≡ y
number_is x y e = cc

same_host : (start step : ℕ) (a : Option Told) (round tid n : ℕ)
    → GivesHost (Counted start step) a a (Clock round tid n ∷ [])
same_host start step None round tid n = refl
same_host start step (Some t) round tid n = (t, refl, refl, refl)

pub given_counted : (posts : List (ℕ × Post)) (clock : ClockRule) (k : ℕ) (a : Option Told)
    (round tid n : ℕ) → one_number n ≡ next_reading clock k
    → Given posts clock k a a (Clock round tid n ∷ [])
given_counted posts FromHost k a round tid n e = absurd cc
given_counted posts (Counted start step) k a round tid n e =
    record {
      signals = tt;
      counted = (number_is _ _ e, tt);
      host = same_host start step a round tid n;
    }

pub given_read : (posts : List (ℕ × Post)) (clock : ClockRule) (k : ℕ) (a c : Option Told)
    (round tid n : ℕ) → None ≡ next_reading clock k → a ≡ before_reading n c
    → Given posts clock k a c (Clock round tid n ∷ [])
given_read posts FromHost k a c round tid n none e =
    given_reading posts k a c round tid n e
given_read posts (Counted start step) k a c round tid n none e = absurd cc

-- ---- the end

pub closes_ok : (b n : LedgerState) (ending : Ending) (rounds : ℕ)
    → HasNoEnd (recorder_state b).told → n ≡ ledger_closed b ending rounds
    → recorder_state n ≡ shim_answered (recorder_state b) (End ending rounds)
closes_ok b n ending rounds h is =
    let none : b.entries ++ end_of_ledger b.ended ≡ b.entries =
    ap (λ (x : Option (Ending × ℕ)). b.entries ++ end_of_ledger x) (no_end b h)
    ∙ append-nil b.entries in
    ap recorder_state is
    ∙ ap (λ (x : List Exchange). record {
      told = x ++ End ending rounds ∷ [];
      stops = b.stops;
      last = b.last;
      asked = None;
    }) (sym none)

pub closes_follow : (b n : LedgerState) (ending : Ending) (rounds : ℕ) (a : Option Told) (m : ℕ)
    → HasNoEnd (recorder_state b).told → n ≡ ledger_closed b ending rounds
    → RecorderFollows b n a a m m
closes_follow b n ending rounds a m h is =
    let none : b.entries ++ end_of_ledger b.ended ≡ b.entries =
    ap (λ (x : Option (Ending × ℕ)). b.entries ++ end_of_ledger x) (no_end b h)
    ∙ append-nil b.entries in
    subst (λ (x : LedgerState). RecorderFollows b x a a m m) (sym is) (record {
      header_same = refl;
      posts_same = refl;
      clock_same = refl;
      more = End ending rounds ∷ [];
      told_is = ap (λ (x : List Exchange). x ++ End ending rounds ∷ []) (sym none);
      given = given_end b.posts b.clock _ a ending rounds;
      grows = omega arith;
      cause = inl (refl, refl);
    })

-- ---- a stop, after memory was taken

pub stops_follow : (b b' n : LedgerState) (r : ℕ) (q : Question) (stop : ShimStop)
    (a c : Option Told) (l m : ℕ) → b' ≡ record b { room = r } → n ≡ stopped b' q stop → c ≡ a
    → l ≤ m → (stop ≡ HostFault → Rose l m) → RecorderFollows b n a c l m
stops_follow b b' n r q stop a c l m same is told le rose =
    let g : RecorderFollows b (stopped (record b { room = r }) q stop) a a l m =
    follows_stop b q stop r a l m le rose in
    subst (λ (x : Option Told). RecorderFollows b n a x l m) (sym told)
    (subst (λ (x : LedgerState). RecorderFollows b x a a l m)
    (sym (is ∙ ap (λ (x : LedgerState). stopped x q stop) same)) g)

-- ---- from the first question on

pub recording_given : (posts : List (ℕ × Post)) (clock : ClockRule) (header : LogHeader) (room : ℕ)
    (after : LedgerState) (a b : Option Told) (m n : ℕ)
    → RecorderFollows (empty_ledger posts clock header room) after a b m n
    → Given posts clock 0 a b (recorder_state after).told
recording_given posts clock header room after a b m n follows =
    subst (λ (es : List Exchange). Given posts clock 0 a b es) (sym follows.told_is) follows.given
