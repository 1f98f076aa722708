-- What a ledger keeps in its type stays.
use Rattle.std.proofs.Common.{◌≡◌, ℕ, ◌+◌, ◌*◌, ◌^◌, ◌≤◌, ◌<◌, List, [], ◌∷◌, ◌++◌, length, Option}
use Rattle.std.proofs.Common.{Some, None, refl, sym, ap, subst, ◌∙◌, append_assoc, arith, inl, inr}
use Rattle.std.proofs.lemmas.List.{append-nil, length-append, length-replicate}
use Rattle.std.proofs.Common.{◌⊎◌, replicate}
use Rattle.dos_world.specs.declared.Post.{Post}
use Rattle.dos_world.specs.declared.Question.{Question}
use Rattle.dos_world.specs.declared.Ending.{Ending}
use Rattle.dos_io.specs.declared.exchange.Exchange.{Exchange}
use Rattle.dos_io.specs.declared.exchange.ClockRule.{ClockRule}
use Rattle.dos_io.specs.declared.shim.ShimStop.{ShimStop}
use Rattle.dos_io.specs.declared.shim.ShimStop.TheVariants.{HostFault}
use Rattle.dos_io.specs.Exchanges.{question_of}
use Rattle.dos_io.specs.Hosts.{Told}
use Rattle.dos_io.specs.Given.{readings, Given}
use Rattle.dos_io.specs.Shims.{HasNoEnd}
use Rattle.dos_io.specs.Outside.{Rose}
use Rattle.dos_io.proofs.GivenLaws.{given_none}
use Rattle.log_text.specs.declared.header.LogHeader.{LogHeader}
use Rattle.log_text.specs.declared.version.LogVersion.TheVariants.{Two}
use Rattle.log_text.specs.LogText.{header_text, entries_text, logtext}
use Rattle.log_text.specs.Ranges.{FitsHeader, InRange, NotEnd, AreEntries, FitsInput}
use Rattle.log_text.specs.Ranges.{FitsClock, most_exchanges}
use Rattle.log_text.proofs.LengthLaws.{header_length, input_length, text_length}
use Rattle.dos_io.specs.declared.exchange.Exchange.TheVariants.{Signals, Input, Clock, End}
use Rattle.dos_io.specs.Posts.{ArePosts}
use Rattle.dos_io.specs.Given.{posts_in}
use Rattle.log_text.specs.EntriesText.{GrowsBy}
use Rattle.log_text.specs.Ranges.{most_bytes}
use Rattle.shim_log.specs.Room.{longest, IsOver, NoRoom, HadRoom, IsLogFull}
use Rattle.dos_world.specs.declared.Question.TheVariants.{Signals as signals_question}
use Rattle.dos_world.specs.declared.Question.TheVariants.{Input as input_question}
use Rattle.dos_world.specs.declared.Question.TheVariants.{Clock as clock_question}
use Rattle.dos_world.specs.declared.Question.TheVariants.{End as end_question}
use Rattle.log_text.proofs.GrowingLaws.{loud_grows}
use Rattle.shim_log.specs.Ledger.{LedgerState, ArePlanned, end_of_ledger, recorder_state}
use Rattle.shim_log.specs.Ledger.{IsLedger, AddsEntry, stopped, added, RecorderFollows}
use Rattle.log_text.proofs.EntriesTextLaws.{all_push}

room_push : (h : LogHeader) (posts : List (ℕ × Post)) (seen es : List Exchange) (e : Exchange)
    → HadRoom h posts seen es → (NoRoom h posts (seen ++ es) (question_of e) → ⊥)
    → HadRoom h posts seen (es ++ e ∷ [])
room_push h posts seen [] e had not = (
  subst (λ (xs : List Exchange). NoRoom h posts xs (question_of e) → ⊥) (append-nil seen) not,
  tt,
)
room_push h posts seen (x ∷ es) e had not = (
  had.0,
  room_push h posts (seen ++ x ∷ []) es e had.1
      (subst (λ (xs : List Exchange). NoRoom h posts xs (question_of e) → ⊥)
      (sym (append_assoc seen (x ∷ []) es)) not),
)

-- ---- counted in bytes

full_is : (h : LogHeader) (posts : List (ℕ × Post)) (es : List Exchange) (q : Question) (bytes : ℕ)
    → GrowsBy es (longest posts q) bytes → IsLogFull h es bytes
    → IsOver h es (longest posts q) ⊎ (most_exchanges ≤ length es)
unfolding GrowsBy IsLogFull IsOver
full_is h posts es q bytes grows (inl over) = inl (omega (arith, grows, over))
full_is h posts es q bytes grows (inr held) = inr held

is_full : (h : LogHeader) (posts : List (ℕ × Post)) (es : List Exchange) (q : Question) (bytes : ℕ)
    → GrowsBy es (longest posts q) bytes
    → IsOver h es (longest posts q) ⊎ (most_exchanges ≤ length es) → IsLogFull h es bytes
unfolding GrowsBy IsLogFull IsOver
is_full h posts es q bytes grows (inl over) = inl (omega (arith, grows, over))
is_full h posts es q bytes grows (inr held) = inr held

pub no_room : (h : LogHeader) (posts : List (ℕ × Post)) (es : List Exchange) (q : Question)
    (bytes : ℕ) → AddsEntry q → GrowsBy es (longest posts q) bytes → IsLogFull h es bytes
    → NoRoom h posts es q
no_room h posts es (signals_question round) bytes adds grows full =
    full_is h posts es (signals_question round) bytes grows full
no_room h posts es (input_question round tid max) bytes adds grows full =
    full_is h posts es (input_question round tid max) bytes grows full
no_room h posts es (clock_question round tid) bytes adds grows full =
    full_is h posts es (clock_question round tid) bytes grows full
no_room h posts es (end_question ending rounds) bytes adds grows full = absurd adds

pub is_free : (h : LogHeader) (posts : List (ℕ × Post)) (es : List Exchange) (q : Question)
    (bytes : ℕ) → GrowsBy es (longest posts q) bytes → NoRoom h posts es q → IsLogFull h es bytes
is_free h posts es (signals_question round) bytes grows none =
    is_full h posts es (signals_question round) bytes grows none
is_free h posts es (input_question round tid max) bytes grows none =
    is_full h posts es (input_question round tid max) bytes grows none
is_free h posts es (clock_question round tid) bytes grows none =
    is_full h posts es (clock_question round tid) bytes grows none
is_free h posts es (end_question ending rounds) bytes grows none = absurd none

-- where a question has room, so have fewer bytes than its longest answer has
record HasRoom (h : LogHeader) (es : List Exchange) (e : Exchange) : Type 0 where
  few : length es < most_exchanges
  small : length (header_text Two h) + length (entries_text Two (es ++ e ∷ [])) + 6 ≤ most_bytes

has_room : (h : LogHeader) (es : List Exchange) (e l : Exchange) (m n : ℕ) → GrowsBy es e m
    → GrowsBy es l n → m ≤ n → (IsOver h es l ⊎ (most_exchanges ≤ length es) → ⊥)
    → HasRoom h es e
unfolding GrowsBy IsOver
has_room h es e l m n grows grows' le not = record {
  few = below (length es) (λ held. not (inr held));
  small = within (length (header_text Two h)) (length (entries_text Two es)) m n
      (length (entries_text Two (es ++ e ∷ []))) (length (entries_text Two (es ++ l ∷ [])))
      grows grows' le (λ over. not (inl over));
}
  where
    below : (n : ℕ) → (most_exchanges ≤ n → ⊥) → n < most_exchanges
    below n not = omega (arith, not)

    within : (h t m n a b : ℕ) → a ≡ t + m → b ≡ t + n → m ≤ n → (most_bytes < h + b + 6 → ⊥)
        → h + a + 6 ≤ most_bytes
    within h t m n a b p q le not = omega (arith, not, p, q, le)

room_itself : (h : LogHeader) (es : List Exchange) (e : Exchange)
    → (IsOver h es e ⊎ (most_exchanges ≤ length es) → ⊥) → HasRoom h es e
unfolding IsOver
room_itself h es e not = record {
  few = below (length es) (λ held. not (inr held));
  small = within (length (header_text Two h)) (length (entries_text Two (es ++ e ∷ [])))
      (λ over. not (inl over));
}
  where
    below : (n : ℕ) → (most_exchanges ≤ n → ⊥) → n < most_exchanges
    below n not = omega (arith, not)

    within : (h a : ℕ) → (most_bytes < h + a + 6 → ⊥) → h + a + 6 ≤ most_bytes
    within h a not = omega (arith, not)

ledger_adds : (b : LedgerState) (e : Exchange) (r : ℕ) → IsLedger b → InRange e → NotEnd e
    → (NoRoom b.header b.posts b.entries (question_of e) → ⊥) → HasRoom b.header b.entries e
    → IsLedger (record (added b e) { room = r })
ledger_adds b e r is fits not room has = record {
  posts = is.posts;
  posts_few = is.posts_few;
  header = is.header;
  entries = all_push _ b.entries e is.entries (fits, not);
  had_room = room_push b.header b.posts [] b.entries e is.had_room room;
  stop = tt;
  never = is.never;
  few = omega (arith, has.few, length-append b.entries (e ∷ []));
  small = has.small;
}

abbrev the_stop : ShimStop → Option ShimStop
the_stop s = Some s

stop_is : (s u : ShimStop) → the_stop s ≡ the_stop u → s ≡ u
stop_is s u e = cc

pub follows_stop : (b : LedgerState) (q : Question) (stop : ShimStop) (r : ℕ) (a : Option Told)
    (m n : ℕ) → m ≤ n → (stop ≡ HostFault → Rose m n)
    → RecorderFollows b (record (stopped b q stop) { room = r }) a a m n
follows_stop b q stop r a m n le h = record {
  header_same = refl;
  posts_same = refl;
  clock_same = refl;
  more = [];
  told_is = sym (append-nil (recorder_state b).told);
  given = given_none b.posts b.clock _ a;
  grows = le;
  cause = inr (λ e. h (stop_is _ _ e));
}

-- before the first question
pub new_ledger : (posts : List (ℕ × Post)) (clock : ClockRule) (h : LogHeader) (es : List Exchange)
    (r : ℕ) → es ≡ [] → ArePlanned posts → length posts ≤ 32 → FitsHeader h
    → IsLedger (record {
      posts = posts;
      clock = clock;
      header = h;
      entries = es;
      ended = None;
      stops = 0;
      last = None;
      asked = None;
      room = r;
    })
new_ledger posts clock h es r none planned few fits = record {
  posts = planned;
  posts_few = few;
  header = fits;
  entries = subst AreEntries (sym none) tt;
  had_room = subst (HadRoom h posts []) (sym none) tt;
  stop = tt;
  never = tt;
  few = rw none (omega arith);
  small = rw none (small_is _ _ (header_length Two h fits.digests) fits.count.1);
}
  where
    small_is : (t k : ℕ) → t ≡ 20 + 32 * k → k ≤ 8 → t + 0 + 6 ≤ 67108864
    small_is t k e le = omega arith

-- what it says of an exchange that was added
pub follows_adds : (b : LedgerState) (e : Exchange) (r : ℕ) (a c : Option Told) (m n : ℕ)
    → b.ended ≡ None → m ≤ n → Given b.posts b.clock (length (readings b.entries)) a c (e ∷ [])
    → RecorderFollows b (record (added b e) { room = r }) a c m n
follows_adds b e r a c m n none le given =
    let told : (recorder_state b).told ≡ b.entries = rw none (append-nil b.entries) in
    record {
      header_same = refl;
      posts_same = refl;
      clock_same = refl;
      more = e ∷ [];
      told_is = ap (λ (x : Option _). (b.entries ++ e ∷ []) ++ end_of_ledger x) none
          ∙ append-nil (b.entries ++ e ∷ []) ∙ ap (λ (x : List Exchange). x ++ e ∷ []) (sym told);
      given = subst (λ (x : List Exchange). Given b.posts b.clock (length (readings x)) a c
          (e ∷ [])) (sym told) given;
      grows = le;
      cause = inl (refl, refl);
    }

-- ---- one more entry of each kind

pub signals_added : (b : LedgerState) (round : ℕ) (list : List Post) (r : ℕ) → IsLedger b
    → round < 2 ^ 32 → length list ≤ 32 → ArePosts list → list ≡ posts_in b.posts round
    → (NoRoom b.header b.posts b.entries (signals_question round) → ⊥)
    → IsLedger (record (added b (Signals round list)) { room = r })
signals_added b round list r is low few posts same room =
    ledger_adds b (Signals round list) r is
    (record { round_fits = low; count = few; posts = posts }) tt room
    (subst (λ (ps : List Post). HasRoom b.header b.entries (Signals round ps)) (sym same)
    (room_itself b.header b.entries (Signals round (posts_in b.posts round)) room))

abbrev zero_byte : ℕ
zero_byte = 0

pub input_added : (b : LedgerState) (round tid max : ℕ) (bytes : List ℕ) (r : ℕ) → IsLedger b
    → FitsInput round tid max bytes
    → (NoRoom b.header b.posts b.entries (input_question round tid max) → ⊥)
    → IsLedger (record (added b (Input round tid max bytes)) { room = r })
input_added b round tid max bytes r is fits room =
    ledger_adds b (Input round tid max bytes) r is fits tt room
    (has_room b.header b.entries (Input round tid max bytes)
    (Input round tid max (replicate max 0)) _ _
    (loud_grows b.entries (Input round tid max bytes) tt)
    (loud_grows b.entries (Input round tid max (replicate max 0)) tt)
    (omega (
      arith,
      input_length round tid max bytes,
      input_length round tid max (replicate max 0),
      length-replicate max zero_byte,
      fits.short,
    )) room)

pub clock_added : (b : LedgerState) (round tid n r : ℕ) → IsLedger b → FitsClock round tid n
    → (NoRoom b.header b.posts b.entries (clock_question round tid) → ⊥)
    → IsLedger (record (added b (Clock round tid n)) { room = r })
clock_added b round tid n r is fits room =
    ledger_adds b (Clock round tid n) r is fits tt room
    (has_room b.header b.entries (Clock round tid n) (Clock round tid 0) _ _
    (loud_grows b.entries (Clock round tid n) tt) (loud_grows b.entries (Clock round tid 0) tt)
    (omega arith) room)

-- where there is room, fewer exchanges are held than may be
pub room_few : (h : LogHeader) (posts : List (ℕ × Post)) (es : List Exchange) (q : Question)
    → AddsEntry q → (NoRoom h posts es q → ⊥) → length es < most_exchanges
room_few h posts es (signals_question round) adds room =
    omega (arith, λ (held : most_exchanges ≤ length es). room (inr held))
room_few h posts es (input_question round tid max) adds room =
    omega (arith, λ (held : most_exchanges ≤ length es). room (inr held))
room_few h posts es (clock_question round tid) adds room =
    omega (arith, λ (held : most_exchanges ≤ length es). room (inr held))
room_few h posts es (end_question ending rounds) adds room = absurd adds

-- by how many bytes the longest answers make the text longer
pub input_grows : (posts : List (ℕ × Post)) (es : List Exchange) (round tid max : ℕ)
    → GrowsBy es (longest posts (input_question round tid max)) (13 + max)
input_grows posts es round tid max =
    subst (GrowsBy es (Input round tid max (replicate max 0)))
    (input_length round tid max (replicate max 0)
    ∙ ap (λ (n : ℕ). 13 + n) (length-replicate max zero_byte))
    (loud_grows es (Input round tid max (replicate max 0)) tt)

pub clock_grows : (posts : List (ℕ × Post)) (es : List Exchange) (round tid : ℕ)
    → GrowsBy es (longest posts (clock_question round tid)) 17
clock_grows posts es round tid =
    subst (GrowsBy es (Clock round tid 0)) (omega arith)
    (loud_grows es (Clock round tid 0) tt)

-- ---- the log of a ledger whose end was told

entries_no_end : (es : List Exchange) → AreEntries es → HasNoEnd es
entries_no_end [] fits = tt
entries_no_end (End ending rounds ∷ es) fits = absurd fits.0.1
entries_no_end (e ∷ es) fits = entries_no_end es fits.1

pub has_end : (b : LedgerState) → IsLedger b → b.ended ≡ None
    → (HasNoEnd (recorder_state b).told → ⊥) → ⊥
has_end b is none wrong =
    wrong (subst HasNoEnd
    (sym (ap (λ (x : Option (Ending × ℕ)). b.entries ++ end_of_ledger x) none
    ∙ append-nil b.entries))
    (entries_no_end b.entries is.entries))

-- the log of its entries is no longer than a log may be
pub small_text : (b : LedgerState) (ending : Ending) (rounds : ℕ) → IsLedger b
    → length (logtext (record {
      version = Two;
      header = b.header;
      entries = b.entries;
      ending = ending;
      rounds = rounds;
    })) ≤ most_bytes
small_text b ending rounds is =
    omega (
      arith,
      text_length (record {
        version = Two;
        header = b.header;
        entries = b.entries;
        ending = ending;
        rounds = rounds;
      }),
      is.small,
    )
