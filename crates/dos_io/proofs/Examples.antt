-- What the definitions come to on small cases.
use Rattle.std.specs.Prelude.{ℕ, List, [], ◌∷◌, Some, None, ◌≡◌, refl, codes}
use Rattle.dos_world.specs.declared.Post.{Post}
use Rattle.dos_world.specs.Play.{posts, input, reading}
use Rattle.dos_world.specs.declared.Ending.TheVariants.{Done}
use Rattle.dos_world.specs.declared.Question.TheVariants.{Signals as signals_question}
use Rattle.dos_world.specs.declared.Question.TheVariants.{Input as input_question}
use Rattle.dos_world.specs.declared.Question.TheVariants.{Clock as clock_question}
use Rattle.dos_world.specs.declared.Question.TheVariants.{End as end_question}
use Rattle.dos_io.specs.declared.exchange.Exchange.{Exchange}
use Rattle.dos_io.specs.declared.exchange.Exchange.TheVariants.{Signals, Input, Clock, End}
use Rattle.dos_io.specs.declared.exchange.ClockRule.TheVariants.{FromHost, Counted}
use Rattle.dos_io.specs.Exchanges.{question_of, answer_of}
use Rattle.dos_io.specs.Hosts.{Told, taken, after_input, before_reading}
use Rattle.dos_io.specs.Given.{posts_in, readings, counted_reading, Given}

-- ---- input: `0123456789` in pieces of four

abbrev pieces : List (List ℕ)
pieces = codes "0123" ∷ codes "4567" ∷ codes "89" ∷ []

-- a question for more takes no more than the first piece
one_piece : taken 64 pieces ≡ (codes "0123", codes "4567" ∷ codes "89" ∷ [])
one_piece = refl

-- a question for all of it lets the piece go
whole_piece : taken 4 pieces ≡ (codes "0123", codes "4567" ∷ codes "89" ∷ [])
whole_piece = refl

-- a question for less leaves the rest of it in front
part_of_piece : taken 3 pieces ≡ (codes "012", codes "3" ∷ codes "4567" ∷ codes "89" ∷ [])
part_of_piece = refl

-- no piece is left: the answer is empty
end_of_input : taken 64 [] ≡ ([], [])
end_of_input = refl

untold_input : after_input 64 None ≡ None
untold_input = refl

-- a reading leaves the front
reading_leaves : before_reading 5 (Some (record { pieces = pieces; readings = 7 ∷ [] }))
    ≡ Some (record { pieces = pieces; readings = 5 ∷ 7 ∷ [] })
reading_leaves = refl

-- ---- posts of a round, in the order of the words

abbrev first : Post
first = record { pid = 1; signal = 15 }

abbrev second : Post
second = record { pid = 2; signal = 9 }

abbrev third : Post
third = record { pid = 1; signal = 1 }

round_posts : posts_in ((2, first) ∷ (3, second) ∷ (2, third) ∷ []) 2 ≡ first ∷ third ∷ []
round_posts = refl

quiet_round : posts_in ((2, first) ∷ (3, second) ∷ []) 1 ≡ []
quiet_round = refl

-- ---- a counted clock goes round at 2^64

first_reading : counted_reading 100 7 0 ≡ 100
first_reading = refl

third_reading : counted_reading 100 7 2 ≡ 114
third_reading = refl

wrapped_reading : counted_reading 18446744073709551615 2 1 ≡ 1
wrapped_reading = refl

-- ---- a short run

abbrev run : List Exchange
run = Signals 1 [] ∷ Input 1 1 3 (codes "012") ∷ Clock 1 1 5 ∷ Signals 2 (first ∷ []) ∷ Input 2 1 3
    (codes "3") ∷ Clock 2 1 6 ∷ End Done 2 ∷ []

abbrev before : Told
before = record { pieces = codes "0123" ∷ codes "4" ∷ []; readings = 5 ∷ 6 ∷ 9 ∷ [] }

abbrev after : Told
after = record { pieces = codes "4" ∷ []; readings = 9 ∷ [] }

run_readings : readings run ≡ 5 ∷ 6 ∷ []
run_readings = refl

-- its answers are the host's and the words', and what they took is gone
given_by_host : Given ((2, first) ∷ []) FromHost 0 (Some before) (Some after) run
given_by_host = record {
  signals = (refl, (refl, tt));
  counted = tt;
  host = (after, refl, (refl, (refl, refl)), refl);
}

-- under a counted clock, where five readings were given before, the host's readings stay
given_counted : Given ((2, first) ∷ []) (Counted 0 1) 5 (Some before)
    (Some (record after { readings = before.readings })) run
given_counted = record {
  signals = (refl, (refl, tt));
  counted = (refl, (refl, tt));
  host = (record after { readings = before.readings }, refl, (refl, (refl, refl)), refl);
}

-- of a host that tells nothing only the posts and the counted clock are asked
given_untold : Given ((2, first) ∷ []) (Counted 5 1) 0 None None run
given_untold = record { signals = (refl, (refl, tt)); counted = (refl, (refl, tt)); host = refl }

-- ---- the parts of an exchange

input_question_of : question_of (Input 1 2 64 (codes "ab")) ≡ input_question 1 2 64
input_question_of = refl

input_answer_of : answer_of (Input 1 2 64 (codes "ab")) ≡ input (codes "ab")
input_answer_of = refl

signals_question_of : question_of (Signals 2 (first ∷ [])) ≡ signals_question 2
signals_question_of = refl

signals_answer_of : answer_of (Signals 2 (first ∷ [])) ≡ posts (first ∷ [])
signals_answer_of = refl

clock_question_of : question_of (Clock 1 2 5) ≡ clock_question 1 2
clock_question_of = refl

clock_answer_of : answer_of (Clock 1 2 5) ≡ reading 5
clock_answer_of = refl

end_question_of : question_of (End Done 2) ≡ end_question Done 2
end_question_of = refl
