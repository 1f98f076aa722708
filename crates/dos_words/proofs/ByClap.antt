-- What other words ask for, as clap takes them.
use Rattle.std.specs.Prelude.{[], ◌∷◌, Some, None, codes, ◌≡◌, refl}
use Rattle.clap.proofs.OnLiterals.{clap_on_literals}
use Rattle.dos_words.specs.declared.request.Request.TheVariants.{Run}
use Rattle.dos_world.specs.declared.Scheme.TheVariants.{Ownership, Buffered}
use Rattle.dos_words.specs.Request.{request}
use Rattle.dos_words.specs.Clap.{clap_request}

-- ---- taken

-- an option and its value in one word
attached : request (codes "run" ∷ codes "--log=l" ∷ codes "a" ∷ [])
    ≡ Some (Run 1000 100000 4096 4 Ownership [] None 1 (codes "l") (codes "a" ∷ []))
unfolding clap_on_literals
attached = refl

-- an option behind the names
names_first : request (codes "run" ∷ codes "a" ∷ codes "--log" ∷ codes "l" ∷ [])
    ≡ Some (Run 1000 100000 4096 4 Ownership [] None 1 (codes "l") (codes "a" ∷ []))
unfolding clap_on_literals
names_first = refl

-- behind `--` a name may begin with `-`
dash_name : request (codes "run" ∷ codes "--log" ∷ codes "l" ∷ codes "--" ∷ codes "-a" ∷ [])
    ≡ Some (Run 1000 100000 4096 4 Ownership [] None 1 (codes "l") (codes "-a" ∷ []))
unfolding clap_on_literals
dash_name = refl

-- so is a scheme, behind the names too
attached_scheme : request (codes "run" ∷ codes "a" ∷ codes "--scheme=buffered" ∷ codes "--log=l"
    ∷ []) ≡ Some (Run 1000 100000 4096 4 Buffered [] None 1 (codes "l") (codes "a" ∷ []))
unfolding clap_on_literals
attached_scheme = refl

-- the ranges are the same
attached_range : request (codes "run" ∷ codes "--log=l" ∷ codes "--quantum=15" ∷ codes "a" ∷ [])
    ≡ None
unfolding clap_on_literals
attached_range = refl

-- ---- refused

nothing : request [] ≡ None
unfolding clap_on_literals
nothing = refl

unknown_command : request (codes "walk" ∷ codes "a" ∷ []) ≡ None
unfolding clap_on_literals
unknown_command = refl

unknown_option : request (codes "run" ∷ codes "--log" ∷ codes "l" ∷ codes "--speed" ∷ codes "1"
    ∷ codes "a" ∷ []) ≡ None
unfolding clap_on_literals
unknown_option = refl

-- an option of another command
other_option : request (codes "replay" ∷ codes "--log" ∷ codes "l" ∷ codes "--quantum" ∷ codes "16"
    ∷ codes "a" ∷ []) ≡ None
unfolding clap_on_literals
other_option = refl

-- an option that no other command has
scheme_of_trace : request (codes "trace" ∷ codes "--scheme" ∷ codes "buffered" ∷ codes "--log"
    ∷ codes "l" ∷ codes "a" ∷ []) ≡ None
unfolding clap_on_literals
scheme_of_trace = refl

-- two schemes
two_schemes : request (codes "run" ∷ codes "--scheme" ∷ codes "ownership" ∷ codes "--log"
    ∷ codes "l" ∷ codes "--scheme" ∷ codes "buffered" ∷ codes "a" ∷ []) ≡ None
unfolding clap_on_literals
two_schemes = refl

-- a scheme that is empty
empty_scheme : request (codes "run" ∷ codes "--log" ∷ codes "l" ∷ codes "--scheme=" ∷ codes "a"
    ∷ []) ≡ None
unfolding clap_on_literals
empty_scheme = refl

-- an option given twice
twice : request (codes "run" ∷ codes "--log" ∷ codes "l" ∷ codes "--log" ∷ codes "l" ∷ codes "a"
    ∷ []) ≡ None
unfolding clap_on_literals
twice = refl

-- an option between names
between : request (codes "run" ∷ codes "--log" ∷ codes "l" ∷ codes "a" ∷ codes "--workers"
    ∷ codes "2" ∷ codes "b" ∷ []) ≡ None
unfolding clap_on_literals
between = refl

-- an option without its value
no_value : request (codes "run" ∷ codes "a" ∷ codes "--log" ∷ []) ≡ None
unfolding clap_on_literals
no_value = refl

help_flag : request (codes "--help" ∷ []) ≡ None
unfolding clap_on_literals
help_flag = refl

help_of_run : request (codes "run" ∷ codes "--help" ∷ []) ≡ None
unfolding clap_on_literals
help_of_run = refl

help_word : request (codes "help" ∷ []) ≡ None
unfolding clap_on_literals
help_word = refl

version_flag : request (codes "--version" ∷ []) ≡ None
unfolding clap_on_literals
version_flag = refl

-- canonical words come to the same by clap
agree : clap_request (codes "run" ∷ codes "--signals" ∷ codes "2:1:15" ∷ codes "--log" ∷ codes "l"
    ∷ codes "a" ∷ codes "b" ∷ [])
    ≡ request (codes "run" ∷ codes "--signals" ∷ codes "2:1:15" ∷ codes "--log" ∷ codes "l"
    ∷ codes "a" ∷ codes "b" ∷ [])
unfolding clap_on_literals
agree = refl
