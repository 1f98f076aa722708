use Rattle.std.proofs.Common.{◌≡◌, false, take, map, fold, IfOk}
use Rattle.clap.specs.Words.{app_of, with_rule}
use Rattle.clap.specs.declared.builder.command.Command.TheViews.{out-Command as fields_of}
use Rattle.dos_words.specs.Clap.{option_rule}
use Rattle.dos_words.proofs.command.with_options.Given as goal

-- it has the names so far
abbrev pub invariant-loop-name : goal.invariant-loop-name
invariant-loop-name l = record {
  app : IfOk l.more (λ c.
      app_of c
      ≡ fold with_rule (app_of l.fn.command)
      (map (λ s. option_rule s.now) (take l.name-index l.names)));
  local : (fields_of l.fn.command).has_globals ≡ false
      → IfOk l.more (λ c. (fields_of c).has_globals ≡ false);
}
