use Rattle.std.proofs.Common.{◌∙◌, refl, sym}
use Rattle.group_rounds.proofs.PhaseLaws.{rest_is_live, rest_of_gone}
use Rattle.group_rounds.proofs.ServesLaws.{serves_done, serves_from}
use Rattle.group_rounds.proofs.Sound.{parts_passed}
use Rattle.group_rounds.proofs.phases.finish_if_live.Goals as goal

pub returns-then-not-is_thread-clause-serves : goal.returns-then-not-is_thread-clause-serves
returns-then-not-is_thread-clause-serves g c =
    serves_done _ _ c.args.state.now c.args.state.now _ _
    (λ q. rest_of_gone q c.args.state.now (g.B.Border.state c.args.border.now) c.args.tid
    (sym c.if-not-is_thread.true ∙ c.is_thread.ensures)) c.requires.sound
    (record { round = refl; marked = refl }) refl

pub returns-clause-serves : goal.returns-clause-serves
returns-clause-serves g c =
    serves_from _ _ c.finish.result c.args.state.now c.finish.new.state _ _
    (λ q. rest_is_live q c.args.state.now c.args.tid
    (sym c.if-not-is_thread.false ∙ c.is_thread.ensures)) c.finish.ensures.serves

-- who lives is ready
pub finish-requires-clause-ready : goal.finish-requires-clause-ready
finish-requires-clause-ready g c = c.requires.awake

pub returns-then-not-is_thread-clause-parts : goal.returns-then-not-is_thread-clause-parts
returns-then-not-is_thread-clause-parts g c = λ ts parts.
    parts_passed c.args.state.now c.args.tid ts parts
