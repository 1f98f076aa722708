use Rattle.std.proofs.Common.{sym, ap, ◌∙◌}
use Rattle.dos_world.specs.Reach.{is_foreign}
use Rattle.kernel_calls.specs.StateWorld.{sent, world_of}
use Rattle.group_walk.proofs.Reached.{frame_within, in_granted_frame, in_own_frame, in_their_frame}
use Rattle.group_walk.proofs.Reached.{not_allowed, not_mapped}
use Rattle.group_walk.proofs.frames.frame_of.Goals as goal

pub returns-in-None-clause-place : goal.returns-in-None-clause-place
returns-in-None-clause-place c = λ q o e.
    not_mapped (sent o e (world_of q c.args.state.now)) c.args.tid c.args.address c.args.size
    c.args.access c.args.is_granted (c.is_aligned.ensures.value.0 c.if-not-is_aligned.false)
    (sym c.entry_at.ensures ∙ c.in-None.is)

pub returns-then-not-has_right-clause-place : goal.returns-then-not-has_right-clause-place
returns-then-not-has_right-clause-place c = λ q o e.
    not_allowed (sent o e (world_of q c.args.state.now)) c.args.tid c.args.address c.args.size
    c.args.access c.args.is_granted (c.is_aligned.ensures.value.0 c.if-not-is_aligned.false)
    c.in-Some.entry (sym c.entry_at.ensures ∙ c.in-Some.is)
    (sym c.has_right.ensures ∙ c.if-not-has_right.true)

pub returns-then-is_granted-clause-place : goal.returns-then-is_granted-clause-place
returns-then-is_granted-clause-place c = λ q o e.
    in_granted_frame (sent o e (world_of q c.args.state.now)) c.args.tid c.args.address
    c.args.size c.args.access c.args.is_granted
    (c.is_aligned.ensures.value.0 c.if-not-is_aligned.false) c.in-Some.entry
    (sym c.entry_at.ensures ∙ c.in-Some.is) (sym c.has_right.ensures ∙ c.if-not-has_right.false)
    c.if-is_granted.true
    (frame_within c.args.state.now c.args.tid c.args.address c.in-Some.entry c.requires.sound
    (sym c.entry_at.ensures ∙ c.in-Some.is))

pub returns-then-is_granted-clause-within : goal.returns-then-is_granted-clause-within
returns-then-is_granted-clause-within c =
    frame_within c.args.state.now c.args.tid c.args.address c.in-Some.entry c.requires.sound
    (sym c.entry_at.ensures ∙ c.in-Some.is)

pub owner-requires : goal.owner-requires
owner-requires c =
    frame_within c.args.state.now c.args.tid c.args.address c.in-Some.entry c.requires.sound
    (sym c.entry_at.ensures ∙ c.in-Some.is)

pub returns-then-is_foreign-clause-place : goal.returns-then-is_foreign-clause-place
returns-then-is_foreign-clause-place c = λ q o e.
    in_their_frame (sent o e (world_of q c.args.state.now)) c.args.tid c.args.address c.args.size
    c.args.access c.args.is_granted (c.is_aligned.ensures.value.0 c.if-not-is_aligned.false)
    c.in-Some.entry (sym c.entry_at.ensures ∙ c.in-Some.is)
    (sym c.has_right.ensures ∙ c.if-not-has_right.false) c.if-is_granted.false
    (ap (is_foreign c.args.tid c.args.access) (sym c.owner.ensures) ∙ sym c.is_foreign.ensures
    ∙ c.if-is_foreign.true)

pub returns-else-is_foreign-clause-place : goal.returns-else-is_foreign-clause-place
returns-else-is_foreign-clause-place c = λ q o e.
    in_own_frame (sent o e (world_of q c.args.state.now)) c.args.tid c.args.address c.args.size
    c.args.access c.args.is_granted (c.is_aligned.ensures.value.0 c.if-not-is_aligned.false)
    c.in-Some.entry (sym c.entry_at.ensures ∙ c.in-Some.is)
    (sym c.has_right.ensures ∙ c.if-not-has_right.false) c.if-is_granted.false
    (ap (is_foreign c.args.tid c.args.access) (sym c.owner.ensures) ∙ sym c.is_foreign.ensures
    ∙ c.if-is_foreign.false)

pub returns-else-is_foreign-clause-within : goal.returns-else-is_foreign-clause-within
returns-else-is_foreign-clause-within c =
    frame_within c.args.state.now c.args.tid c.args.address c.in-Some.entry c.requires.sound
    (sym c.entry_at.ensures ∙ c.in-Some.is)
