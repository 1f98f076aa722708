use Rattle.std.proofs.Common.{arith, ◌≡◌, ◌∙◌, length, map, sym, ap, subst}
use Rattle.std.specs.Prelude.{All}
use Rattle.std.proofs.lemmas.Result.{IfOk-weaker}
use Rattle.lawful_groups.specs.Counts.{HaveFrames}
use Rattle.lawful_groups.proofs.GroupFacts as facts
use Rattle.lawful_groups.proofs.lawful.is_lawful.Goals as goal

pub overflow_cast-len : goal.overflow_cast-len
overflow_cast-len c =
    let len = facts.owners_len c.in_ok-owners.owners.items c.deref.result.now
    c.in_ok-owners.ensures ∙ ap length c.deref.ensures.value in
    omega (arith, len, c.len.ensures, facts.few_frames c.args.group.now c.requires)

pub count_uses-requires : goal.count_uses-requires
count_uses-requires c =
    let len = facts.owners_len c.in_ok-owners.owners.items c.deref.result.now
    c.in_ok-owners.ensures ∙ ap length c.deref.ensures.value in
    let count : c.len.result ≡ length c.args.group.now.frames.items =
    omega (arith, c.len.ensures, len) in
    subst (λ rs. All (HaveFrames c.len.result) rs) (sym c.deref-2.ensures.value)
    (subst (λ n. All (HaveFrames n) c.args.group.now.processes.items)
    (sym count) (facts.have_frames c.args.group.now c.requires))

pub agrees-requires-clause-frames : goal.agrees-requires-clause-frames
agrees-requires-clause-frames c =
    let len = facts.owners_len c.in_ok-owners.owners.items c.deref.result.now
    c.in_ok-owners.ensures ∙ ap length c.deref.ensures.value in
    subst (λ rs. All (HaveFrames (length c.deref-3.result.now)) rs) (sym c.deref-5.ensures.value)
    (subst (λ n. All (HaveFrames n) c.args.group.now.processes.items)
    (sym (ap length c.deref-3.ensures.value ∙ len))
    (facts.have_frames c.args.group.now c.requires))

pub agrees-requires-clause-count : goal.agrees-requires-clause-count
agrees-requires-clause-count c =
    let len = ap length c.deref-3.ensures.value
    ∙ facts.owners_len c.in_ok-owners.owners.items c.deref.result.now c.in_ok-owners.ensures
    ∙ ap length c.deref.ensures.value in
    omega (arith, len, facts.few_frames c.args.group.now c.requires)

pub agrees-requires-clause-rising : goal.agrees-requires-clause-rising
agrees-requires-clause-rising c =
    rw (c.from.ensures, c.deref-6.ensures.value) (facts.rising c.args.group.now c.requires)

pub agrees-requires-clause-pipes : goal.agrees-requires-clause-pipes
agrees-requires-clause-pipes c =
    rw c.deref-7.ensures.value (facts.pipes_64 c.args.group.now c.requires)

pub returns : goal.returns
returns c =
    let owners = c.deref-3.ensures.value ∙ c.in_ok-owners.ensures
    ∙ ap (λ fs. map (λ f. f.owner) fs) c.deref.ensures.value in
    let law = facts.lawful_by c.args.group.now c.requires c.deref-3.result.now
    c.deref-5.result.now c.from.result c.deref-6.result.now c.deref-7.result.now
    c.deref-8.result.now owners c.deref-5.ensures.value c.from.ensures c.deref-6.ensures.value
    c.deref-7.ensures.value c.deref-8.ensures.value in
    IfOk-weaker c.agrees.result _ _
    (λ b is. (λ yes. law.0 (is.0 yes), λ lawful. is.1 (law.1 lawful))) c.agrees.ensures
