use Rattle.std.proofs.Common.{◌∙◌, ◌<◌, ℕ, List, Option, None, get_or, length, sym, subst, ap, arith}
use Rattle.std.specs.Option.{IsSome}
use Rattle.s3_model.specs.declared.outcomes.Outcome.{Outcome}
use Rattle.manager_core.proofs.EndedRuns.{all_ended, end_at, outcomes_are}
use Rattle.manager_core.proofs.RunLemmas.{works_are}
use Rattle.manager_core.specs.Kept.{SeenManager}
use Rattle.manager_core.proofs.manager.Manager.finish.Goals as goal

pub collect-requires-clause-room : goal.collect-requires-clause-room
collect-requires-clause-room c =
    let r = c.requires in
    let slots = (end_at r.start r.s r.events c.args.self r.running r.is).follows.count in
    let works = works_are r.start r.s r.events c.args.self r.running in
    let room = r.running.given.outcomes in
    let same = ap (λ (x : SeenManager). length x.moves.slots) c.self.view_is in
    let spare = ap (λ (x : SeenManager). x.outcomes.spare) c.self.view_is in
    let read = ap (λ (xs : List (Option Outcome)). length xs) c.deref_mut.ensures.value in
    let count = c.into_outcomes-ended.ensures.count in
    omega (arith, slots, works, room, same, spare, read, count)

pub collect-requires-clause-ended : goal.collect-requires-clause-ended
collect-requires-clause-ended c =
    let r = c.requires in
    let slots = (end_at r.start r.s r.events c.args.self r.running r.is).follows.count in
    let same = ap (λ (x : SeenManager). length x.moves.slots) c.self.view_is in
    let outcomes = c.into_outcomes-ended.ensures.outcomes ∙ ap (λ (x : SeenManager). x.moves.outcomes) c.self.view_is in
    let length_is = ap (λ (xs : List (Option Outcome)). length xs) outcomes in
    let count = c.into_outcomes-ended.ensures.count in
    subst (λ (xs : List (Option Outcome)). (n : ℕ) → n < length xs → IsSome (get_or xs n None))
    (sym (c.deref_mut.ensures.value ∙ outcomes))
    (all_ended r.start r.s r.events c.args.self r.running r.is
    (omega (arith, slots, same, length_is, count)))

pub returns-clause-outcomes : goal.returns-clause-outcomes
returns-clause-outcomes c start s events running =
    let slots = (end_at start s events c.args.self running c.requires.is).follows.count in
    let same = ap (λ (x : SeenManager). length x.moves.slots) c.self.view_is in
    let outcomes = c.into_outcomes-ended.ensures.outcomes ∙ ap (λ (x : SeenManager). x.moves.outcomes) c.self.view_is in
    let length_is = ap (λ (xs : List (Option Outcome)). length xs) outcomes in
    let count = c.into_outcomes-ended.ensures.count in
    outcomes_are start s events c.args.self running c.requires.is (omega (arith, slots, same, length_is, count)) _
    (c.collect.ensures ∙ c.deref_mut.ensures.value ∙ outcomes)
