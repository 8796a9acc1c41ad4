use Rattle.std.proofs.Common.{arith, refl, rules, sym}
use Rattle.list_walk.proofs.PageLemmas.{same_sound, sound_taken}
use Rattle.list_walk.proofs.pages.Pages.gather.Goals as goal

pub invariant_of-self-3 : goal.invariant_of-self-3
invariant_of-self-3 c =
    sound_taken c.self.inside.prefix (record { entries = c.self.inside.entries.items; prefixes = c.self.inside.prefixes.items; empty = c.self.inside.empty }) c.args.page.now
    c.append.new.list.items c.append-2.new.list.items c.empty_with-self-inside.result
    (grind (arith, c.append.ensures, c.reserve.ensures.items, c.in_ok-entries.ensures, c.as_slice.ensures))
    (grind (arith, c.append-2.ensures, c.reserve-2.ensures.items, c.in_ok-prefixes.ensures, c.as_slice-2.ensures))
    c.empty_with-self-inside.ensures
    c.self.invariant
    (rw (sym c.self.view_is) at c.requires)

pub invariant_of-self-2 : goal.invariant_of-self-2
invariant_of-self-2 c = same_sound _ _ _ _ _ _ c.reserve.ensures.items c.reserve-2.ensures.items c.self.invariant

pub invariant_of-self-in_err-reserve-2 : goal.invariant_of-self-in_err-reserve-2
invariant_of-self-in_err-reserve-2 c =
    same_sound _ _ _ _ _ _ c.reserve.ensures.items c.reserve-2.ensures.items c.self.invariant

pub invariant_of-self : goal.invariant_of-self
invariant_of-self c = same_sound _ _ _ _ _ _ c.reserve.ensures.items refl c.self.invariant

pub returns-clause-ok : goal.returns-clause-ok
returns-clause-ok c = search rules
