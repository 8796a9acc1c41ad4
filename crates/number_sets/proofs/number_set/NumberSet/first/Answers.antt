use Rattle.std.proofs.Common.{◌≡◌, ◌∙◌, ℕ, Bool, List, Option, arith, subst, sym, ap}
use Rattle.std.specs.List.{position}
use Rattle.number_sets.specs.Members.{AreNone, IsFirstUsed, has_bit, is_set}
use Rattle.number_sets.proofs.Changes.{finds, finds_none, first_word, no_word_used}
use Rattle.number_sets.proofs.number_set.NumberSet.first.Goals as goal

abbrev First : List Bool → Option ℕ
First members = position is_set members

pub returns-in_err-top : goal.returns-in_err-top
returns-in_err-top c =
    let s = c.self.inside in
    let none = c.in_err-top.ensures.none in
    c.from_residual.ensures
    ∙ finds_none s.words.items s.count (no_word_used s.count s.words.items s.summary.items c.self.invariant (λ n. subst (λ (ws : List ℕ). has_bit ws n ≡ _) c.deref.ensures.value (none n)))
    ∙ ap First c.self.view_is

pub least_in-word-requires-clause-small : goal.least_in-word-requires-clause-small
least_in-word-requires-clause-small c =
    let first = subst (λ (ws : List ℕ). IsFirstUsed ws c.in_ok-top.top) c.deref.ensures.value c.in_ok-top.ensures.some in
    omega (arith, first.inside, c.self.invariant.summary_long, c.self.invariant.long, c.self.invariant.small)

pub least_in-requires-clause-small : goal.least_in-requires-clause-small
least_in-requires-clause-small c =
    let s = c.self.inside in
    let none = subst (λ (ws : List ℕ). AreNone ws c.least_in-word.result) c.deref-2.ensures.value c.least_in-word.ensures.least in
    let member = subst (λ (ws : List ℕ). has_bit ws c.least_in-word.result ≡ _) c.deref-2.ensures.value c.least_in-word.ensures.is in
    let used = first_word s.count s.words.items s.summary.items c.least_in-word.result c.self.invariant member none in
    omega (arith, used.inside, c.self.invariant.long, c.self.invariant.small)

pub overflow_cast-result : goal.overflow_cast-result
overflow_cast-result c =
    let s = c.self.inside in
    let member = subst (λ (ws : List ℕ). has_bit ws c.least_in.result ≡ _) c.deref-3.ensures.value c.least_in.ensures.is in
    omega (arith, c.self.invariant.below c.least_in.result member, c.self.invariant.small)

pub least_in-requires-clause-first : goal.least_in-requires-clause-first
least_in-requires-clause-first c =
    let s = c.self.inside in
    let none = subst (λ (ws : List ℕ). AreNone ws c.least_in-word.result) c.deref-2.ensures.value c.least_in-word.ensures.least in
    let member = subst (λ (ws : List ℕ). has_bit ws c.least_in-word.result ≡ _) c.deref-2.ensures.value c.least_in-word.ensures.is in
    subst (λ (ws : List ℕ). IsFirstUsed ws c.least_in-word.result) (sym c.deref-3.ensures.value)
    (first_word s.count s.words.items s.summary.items c.least_in-word.result c.self.invariant member none)

pub returns : goal.returns
returns c =
    let s = c.self.inside in
    let none = subst (λ (ws : List ℕ). AreNone ws c.least_in.result) c.deref-3.ensures.value c.least_in.ensures.least in
    let member = subst (λ (ws : List ℕ). has_bit ws c.least_in.result ≡ _) c.deref-3.ensures.value c.least_in.ensures.is in
    finds s.words.items s.count c.least_in.result (c.self.invariant.below c.least_in.result member) member none ∙ ap First c.self.view_is
