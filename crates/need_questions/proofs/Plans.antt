-- The questions of a planning ask for what its command needs, as the law of plannings takes it.
use Rattle.std.proofs.Common.{◌≡◌, ◌∙◌, ◌+◌, ◌++◌, ◌⊎◌, ℕ, List, [], ◌∷◌, Option, Some, None, refl, sym, ap, subst, inl, inr, length}
use Rattle.std.specs.Prelude.{◌≢◌}
use Rattle.planning_questions.specs.Questions.{Question}
use Rattle.planning_questions.specs.declared.halt.Halt.{Halt}
use Rattle.planning_questions.specs.declared.halt.Halt.TheVariants as halt
use Rattle.run_promise.specs.Planning as planning
use Rattle.run_promise.specs.Planning.{Need}
use Rattle.service_plans.specs.Needs.{AsksFor, FailsNeed, IsOwnFault, MeetsNeed}
use Rattle.service_plans.specs.declared.halted.Halted.{Halted}
use Rattle.service_plans.specs.declared.halted.Halted.TheVariants as halted
use Rattle.need_questions.proofs.Needs.{Asks, all_asked, listing_failed, listing_met, memory_before, one_failed, one_met}

-- a fault of local files or of the plan, behind which nothing more is asked
abbrev pub IsLocal : Option Halted → Type 0
IsLocal None = ⊥
IsLocal (Some (halted.Asked why)) = ⊥
IsLocal (Some (halted.Walk fault)) = Unit {0}
IsLocal (Some (halted.Plan fault)) = Unit {0}

-- `Ran`: memory ran out in the planning
module _ (Ran : Type 0) where
  -- the first of these needs were asked for: all, unless a fault of local files or of the plan came before the others
  pub record AsksFirst (number : ℕ) (needs : List Need) (questions : List Question) (fault : Option Halted) : Type 0 where
    pub asked : List Need
    pub others : List Need
    pub split : needs ≡ asked ++ others
    pub ends : (others ≡ []) ⊎ IsLocal fault
    pub page : Option ℕ
    pub asks : Asks Ran page number questions asked

  met_by : (page : Option ℕ) (number : ℕ) (need : Need) (first later : List Question) (needs : List Need) → MeetsNeed number need first → Asks Ran page (number + length first) later needs → Asks Ran page number (first ++ later) (need ∷ needs)
  met_by page number (planning.One asked) first later needs (said, asks) rest = one_met Ran page number asked first later said needs asks rest
  met_by page number (planning.Listing bucket prefix delimited) first later needs (told, lists) rest = listing_met Ran bucket prefix delimited needs page number first later told lists rest

  failed_by : (number : ℕ) (need : Need) (questions : List Question) (why : Halt) (needs : List Need) → FailsNeed number need questions why → why ≢ halt.Stranger → (why ≡ halt.Memory → Ran)
      → (page : Option ℕ) × Asks Ran page number questions (need ∷ needs)
  failed_by number (planning.One asked) questions why needs fails own ran = (None, one_failed Ran number asked questions why needs fails own ran)
  failed_by number (planning.Listing bucket prefix delimited) questions why needs fails own ran = listing_failed Ran bucket prefix delimited needs number questions why fails own ran

  all_needs : (number : ℕ) (needs : List Need) (questions : List Question) (fault : Option Halted) (page : Option ℕ) → Asks Ran page number questions needs → AsksFirst number needs questions fault
  all_needs number needs questions fault page asks = record { asked = needs; others = []; split = sym (nothing_behind needs); ends = inl refl; page = page; asks = asks }
    where
      nothing_behind : (all : List Need) → all ++ [] ≡ all
      nothing_behind [] = refl
      nothing_behind (need ∷ all) = ap (λ (rest : List Need). need ∷ rest) (nothing_behind all)

  one_more : (number : ℕ) (need : Need) (needs : List Need) (first later : List Question) (fault : Option Halted) → MeetsNeed number need first → AsksFirst (number + length first) needs later fault → AsksFirst number (need ∷ needs) (first ++ later) fault
  one_more number need needs first later fault meets rest = record {
    asked = need ∷ rest.asked;
    others = rest.others;
    split = ap (λ (all : List Need). need ∷ all) rest.split;
    ends = rest.ends;
    page = rest.page;
    asks = met_by rest.page number need first later rest.asked meets rest.asks;
  }

  -- nothing was asked, for a fault of its own
  ended_before : (number : ℕ) (needs : List Need) (fault : Option Halted) → (fault ≡ Some (halted.Asked halt.Memory) → Ran) → IsOwnFault fault → AsksFirst number needs [] fault
  ended_before number needs None ran own = absurd own
  ended_before number needs (Some (halted.Asked halt.Memory)) ran own = all_needs number needs [] (Some (halted.Asked halt.Memory)) None (memory_before Ran number needs (ran refl))
  ended_before number needs (Some (halted.Asked (halt.Answer cause))) ran own = absurd own
  ended_before number needs (Some (halted.Asked (halt.Listing bad))) ran own = absurd own
  ended_before number needs (Some (halted.Asked halt.Stranger)) ran own = absurd own
  ended_before number needs (Some (halted.Walk fault)) ran own = record { asked = []; others = needs; split = refl; ends = inr tt; page = None; asks = all_asked Ran number }
  ended_before number needs (Some (halted.Plan fault)) ran own = record { asked = []; others = needs; split = refl; ends = inr tt; page = None; asks = all_asked Ran number }

  -- No lane brought a stranger, and memory ran out for the planning only where `Ran` holds.
  pub needs_asked : (number : ℕ) (needs : List Need) (questions : List Question) (fault : Option Halted) → AsksFor number needs questions fault → fault ≢ Some (halted.Asked halt.Stranger) → (fault ≡ Some (halted.Asked halt.Memory) → Ran)
      → AsksFirst number needs questions fault
  needs_asked number [] questions fault none own ran = subst (λ (qs : List Question). AsksFirst number [] qs fault) (sym none) (all_needs number [] [] fault None (all_asked Ran number))
  needs_asked number (need ∷ needs) questions fault asks own ran = elim asks [
    | inl (first, later, is, meets, more) ↦
        subst (λ (qs : List Question). AsksFirst number (need ∷ needs) qs fault) (sym is) (one_more number need needs first later fault meets (needs_asked (number + length first) needs later fault more own ran))
    | inr ended ↦ elim ended [
      | inl (why, is, fails) ↦
          let failed = failed_by number need questions why needs fails (λ e. own (is ∙ ap (λ (h : Halt). Some (halted.Asked h)) e)) (λ e. ran (is ∙ ap (λ (h : Halt). Some (halted.Asked h)) e)) in
          all_needs number (need ∷ needs) questions fault failed.0 failed.1
      | inr (none, of_own) ↦ subst (λ (qs : List Question). AsksFirst number (need ∷ needs) qs fault) (sym none) (ended_before number (need ∷ needs) fault ran of_own)
    ]
  ]
