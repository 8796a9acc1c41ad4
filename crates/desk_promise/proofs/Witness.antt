-- A dry run that lists two pages meets what the law takes.
use Rattle.std.proofs.Common.{◌≡◌, ◌∙◌, ℕ, zero, suc, true, List, [], ◌∷◌, Some, refl, sym, subst, ap, inl, inr, arith, slice_get}
use Rattle.std.specs.Prelude.{Contains}
use Rattle.jobs.specs.declared.ending.Ending.TheVariants as ending
use Rattle.lane_laws.specs.Runs.{RanOut}
use Rattle.planning_laws.proofs.Witness.{listing_is_met}
use Rattle.planning_questions.specs.Questions.{Question}
use Rattle.planning_laws.specs.Witness.{listing}
use Rattle.s3_model.specs.Talks.{Note, Talk}
use Rattle.s3_model.specs.Validity.{IsValidConfig, IsValidLimits}
use Rattle.s3_model.specs.declared.answers.Reply.{Reply}
use Rattle.s3_model.specs.declared.outcomes.Outcome.TheVariants as outcome
use Rattle.s3_model.specs.declared.places.Place.TheVariants as place
use Rattle.s3_model.specs.declared.tasks.Task.{Task}
use Rattle.shared_lemmas.proofs.Clashes.{false_true, none_is_some, some_is}
use Rattle.shared_lemmas.proofs.Lists.{no_cons}
use Rattle.shared_lemmas.proofs.Members.{has}
use Rattle.world_laws.specs.Promises.{IsByRequests}
use Rattle.desk_promise.specs.Desk.{ArePlanned, IsIdle}
use Rattle.desk_promise.specs.Witness.{DoneIsNotIdle, DryRunIsMet, dry_start, end_with, removal}

-- ---- its one task

module _ {X : Type 0} (x : X) where
  only_first : (n : ℕ) (y : X) → slice_get (x ∷ []) n ≡ Some y → n ≡ 0
  only_first zero y e = refl
  only_first (suc n) y e = absurd (none_is_some y e)

  only_it : (n : ℕ) (y : X) → slice_get (x ∷ []) n ≡ Some y → y ≡ x
  only_it zero y e = sym (some_is x y e)
  only_it (suc n) y e = absurd (none_is_some y e)

no_move : (n : ℕ) (task : Task) → slice_get (removal ∷ []) n ≡ Some task → task.moves ≡ true → ⊥
no_move n task e moves = false_true (ap (λ (t : Task). t.moves) (sym (only_it removal n task e)) ∙ moves)

object_file : (bucket key path : List ℕ) → place.Object bucket key ≡ place.File path → ⊥
object_file bucket key path e = cc

no_file : (n : ℕ) (task : Task) (path : List ℕ) → slice_get (removal ∷ []) n ≡ Some task → task.dest ≡ place.File path → ⊥
no_file n task path e is = object_file [] (9 ∷ []) path (ap (λ (t : Task). t.dest) (sym (only_it removal n task e)) ∙ is)

same_place : (m n : ℕ) → m ≡ 0 → n ≡ 0 → m ≡ n
same_place m n e f = e ∙ sym f

planned : ArePlanned dry_start
planned = record {
  tasks = λ n task e. inl (subst IsByRequests (sym (only_it removal n task e)) (record { bucket = []; key = 9 ∷ []; is_dest = refl; decided = tt; keeps = λ is. refl }));
  apart = record {
    destinations = λ m n a b bucket key at_m at_n of_a of_b. same_place m n (only_first removal m a at_m) (only_first removal n b at_n);
    sources = λ m n a b bucket key at_m at_n moves of_a of_b. no_move m a at_m moves;
  };
  files_apart = record {
    destinations = λ m n a b path to_a to_b. absurd (no_file m a path to_a.0 to_a.1);
    sources = λ m n a b path move to. no_move m a move.0 move.1;
    moved_once = λ m n a b path move other. absurd (no_move m a move.0 move.1);
    uploads = λ n task path move. absurd (no_move n task move.0 move.1);
    one_way = λ m n a b path move is_b loads. no_move m a move.0 move.1;
    names = λ m n a b path to is_b load loads named. absurd (no_file m a path to.0 to.1);
    there = λ n task path to is. absurd (no_file n task path to.0 to.1);
  };
}

configured : IsValidConfig dry_start.config
configured = record {
  threshold = record { least = omega arith; most = omega arith };
  chunk = record { least = omega arith; most = omega arith };
  lanes = record { least = omega arith; most = omega arith };
  queue = record { least = omega arith; most = omega arith };
  buffers = record { least = omega arith; most = omega arith };
  attempts = record { least = omega arith; most = omega arith };
}

limits : IsValidLimits dry_start.limits
limits = record {
  min_part = omega arith;
  parts = omega arith;
  max_part = omega arith;
  max_parts = record { least = omega arith; most = omega arith };
  max_object = record { least = omega arith; most = omega arith };
  reached = omega arith;
}

idle : (logs : ℕ → List Talk) (notes : ℕ → List Note) → IsIdle dry_start (end_with (outcome.Dry ∷ []) logs notes)
idle logs notes = record {
  configured = configured;
  limits = limits;
  planned = planned;
  outcomes = inl (record { as_many = refl; each = λ n how e. (only_it outcome.Dry n how e, refl) });
  quiet = refl;
  untouched = refl;
  none_left = refl;
  none_untimed = refl;
}

not_out : (said : Reply) → RanOut (ending.Gained said) → ⊥
not_out said (inl e) = cc
not_out said (inr e) = cc

none_out : (q : Question) → Contains listing q → RanOut q.carried.ending → ⊥
none_out q known out = elim (has listing q known) [
  | inl first ↦ not_out _ (subst (λ (x : Question). RanOut x.carried.ending) (sym first) out)
  | inr others ↦ elim others [
    | inl last ↦ not_out _ (subst (λ (x : Question). RanOut x.carried.ending) (sym last) out)
    | inr none ↦ absurd none
  ]
]

pub dry_run_is_met : DryRunIsMet
dry_run_is_met endpoint keys first last brings_first brings_last =
    let met = listing_is_met endpoint keys first last brings_first brings_last in (
      record {
        idle = idle _ _;
        lanes = refl;
        attempts = refl;
        joined = met.0;
        journal = refl;
        wants = λ q known out. absurd (none_out q known out);
      },
      met.1,
    )

-- ---- its neighbour

done_dry : outcome.Done ≡ outcome.Dry → ⊥
done_dry e = cc

pub done_is_not_idle : DoneIsNotIdle
done_is_not_idle logs notes is = elim is.outcomes [
  | inl dry ↦ done_dry (dry.each 0 outcome.Done refl).0
  | inr none ↦ no_cons outcome.Done [] none.1
]
