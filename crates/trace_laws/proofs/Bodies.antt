-- The part of a Get that succeeded has the body that its last talk shows.
use Rattle.std.proofs.Common.{◌≡◌, ◌∙◌, ◌+◌, ℕ, List, Option, Some, sym, subst, ap, inl, inr, arith, length, map, slice_get}
use Rattle.answer_classes.specs.Showing.{Shows}
use Rattle.attempts.specs.Attempts.{HasClass, IsGet, IsInPlace, SignedRequest, most_of}
use Rattle.job_terms.specs.Attempts.{mark_of}
use Rattle.job_terms.specs.Dispatches.{Attempt, last_of, paired}
use Rattle.jobs.specs.Jobs.{bytes_of}
use Rattle.jobs.specs.declared.ending.Ending.{Ending}
use Rattle.jobs.specs.declared.ending.Ending.TheVariants as ending
use Rattle.lane_jobs.specs.Lanes.{AreMade, Ends, IsPlace, class_ending, limit_of}
use Rattle.lane_laws.proofs.AttemptLaw.{as_many, at_place, index_last, last_index}
use Rattle.run_traces.proofs.Pending.{get_at}
use Rattle.s3_model.specs.Talks.{Note, Talk}
use Rattle.s3_model.specs.declared.answers.Class.{Class}
use Rattle.s3_model.specs.declared.answers.Class.TheVariants as class
use Rattle.s3_model.specs.declared.answers.Reply.{Reply}
use Rattle.s3_model.specs.declared.answers.Why.TheVariants as why
use Rattle.s3_model.specs.declared.bytes.Part.{Part}
use Rattle.s3_model.specs.declared.outcomes.Reason.{Reason}
use Rattle.s3_model.specs.declared.requests.Ask.{Ask}
use Rattle.s3_model.specs.declared.requests.Ask.TheVariants as ask
use Rattle.shared_lemmas.proofs.Clashes.{some_is}

-- ---- the class of a success

gained_is : (a b : Reply) → ending.Gained a ≡ ending.Gained b → a ≡ b
gained_is a b e = cc

of_success : (status : ℕ) (shown : Class) (said : Reply) → class_ending status shown ≡ ending.Gained said → shown ≡ class.Success said
of_success status (class.Success other) said e = ap (λ (r : Reply). class.Success r) (gained_is other said e)
of_success status (class.Refusal code message) said e = cc
of_success status (class.Uncertain reason) said e = cc

cancelled_gained : (reason : Reason) (said : Reply) → ending.Cancelled reason ≡ ending.Gained said → ⊥
cancelled_gained reason said e = cc

memory_gained : (said : Reply) → ending.Memory ≡ ending.Gained said → ⊥
memory_gained said e = cc

success_memory : (said : Reply) → class.Success said ≡ class.Uncertain why.Memory → ⊥
success_memory said e = cc

-- the last class of a job that gained a reply is its success
pub last_success : (made most : ℕ) (gave : Option Reason) (classes : List Class) (ended : Ending) (said : Reply) → Ends made most gave classes ended → ended ≡ ending.Gained said → last_of classes ≡ Some (class.Success said)
last_success made most gave classes ended said (inl by) e = by.last ∙ ap (λ (c : Class). Some c) (of_success by.status by.shown said (sym by.ending_is ∙ e))
last_success made most gave classes ended said (inr (inl by)) e = absurd (cancelled_gained by.reason said (sym by.ending_is ∙ e))
last_success made most gave classes ended said (inr (inr by)) e = absurd (memory_gained said (sym by.ending_is ∙ e))

-- ---- its body

pub body_in_place : (asked : Ask) (part : Option Part) (place body : List ℕ) (length : ℕ) (said : Reply) → IsGet asked → IsPlace asked part place → IsInPlace (limit_of asked length) (class.Success said) body place → body ≡ bytes_of part
body_in_place (ask.Get bucket key etag range) part place body length said get placed stands = sym stands ∙ sym placed
body_in_place asked part place body length said get placed stands = absurd get

-- what the last attempt of a Get shows
pub record LastBody (r : SignedRequest) (attempts : List Attempt) (said : Reply) (part : Option Part) : Type 0 where
  pub attempt : Attempt
  pub last : last_of attempts ≡ Some attempt
  pub bytes : List ℕ
  pub shows : Shows r.asked (most_of r) attempt.talk (class.Success said) bytes
  pub bytes_are : bytes ≡ bytes_of part

module _ (r : SignedRequest) (place : List ℕ) (classes : List Class) (number : ℕ) (talks : List Talk) (notes : List Note) (said : Reply) (part : Option Part) (made : AreMade r number place classes talks notes)
    (last : last_of classes ≡ Some (class.Success said)) (placed : (body : List ℕ) → IsInPlace r.limit (class.Success said) body place → body ≡ bytes_of part) where
  abbrev attempts : List Attempt
  attempts = paired (map mark_of classes) talks

  long : length attempts ≡ length classes
  long = as_many r place classes number talks notes made

  end : (k : ℕ) × (k + 1 ≡ length classes) × (slice_get classes k ≡ Some (class.Success said))
  end = last_index classes (class.Success said) last

  shown_by : (a : Attempt) → last_of attempts ≡ Some a → HasClass r a.talk (class.Success said) place → LastBody r attempts said part
  shown_by a is (inl memory) = absurd (success_memory said memory)
  shown_by a is (inr (body, shows, stands)) = record { attempt = a; last = is; bytes = body; shows = shows; bytes_are = placed body stands }

  at_end : (a : Attempt) → slice_get attempts end.0 ≡ Some a → LastBody r attempts said part
  at_end a there =
      let (shown, place_of, mark, class_is) = at_place r place classes number talks notes made end.0 a there in
      let all = end.1 in
      let is = long in
      shown_by a (index_last attempts end.0 a there (omega arith)) (subst (λ (c : Class). HasClass r a.talk c place) (some_is shown (class.Success said) (sym place_of ∙ end.2)) class_is)

  pub last_body : LastBody r attempts said part
  last_body = let all = end.1 in let is = long in let found = get_at attempts end.0 (omega arith) in at_end found.0 found.1
