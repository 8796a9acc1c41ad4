-- The wires of the eventful run carry its jobs and nothing else.
use Rattle.std.proofs.Common.{◌≡◌, ◌==◌, ◌<◌, ◌≤◌, ℕ, zero, suc, false, List, [], ◌∷◌, refl, inl, inr, Contains, arith}
use Rattle.std.proofs.lemmas.List.{append-nil}
use Rattle.s3_model.specs.declared.requests.Ask.{Ask}
use Rattle.s3_model.specs.declared.requests.Op.TheVariants as op
use Rattle.s3_model.specs.declared.answers.Class.{Class}
use Rattle.s3_model.specs.declared.answers.Listed.{Listed}
use Rattle.s3_model.specs.declared.tries.Mark.TheVariants as mark
use Rattle.s3_model.specs.Talks.{Talk, Moment, Pause, Began}
use Rattle.run_promise.specs.Carried.{IsCarried, MayStop}
use Rattle.job_terms.specs.Attempts.{IsSaid}
use Rattle.shared_lemmas.proofs.Clashes.{false_true as never}
use Rattle.promise_examples.specs.Reading.{Reads, signed_body}
use Rattle.promise_examples.specs.Runs.{Example}
use Rattle.promise_examples.specs.Everything.{document, create_lost, create_answered, copy_answered, part_lost, part_stored, other_stored, delete_lost, delete_again, complete_lost, complete_again, events, eventful_run}
use Rattle.promise_examples.proofs.Carrying as carrying
use Rattle.promise_examples.proofs.Concrete.{has, at, some_is}
use Rattle.promise_examples.proofs.EventfulJobs.{lost, well, create_sent, copy_sent, part_sent, other_sent, part_again, delete_sent, complete_sent, jobs, coming}
use Rattle.promise_examples.proofs.Readings.{says_whole}
use Rattle.promise_examples.proofs.Scheduling.{other_op}
use Rattle.promise_examples.proofs.Noting.{only_pause}

no_note : ¬ (Contains [] Began)
no_note h = has [] Began h

abbrev e : Example
e = eventful_run

unused : (lane : ℕ) → 2 ≤ lane → (e.logs lane ≡ []) × (e.notes lane ≡ [])
unused zero beyond = absurd (omega arith)
unused (suc zero) beyond = absurd (omega arith)
unused (suc (suc lane)) beyond =
    let a : (suc (suc lane) == 0) ≡ false = grind arith in
    let b : (suc (suc lane) == 1) ≡ false = grind arith in
    rw (a, b) (refl, refl)

module _ (page_of : List ℕ → Listed) where
  abbrev Shows : Ask → ℕ → Talk → Class → List ℕ → Type 0
  Shows = Reads page_of

  said_0_5 : IsSaid Shows signed_body [] 80 (record { of = complete_sent; number = 2; attempt = well complete_again }) 6
  said_0_5 = record { to_host = refl; to_port = refl; text = λ shown b shows. says_whole page_of Shows signed_body [] 80 shown (6 ∷ document); beginning = ([], append-nil (6 ∷ document)) }

  said_0_4 : IsSaid Shows signed_body [] 80 (record { of = complete_sent; number = 1; attempt = lost complete_lost }) 5
  said_0_4 = record { to_host = refl; to_port = refl; text = λ shown b shows. says_whole page_of Shows signed_body [] 80 shown (5 ∷ document); beginning = ([], append-nil (5 ∷ document)) }

  said_0_3 : IsSaid Shows signed_body [] 80 (record { of = part_again; number = 2; attempt = well part_stored }) 4
  said_0_3 = record { to_host = refl; to_port = refl; text = λ shown b shows. says_whole page_of Shows signed_body [] 80 shown (4 ∷ (1 ∷ [])); beginning = ([], append-nil (4 ∷ (1 ∷ []))) }

  said_0_2 : IsSaid Shows signed_body [] 80 (record { of = part_sent; number = 1; attempt = lost part_lost }) 3
  said_0_2 = record { to_host = refl; to_port = refl; text = λ shown b shows. says_whole page_of Shows signed_body [] 80 shown (3 ∷ (1 ∷ [])); beginning = ([], append-nil (3 ∷ (1 ∷ []))) }

  said_0_1 : IsSaid Shows signed_body [] 80 (record { of = create_sent; number = 2; attempt = well create_answered }) 2
  said_0_1 = record { to_host = refl; to_port = refl; text = λ shown b shows. says_whole page_of Shows signed_body [] 80 shown (2 ∷ []); beginning = ([], append-nil (2 ∷ [])) }

  said_0_0 : IsSaid Shows signed_body [] 80 (record { of = create_sent; number = 1; attempt = lost create_lost }) 1
  said_0_0 = record { to_host = refl; to_port = refl; text = λ shown b shows. says_whole page_of Shows signed_body [] 80 shown (1 ∷ []); beginning = ([], append-nil (1 ∷ [])) }

  said_1_3 : IsSaid Shows signed_body [] 80 (record { of = delete_sent; number = 2; attempt = lost delete_again }) 6
  said_1_3 = record { to_host = refl; to_port = refl; text = λ shown b shows. says_whole page_of Shows signed_body [] 80 shown (6 ∷ []); beginning = ([], append-nil (6 ∷ [])) }

  said_1_2 : IsSaid Shows signed_body [] 80 (record { of = delete_sent; number = 1; attempt = lost delete_lost }) 4
  said_1_2 = record { to_host = refl; to_port = refl; text = λ shown b shows. says_whole page_of Shows signed_body [] 80 shown (4 ∷ []); beginning = ([], append-nil (4 ∷ [])) }

  said_1_1 : IsSaid Shows signed_body [] 80 (record { of = other_sent; number = 1; attempt = well other_stored }) 3
  said_1_1 = record { to_host = refl; to_port = refl; text = λ shown b shows. says_whole page_of Shows signed_body [] 80 shown (3 ∷ (2 ∷ [])); beginning = ([], append-nil (3 ∷ (2 ∷ []))) }

  said_1_0 : IsSaid Shows signed_body [] 80 (record { of = copy_sent; number = 1; attempt = well copy_answered }) 1
  said_1_0 = record { to_host = refl; to_port = refl; text = λ shown b shows. says_whole page_of Shows signed_body [] 80 shown (1 ∷ []); beginning = ([], append-nil (1 ∷ [])) }

  lane_is : (lane : ℕ) → lane < 2 → carrying.IsLane page_of e.setting coming e.logs e.notes jobs lane
  lane_is zero used = record {
    in_turn = (((λ place come. let is : 6 ≡ place = some_is 6 place come in omega arith), ((λ place come. let is : 11 ≡ place = some_is 11 place come in omega arith), ((λ place come. let is : 13 ≡ place = some_is 13 place come in omega arith), tt))), (((λ place come. let is : 11 ≡ place = some_is 11 place come in omega arith), ((λ place come. let is : 13 ≡ place = some_is 13 place come in omega arith), tt)), (((λ place come. let is : 13 ≡ place = some_is 13 place come in omega arith), tt), (tt, tt))));
    gained = refl;
    noted = (
      [],
      1,
      Pause 1 ∷ Moment 2 ∷ Began ∷ Moment 3 ∷ Began ∷ Pause 1 ∷ Moment 4 ∷ Began ∷ Moment 5 ∷ Began ∷ Pause 1 ∷ Moment 6 ∷ Began ∷ [],
      [],
      refl,
      no_note,
      refl,
      inl refl,
      said_0_0,
      (
        Pause 1 ∷ [],
        2,
        Moment 3 ∷ Began ∷ Pause 1 ∷ Moment 4 ∷ Began ∷ Moment 5 ∷ Began ∷ Pause 1 ∷ Moment 6 ∷ Began ∷ [],
        [],
        refl,
        only_pause 1,
        refl,
        inl refl,
        said_0_1,
        (
          [],
          3,
          Pause 1 ∷ Moment 4 ∷ Began ∷ Moment 5 ∷ Began ∷ Pause 1 ∷ Moment 6 ∷ Began ∷ [],
          [],
          refl,
          no_note,
          refl,
          inl refl,
          said_0_2,
          (
            Pause 1 ∷ [],
            4,
            Moment 5 ∷ Began ∷ Pause 1 ∷ Moment 6 ∷ Began ∷ [],
            [],
            refl,
            only_pause 1,
            refl,
            inl refl,
            said_0_3,
            (
              [],
              5,
              Pause 1 ∷ Moment 6 ∷ Began ∷ [],
              [],
              refl,
              no_note,
              refl,
              inl refl,
              said_0_4,
              (
                Pause 1 ∷ [],
                6,
                [],
                [],
                refl,
                only_pause 1,
                refl,
                inl refl,
                said_0_5,
                (no_note, inl refl),
              ),
            ),
          ),
        ),
      ),
    );
  }
  lane_is (suc zero) used = record {
    in_turn = (((λ place come. let is : 8 ≡ place = some_is 8 place come in omega arith), ((λ place come. let is : 10 ≡ place = some_is 10 place come in omega arith), tt)), (((λ place come. let is : 10 ≡ place = some_is 10 place come in omega arith), tt), (tt, tt)));
    gained = refl;
    noted = (
      [],
      1,
      Moment 3 ∷ Began ∷ Moment 4 ∷ Began ∷ Pause 1 ∷ Moment 6 ∷ Began ∷ [],
      [],
      refl,
      no_note,
      refl,
      inl refl,
      said_1_0,
      (
        [],
        3,
        Moment 4 ∷ Began ∷ Pause 1 ∷ Moment 6 ∷ Began ∷ [],
        [],
        refl,
        no_note,
        refl,
        inl refl,
        said_1_1,
        (
          [],
          4,
          Pause 1 ∷ Moment 6 ∷ Began ∷ [],
          [],
          refl,
          no_note,
          refl,
          inl refl,
          said_1_2,
          (
            Pause 1 ∷ [],
            6,
            [],
            [],
            refl,
            only_pause 1,
            refl,
            inl refl,
            said_1_3,
            (no_note, inl refl),
          ),
        ),
      ),
    );
  }
  lane_is (suc (suc lane)) used = absurd (omega arith)

  cut_short : MayStop Shows signed_body [] 80 e.setting coming part_sent
  cut_short = (
    refl,
    other_op op.Part op.Abort refl,
    inl (
      create_sent ∷ copy_sent ∷ [],
      other_sent ∷ delete_sent ∷ part_again ∷ complete_sent ∷ [],
      refl,
      inl (part_again, at (other_sent ∷ delete_sent ∷ part_again ∷ complete_sent ∷ []) 2 part_again refl, refl),
    ),
  )

  written : carrying.IsWritten page_of e.setting coming events e.logs e.notes jobs
  written = record {
    shown = refl;
    comes = ((2, mark.Uncertain ∷ mark.Success ∷ [], refl, refl, refl), ((3, mark.Success ∷ [], refl, refl, refl), ((6, mark.Uncertain ∷ [], refl, refl, refl), ((8, mark.Success ∷ [], refl, refl, refl), ((11, mark.Success ∷ [], refl, refl, refl), ((10, mark.Uncertain ∷ mark.Uncertain ∷ [], refl, refl, refl), ((13, mark.Uncertain ∷ mark.Success ∷ [], refl, refl, refl), tt)))))));
    inside = (omega arith, (omega arith, (omega arith, (omega arith, (omega arith, (omega arith, (omega arith, tt)))))));
    unused = unused;
    known = (tt, (tt, ((create_sent, at jobs 0 create_sent refl, refl), ((copy_sent, at jobs 1 copy_sent refl, refl), (tt, (tt, ((part_sent, at jobs 2 part_sent refl, refl), (tt, ((other_sent, at jobs 3 other_sent refl, refl), (tt, ((delete_sent, at jobs 5 delete_sent refl, refl), ((part_again, at jobs 4 part_again refl, refl), (tt, ((complete_sent, at jobs 6 complete_sent refl, refl), tt))))))))))))));
    lanes = lane_is;
    marks = ((refl, (refl, tt)), ((refl, tt), ((refl, tt), ((refl, tt), ((refl, tt), ((refl, (refl, tt)), ((refl, (refl, tt)), tt)))))));
    again = (((λ more. refl), ((λ more. absurd (omega arith)), tt)), (((λ more. absurd (omega arith)), tt), (((λ more. absurd (omega arith)), tt), (((λ more. absurd (omega arith)), tt), (((λ more. absurd (omega arith)), tt), (((λ more. refl), ((λ more. absurd (omega arith)), tt)), (((λ more. refl), ((λ more. absurd (omega arith)), tt)), tt)))))));
    given_again = (tt, (tt, (((refl, omega arith), tt), (tt, (tt, (tt, (tt, tt)))))));
    at_most = (omega arith, (omega arith, (omega arith, (omega arith, (omega arith, (omega arith, (omega arith, tt)))))));
    ends = ((λ goes. absurd (never goes)), ((λ goes. absurd (never goes)), ((λ goes. inr (inr cut_short)), ((λ goes. absurd (never goes)), ((λ goes. absurd (never goes)), ((λ goes. inl refl), ((λ goes. absurd (never goes)), tt)))))));
  }

  pub carried : IsCarried Shows signed_body [] 80 e.setting events e.logs e.notes jobs coming
  carried = carrying.carried page_of e.setting coming events e.logs e.notes jobs written
