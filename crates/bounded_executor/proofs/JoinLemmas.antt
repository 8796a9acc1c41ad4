-- After the join: what a worker received and sent is what was given to its lane and taken of it.
use Rattle.std.proofs.Common.{◌≡◌, ◌≤◌, List, [], ◌++◌, length, length-append, sym, ap, ◌∙◌, arith}
use Rattle.std.proofs.lemmas.List.{append-nil, nil_from_length}
use Rattle.bounded_executor.specs.Runs.{Runs}
use Rattle.bounded_executor.proofs.RunsLemmas.{Runs-length}

module _ {W J D : Type 0} (carries : W → J → D → W → Type 0) where
  -- where as many outcomes were taken as jobs were given, no job is left in the queue or the ring, and no outcome in its ring
  pub all_carried : (w : W) (sent waiting received known : List J) (taken outcomes left : List D) (x : W)
      → length (sent ++ waiting) ≡ length taken → length taken ≤ length sent → received ++ known ≡ sent → taken ++ left ≡ outcomes
      → Runs carries w received outcomes x → Runs carries w (sent ++ waiting) taken x
  all_carried w sent waiting received known taken outcomes left x even behind jobs dones ran =
      let as_many = Runs-length carries w received outcomes x ran in
      let given = length-append sent waiting in
      let popped = sym (length-append received known) ∙ ap length jobs in
      let pushed = sym (length-append taken left) ∙ ap length dones in
      let none_waits : waiting ≡ [] = nil_from_length waiting (omega arith) in
      let none_known : known ≡ [] = nil_from_length known (omega arith) in
      let none_left : left ≡ [] = nil_from_length left (omega arith) in
      let same_jobs : received ≡ sent ++ waiting = sym (append-nil received) ∙ (ap (λ k. received ++ k) (sym none_known) ∙ (jobs ∙ (sym (append-nil sent) ∙ ap (λ k. sent ++ k) (sym none_waits)))) in
      let same_dones : outcomes ≡ taken = sym dones ∙ (ap (λ k. taken ++ k) none_left ∙ append-nil taken) in
      rw (← same_jobs, ← same_dones) ran
