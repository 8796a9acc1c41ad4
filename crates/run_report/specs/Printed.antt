-- What an output gained.
use Rattle.std.specs.Prelude.{◌≡◌, ◌≢◌, ◌⊎◌, ◌++◌, ℕ, List, Option}
use Rattle.std.specs.Option.{option_map}
use Rattle.s3_model.specs.Counts.{Rose}
use Rattle.result_lines.specs.Faults.{memory_line}

-- this text behind what it had, where it is seen
abbrev pub Prints : Option (List ℕ) → Option (List ℕ) → List ℕ → Type 0
Prints old new text = new ≡ option_map (λ got. got ++ text) old

-- a beginning of the text
abbrev pub PrintsFront : Option (List ℕ) → Option (List ℕ) → List ℕ → Type 0
PrintsFront old new text = (front : List ℕ) × (rest : List ℕ) × (front ++ rest ≡ text) × Prints old new front

-- an output over a call: what it had, where that is seen, and its count of faults
pub record Output : Type 0 where
  pub before : Option (List ℕ)
  pub after : Option (List ℕ)
  pub faults_before : ℕ
  pub faults_after : ℕ

abbrev pub output_of : (before after : Option (List ℕ)) → (faults_before faults_after : ℕ) → Output
output_of before after faults_before faults_after = record {
  before = before;
  after = after;
  faults_before = faults_before;
  faults_after = faults_after;
}

abbrev pub Fails : Output → Type 0
Fails output = Rose output.faults_before output.faults_after

abbrev pub Says : Output → List ℕ → Type 0
Says output text = Prints output.before output.after text

-- so far: all of the text, or a front of it once the output failed
abbrev pub SaysSoFar : Output → List ℕ → Type 0
SaysSoFar output text = Says output text ⊎ (Fails output × PrintsFront output.before output.after text)

-- a front of the text, and behind it that memory ran out
abbrev pub SaysMemory : Output → List ℕ → Type 0
SaysMemory output text =
    (front : List ℕ) × (rest : List ℕ) × (front ++ rest ≡ text) × SaysSoFar output (front ++ memory_line)

-- Each output has all of its text, or a front once it failed, for which the status is 74. Where memory ran out, status
-- 70, each has a front, and standard error the line that says so, unless that output failed.
pub record IsPrintedAs (status : ℕ) (out err : List ℕ) (to_out to_err : Output) : Type 0 where
  pub whole : status ≢ 70 → status ≢ 74 → Says to_out out × Says to_err err
  pub so_far : status ≢ 70 → SaysSoFar to_out out × SaysSoFar to_err err
  pub memory : status ≡ 70 → PrintsFront to_out.before to_out.after out × SaysMemory to_err err
