-- What the outputs gained of a run's text.
use Rattle.std.proofs.Common.{◌≡◌, ◌++◌, ℕ, List, [], ◌∷◌, refl, subst}
use Rattle.result_lines.specs.Faults.{memory_line}
use Rattle.run_report.specs.Printed.{IsPrintedAs, Output, Prints, PrintsFront, SaysMemory, SaysSoFar}

-- what nothing was printed of but that memory ran out has that printed whatever its text is
nothing_front : (front rest : List ℕ) → front ++ rest ≡ [] → front ≡ []
nothing_front [] rest is = refl
nothing_front (byte ∷ front) rest is = cc

pub only_memory : (status : ℕ) (out err : List ℕ) (to_out to_err : Output) → status ≡ 70 → IsPrintedAs status [] [] to_out to_err → IsPrintedAs status out err to_out to_err
only_memory status out err to_out to_err is h = record {
  whole = λ other. absurd (other is);
  so_far = λ other. absurd (other is);
  memory = λ again. (none_out (h.memory is).0, none_err (h.memory is).1);
}
  where
    none_out : PrintsFront to_out.before to_out.after [] → PrintsFront to_out.before to_out.after out
    none_out (front, rest, whole, has) = ([], out, refl, subst (λ (f : List ℕ). Prints to_out.before to_out.after f) (nothing_front front rest whole) has)

    none_err : SaysMemory to_err [] → SaysMemory to_err err
    none_err (front, rest, whole, says) = ([], err, refl, subst (λ (f : List ℕ). SaysSoFar to_err (f ++ memory_line)) (nothing_front front rest whole) says)
