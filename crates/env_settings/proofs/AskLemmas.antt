-- Which paths are asked for, call by call.
use Rattle.std.proofs.Common.{◌≡◌, ◌≤◌, ◌∙◌, ◌++◌, ℕ, List, Option, Some, None, Result, Ok, Err, IfSome, take, refl, ap, sym, subst, inl, inr, arith}
use Rattle.std.specs.Option.{option_map}
use Rattle.std.proofs.lemmas.List.{append_assoc}
use Rattle.s3_outside.specs.Env.{SeenEnv}
use Rattle.s3_outside.specs.Seen.{IsSeenAfter}
use Rattle.s3_outside.proofs.SeenLemmas.{seen_then}
use Rattle.env_settings.specs.Calls.{AsksFirst, asks_first, least_asked}
use Rattle.env_settings.specs.Places.{listed}
use Rattle.env_settings.specs.declared.fault.SettingsFault.{SettingsFault}
use Rattle.env_settings.specs.declared.fault.SettingsFault.TheVariants as fault

abbrev asks_also : List (List ℕ) → SeenEnv → SeenEnv
asks_also paths env = record env { asked = env.asked ++ paths }

-- what is done the same way to what is seen
map_same : (f g : SeenEnv → SeenEnv) (seen : Option SeenEnv) → IfSome seen (λ env. f env ≡ g env) → option_map f seen ≡ option_map g seen
map_same f g None same = refl
map_same f g (Some env) same = ap Some same

seen_as : (f g : SeenEnv → SeenEnv) (old new : Option SeenEnv) (first before after : ℕ) → first ≤ before → IfSome old (λ env. f env ≡ g env) → IsSeenAfter f old new before after → IsSeenAfter g old new first after
seen_as f g old new first before after earlier same seen =
    elim seen [ inl next ↦ inl (next ∙ map_same f g old same) | inr stopped ↦ inr (stopped.0, omega (arith, earlier, stopped.1)) ]

same_first : (count : ℕ) (ps qs : SeenEnv → List (List ℕ)) (seen : Option SeenEnv) → IfSome seen (λ env. ps env ≡ qs env) → IfSome seen (λ env. asks_first count ps env ≡ asks_first count qs env)
same_first count ps qs None h = tt
same_first count ps qs (Some env) h = ap (λ (paths : List (List ℕ)). record env { asked = env.asked ++ take count paths }) h

-- the same paths, and an answer that wants no more of them
asks_as : {S T : Type 0} (ps qs : SeenEnv → List (List ℕ)) (inner : Result S SettingsFault) (outer : Result T SettingsFault) (old new : Option SeenEnv) (first before after : ℕ)
    → first ≤ before → least_asked outer ≤ least_asked inner → IfSome old (λ env. ps env ≡ qs env) → AsksFirst ps inner old new before after → AsksFirst qs outer old new first after
asks_as ps qs inner outer old new first before after earlier fewer same asks = record {
  count = asks.count;
  least = omega (arith, fewer, asks.least);
  asked = seen_as (asks_first asks.count ps) (asks_first asks.count qs) old new first before after earlier (same_first asks.count ps qs old same) asks.asked;
}

-- from where the paths were found
pub asks_found : {T : Type 0} (ps qs : SeenEnv → List (List ℕ)) (result : Result T SettingsFault) (start old new : Option SeenEnv) (first before after : ℕ)
    → first ≤ before → old ≡ start → IfSome start (λ env. ps env ≡ qs env) → AsksFirst ps result old new before after → AsksFirst qs result start new first after
asks_found ps qs result start old new first before after earlier same found asks =
    subst (λ (o : Option SeenEnv). AsksFirst qs result o new first after) same
    (asks_as ps qs result result old new first before after earlier (omega arith) (subst (λ (o : Option SeenEnv). IfSome o (λ env. ps env ≡ qs env)) (sym same) found) asks)

two : (p q : Option (List ℕ)) → take 2 (listed p ++ listed q) ≡ listed p ++ listed q
two None None = refl
two None (Some b) = refl
two (Some a) None = refl
two (Some a) (Some b) = refl

both : (p q : Option (List ℕ)) (env : SeenEnv) → asks_also (listed q) (asks_also (listed p) env) ≡ asks_first 2 (λ _. listed p ++ listed q) env
both p q env = ap (λ (asked : List (List ℕ)). record env { asked = asked }) (append_assoc env.asked (listed p) (listed q) ∙ ap (λ (paths : List (List ℕ)). env.asked ++ paths) (sym (two p q)))

all_both : (p q : Option (List ℕ)) (seen : Option SeenEnv) → IfSome seen (λ env. asks_also (listed q) (asks_also (listed p) env) ≡ asks_first 2 (λ _. listed p ++ listed q) env)
all_both p q None = tt
all_both p q (Some env) = both p q env

at_most_two : {T : Type 0} (result : Result T SettingsFault) → least_asked result ≤ 2
at_most_two (Ok answer) = omega arith
at_most_two (Err (fault.Profile why)) = omega arith
at_most_two (Err fault.EnvRead) = omega arith
at_most_two (Err fault.Memory) = omega arith

-- both were asked for
pub asks_both : {T : Type 0} (p q : Option (List ℕ)) (result : Result T SettingsFault) (old middle new : Option SeenEnv) (first before after : ℕ) → first ≤ before → before ≤ after
    → IsSeenAfter (asks_also (listed p)) old middle first before → IsSeenAfter (asks_also (listed q)) middle new before after → AsksFirst (λ _. listed p ++ listed q) result old new first after
asks_both p q result old middle new first before after early late one other = record {
  count = 2;
  least = at_most_two result;
  asked = seen_as _ _ old new first first after (omega arith) (all_both p q old) (seen_then (asks_also (listed p)) (asks_also (listed q)) old middle new first before after early late one other);
}
