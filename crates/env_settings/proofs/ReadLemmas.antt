-- What was read of an environment that stays as it is makes its settings.
use Rattle.std.proofs.Common.{◌≡◌, ◌∙◌, ◌++◌, ℕ, Bool, List, codes, is_some, Option, Some, None, Result, Ok, Err, IfSome, IfOk, ap, sym, subst, refl}
use Rattle.std.specs.FinMap.{get}
use Rattle.std.specs.Option.{option_or}
use Rattle.s3_model.specs.Maps.{MapOf}
use Rattle.s3_model.specs.declared.settings.EnvWords.{EnvWords}
use Rattle.s3_model.specs.declared.settings.Settings.{Settings}
use Rattle.s3_outside.specs.Env.{SeenEnv}
use Rattle.s3_outside.specs.Seen.{IsSeenAfter}
use Rattle.s3_outside.proofs.SeenLemmas.{seen_before}
use Rattle.aws_profile.specs.Answers.{answer}
use Rattle.aws_profile.specs.Values.{usable}
use Rattle.env_settings.specs.Calls.{AnswersAs, AsksFirst, IsReadFault, asks_first}
use Rattle.env_settings.specs.Places.{bytes_at, config_path, credentials_path, listed, set_value, settings_paths}
use Rattle.env_settings.specs.Settings.{region_of, settings_of, words_of}
use Rattle.env_settings.specs.declared.fault.SettingsFault.{SettingsFault}
use Rattle.env_settings.specs.declared.fault.SettingsFault.TheVariants as fault

-- both paths are those of the variables
pub paths_found : (seen : Option SeenEnv) (config credentials : Option (List ℕ)) → IfSome seen (λ env. config ≡ config_path env.variables) → IfSome seen (λ env. credentials ≡ credentials_path env.variables)
    → IfSome seen (λ env. listed config ++ listed credentials ≡ settings_paths env.variables)
paths_found None config credentials a b = tt
paths_found (Some env) config credentials a b = rw (a, b) refl

-- files that only were asked for keep what they hold, and so do variables
stays : (step : SeenEnv → SeenEnv) → ((env : SeenEnv) → ((step env).variables ≡ env.variables) × ((step env).files ≡ env.files)) → (old : Option SeenEnv) (env : SeenEnv) (before after : ℕ)
    → IsSeenAfter step old (Some env) before after → (earlier : SeenEnv) × (old ≡ Some earlier) × (env.variables ≡ earlier.variables) × (env.files ≡ earlier.files)
stays step keeps old env before after seen =
    let found = seen_before step old env before after seen in
    (found.0, found.1, ap (λ (e : SeenEnv). e.variables) found.2 ∙ (keeps found.0).0, ap (λ (e : SeenEnv). e.files) found.2 ∙ (keeps found.0).1)

pub settled : (region profile : Option (List ℕ)) (ps : SeenEnv → List (List ℕ)) (config_at credentials_at : Option (List ℕ)) (words : EnvWords) (result : Result Settings SettingsFault) (old new : Option SeenEnv) (before after : ℕ)
    → IfSome old (λ env. config_at ≡ config_path env.variables) → IfSome old (λ env. credentials_at ≡ credentials_path env.variables) → IfSome old (λ env. words ≡ words_of env.variables region profile)
    → AsksFirst ps result old new before after → IfSome new (λ env. AnswersAs (answer words (bytes_at env.files config_at) (bytes_at env.files credentials_at)) result)
    → IfSome new (λ env. AnswersAs (settings_of env.variables env.files region profile) result)
settled region profile ps config_at credentials_at words result old None before after a b c asks answers = tt
settled region profile ps config_at credentials_at words result old (Some env) before after a b c asks answers =
    let kept = stays (asks_first asks.count ps) (λ earlier. (refl, refl)) old env before after asks.asked in
    let first : config_at ≡ config_path kept.0.variables = subst (λ (o : Option SeenEnv). IfSome o (λ seen. config_at ≡ config_path seen.variables)) kept.1 a in
    let second : credentials_at ≡ credentials_path kept.0.variables = subst (λ (o : Option SeenEnv). IfSome o (λ seen. credentials_at ≡ credentials_path seen.variables)) kept.1 b in
    let third : words ≡ words_of kept.0.variables region profile = subst (λ (o : Option SeenEnv). IfSome o (λ seen. words ≡ words_of seen.variables region profile)) kept.1 c in
    subst (λ (v : MapOf (List ℕ)). AnswersAs (settings_of v env.files region profile) result) (sym kept.2)
    (subst (λ (w : EnvWords). AnswersAs (answer w (bytes_at env.files (config_path kept.0.variables)) (bytes_at env.files (credentials_path kept.0.variables))) result) third
    (subst (λ (path : Option (List ℕ)). AnswersAs (answer words (bytes_at env.files (config_path kept.0.variables)) (bytes_at env.files path)) result) second
    (subst (λ (path : Option (List ℕ)). AnswersAs (answer words (bytes_at env.files path) (bytes_at env.files credentials_at)) result) first answers)))

-- of a failed read and of want of memory nothing is said
pub unsettled : (region profile : Option (List ℕ)) (why : SettingsFault) → IsReadFault why → (seen : Option SeenEnv) → IfSome seen (λ env. AnswersAs (settings_of env.variables env.files region profile) (Err why))
unsettled region profile why read None = tt
unsettled region profile (fault.Profile reason) read (Some env) = absurd read
unsettled region profile fault.EnvRead read (Some env) = tt
unsettled region profile fault.Memory read (Some env) = tt

-- what is said of what is seen holds where it is the same
pub still : (P : SeenEnv → Type 0) (old middle : Option SeenEnv) → middle ≡ old → IfSome middle P → IfSome old P
still P old middle same known = subst (λ (o : Option SeenEnv). IfSome o P) same known

either_at : {E : Type 0} (a b : List ℕ) (first : Option (List ℕ)) (r : Result (Option (List ℕ)) E) (env : SeenEnv) → first ≡ None → first ≡ usable (get env.variables a)
    → IfOk r (λ word. word ≡ usable (get env.variables b)) → IfOk r (λ word. word ≡ option_or (usable (get env.variables a)) (usable (get env.variables b)))
either_at a b first (Err e) env none p q = tt
either_at a b first (Ok word) env none p q = q ∙ ap (λ (o : Option (List ℕ)). option_or o (usable (get env.variables b))) (sym none ∙ p)

-- where the first variable cannot be used, the value is that of the second
pub second_read : {E : Type 0} (a b : List ℕ) (first : Option (List ℕ)) (r : Result (Option (List ℕ)) E) (old middle : Option SeenEnv) → first ≡ None → middle ≡ old
    → IfSome old (λ env. first ≡ usable (get env.variables a)) → IfSome middle (λ env. IfOk r (λ word. word ≡ usable (get env.variables b)))
    → IfSome old (λ env. IfOk r (λ word. word ≡ option_or (usable (get env.variables a)) (usable (get env.variables b))))
second_read a b first r None middle none same p q = tt
second_read a b first r (Some env) middle none same p q =
    either_at a b first r env none p (still (λ env. IfOk r (λ word. word ≡ usable (get env.variables b))) (Some env) middle same q)

words_at : (id secret token region profile : Option (List ℕ)) (named : Bool) (given_region given_profile : Option (List ℕ)) (seen : Option SeenEnv) → named ≡ is_some given_profile
    → IfSome seen (λ env. id ≡ get env.variables (codes "AWS_ACCESS_KEY_ID")) → IfSome seen (λ env. secret ≡ get env.variables (codes "AWS_SECRET_ACCESS_KEY"))
    → IfSome seen (λ env. token ≡ get env.variables (codes "AWS_SESSION_TOKEN")) → IfSome seen (λ env. region ≡ region_of env.variables given_region)
    → IfSome seen (λ env. profile ≡ option_or given_profile (set_value env.variables (codes "AWS_PROFILE")))
    → IfSome seen (λ env. record { id = id; secret = secret; token = token; region = region; profile = profile; named = named } ≡ words_of env.variables given_region given_profile)
words_at id secret token region profile named given_region given_profile None n a b c d e = tt
words_at id secret token region profile named given_region given_profile (Some env) n a b c d e = rw (n, a, b, c, d, e) refl

-- the keys, and then the choice
pub words_read : (id secret token region profile : Option (List ℕ)) (named : Bool) (given_region given_profile : Option (List ℕ)) (words : EnvWords) (first second : Option SeenEnv)
    → words ≡ record { id = id; secret = secret; token = token; region = region; profile = profile; named = named } → named ≡ is_some given_profile → second ≡ first
    → IfSome first (λ env. id ≡ get env.variables (codes "AWS_ACCESS_KEY_ID")) → IfSome first (λ env. secret ≡ get env.variables (codes "AWS_SECRET_ACCESS_KEY"))
    → IfSome first (λ env. token ≡ get env.variables (codes "AWS_SESSION_TOKEN")) → IfSome second (λ env. region ≡ region_of env.variables given_region)
    → IfSome second (λ env. profile ≡ option_or given_profile (set_value env.variables (codes "AWS_PROFILE")))
    → IfSome first (λ env. words ≡ words_of env.variables given_region given_profile)
words_read id secret token region profile named given_region given_profile words first second is n s a b c d e =
    subst (λ (w : EnvWords). IfSome first (λ env. w ≡ words_of env.variables given_region given_profile)) (sym is)
    (words_at id secret token region profile named given_region given_profile first n a b c (still (λ env. region ≡ region_of env.variables given_region) first second s d)
    (still (λ env. profile ≡ option_or given_profile (set_value env.variables (codes "AWS_PROFILE"))) first second s e))
