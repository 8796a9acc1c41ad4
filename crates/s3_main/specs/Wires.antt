-- What the wires of a run gained.
use Rattle.std.specs.Prelude.{◌≡◌, ◌≤◌, ◌⊎◌, ℕ, suc, List, [], ◌∷◌, Option, Some, None, drop, length, map, take}
use Rattle.s3_model.specs.declared.settings.Settings.{Settings}
use Rattle.s3_model.specs.Talks.{Talk, Note, WireLog}
use Rattle.s3_outside.specs.Env.{SeenEnv}
use Rattle.s3_words.specs.declared.commands.Command.{Command}
use Rattle.job_terms.specs.Gains.{Gains}
use Rattle.run_promise.specs.Settled.{lanes_of}
use Rattle.run_start.specs.Begun.{IsBegun}

-- what each wire gained, from that lane on; behind the last lane nothing is gained
abbrev pub EachGains : (lane : ℕ) → (before after : List (Option WireLog)) → (logs : ℕ → List Talk)
    → (notes : ℕ → List Note) → Type 0
EachGains lane [] [] logs notes = (beyond : ℕ) → lane ≤ beyond → (logs beyond ≡ []) × (notes beyond ≡ [])
EachGains lane (was ∷ before) (now ∷ after) logs notes =
    Gains was now (λ talks of_notes. (talks ≡ logs lane) × (of_notes ≡ notes lane))
    × EachGains (suc lane) before after logs notes
EachGains lane before after logs notes = ⊥

-- nothing is said where one of them is no longer seen
abbrev pub IfAllSeen : List (Option WireLog) → Type 0 → Type 0
IfAllSeen [] P = P
IfAllSeen (None ∷ wires) P = Unit {0}
IfAllSeen (Some log ∷ wires) P = IfAllSeen wires P

-- P of the talks and notes that each wire gained, by its lane, where all wires are seen in the end
abbrev pub AllGain : (before after : List (Option WireLog)) → ((ℕ → List Talk) → (ℕ → List Note) → Type 0) → Type 0
AllGain before after P = IfAllSeen after
    ((logs : ℕ → List Talk) × (notes : ℕ → List Note) × EachGains 0 before after logs notes × P logs notes)

-- so for the wires that are used, which are the first; those behind them are as they were
abbrev pub OnUsed : {W : Type 0} → (seen : W → Option WireLog) → (used : ℕ) → (before after : List W)
    → ((ℕ → List Talk) → (ℕ → List Note) → Type 0) → Type 0
OnUsed seen used before after P =
    AllGain (map seen (take used before)) (map seen (take used after)) P × (drop used after ≡ drop used before)

-- no more than one, or, where the run began, no more than there are lanes
abbrev pub MayUse : (words : List (List ℕ)) → Option SeenEnv → (wires used : ℕ) → Type 0
MayUse words env wires used =
    (used ≤ 1) ⊎ ((command : Command) × (settings : Settings) × IsBegun words env command settings
    × (used ≤ lanes_of settings.config wires))

-- the wires of a run: no more are used than may be
abbrev pub OnWires : {W : Type 0} → (words : List (List ℕ)) → Option SeenEnv → (seen : W → Option WireLog)
    → (before after : List W) → ((ℕ → List Talk) → (ℕ → List Note) → Type 0) → Type 0
OnWires words env seen before after P =
    (used : ℕ) × MayUse words env (length before) used × OnUsed seen used before after P

-- no wire behind the first gained anything
abbrev pub OnlyFirstGains : (logs : ℕ → List Talk) → (notes : ℕ → List Note) → Type 0
OnlyFirstGains logs notes = (lane : ℕ) → 1 ≤ lane → (logs lane ≡ []) × (notes lane ≡ [])

-- the first of two lists
abbrev pub OnFirst : {W : Type 0} → List W → List W → (W → W → Type 0) → Type 0
OnFirst (before ∷ others) (after ∷ rest) P = P before after
OnFirst before after P = ⊥

-- each of two lists, one by one
abbrev pub OnEach : {W : Type 0} → List W → List W → (W → W → Type 0) → Type 0
OnEach [] [] P = Unit {0}
OnEach (before ∷ others) (after ∷ rest) P = P before after × OnEach others rest P
OnEach before after P = ⊥
