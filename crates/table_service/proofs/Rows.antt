-- What each request comes to where it can succeed.
use Rattle.std.proofs.Common.{◌≡◌, ◌⊎◌, ℕ, Bool, List, Option, sym, subst}
use Rattle.s3_model.specs.Lists.{Reserved}
use Rattle.s3_model.specs.declared.answers.Reply.{Reply}
use Rattle.s3_model.specs.declared.answers.Reply.TheVariants as reply
use Rattle.s3_model.specs.declared.requests.Ask.{Ask}
use Rattle.s3_model.specs.declared.requests.Ask.TheVariants as ask
use Rattle.s3_model.specs.declared.settings.Limits.{Limits}
use Rattle.s3_service.specs.ServiceState.{State}
use Rattle.s3_service.specs.Serves.{CopiesPart, Finds, Gets, Joins, JoinsAgain, Succeeds}
use Rattle.service_answers.specs.declared.gained.Gained.{Gained}
use Rattle.table_service.specs.Served.{IsServed}

-- requests by other words for the same
pub served_as : (limits : Limits) (old : State) (asked again : Ask) (body : List ℕ) (got : Gained) (new : State) → asked ≡ again → IsServed limits old again body got new → IsServed limits old asked body got new
served_as limits old asked again body got new is served =
    subst (λ (a : Ask). IsServed limits old a body got new) (sym is) served

pub head_row : (limits : Limits) (old : State) (asked : Ask) (body : List ℕ) (answered : Reply) (bytes : List ℕ) (new : State) (bucket : List ℕ) (key : List ℕ) → asked ≡ ask.Head bucket key → Succeeds limits old asked body answered bytes new → (size : ℕ) × (etag : List ℕ) × (micros : ℕ) × Finds old bucket key size etag micros new
head_row limits old asked body answered bytes new bucket key is may = of answered (subst (λ (a : Ask). Succeeds limits old a body answered bytes new) is may)
  where
    of : (given : Reply) → Succeeds limits old (ask.Head bucket key) body given bytes new → (size : ℕ) × (etag : List ℕ) × (micros : ℕ) × Finds old bucket key size etag micros new
    of (reply.Found size etag micros) h = (size, etag, micros, h)
    of given h = absurd h

pub get_row : (limits : Limits) (old : State) (asked : Ask) (body : List ℕ) (answered : Reply) (bytes : List ℕ) (new : State) (bucket : List ℕ) (key : List ℕ) (etag : List ℕ) (range : Option (ℕ × ℕ)) → asked ≡ ask.Get bucket key etag range → Succeeds limits old asked body answered bytes new → (status : ℕ) × (given : Option (ℕ × ℕ × ℕ)) × (size : ℕ) × Gets old bucket key etag range status given size bytes new
get_row limits old asked body answered bytes new bucket key etag range is may = of answered (subst (λ (a : Ask). Succeeds limits old a body answered bytes new) is may)
  where
    of : (given : Reply) → Succeeds limits old (ask.Get bucket key etag range) body given bytes new → (status : ℕ) × (given : Option (ℕ × ℕ × ℕ)) × (size : ℕ) × Gets old bucket key etag range status given size bytes new
    of (reply.Got status given size) h = (status, given, size, h)
    of given h = absurd h

pub part_copy_row : (limits : Limits) (old : State) (asked : Ask) (body : List ℕ) (answered : Reply) (bytes : List ℕ) (new : State) (bucket : List ℕ) (key : List ℕ) (id : List ℕ) (number : ℕ) (from_bucket : List ℕ) (from_key : List ℕ) (under : List ℕ) (range : ℕ × ℕ) → asked ≡ ask.PartCopy bucket key id number from_bucket from_key under range → Succeeds limits old asked body answered bytes new → (etag : List ℕ) × CopiesPart old bucket key id number from_bucket from_key under range etag new
part_copy_row limits old asked body answered bytes new bucket key id number from_bucket from_key under range is may = of answered (subst (λ (a : Ask). Succeeds limits old a body answered bytes new) is may)
  where
    of : (given : Reply) → Succeeds limits old (ask.PartCopy bucket key id number from_bucket from_key under range) body given bytes new → (etag : List ℕ) × CopiesPart old bucket key id number from_bucket from_key under range etag new
    of (reply.PartStored etag) h = (etag, h)
    of given h = absurd h

pub complete_row : (limits : Limits) (old : State) (asked : Ask) (body : List ℕ) (answered : Reply) (bytes : List ℕ) (new : State) (bucket : List ℕ) (key : List ℕ) (id : List ℕ) (etags : Reserved (List ℕ)) (fresh : Bool) → asked ≡ ask.Complete bucket key id etags fresh → Succeeds limits old asked body answered bytes new → Joins limits old bucket key id etags.items fresh new ⊎ JoinsAgain old id etags.items new
complete_row limits old asked body answered bytes new bucket key id etags fresh is may = of answered (subst (λ (a : Ask). Succeeds limits old a body answered bytes new) is may)
  where
    of : (given : Reply) → Succeeds limits old (ask.Complete bucket key id etags fresh) body given bytes new → Joins limits old bucket key id etags.items fresh new ⊎ JoinsAgain old id etags.items new
    of (reply.Completed) h = h
    of given h = absurd h
