-- A page of a listing has one fault at most: the encoding that it names is one.
use Rattle.std.specs.Prelude.{◌≡◌, ◌↔◌, ℕ, Bool, true, false, List, codes}
use Rattle.std.proofs.Common.{refl, sym, subst}
use Rattle.reply_xml.specs.declared.faults.DocFault.{DocFault}
use Rattle.reply_xml.specs.Breaks.{Breaks}
use Rattle.reply_xml.specs.Unfit.{AKey, APrefix}
use Rattle.s3_replies.specs.Encodings.{BreaksPage, NamesUrl}
use Rattle.s3_replies.specs.Listing.{page_table}
use Rattle.fault_laws.proofs.RootFaults.{Breaks-same}

-- two answers to one question are the same
one_answer : (P : Type 0) (a b : Bool) → ((a ≡ true) ↔ P) → ((b ≡ true) ↔ P) → a ≡ b
one_answer P true true p q = refl
one_answer P true false p q = sym (q.1 (p.0 refl))
one_answer P false true p q = p.1 (q.0 refl)
one_answer P false false p q = refl

pub page_faults_same : (doc : List ℕ) (a b : DocFault) → BreaksPage doc a → BreaksPage doc b → b ≡ a
page_faults_same doc a b p q =
    let same = one_answer (NamesUrl doc) q.0 p.0 q.1 p.1 in
    Breaks-same (codes "ListBucketResult") (page_table (AKey p.0) (APrefix p.0)) doc a b p.2
    (subst (λ (u : Bool). Breaks (codes "ListBucketResult") (page_table (AKey u) (APrefix u)) doc b) same q.2)
