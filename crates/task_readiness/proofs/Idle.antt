-- Whether no act is out, by the acts that a task has once and by its pieces.
use Rattle.std.proofs.Common.{◌≡◌, ◌∙◌, ◌+◌, ◌==◌, ◌&&◌, ◌||◌, ◌++◌, ℕ, Bool, true, false, not, List, [], ◌∷◌, length, refl, sym, ap, arith, inl, inr, if◌then◌else◌}
use Rattle.std.specs.List.{list_all}
use Rattle.std.proofs.lemmas.Bool.{cases_lt}
use Rattle.std.proofs.lemmas.List.Folds.{list_all-append, list_all-map}
use Rattle.piece_stages.specs.declared.piece.PieceStages.{PieceStages}
use Rattle.piece_stages.specs.Pieces.{is_busy, no_piece}
use Rattle.s3_model.specs.declared.requests.Op.TheVariants as op
use Rattle.s3_model.specs.declared.tasks.Kind.{Kind}
use Rattle.s3_model.specs.declared.tasks.Kind.TheVariants as kind
use Rattle.task_acts.specs.declared.acts.Act.{Act}
use Rattle.task_acts.specs.declared.acts.Act.TheVariants as act
use Rattle.task_acts.specs.declared.acts.Stage.{Stage}
use Rattle.task_acts.specs.declared.acts.Stage.TheVariants as at_stage
use Rattle.task_acts.specs.Rule.{file_acts, is_idle, reads, piece_sends, single_sends}
use Rattle.task_acts.specs.Stages.{is_out}
use Rattle.task_acts.specs.declared.work.Work.{Work}
use Rattle.task_acts.specs.Work.{first_number, numbers, piece_op}
use Rattle.task_stages.specs.declared.singles.Singles.{Singles}
use Rattle.task_stages.specs.Stages.{SeenStages, is_idle_single, piece_at, piece_count, stage_by}
use Rattle.task_stages.proofs.PieceLemmas.{before_first, past}
use Rattle.task_readiness.proofs.Finding.{alls, and_true, each_is}
use Rattle.task_readiness.proofs.PieceActs.{at_index, stages_of, work_of}

-- ---- tables

five : (a b c d e p : Bool) → (a && (b && (c && (d && (e && p))))) ≡ ((a && (b && (c && (d && e)))) && p)
five false b c d e p = refl
five true false c d e p = refl
five true true false d e p = refl
five true true true false e p = refl
five true true true true e p = refl

four : (a b c d : Bool) → (a && (b && (c && (d && true)))) ≡ (a && (b && (c && d)))
four false b c d = refl
four true false c d = refl
four true true false d = refl
four true true true true = refl
four true true true false = refl

nine : (a b c d e f g h i : Bool) → not (a || b || c || d || e || f || g || h || i)
    ≡ ((not a && (not b && (not c && (not d && not e)))) && (not f && (not g && (not h && not i))))
nine true b c d e f g h i = refl
nine false true c d e f g h i = refl
nine false false true d e f g h i = refl
nine false false false true e f g h i = refl
nine false false false false true f g h i = refl
nine false false false false false true g h i = refl
nine false false false false false false true h i = refl
nine false false false false false false false true i = refl
nine false false false false false false false false i = refl

-- files, what is written, single jobs, jobs of pieces, what is read
sorted : (f w s j r : Bool) → ((((f && w) && s) && j) && r) ≡ ((f && s) && ((r && j) && w))
sorted false w s j r = refl
sorted true false false j r = refl
sorted true false true true true = refl
sorted true false true true false = refl
sorted true false true false true = refl
sorted true false true false false = refl
sorted true true false j r = refl
sorted true true true true true = refl
sorted true true true true false = refl
sorted true true true false true = refl
sorted true true true false false = refl

busy : (r s w x y z : Bool) → ((not r && x) && (not s && y)) && (not w && z) ≡ (not (r || s || w) && ((x && y) && z))
busy true s w x y z = refl
busy false true w false y z = refl
busy false true w true y z = refl
busy false false true true true z = refl
busy false false true true false z = refl
busy false false true false y z = refl
busy false false false x y z = refl

pub three : (ps : List PieceStages) → (list_all (λ p. not (is_out p.read)) ps && list_all (λ p. not (is_out p.send)) ps && list_all (λ p. not (is_out p.place)) ps) ≡ list_all (λ p. not (is_busy p)) ps
three [] = refl
three (p ∷ ps) =
    busy (is_out p.read) (is_out p.send) (is_out p.place) (list_all (λ x. not (is_out x.read)) ps) (list_all (λ x. not (is_out x.send)) ps) (list_all (λ x. not (is_out x.place)) ps)
    ∙ ap (λ (b : Bool). not (is_busy p) && b) (three ps)

-- ---- no piece

empty : (ps : List PieceStages) → length ps ≡ 0 → ps ≡ []
empty [] e = refl
empty (p ∷ ps) e = absurd (omega arith)

none_there : (s : SeenStages) → length s.pieces ≡ 0 → (n : ℕ) → piece_at s n ≡ no_piece
none_there s long n = elim (cases_lt n (first_number s.work)) [
  | inl below ↦ before_first s n below
  | inr from ↦ past s n from (omega arith)
]

no_more : (f a b c x : Bool) → ((f && (a && (b && (c && false)))) && x) ≡ (f && (a && (b && (c && false))))
no_more false a b c x = refl
no_more true false b c x = refl
no_more true true false c x = refl
no_more true true true false x = refl
no_more true true true true x = refl

one_of : (n : ℕ) (b : Bool) (out : Stage) → is_out out ≡ false → not (is_out (if b then out else at_stage.Waiting)) ≡ true
one_of n true out e = ap not e
one_of n false out e = refl

twice : (f a b c : Bool) (out : Stage) (d : Bool) (is : ℕ → Bool) (ns : List ℕ) → is_out out ≡ d → ((n : ℕ) → is n ≡ not (is_out (if n == 0 then out else at_stage.Waiting)))
    → ((f && (a && (b && (c && not (is_out out))))) && list_all is ns) ≡ (f && (a && (b && (c && not (is_out out)))))
twice f a b c out true is ns e told =
    ap (λ (x : Bool). (f && (a && (b && (c && not x)))) && list_all is ns) e ∙ no_more f a b c (list_all is ns) ∙ sym (ap (λ (x : Bool). f && (a && (b && (c && not x)))) e)
twice f a b c out false is ns e told =
    ap (λ (x : Bool). (f && (a && (b && (c && not (is_out out))))) && x) (each_is is ns (λ n. told n ∙ one_of n (n == 0) out e))
    ∙ and_true (f && (a && (b && (c && not (is_out out)))))

-- ---- by kind

module _ (moves : Bool) (size piece count attempts : ℕ) (singles : Singles) (pieces : List PieceStages) where
  abbrev w_of : Kind → (small : Bool) → Work
  w_of = work_of moves size piece count attempts singles pieces

  abbrev s_of : Kind → (small : Bool) → SeenStages
  s_of = stages_of moves size piece count attempts singles pieces

  abbrev is_in : Kind → (small : Bool) → Act → Bool
  is_in k small a = not (is_out (stage_by (s_of k small) a))

  abbrev calls : Bool
  calls = not (is_out singles.assemble) && (not (is_out singles.rename) && (not (is_out singles.drop_temp) && (not (is_out singles.remove) && not (is_out singles.stamp))))

  abbrev sends : Bool
  sends = not (is_out singles.create) && (not (is_out singles.complete) && (not (is_out singles.abort) && not (is_out singles.delete)))

  -- the parts of the list of all acts
  listed : (k : Kind) (small stopped : Bool) → is_idle (w_of k small) (stage_by (s_of k small)) stopped
      ≡ (((calls && list_all (λ n. is_in k small (act.Place n)) (numbers (w_of k small))) && sends)
      && list_all (λ n. is_in k small (act.Send (piece_op k small) n)) (numbers (w_of k small)) && list_all (λ n. is_in k small (act.Read n)) (numbers (w_of k small)))
  listed k small stopped =
      let h = is_in k small in
      let ns = numbers (w_of k small) in
      let P = list_all (λ n. h (act.Place n)) ns in
      let J = list_all (λ n. h (act.Send (piece_op k small) n)) ns in
      let R = list_all (λ n. h (act.Read n)) ns in
      list_all-append h (file_acts (w_of k small) ++ single_sends ++ piece_sends (w_of k small)) (reads (w_of k small))
      ∙ ap (λ (b : Bool). b && list_all h (reads (w_of k small))) (list_all-append h (file_acts (w_of k small) ++ single_sends) (piece_sends (w_of k small)))
      ∙ ap (λ (b : Bool). b && list_all h (piece_sends (w_of k small)) && list_all h (reads (w_of k small))) (list_all-append h (file_acts (w_of k small)) single_sends)
      ∙ ap (λ (b : Bool). list_all h (file_acts (w_of k small)) && list_all h single_sends && b && list_all h (reads (w_of k small))) (list_all-map h (act.Send (piece_op k small)) ns)
      ∙ ap (λ (b : Bool). list_all h (file_acts (w_of k small)) && list_all h single_sends && J && b) (list_all-map h act.Read ns)
      ∙ ap (λ (b : Bool). (h act.Assemble && (h act.Rename && (h act.DropTemp && (h act.Remove && (h act.Stamp && b))))) && list_all h single_sends && J && R) (list_all-map h act.Place ns)
      ∙ ap (λ (b : Bool). b && list_all h single_sends && J && R) (five (h act.Assemble) (h act.Rename) (h act.DropTemp) (h act.Remove) (h act.Stamp) P)
      ∙ ap (λ (b : Bool). calls && P && b && J && R) (four (h (act.Send op.Create 0)) (h (act.Send op.Complete 0)) (h (act.Send op.Abort 0)) (h (act.Send op.Delete 0)))

  single : is_idle_single singles ≡ (calls && sends)
  single = nine (is_out singles.assemble) (is_out singles.rename) (is_out singles.drop_temp) (is_out singles.remove) (is_out singles.stamp)
      (is_out singles.create) (is_out singles.complete) (is_out singles.abort) (is_out singles.delete)

  abbrev Idle : Kind → (small stopped : Bool) → Type 0
  Idle k small stopped = is_idle (w_of k small) (stage_by (s_of k small)) stopped ≡ (is_idle_single singles && list_all (λ p. not (is_busy p)) pieces)

  -- a kind that has pieces
  with_pieces : (k : Kind) (small stopped : Bool) → length pieces ≡ count → ((n : ℕ) → stage_by (s_of k small) (act.Send (piece_op k small) n) ≡ (piece_at (s_of k small) n).send) → Idle k small stopped
  with_pieces k small stopped long sent =
      let h = is_in k small in
      let first = first_number (w_of k small) in
      listed k small stopped
      ∙ ap (λ (b : Bool). ((calls && b) && sends) && list_all (λ n. h (act.Send (piece_op k small) n)) (numbers (w_of k small)) && list_all (λ n. h (act.Read n)) (numbers (w_of k small)))
      (alls h act.Place (λ p. not (is_out p.place)) no_piece pieces first count long (λ n below. ap (λ (p : PieceStages). not (is_out p.place)) (at_index (s_of k small) n)))
      ∙ ap (λ (b : Bool). ((calls && list_all (λ p. not (is_out p.place)) pieces) && sends) && b && list_all (λ n. h (act.Read n)) (numbers (w_of k small)))
      (alls h (act.Send (piece_op k small)) (λ p. not (is_out p.send)) no_piece pieces first count long
      (λ n below. ap (λ (t : Stage). not (is_out t)) (sent (first + n)) ∙ ap (λ (p : PieceStages). not (is_out p.send)) (at_index (s_of k small) n)))
      ∙ ap (λ (b : Bool). ((calls && list_all (λ p. not (is_out p.place)) pieces) && sends) && list_all (λ p. not (is_out p.send)) pieces && b)
      (alls h act.Read (λ p. not (is_out p.read)) no_piece pieces first count long (λ n below. ap (λ (p : PieceStages). not (is_out p.read)) (at_index (s_of k small) n)))
      ∙ sorted calls (list_all (λ p. not (is_out p.place)) pieces) sends (list_all (λ p. not (is_out p.send)) pieces) (list_all (λ p. not (is_out p.read)) pieces)
      ∙ ap (λ (b : Bool). (calls && sends) && b) (three pieces)
      ∙ ap (λ (b : Bool). b && list_all (λ p. not (is_busy p)) pieces) (sym single)

  -- a removal has no pieces, and its one job stands twice in the list
  removal : (k : Kind) (small stopped : Bool) → length pieces ≡ 0
      → ((n : ℕ) → stage_by (s_of k small) (act.Send (piece_op k small) n) ≡ (if n == 0 then singles.delete else at_stage.Waiting)) → Idle k small stopped
  removal k small stopped long sent =
      let h = is_in k small in
      let ns = numbers (w_of k small) in
      let J = list_all (λ n. h (act.Send (piece_op k small) n)) ns in
      listed k small stopped
      ∙ ap (λ (b : Bool). ((calls && b) && sends) && J && list_all (λ n. h (act.Read n)) ns)
      (each_is (λ n. h (act.Place n)) ns (λ n. ap (λ (p : PieceStages). not (is_out p.place)) (none_there (s_of k small) long n)))
      ∙ ap (λ (b : Bool). ((calls && true) && sends) && J && b)
      (each_is (λ n. h (act.Read n)) ns (λ n. ap (λ (p : PieceStages). not (is_out p.read)) (none_there (s_of k small) long n)))
      ∙ and_true (((calls && true) && sends) && J)
      ∙ ap (λ (b : Bool). (b && sends) && J) (and_true calls)
      ∙ twice calls (not (is_out singles.create)) (not (is_out singles.complete)) (not (is_out singles.abort)) singles.delete (is_out singles.delete)
      (λ n. h (act.Send (piece_op k small) n)) ns refl (λ n. ap (λ (t : Stage). not (is_out t)) (sent n))
      ∙ sym single
      ∙ sym (and_true (is_idle_single singles))
      ∙ ap (λ (ps : List PieceStages). is_idle_single singles && list_all (λ p. not (is_busy p)) ps) (sym (empty pieces long))

  pub idle : (k : Kind) (small stopped : Bool) → length pieces ≡ piece_count (w_of k small) → Idle k small stopped
  idle kind.Upload true stopped long = with_pieces kind.Upload true stopped long (λ n. refl)
  idle kind.Upload false stopped long = with_pieces kind.Upload false stopped long (λ n. refl)
  idle kind.Download small stopped long = with_pieces kind.Download small stopped long (λ n. refl)
  idle kind.Copy true stopped long = with_pieces kind.Copy true stopped long (λ n. refl)
  idle kind.Copy false stopped long = with_pieces kind.Copy false stopped long (λ n. refl)
  idle kind.RemoveObject small stopped long = removal kind.RemoveObject small stopped long (λ n. refl)
  idle kind.RemoveFile small stopped long = removal kind.RemoveFile small stopped long (λ n. refl)
