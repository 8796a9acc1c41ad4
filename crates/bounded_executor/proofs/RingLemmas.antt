-- Ends of one ring stay its ends.
use Rattle.std.proofs.Common.{sym, ◌∙◌}
use Rattle.rtrb.specs.Ring.{IsPair, SameConsumer, SameProducer}
use Rattle.rtrb.specs.declared.producer.Producer.{Producer}
use Rattle.rtrb.specs.declared.consumer.Consumer.{Consumer}

module _ {T A P : Type 0} where
  pub pair_of_later_consumer : (p : Producer T A P) (c d : Consumer T A P) → IsPair p c → SameConsumer c d → IsPair p d
  pair_of_later_consumer p c d pair same =
      (same.0.0 ∙ pair.0, same.0.1 ∙ pair.1, same.0.2 ∙ pair.2, same.0.3 ∙ pair.3)

  pub pair_of_later_producer : (p q : Producer T A P) (c : Consumer T A P) → IsPair p c → SameProducer p q → IsPair q c
  pair_of_later_producer p q c pair same =
      (pair.0 ∙ sym same.0.0, pair.1 ∙ sym same.0.1, pair.2 ∙ sym same.0.2, pair.3 ∙ sym same.0.3)

  pub pair_of_later_ends : (p q : Producer T A P) (c d : Consumer T A P) → IsPair p c → SameProducer p q → SameConsumer c d → IsPair q d
  pair_of_later_ends p q c d pair kept same = pair_of_later_consumer q c d (pair_of_later_producer p q c pair kept) same

  pub same_consumers : (a b c : Consumer T A P) → SameConsumer a b → SameConsumer b c → SameConsumer a c
  same_consumers a b c s t = ((t.0.0 ∙ s.0.0, t.0.1 ∙ s.0.1, t.0.2 ∙ s.0.2, t.0.3 ∙ s.0.3), t.1 ∙ s.1)

  pub same_producers : (a b c : Producer T A P) → SameProducer a b → SameProducer b c → SameProducer a c
  same_producers a b c s t = ((t.0.0 ∙ s.0.0, t.0.1 ∙ s.0.1, t.0.2 ∙ s.0.2, t.0.3 ∙ s.0.3), t.1 ∙ s.1)
