use Rattle.gate_tables.proofs.named.NamedFacts.take.Goals as goal

pub returns-clause-others : goal.returns-clause-others
returns-clause-others c = λ n. c.swap_remove.ensures.updates.0 (record { ref_ptr = (0, 0); now = n })
