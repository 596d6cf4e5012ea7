-- Members of sets, and facts of several terms together.
pub use Rattle.term_facts.proofs.Members.{has-insert_each, span_of-append, facts_added}
