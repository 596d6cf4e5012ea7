use Rattle.std.proofs.Common.{ℕ, List, Bool, ◌≡◌, subst, IsTrue, Contains, ◌↔◌, rules, is_ok, sym}
use Rattle.std.proofs.lemmas.List.Sorted.{searched}
use Rattle.std.specs.List.Sorted.{IsBinarySearchResult}
use Rattle.std.specs.Ordering.{nat_cmp}
use Rattle.bit_sets.specs.Blocks.{BlockValue, IsBlock}
use Rattle.bit_sets.specs.Stores.{words_of, events_of}
use Rattle.bit_sets.proofs.RisingFacts.{rising_at, searched_contains, Searched}
use Rattle.bit_sets.proofs.BitFacts.{block_of_stored}
use Rattle.bit_sets.proofs.block.Block.has_event.Goals as goal

pub returns-clause-has : goal.returns-clause-has
returns-clause-has c =
    let found : Searched (events_of c.self.inside.sets) c.args.number c.binary_search.result =
    searched (events_of c.self.inside.sets) c.args.number c.binary_search.result (subst (λ (l : List ℕ). IsBinarySearchResult (λ y. nat_cmp y c.args.number) l c.binary_search.result) c.events.ensures c.binary_search.ensures.position) (rising_at (events_of c.self.inside.sets) c.self.invariant.rising) in
    let answer : c.is_ok.result ≡ is_ok c.binary_search.result = search rules in
    subst (λ (b : BlockValue). IsTrue c.is_ok.result ↔ Contains b.events c.args.number) c.self.view_is
    (subst (λ (r : Bool). IsTrue r ↔ Contains (events_of c.self.inside.sets) c.args.number) (sym answer) (searched_contains (events_of c.self.inside.sets) c.args.number c.binary_search.result found))

pub returns-clause-block : goal.returns-clause-block
returns-clause-block c = subst IsBlock c.self.view_is (block_of_stored (words_of c.self.inside.sets) (events_of c.self.inside.sets) c.self.invariant)
