use Rattle.std.specs.List.{insert}
use Rattle.std.proofs.Common.{ℕ, List, Result, ◌≡◌, ap, subst, ◌∙◌, sym}
use Rattle.std.proofs.lemmas.List.Sorted.{searched}
use Rattle.std.specs.List.Sorted.{IsBinarySearchResult}
use Rattle.std.specs.Ordering.{nat_cmp}
use Rattle.bit_sets.specs.Blocks.{IsBlock, IsStored, IsRising, insert_rising, bits_of}
use Rattle.bit_sets.specs.Stores.{words_of, events_of}
use Rattle.bit_sets.proofs.RisingFacts.{rising_at, searched_place, searched_there, Searched}
use Rattle.bit_sets.proofs.BitFacts.{block_of, block_of_stored, stored_more, event_added}
use Rattle.bit_sets.proofs.block.Block.add_event.Goals as goal

-- what a search in the events finds
found : (xs ys : List ℕ) (n : ℕ) (r : Result ℕ ℕ) → xs ≡ ys → IsRising ys → IsBinarySearchResult (λ y. nat_cmp y n) xs r → Searched ys n r
found xs ys n r same rising h = searched ys n r (subst (λ (l : List ℕ). IsBinarySearchResult (λ y. nat_cmp y n) l r) same h) (rising_at ys rising)

pub invariant_of-self : goal.invariant_of-self
invariant_of-self c =
    let place : insert_rising (events_of c.self.inside.sets) c.args.number ≡ insert (events_of c.self.inside.sets) c.in-Err.place c.args.number =
    searched_place (events_of c.self.inside.sets) c.args.number c.in-Err.place c.binary_search-found.result c.in-Err.is
    (found c.events.result.now (events_of c.self.inside.sets) c.args.number c.binary_search-found.result c.events.ensures c.self.invariant.rising c.binary_search-found.ensures.position) in
    stored_more (words_of c.self.inside.sets) (events_of c.self.inside.sets) (words_of c.insert_event.new.self) (events_of c.insert_event.new.self) c.args.number c.in-Err.place c.insert_event.ensures.words c.in_ok-insert_event.ensures.ok place c.self.invariant

pub returns-in_err-insert_event-clause-block : goal.returns-in_err-insert_event-clause-block
returns-in_err-insert_event-clause-block c =
    let same : IsStored (words_of c.insert_event.new.self) (events_of c.insert_event.new.self) = subst (λ (l : List ℕ). IsStored l (events_of c.insert_event.new.self)) (sym c.insert_event.ensures.words) (subst (IsStored (words_of c.self.inside.sets)) (sym c.in_err-insert_event.ensures.err) c.self.invariant) in
    block_of_stored (words_of c.insert_event.new.self) (events_of c.insert_event.new.self) same

pub returns-in_ok-insert_event-clause-ok : goal.returns-in_ok-insert_event-clause-ok
returns-in_ok-insert_event-clause-ok c =
    let place : insert_rising (events_of c.self.inside.sets) c.args.number ≡ insert (events_of c.self.inside.sets) c.in-Err.place c.args.number =
    searched_place (events_of c.self.inside.sets) c.args.number c.in-Err.place c.binary_search-found.result c.in-Err.is
    (found c.events.result.now (events_of c.self.inside.sets) c.args.number c.binary_search-found.result c.events.ensures c.self.invariant.rising c.binary_search-found.ensures.position) in
    ap (λ l. block_of (bits_of l) (events_of c.insert_event.new.self)) c.insert_event.ensures.words
    ∙ event_added (bits_of (words_of c.self.inside.sets)) (events_of c.self.inside.sets) (events_of c.insert_event.new.self) c.args.number c.args.self.now c.self.view_is (c.in_ok-insert_event.ensures.ok ∙ sym place)

pub returns-in_ok-insert_event-clause-block : goal.returns-in_ok-insert_event-clause-block
returns-in_ok-insert_event-clause-block c = block_of_stored (words_of c.insert_event.new.self) (events_of c.insert_event.new.self) (invariant_of-self c)

pub returns-in_default-clause-ok : goal.returns-in_default-clause-ok
returns-in_default-clause-ok c =
    let there : insert_rising (events_of c.self.inside.sets) c.args.number ≡ events_of c.self.inside.sets =
    searched_there (events_of c.self.inside.sets) c.args.number c.binary_search-found.result c.in_default.not-Err c.self.invariant.rising
    (found c.events.result.now (events_of c.self.inside.sets) c.args.number c.binary_search-found.result c.events.ensures c.self.invariant.rising c.binary_search-found.ensures.position) in
    sym c.self.view_is ∙ event_added (bits_of (words_of c.self.inside.sets)) (events_of c.self.inside.sets) (events_of c.self.inside.sets) c.args.number c.args.self.now c.self.view_is (sym there)

pub returns-in_default-clause-block : goal.returns-in_default-clause-block
returns-in_default-clause-block c = subst IsBlock c.self.view_is (block_of_stored (words_of c.self.inside.sets) (events_of c.self.inside.sets) c.self.invariant)
